-- `glass::draw::picture_of` meets its contract.
use Rattle.std.proofs.Common.{ℤ, ◌≡◌, cond, Option, Some, None, Ok, Err, ap, sym, subst, ◌∙◌, rules, w32}
use mir.Val.{SFits}
use mir.ValLaws.{to_z-of_z}
use Rattle.std.specs.Option.{ok_or}
use Rattle.refusals.specs.declared.Refusal.TheVariants.{Glass}
use Rattle.glass.specs.Shapes.{nibbles}
use Rattle.glass.specs.Drawing.{drawn, fitting}
use Rattle.glass.specs.Walk.{FigureOf}
use Rattle.glass.specs.declared.Reading.{Reading}
use Rattle.glass.specs.declared.figure.Figure.{Figure}
use Rattle.glass.proofs.Rows.{drawn_as}
use Rattle.glass.proofs.draw.picture_of.Goals as goal

some : (o : Option Figure) (x : Figure) → ok_or o Glass ≡ Ok x → Some x ≡ o
some None x e = cc
some (Some y) x e = cc

pub returns : goal.returns
returns c =
    let x = c.in_ok-figure.figure in
    let fits : SFits w32 c.in-Number.value = search rules in
    let o = some c.of.result x (sym c.ok_or.ensures.value ∙ c.in_ok-figure.was) in
    let of = subst (λ (z : ℤ). FigureOf z c.in-Number.places (Some x)) (to_z-of_z w32 c.in-Number.value fits) (subst (FigureOf _ c.in-Number.places) (sym o) c.of.ensures) in
    ap Ok c.row.ensures ∙ drawn_as c.in-Number.value c.in-Number.places (Some x) of
    ∙ ap (λ (r : Reading). cond (fitting r) (Ok (nibbles (drawn r))) (Err Glass)) (sym c.in-Number.is)
