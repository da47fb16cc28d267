-- `glass::text::text` meets its contract.
use Rattle.std.proofs.Common.{ℤ, ℕ, ◌≡◌, Option, Some, None, refl, sym, ap, ◌∙◌, rules, w32}
use mir.Val.{SFits}
use mir.ValLaws.{to_z-of_z}
use Rattle.glass.specs.Text.{packed, text_of}
use Rattle.glass.specs.Walk.{FigureOf}
use Rattle.glass.specs.declared.Reading.{Reading}
use Rattle.glass.specs.declared.Reading.TheVariants.{Dark, Number}
use Rattle.glass.specs.declared.figure.Figure.{Figure}
use Rattle.glass.proofs.Rows.{text_from, written_as}
use Rattle.glass.proofs.text.text.Goals as goal

dark : 0x6b726164 ≡ packed (text_of Dark)
unfolding text_of
dark = refl

-- the text of a figure is the reading's
number : (v w : ℤ) (p : ℕ) (r : Reading) (o f : Option Figure) → r ≡ Number v p → w ≡ v → FigureOf w p o → o ≡ f → packed (text_from f) ≡ packed (text_of r)
number v w p r o f e z h k =
    rw (sym k, e, sym z) (ap packed (written_as w p o h))

pub returns-in-Dark : goal.returns-in-Dark
returns-in-Dark c = c.from.ensures ∙ c.from_le_bytes.ensures ∙ dark ∙ ap (λ (r : Reading). packed (text_of r)) (sym c.in-Dark.is)

pub returns-in-Some : goal.returns-in-Some
returns-in-Some c = let fits : SFits w32 c.in-Number.value = search rules in
    c.written.ensures ∙ number _ _ _ _ _ (Some c.in-Some.figure) c.in-Number.is (to_z-of_z w32 c.in-Number.value fits) c.of.ensures c.in-Some.is

pub returns-in-None : goal.returns-in-None
returns-in-None c = let fits : SFits w32 c.in-Number.value = search rules in
    number _ _ _ _ _ None c.in-Number.is (to_z-of_z w32 c.in-Number.value fits) c.of.ensures c.in-None.is
