-- `glass::text::characters` meets its contract.
use Rattle.std.proofs.Common.{arith, ℕ, ◌≡◌, ◌∙◌, eqb, ap, sym, rules, tests, take, length, IsUtf8, Option}
use Rattle.std.specs.Option.{unwrap_or}
use Rattle.std.proofs.lemmas.Iterator.{YieldsList-from_slice}
use Rattle.std.proofs.lemmas.Iterator.Search.{position_from_yields_List}
use Rattle.std.proofs.lemmas.Grind.{common_steps}
use Rattle.glass.specs.Walk.{place_in}
use Rattle.glass.proofs.Texts.{first-0}
use Rattle.glass.proofs.text.characters.Goals as goal

pub returns : goal.returns
returns c utf8 =
    let place = position_from_yields_List (λ (y : ℕ). eqb 0 y) _ _ c.position.result c.position.ensures.ran (YieldsList-from_slice c.args.bytes.now cc) (λ x b q k. search (rules, tests)) in
    let n : length c.args.bytes.now ≡ 8 = omega arith in
    let end : c.unwrap_or-end.result ≡ place_in c.args.bytes.now 0 =
    c.unwrap_or-end.ensures ∙ ap (λ (o : Option ℕ). unwrap_or o 8) place ∙ first-0 c.args.bytes.now 8 n in
    let u : IsUtf8 (take c.unwrap_or-end.result c.args.bytes.now) = rw end utf8 in
    rw (sym end) (grind (arith, common_steps))
