-- `player::put_line` meets its contract.
use Rattle.std.proofs.Common.{arith, rules, tests, ℕ, ◌≡◌, List, [], ◌∷◌, ◌++◌, eqb, ap, ◌∙◌, subst, length, take, Option}
use Rattle.std.specs.Option.{unwrap_or}
use Rattle.std.specs.Io.KnownBytes.{Appends}
use Rattle.std.proofs.KnownBytes.{Appends-trans}
use Rattle.std.proofs.lemmas.Iterator.{YieldsList-from_slice}
use Rattle.std.proofs.lemmas.Iterator.Search.{position_from_yields_List}
use Rattle.std.proofs.lemmas.Result.{on_ok_weaker}
use Rattle.glass.specs.Walk.{place_in}
use Rattle.glass.proofs.Texts.{first-0}
use Rattle.player.proofs.put_line.Goals as goal

pub returns : goal.returns
returns g c =
    let bytes : List ℕ = c.args.text.now in
    let place = position_from_yields_List (λ (y : ℕ). eqb 0 y) _ _ c.position.result c.position.ensures.ran (YieldsList-from_slice bytes cc) (λ x b q k. search (rules, tests)) in
    let n : length bytes ≡ 8 = omega arith in
    let end : c.unwrap_or-end.result ≡ place_in bytes 0 =
    c.unwrap_or-end.ensures ∙ ap (λ (o : Option ℕ). unwrap_or o 8) place ∙ first-0 bytes 8 n in
    on_ok_weaker _ (λ more. subst (λ (n : ℕ). Appends (g.W.Write.contents c.args.out.now) (g.W.Write.contents c.write_all-2.new.self) (take n bytes ++ (10 ∷ []))) end
    (Appends-trans _ _ _ _ _ c.in_ok-write_all.ensures.bytes more)) c.write_all-2.ensures.bytes
