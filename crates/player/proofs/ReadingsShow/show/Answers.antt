-- `show` of `player::Readings` meets its contract: the bytes of a text, before the first 0, are its characters.
use Rattle.std.proofs.Common.{ℕ, ◌≡◌, List, [], ◌∷◌, ◌++◌, Option, ap, ◌∙◌, subst, refl, rules, take, Ok}
use Rattle.std.proofs.lemmas.Result.{on_ok_weaker}
use Rattle.std.specs.Int.{w64, to_le_bytes}
use Rattle.std.specs.Io.KnownBytes.{Appends}
use Rattle.glass.specs.Text.{text_of}
use Rattle.glass.specs.Walk.{place_in}
use Rattle.glass.specs.declared.Reading.{Reading}
use Rattle.glass.proofs.Texts.{text-eight, before-0}
use Rattle.machine.specs.declared.Machine.{Machine}
use Rattle.machine_glass.specs.Glass.{Sees}
use Rattle.player.specs.Shown.{SightLine}
use Rattle.player.proofs.ReadingsShow.show.Goals as goal

line : (m : Machine) (r : Reading) (old new : Option (List ℕ)) (s : List ℕ) → Sees m (Ok (Ok r)) → s ≡ text_of r → Appends old new (s ++ (10 ∷ []))
    → (x : List ℕ) × SightLine m x × Appends old new x
line m r old new s sees e wrote = (text_of r ++ (10 ∷ []), (Ok (Ok r), sees, refl), subst (λ (t : List ℕ). Appends old new (t ++ (10 ∷ []))) e wrote)

pub returns-in-Ok-Ok : goal.returns-in-Ok-Ok
returns-in-Ok-Ok g c =
    let r : Reading = c.in-Ok-Ok.reading in
    let chars : take (place_in c.to_le_bytes.result 0) c.to_le_bytes.result ≡ text_of r =
    before-0 (text_of r) c.to_le_bytes.result (text-eight r) (c.to_le_bytes.ensures ∙ ap (to_le_bytes w64) c.text.ensures) in
    let sees : Sees c.args.machine (Ok (Ok r)) = search rules in
    on_ok_weaker _ (line c.args.machine r _ _ _ sees chars) c.put_line.ensures
