-- `Display` of `glass::Reading` meets its contract.
use Rattle.std.proofs.Common.{◌≡◌, List, ℕ, ap, sym, ◌∙◌, subst, IsUtf8, take}
use Rattle.std.proofs.Output.{has_written_of_eq}
use Rattle.std.specs.Int.{w64, to_le_bytes}
use Rattle.glass.specs.Text.{text_of}
use Rattle.glass.specs.Walk.{place_in}
use Rattle.glass.proofs.Texts.{text-eight, before-0, is-utf8}
use Rattle.glass.proofs.text.ReadingDisplay.fmt.Goals as goal

pub returns-clause-writes : goal.returns-clause-writes
returns-clause-writes g c plain ok =
    let s : List ℕ = text_of c.args.self.now in
    let eight = text-eight c.args.self.now in
    let before : take (place_in c.to_le_bytes.result 0) c.to_le_bytes.result ≡ s = before-0 s c.to_le_bytes.result eight (c.to_le_bytes.ensures ∙ ap (to_le_bytes w64) c.text.ensures) in
    let shown : c.characters.result.now ≡ s = c.characters.ensures (subst IsUtf8 (sym before) (is-utf8 s eight)) ∙ before in
    has_written_of_eq _ _ _ _ _ shown (c.write_str.ensures.writes plain ok)
