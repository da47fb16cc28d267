-- A text in 16 bytes: the text, and zeros after it. Assumes nothing.
use Rattle.std.specs.Prelude.{ℕ, zero, suc, ◌≤◌, ◌≡◌, List, [], ◌∷◌, length}
use Rattle.mnemonic.specs.declared.Text.{Text}

-- so many bytes: the text, and zeros after it
abbrev pub padded : ℕ → List ℕ → List ℕ
padded zero s = []
padded (suc n) [] = 0 ∷ padded n []
padded (suc n) (c ∷ s) = c ∷ padded n s

-- a record of 16 bytes that holds a text
pub record Holds (r : Text) (s : List ℕ) : Type 0 where
  pub bytes : r.bytes ≡ padded 16 s
  pub count : r.length ≡ length s
  pub fits : r.length ≤ 16
