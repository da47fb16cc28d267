-- What is read of a record, written: two bytes make the number that they are, and a record's bytes from its offset on are length, kind and payload.
-- Assumes nothing.
use Prim.Native.Nat.{ℕ, ◌+◌, ◌*◌, ◌/◌, ◌%◌, ◌<◌}
use native.Mathlib.Omega.{arith}
use mathlib.Core.Path.{◌≡◌, sym, ap, ap₂, ◌∙◌}
use mathlib.Core.List.{List, [], ◌∷◌, ◌++◌}
use lib.ListN.{get_or}
use Rattle.records.specs.Records.{word_at, size_at, kind_at, payload_at, two_bytes}

-- a number of two bytes, written
pub two_back : (x y : ℕ) → x < 256 → two_bytes (x + 256 * y) ≡ x ∷ y ∷ []
two_back x y h = ap₂ (λ (a b : ℕ). a ∷ b ∷ []) (low x y h) (high x y h)
  where
    low : (x y : ℕ) → x < 256 → (x + 256 * y) % 256 ≡ x
    low x y h = omega arith

    high : (x y : ℕ) → x < 256 → (x + 256 * y) / 256 ≡ y
    high x y h = omega arith

module _ (s : List ℕ) (at : ℕ) where
  -- byte k from the offset on
  abbrev pub byte : ℕ → ℕ
  byte k = get_or s (at + k) 0

  -- the indices of the definition, as numbers from the offset on
  at-0 : get_or s at 0 ≡ byte 0
  at-0 = ap (λ (i : ℕ). get_or s i 0) (omega arith)

  at-3 : get_or s (at + 2 + 1) 0 ≡ byte 3
  at-3 = ap (λ (i : ℕ). get_or s i 0) (omega arith)

  at_5 : get_or s (at + 4 + 1) 0 ≡ byte 5
  at_5 = ap (λ (i : ℕ). get_or s i 0) (omega arith)

  pub load : (k j : ℕ) → 4 + k ≡ j → payload_at s at k ≡ byte j
  load k j e = ap (λ (i : ℕ). get_or s i 0) (omega arith)

  -- the payload's word is its first two bytes
  pub payload-word : payload_at s at 0 + 256 * payload_at s at 1 ≡ word_at s (at + 4)
  payload-word = ap (λ (i : ℕ). get_or s i 0 + 256 * payload_at s at 1) start
    where
      start : at + 4 + 0 ≡ at + 4
      start = omega arith

  module _ (b : (i : ℕ) → get_or s i 0 < 256) where
    -- length and kind
    pub head : {size kind : ℕ} (tail : List ℕ) → size_at s at ≡ size → kind_at s at ≡ kind
        → two_bytes size ++ (two_bytes kind ++ tail) ≡ byte 0 ∷ byte 1 ∷ byte 2 ∷ byte 3 ∷ tail
    head tail p q =
        ap₂ (λ (x y : ℕ). two_bytes x ++ (two_bytes y ++ tail)) (sym p) (sym q)
        ∙ ap₂ (λ (x y : List ℕ). x ++ (y ++ tail)) (two_back (get_or s at 0) (byte 1) (b at)) (two_back (byte 2) (get_or s (at + 2 + 1) 0) (b (at + 2)))
        ∙ ap₂ (λ (x y : ℕ). x ∷ byte 1 ∷ byte 2 ∷ y ∷ tail) at-0 at-3

    -- a payload of two bytes
    pub two : two_bytes (word_at s (at + 4)) ≡ byte 4 ∷ byte 5 ∷ []
    two = two_back (byte 4) (get_or s (at + 4 + 1) 0) (b (at + 4)) ∙ ap (λ (x : ℕ). byte 4 ∷ x ∷ []) at_5
