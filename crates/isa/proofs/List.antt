-- The list of lengths and cycles: each entry, taken apart, is the columns of its first byte. The list and the map are compared as
-- two lists, which antt computes. Assumes nothing.
use Prim.Native.Nat.{ℕ, ◌/◌, ◌%◌}
use mathlib.Core.Path.{◌≡◌, refl, sym, ap, ◌∙◌}
use mathlib.Core.List as List
use lib.ListN.{get_or, get_or-map}
use Rattle.isa.specs.Reading.{Entry, undefined, opcodes}
use Rattle.isa.specs.Timing.{columns_of, columns_at, entry_columns, entries, length_of, cycles_of}

module _ (f : ℕ → ℕ) (g : Entry → ℕ) (same : List.map f entries ≡ List.map g opcodes) where
  part : (a : ℕ) → get_or (List.map f entries) a (f 0) ≡ get_or (List.map g opcodes) a (f 0)
  part a = ap (λ (l : List.List ℕ). get_or l a (f 0)) same

pub length_at_entry : (a : ℕ) → get_or entries a 0 / 16 ≡ length_of a
unfolding entries columns_of columns_at opcodes
length_at_entry a =
    sym (get_or-map (λ (x : ℕ). x / 16) entries a 0)
    ∙ part (λ (x : ℕ). x / 16) (λ (e : Entry). (entry_columns e).bytes) refl a
    ∙ get_or-map (λ (e : Entry). (entry_columns e).bytes) opcodes a undefined

pub cycles_at_entry : (a : ℕ) → get_or entries a 0 % 16 ≡ cycles_of a
unfolding entries columns_of columns_at opcodes
cycles_at_entry a =
    sym (get_or-map (λ (x : ℕ). x % 16) entries a 0)
    ∙ part (λ (x : ℕ). x % 16) (λ (e : Entry). (entry_columns e).cycles) refl a
    ∙ get_or-map (λ (e : Entry). (entry_columns e).cycles) opcodes a undefined
