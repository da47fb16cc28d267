-- One test of every form, of its words and signs, its text, its size and its field, and what it shows of the form that a line has. Assumes nothing.
use Prim.Native.Nat.{ℕ, zero, suc, ◌^◌, ◌<◌, ◌≤◌}
use native.Mathlib.Omega.{arith}
use mathlib.Core.Path.{◌≡◌, refl, subst}
use mathlib.Core.Bool.{Bool, true, ◌&&◌}
use mathlib.Core.List.{[]}
use mathlib.Core.Option.{some}
use lib.Dec.{leb, ltb}
use borrow.Author.Tests.{leb-true, ltb-true}
use Rattle.isa.specs.Code.{bytes_of, leading}
use Rattle.isa.specs.declared.Instruction.{Instruction}
use Rattle.isa.proofs.Exact.{and_left, and_right}
use Rattle.mnemonic.specs.Line.{line_of}
use Rattle.operand.specs.Text.{in_word}
use Rattle.operand.specs.Words.{fixed_words, is_fixed, is_label}
use Rattle.operand.specs.Operand.{plus}
use Rattle.assembler.specs.Forms.{forms, lead, size, field}
use Rattle.assembler.specs.Statement.{form_in}
use Rattle.assembler_laws.proofs.Each.{every, each-passes}
use Rattle.assembler_laws.proofs.Form.{OfForm, found}
use Rattle.assembler_laws.proofs.Spoken.{terms, Worded, worded, is-worded, line-of, spelled}

abbrev bounded : (ℕ → Instruction) → Bool
bounded f = ltb 0 (size f) && leb (field f) 65536

abbrev good : (ℕ → Instruction) → Bool
good f = worded f && (spelled (line-of f 0) && bounded f)

tested : every good forms ≡ true
unfolding forms line_of bytes_of leading is_fixed is_label fixed_words in_word
tested = refl

pub record Tested (f : ℕ → Instruction) : Type 0 where
  pub words : Worded f
  pub text : spelled (line-of f 0) ≡ true
  pub takes : 0 < size f
  pub small : field f ≤ 65536

pub tested-form : (f : ℕ → Instruction) → form_in forms (lead f) ≡ some f → Tested f
tested-form f e =
    let p = subst (OfForm (λ (f : ℕ → Instruction). good f ≡ true)) e (found (lead f) (each-passes good forms tested)) in
    let q = and_right (worded f) (spelled (line-of f 0) && bounded f) p in
    let r = and_right (spelled (line-of f 0)) (bounded f) q in
    record {
      words = is-worded f (and_left (worded f) (spelled (line-of f 0) && bounded f) p);
      text = and_left (spelled (line-of f 0)) (bounded f) q;
      takes = ltb-true 0 (size f) (and_left (ltb 0 (size f)) (leb (field f) 65536) r);
      small = leb-true (field f) 65536 (and_right (ltb 0 (size f)) (leb (field f) 65536) r);
    }

-- what an operand's one term adds
pub plus-terms : (n v : ℕ) → v < 16 ^ n → plus [] [] (terms n v) ≡ v
plus-terms zero v h = omega arith
plus-terms (suc n) v h = omega arith
