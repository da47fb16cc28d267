-- No two instructions are printed alike: a printed line reads as its form with its value, which make the instruction. Assumes nothing.
use Prim.Native.Nat.{ℕ, ◌≤◌}
use native.Mathlib.Omega.{arith}
use mathlib.Core.Path.{◌≡◌, sym, ap, ◌∙◌}
use mathlib.Core.Bool.{true}
use mathlib.Core.List.{List, []}
use mathlib.Core.Option.{none}
use Rattle.isa.specs.Code.{in_range}
use Rattle.isa.specs.declared.Instruction.{Instruction}
use Rattle.mnemonic.specs.Line.{text_of}
use Rattle.mnemonic.specs.Spelling.{Token, spelling}
use Rattle.operand.specs.Text.{tokens}
use Rattle.operand.specs.Operand.{Term, plus}
use Rattle.assembler.specs.Forms.{operand_digits}
use Rattle.assembler.specs.Statement.{mnemonic, statement}
use Rattle.assembler_laws.specs.Unique.{PrintedOnce}
use Rattle.assembler_laws.proofs.Own.{own-case, own_line}
use Rattle.assembler_laws.proofs.Spoken.{terms, form-said, reads-form}
use Rattle.assembler_laws.proofs.Tested.{tested-form, plus-terms}

module _ (i : Instruction) (r : in_range i ≡ true) where
  abbrev form : ℕ → Instruction
  form = (own-case i r).form

  abbrev value : ℕ
  value = (own-case i r).value

  reads-back : statement (tokens (text_of i)) ≡ mnemonic none form (terms (operand_digits form) value)
  unfolding text_of
  reads-back =
      let t = tested-form form (own-case i r).found in
      let small : value ≤ 65535 = omega (arith, (own-case i r).low, t.small) in
      ap (λ (ts : List Token). statement (tokens (spelling ts))) (own_line i r)
      ∙ ap statement (reads-form form value t.text).read
      ∙ form-said form value t.words (own-case i r).found (own-case i r).low small

  its-value : plus [] [] (terms (operand_digits form) value) ≡ value
  its-value = plus-terms (operand_digits form) value (own-case i r).low

same_parts : (f g : ℕ → Instruction) (v w : ℕ) (xs ys : List Term) → mnemonic none f xs ≡ mnemonic none g ys → plus [] [] xs ≡ v → plus [] [] ys ≡ w
    → f v ≡ g w
same_parts f g v w xs ys e p q = cc

pub printed-once : PrintedOnce
printed-once i j r s e =
    let p = sym (reads-back i r) ∙ ap (λ (t : List ℕ). statement (tokens t)) e ∙ reads-back j s in
    sym (own-case i r).is
    ∙ same_parts (form i r) (form j s) (value i r) (value j s) _ _ p (its-value i r) (its-value j s)
    ∙ (own-case j s).is
