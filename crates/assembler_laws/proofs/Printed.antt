-- What is printed assembles back: the two lines read as an ORG and a form with a value (Tokens, Spoken), the form with that value is the instruction
-- (Cases), and the answer puts its bytes at the address (Answer). Assumes nothing.
use Prim.Native.Nat.{ℕ, zero, suc, ◌+◌, ◌<◌, ◌≤◌}
use native.Mathlib.Omega.{arith}
use mathlib.Core.Path.{◌≡◌, refl, sym, ap, ap₂, subst, ◌∙◌}
use mathlib.Core.Bool.{false}
use mathlib.Core.List.{List, [], ◌∷◌, ◌++◌, map, append_assoc}
use mathlib.Core.Option.{none}
use lib.ListN.{length, replicate, length-append}
use lib.Seq.{sets}
use borrow.Author.Tests.{le-ltb}
use Rattle.isa.specs.Code.{bytes_of}
use Rattle.isa.specs.declared.Instruction.{Instruction}
use Rattle.rom.specs.Fetching.{moved_by}
use Rattle.mnemonic.specs.Line.{text_of}
use Rattle.mnemonic.specs.Placing.{placed_at}
use Rattle.mnemonic.specs.Spelling.{Token, spelling}
use Rattle.operand.specs.Text.{LF, tokens}
use Rattle.operand.specs.Operand.{minus, missing}
use Rattle.assembler.specs.Forms.{lead, operand_digits, size, rom_size}
use Rattle.assembler.specs.Statement.{Statement, org, mnemonic, statement}
use Rattle.assembler.specs.Program.{program, written, answer_to, assembled}
use Rattle.assembler_laws.specs.Printed.{printed, PrintsBack}
use Rattle.assembler_laws.proofs.Answer.{answer}
use Rattle.assembler_laws.proofs.Cases.{Case, case}
use Rattle.assembler_laws.proofs.Form.{OfForm, found, Fits, forms-fit}
use Rattle.assembler_laws.proofs.Spoken.{terms, spoken, org-words, org-said, form-said, line-of}
use Rattle.assembler_laws.proofs.Spoken.{Reread, reads-form, reads-org}
use Rattle.assembler_laws.proofs.Tested.{Tested, tested-form, plus-terms}
use Rattle.assembler_laws.proofs.Tokens.{one_line, first-line}

-- ---- an operand's one term
minus-terms : (n v : ℕ) → minus [] [] (terms n v) ≡ 0
minus-terms zero v = refl
minus-terms (suc n) v = refl

known-terms : (n v : ℕ) → missing [] (terms n v) ≡ false
known-terms zero v = refl
known-terms (suc n) v = refl

-- ---- two lines
module _ (s t : List Token) {u w : List Token} (p : Reread s u) (q : Reread t w) where
  abbrev joined : List ℕ
  joined = spelling s ++ (LF ∷ spelling t)

  two-lines : program joined ≡ statement u ∷ statement w ∷ []
  two-lines =
      ap (λ (ls : List (List ℕ)). map statement (map tokens ls))
      (first-line (spelling s) (spelling t) p.line ∙ ap (λ (ls : List (List ℕ)). spelling s ∷ ls) (one_line (spelling t) q.line))
      ∙ ap₂ (λ (x y : List Token). statement x ∷ statement y ∷ []) p.read q.read

  -- the text is not too long
  short-text : assembled joined ≡ answer_to (program joined)
  unfolding assembled
  short-text = rw (le-ltb 65535 (length joined) (omega (arith, length-append (spelling s) (LF ∷ spelling t), p.short, q.short))) refl

module _ (i : Instruction) (a : ℕ) (fits : a + length (bytes_of i) ≤ rom_size) (c : Case (moved_by (length (bytes_of i)) a) i) where
  abbrev f : ℕ → Instruction
  f = c.form

  abbrev v : ℕ
  v = c.value

  good : Tested f
  good = tested-form f c.found

  sized : length (bytes_of i) ≡ size f
  sized = ap (λ (j : Instruction). length (bytes_of j)) (sym c.is) ∙ (subst (OfForm Fits) c.found (found (lead f) forms-fit)).sized v

  room : a < rom_size
  room = omega (arith, fits, sized, good.takes)

  small : v ≤ 65535
  small = omega (arith, c.low, good.small)

  abbrev text : List ℕ
  text = spelling (org-words ++ spoken 3 a) ++ (LF ∷ spelling (line-of f v))

  text-is : printed a i ≡ text
  unfolding text_of
  text-is =
      append_assoc (spelling (org-words ++ spoken 3 a)) (LF ∷ []) (text_of (placed_at (moved_by (length (bytes_of i)) a) i))
      ∙ ap (λ (ts : List Token). spelling (org-words ++ spoken 3 a) ++ (LF ∷ spelling ts)) c.line

  program-is : program text ≡ org none (terms 3 a) ∷ mnemonic none f (terms (operand_digits f) v) ∷ []
  program-is =
      two-lines (org-words ++ spoken 3 a) (line-of f v) (reads-org a) (reads-form f v good.text)
      ∙ ap₂ (λ (l m : Statement). l ∷ m ∷ []) (org-said 2 a room (omega (arith, room)))
      (form-said f v good.words c.found c.low small)

  text-assembled : assembled text ≡ written (sets (replicate rom_size 0x3e) a (bytes_of (f v)))
  text-assembled =
      short-text (org-words ++ spoken 3 a) (line-of f v) (reads-org a) (reads-form f v good.text)
      ∙ ap answer_to program-is
      ∙ answer a f (terms (operand_digits f) v) v room (rw sized at fits) c.low (rw sized at c.reach)
      (plus-terms (operand_digits f) v c.low) (minus-terms (operand_digits f) v) (known-terms (operand_digits f) v)

  pub assembles : assembled (printed a i) ≡ written (sets (replicate rom_size 0x3e) a (bytes_of i))
  assembles = ap assembled text-is ∙ text-assembled ∙ ap (λ (j : Instruction). written (sets (replicate rom_size 0x3e) a (bytes_of j))) c.is

pub prints-back : PrintsBack
prints-back i a r h = assembles i a h (case (moved_by (length (bytes_of i)) a) (omega arith) i r)
