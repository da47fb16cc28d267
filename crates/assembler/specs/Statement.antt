-- "A line is blank, or holds an optional label and colon, then a mnemonic of document 001 or `ORG`, and operands" (document 02, wish 4). A label
-- does not stand alone. Before its operand a line has fixed words, commas and brackets alone, and an operand none of them; so where they end the
-- operand starts, which goes on to the end of the line. assembler_laws/specs/Syntax has the same as a grammar, and shows that both agree. Assumes
-- nothing.
use Rattle.std.specs.Prelude.{ℕ, zero, suc, Bool, true, false, ◌&&◌, ◌||◌, List, [], ◌∷◌, eqb}
use Prim.Native.Char.{code}
use Rattle.std.proofs.Math.Option.{Option, none, some}
use Rattle.isa.specs.Choice.{pick}
use Rattle.isa.specs.declared.Instruction.{Instruction}
use Rattle.mnemonic.specs.Spelling.{Token, letters, mark, operand, codes}
use Rattle.operand.specs.Words.{is_fixed, is_label, same}
use Rattle.operand.specs.Operand.{Term, operand_of}
use Rattle.assembler.specs.Forms.{operand_digits, forms, lead}

pub data Statement : Type 0 where
  unreadable : Statement
  blank : Statement
  -- the label, if there is one, and the operand's terms
  org : Option (List ℕ) → List Term → Statement
  mnemonic : Option (List ℕ) → (ℕ → Instruction) → List Term → Statement

abbrev pub leads : Token → Bool
leads (letters w) = is_fixed w
leads (mark c) = eqb c (code ",") || eqb c (code "[") || eqb c (code "]")
leads (operand n v) = false

-- the tokens before an operand, and those from there on
abbrev pub before : List Token → List Token
before [] = []
before (t ∷ ts) = pick (leads t) (t ∷ before ts) []

abbrev pub after : List Token → List Token
after [] = []
after (t ∷ ts) = pick (leads t) (after ts) (t ∷ ts)

abbrev pub equal : Token → Token → Bool
equal (letters v) (letters w) = same v w
equal (letters v) (mark d) = false
equal (letters v) (operand n x) = false
equal (mark c) (letters w) = false
equal (mark c) (mark d) = eqb c d
equal (mark c) (operand n x) = false
equal (operand n x) t = false

abbrev pub equals : List Token → List Token → Bool
equals [] [] = true
equals [] (u ∷ us) = false
equals (t ∷ ts) [] = false
equals (t ∷ ts) (u ∷ us) = equal t u && equals ts us

-- the form, of these, that has these words and signs
abbrev pub form_in : List (ℕ → Instruction) → List Token → Option (ℕ → Instruction)
form_in [] ts = none
form_in (f ∷ fs) ts = pick (equals (lead f) ts) (some f) (form_in fs ts)

abbrev pub org_of : Option (List ℕ) → Option (List Term) → Statement
org_of l none = unreadable
org_of l (some terms) = org l terms

abbrev pub code_of : Option (List ℕ) → (ℕ → Instruction) → Option (List Term) → Statement
code_of l f none = unreadable
code_of l f (some terms) = mnemonic l f terms

-- no operand: no terms, which count 0
abbrev pub nothing : List Token → Option (List Term)
nothing [] = some []
nothing (t ∷ ts) = none

-- the operand of a form, which has one or none
abbrev pub operand_for : ℕ → List Token → Option (List Term)
operand_for zero ts = nothing ts
operand_for (suc n) ts = operand_of ts

abbrev pub coded : Option (List ℕ) → List Token → Option (ℕ → Instruction) → Statement
coded l ts none = unreadable
coded l ts (some f) = code_of l f (operand_for (operand_digits f) ts)

-- what follows the label
unfoldable pub body : Option (List ℕ) → List Token → Statement
body l ts = pick (equals (letters (codes "ORG") ∷ []) (before ts)) (org_of l (operand_of (after ts))) (coded l (after ts) (form_in forms (before ts)))

abbrev pub labelled : List Token → Bool
labelled (letters w ∷ mark c ∷ ts) = is_label w && eqb c (code ":")
labelled (letters w ∷ letters v ∷ ts) = false
labelled (letters w ∷ operand n v ∷ ts) = false
labelled (letters w ∷ []) = false
labelled (mark c ∷ ts) = false
labelled (operand n v ∷ ts) = false
labelled [] = false

abbrev pub label_of : List Token → Option (List ℕ)
label_of (letters w ∷ ts) = some w
label_of (mark c ∷ ts) = none
label_of (operand n v ∷ ts) = none
label_of [] = none

abbrev pub after_two : List Token → List Token
after_two (t ∷ u ∷ ts) = ts
after_two (t ∷ []) = []
after_two [] = []

abbrev pub statement : List Token → Statement
statement [] = blank
statement (t ∷ ts) = pick (labelled (t ∷ ts)) (body (label_of (t ∷ ts)) (after_two (t ∷ ts))) (body none (t ∷ ts))
