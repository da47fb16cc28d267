-- What the readers' answers say of a line: for contracts inside this crate. Assumes nothing.
use Rattle.std.specs.Prelude.{ℕ, ◌≤◌, ◌<◌, ◌≡◌, Bool, true, false, List, eqb, length}
use Rattle.std.specs.Prelude.{Option, Some, None, is_some, unwrap_or}
use Rattle.std.proofs.Math.Option.{none, some}
use Rattle.std.proofs.Math.Option as Math
use Rattle.isa.specs.Choice.{pick}
use Rattle.mnemonic.specs.Spelling.{Token}
use Rattle.operand.specs.Operand.{Term, minus, missing, operand_of, plus}
use Rattle.operand.specs.Read.{tokens_at, word_at}
use Rattle.assembler.specs.Forms.{operand_digits}
use Rattle.assembler.specs.Statement.{Statement, unreadable, blank, org, mnemonic, after, after_two, before, code_of, label_of, labelled}
use Rattle.assembler.specs.Statement.{operand_for, org_of}
use Rattle.assembler.specs.Shapes.{form_at, form_number, key_of}
use Rattle.assembler.specs.declared.lines.Head.{Head}
use Rattle.assembler.specs.declared.lines.Label.{Label}
use Rattle.assembler.specs.declared.lines.Line.{Line}

-- what is read of a line, by parts; an own record, so that a line that cannot be read has them too
pub record Parts : Type 0 where
  pub readable : Bool
  pub form : ℕ
  pub labelled : Bool
  pub label : ℕ
  pub missing : Bool
  pub plus : ℕ
  pub minus : ℕ

abbrev pub parts : Option Line → Parts
parts None = record { readable = false; form = 97; labelled = false; label = 0; missing = false; plus = 0; minus = 0 }
parts (Some l) = record {
  readable = true;
  form = form_number l.form;
  labelled = is_some l.label;
  label = unwrap_or l.label 0;
  missing = l.value.missing;
  plus = l.value.plus;
  minus = l.value.minus;
}

-- a label, if one is there
abbrev pub label_in : List ℕ → Bool → ℕ → Math.Option (List ℕ)
label_in text present at = pick present (some (word_at text at)) none

abbrev pub label_at : List ℕ → Option ℕ → Math.Option (List ℕ)
label_at text start = label_in text (is_some start) (unwrap_or start 0)

-- the label of a line that is not blank, and where what follows it starts
pub record Labelling (text : List ℕ) (ts : List Token) (r : Label) : Type 0 where
  pub within : r.next ≤ length text
  pub place : unwrap_or r.start 0 ≤ length text
  pub present : is_some r.start ≡ labelled ts
  pub label : label_at text r.start ≡ pick (labelled ts) (label_of ts) none
  pub rest : tokens_at text r.next ≡ pick (labelled ts) (after_two ts) ts

-- the tokens before an operand, if they are few enough for a form
pub data Headed (text : List ℕ) (ts : List Token) (r : Head) : Type 0 where
  whole : r.key ≡ Some (key_of (before ts)) → tokens_at text r.next ≡ after ts → r.next ≤ length text → Headed text ts r
  long : r.key ≡ None → 6 < length (before ts) → r.next ≤ length text → Headed text ts r

pub record Valued (names : List (List ℕ)) (addresses : List ℕ) (terms : List Term) (r : Parts) : Type 0 where
  pub added : r.plus ≡ plus names addresses terms
  pub taken : r.minus ≡ minus names addresses terms
  pub missed : r.missing ≡ missing names terms

-- a line of a form and label, with its operand
pub data Operanded (names : List (List ℕ)) (addresses : List ℕ) (ts : List Token) (form : ℕ) (name : Option ℕ) (r : Parts) : Type 0 where
  bad : operand_of ts ≡ none → r.readable ≡ false → Operanded names addresses ts form name r
  good : (terms : List Term) → operand_of ts ≡ some terms → r.readable ≡ true → r.form ≡ form → r.labelled ≡ is_some name → r.label ≡ unwrap_or name 0
      → Valued names addresses terms r → Operanded names addresses ts form name r

-- a line of ORG or a form, by its number; 97 is none
abbrev pub bodied : ℕ → Math.Option (List ℕ) → List Token → Statement
bodied form l ts = pick
    (eqb form 97) unreadable (pick (eqb form 0) (org_of l (operand_of ts)) (code_of l (form_at form) (operand_for (operand_digits (form_at form)) ts)))

-- a line as it is read, where an ORG's labels are looked up among those above and another line's among all
pub data Shows (text : List ℕ) (above all : List (List ℕ)) (addresses : List ℕ) (st : Statement) (r : Parts) : Type 0 where
  broken : st ≡ unreadable → r.readable ≡ false → Shows text above all addresses st r
  empty : st ≡ blank → r.readable ≡ true → r.form ≡ 98 → r.labelled ≡ false → r.missing ≡ false → Shows text above all addresses st r
  origin : (terms : List Term) → st ≡ org (label_in text r.labelled r.label) terms → r.readable ≡ true → r.form ≡ 0
      → Valued above addresses terms r → r.label ≤ length text → Shows text above all addresses st r
  coded : (terms : List Term) → st ≡ mnemonic (label_in text r.labelled r.label) (form_at r.form) terms → r.readable ≡ true
      → 0 < r.form → r.form < 97 → Valued all addresses terms r → r.label ≤ length text → Shows text above all addresses st r
