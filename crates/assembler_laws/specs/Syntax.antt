-- The lines of document 02, wish 4, as a grammar: "A line is blank, or holds an optional label and colon, then a mnemonic of document 001 or `ORG`, and
-- operands." What `statement` reads is exactly what the grammar has. Assumes nothing.
use Rattle.std.specs.Prelude.{ℕ, ◌≡◌, true}
use mathlib.Core.List.{List, [], ◌∷◌, Memᴰ}
use Rattle.std.proofs.Math.Option.{Option, none, some}
use Rattle.isa.specs.declared.Instruction.{Instruction}
use Rattle.mnemonic.specs.Line.{line_of}
use Rattle.mnemonic.specs.Spelling.{Token, letters, mark, operand, codes, sign}
use Rattle.operand.specs.Words.{is_label}
use Rattle.operand.specs.Operand.{Term}
use Rattle.assembler.specs.Forms.{forms}
use Rattle.assembler.specs.Statement.{Statement, statement}
use Rattle.assembler_laws.specs.Grammar.{Has}

-- the words and signs of a printed line, and in the place of its operand an operand with these terms
pub data Fills : List Token → List Token → List Term → Type 0 where
  end : Fills [] [] []
  same_word : {w : List ℕ} {ts us : List Token} {terms : List Term} → Fills ts us terms → Fills (letters w ∷ ts) (letters w ∷ us) terms
  same_sign : {c : ℕ} {ts us : List Token} {terms : List Term} → Fills ts us terms → Fills (mark c ∷ ts) (mark c ∷ us) terms
  in_place : {n v : ℕ} {us : List Token} {terms : List Term} → Has us terms → Fills (operand n v ∷ []) us terms

-- "then a mnemonic of document 001 or `ORG`, and operands", after this label or none
pub data Body (l : Option (List ℕ)) : List Token → Statement → Type 0 where
  org : {us : List Token} {terms : List Term} → Has us terms → Body l (letters (codes "ORG") ∷ us) (Statement.org l terms)
  mnemonic : {f : ℕ → Instruction} {us : List Token} {terms : List Term} → Memᴰ f forms → Fills (line_of (f 0)) us terms
      → Body l us (Statement.mnemonic l f terms)

-- "A line is blank, or holds an optional label and colon": its tokens, and what it says
pub data Line : List Token → Statement → Type 0 where
  blank : Line [] Statement.blank
  unlabelled : {us : List Token} {s : Statement} → Body none us s → Line us s
  labelled : {w : List ℕ} {us : List Token} {s : Statement} → is_label w ≡ true → Body (some w) us s → Line (letters w ∷ sign ":" ∷ us) s

pub record LineReads : Type 0 where
  pub sound : (ts : List Token) (s : Statement) → statement ts ≡ s → (s ≡ Statement.unreadable → ⊥) → Line ts s
  pub full : (ts : List Token) (s : Statement) → Line ts s → statement ts ≡ s
  -- a line says one thing
  pub only : (ts : List Token) (s r : Statement) → Line ts s → Line ts r → s ≡ r
  -- tokens cannot be read exactly where they are no line
  pub refused : (ts : List Token) → statement ts ≡ Statement.unreadable → (s : Statement) → Line ts s → ⊥
  pub no_line : (ts : List Token) → ((s : Statement) → Line ts s → ⊥) → statement ts ≡ Statement.unreadable
