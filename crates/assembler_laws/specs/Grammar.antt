-- The operands of document 02, wish 4, as a grammar: "An operand is a number (..), a label, or sums and differences of operands, with parentheses up
-- to 16 deep". What `operand_of` reads is exactly what the grammar has, and the terms that it gives have the value of the operand's tree, which is a
-- whole number. Assumes nothing.
use Rattle.std.specs.Prelude.{ℕ, suc, ◌-◌, ◌<◌, ◌≡◌, Bool, true, false, not, List, [], ◌∷◌, ◌++◌, ℤ, pos, ◌+ℤ◌, ◌-ℤ◌}
use Rattle.std.proofs.Math.Option.{some}
use Rattle.mnemonic.specs.Spelling.{Token, letters, sign}
use Rattle.operand.specs.Words.{is_label, number_of}
use Rattle.operand.specs.Operand as Reading
use Rattle.operand.specs.Operand.{Term, operand_of, value_of, plus, minus}
use Rattle.assembler.specs.Program.{within}

-- what an operand says, without its parentheses
pub data Tree : Type 0 where
  number : ℕ → Tree
  label : List ℕ → Tree
  sum : Tree → Tree → Tree
  difference : Tree → Tree → Tree

-- the tokens of a tree, where parentheses may stand so many deep
mutual
  -- a number, a label or a parenthesis
  pub data Single : ℕ → List Token → Tree → Type 0 where
    numeral : {d n : ℕ} {w : List ℕ} → number_of w ≡ some n → Single d (letters w ∷ []) (number n)
    name : {d : ℕ} {w : List ℕ} → is_label w ≡ true → Single d (letters w ∷ []) (label w)
    parenthesis : {d : ℕ} {ts : List Token} {t : Tree} → Operand d ts t → Single (suc d) (sign "(" ∷ (ts ++ (sign ")" ∷ []))) t

  -- one of these, or a sum or a difference, which are taken from left to right
  pub data Operand : ℕ → List Token → Tree → Type 0 where
    single : {d : ℕ} {ts : List Token} {t : Tree} → Single d ts t → Operand d ts t
    added : {d : ℕ} {ts us : List Token} {t u : Tree} → Operand d ts t → Single d us u → Operand d (ts ++ (sign "+" ∷ us)) (sum t u)
    less : {d : ℕ} {ts us : List Token} {t u : Tree} → Operand d ts t → Single d us u → Operand d (ts ++ (sign "-" ∷ us)) (difference t u)

-- the numbers and labels of a tree, each with whether it is taken away, in a tree that is itself taken away or not
abbrev pub terms_of : Bool → Tree → List Term
terms_of away (number n) = record { taken = away; part = Reading.number n } ∷ []
terms_of away (label w) = record { taken = away; part = Reading.label w } ∷ []
terms_of away (sum t u) = terms_of away t ++ terms_of away u
terms_of away (difference t u) = terms_of away t ++ terms_of (not away) u

-- tokens that are an operand with these terms
pub record Has (ts : List Token) (terms : List Term) : Type 0 where
  pub tree : Tree
  pub operand : Operand 16 ts tree
  pub its-terms : terms_of false tree ≡ terms

pub record Grammatical : Type 0 where
  pub sound : (ts : List Token) (terms : List Term) → operand_of ts ≡ some terms → Has ts terms
  pub full : (ts : List Token) (terms : List Term) → Has ts terms → operand_of ts ≡ some terms
  -- an operand has one tree, and so one value
  pub only : (ts : List Token) (t u : Tree) → Operand 16 ts t → Operand 16 ts u → t ≡ u

-- ---- what an operand is worth, a whole number
-- where these labels have these addresses; 0 for a label that is missing
abbrev pub value_in : List (List ℕ) → List ℕ → Tree → ℤ
value_in names addresses (number n) = pos n
value_in names addresses (label w) = pos (value_of names addresses (Reading.label w))
value_in names addresses (sum t u) = value_in names addresses t +ℤ value_in names addresses u
value_in names addresses (difference t u) = value_in names addresses t -ℤ value_in names addresses u

-- what is added and what is taken away, as the terms say, against the value of a tree
pub record Counts (added taken : ℕ) (value : ℤ) : Type 0 where
  pub worth : pos added -ℤ pos taken ≡ value
  -- the assembler's test of a value, that it is a whole number from 0 to n - 1, and the number that it goes on with
  pub in_field : (n : ℕ) → within n added taken ≡ true → (added - taken < n) × (value ≡ pos (added - taken))
  pub field_in : (n v : ℕ) → v < n → value ≡ pos v → within n added taken ≡ true

abbrev pub Worth : Type 0
Worth = (names : List (List ℕ)) (addresses : List ℕ) (ts : List Token) (terms : List Term) (t : Tree) → Operand 16 ts t → operand_of ts ≡ some terms
    → Counts (plus names addresses terms) (minus names addresses terms) (value_in names addresses t)
