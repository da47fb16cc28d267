-- An operand has one tree: its tokens alone make it, by a reader of trees that goes as `wanted` and `followed` do. Assumes nothing.
use Prim.Native.Nat.{ℕ}
use Prim.Native.Char.{code}
use mathlib.Core.Path.{◌≡◌, refl, sym, ap, ◌∙◌}
use mathlib.Core.List.{List, [], ◌∷◌, ◌++◌, append_assoc, append-nil}
use mathlib.Core.Option.{Option, none, some}
use lib.Dec.{eqb}
use Rattle.isa.specs.Choice.{pick}
use Rattle.mnemonic.specs.Spelling.{Token, letters, mark, operand, sign}
use Rattle.operand.specs.Operand as Reading
use Rattle.operand.specs.Operand.{Part, part_of}
use Rattle.assembler_laws.specs.Grammar.{Tree, number, label, sum, difference, numeral, name, parenthesis}
use Rattle.assembler_laws.specs.Grammar.{Operand, single, added, less}
use Rattle.assembler_laws.proofs.Full.{numeral-part, name-part}

-- the tree of a number or a label, handed on
abbrev of_part : Option Part → (Tree → Option Tree) → Option Tree
of_part none go_on = none
of_part (some (Reading.number n)) go_on = go_on (number n)
of_part (some (Reading.label w)) go_on = go_on (label w)

-- The tree of the tokens from here to the end. `here` makes it of the next single in the parenthesis that is open here, or outside of any; `outer`
-- does the same in each one around it.
abbrev mutual
  next : List Token → (Tree → Tree) → List (Tree → Tree) → Option Tree
  next [] here outer = none
  next (letters w ∷ ts) here outer = of_part (part_of w) (λ (t : Tree). after ts (here t) outer)
  next (mark c ∷ ts) here outer = pick (eqb c (code "(")) (next ts (λ (t : Tree). t) (here ∷ outer)) none
  next (operand n v ∷ ts) here outer = none

  after : List Token → Tree → List (Tree → Tree) → Option Tree
  after [] t [] = some t
  after [] t (o ∷ os) = none
  after (mark c ∷ ts) t [] = pick (eqb c (code "+")) (next ts (sum t) []) (pick (eqb c (code "-")) (next ts (difference t) []) none)
  after (mark c ∷ ts) t (o ∷ os) = pick (eqb c (code "+")) (next ts (sum t) (o ∷ os))
      (pick (eqb c (code "-")) (next ts (difference t) (o ∷ os)) (after ts (o t) os))
  after (letters w ∷ ts) t outer = none
  after (operand n v ∷ ts) t outer = none

plus-after : (ts : List Token) (t : Tree) (outer : List (Tree → Tree)) → after (sign "+" ∷ ts) t outer ≡ next ts (sum t) outer
plus-after ts t [] = refl
plus-after ts t (o ∷ os) = refl

minus-after : (ts : List Token) (t : Tree) (outer : List (Tree → Tree)) → after (sign "-" ∷ ts) t outer ≡ next ts (difference t) outer
minus-after ts t [] = refl
minus-after ts t (o ∷ os) = refl

abbrev SingleTree : List Token → Tree → Type 0
SingleTree ts t = (rest : List Token) (here : Tree → Tree) (outer : List (Tree → Tree)) → next (ts ++ rest) here outer ≡ after rest (here t) outer

abbrev OperandTree : List Token → Tree → Type 0
OperandTree ts t = (rest : List Token) (outer : List (Tree → Tree)) → next (ts ++ rest) (λ (u : Tree). u) outer ≡ after rest t outer

joined-tree : (c : ℕ) (with : Tree → Tree → Tree)
    → ((ts : List Token) (t : Tree) (outer : List (Tree → Tree)) → after (mark c ∷ ts) t outer ≡ next ts (with t) outer)
    → (ts us : List Token) (t u : Tree) → OperandTree ts t → SingleTree us u → OperandTree (ts ++ (mark c ∷ us)) (with t u)
joined-tree c with follows ts us t u p s rest outer =
    ap (λ (vs : List Token). next vs (λ (v : Tree). v) outer) (append_assoc ts (mark c ∷ us) rest)
    ∙ p (mark c ∷ (us ++ rest)) outer
    ∙ follows (us ++ rest) t outer
    ∙ s rest (with t) outer

operand-tree : {d : ℕ} {ts : List Token} {t : Tree} → Operand d ts t → OperandTree ts t
operand-tree p = elim p as (λ d ts t s. SingleTree ts t) (λ d ts t p. OperandTree ts t) [
  | numeral {n = n} {w = w} e ↦ λ rest here outer. rw (numeral-part w n e) refl
  | name {w = w} e ↦ λ rest here outer. rw (name-part w e) refl
  | parenthesis {ts = ts} (p → q) ↦ λ rest here outer.
      ap (λ (us : List Token). next us (λ (v : Tree). v) (here ∷ outer)) (append_assoc ts (sign ")" ∷ []) rest) ∙ q (sign ")" ∷ rest) (here ∷ outer)
  | single (s → q) ↦ λ rest outer. q rest (λ (u : Tree). u) outer
  | added {ts = ts} {us = us} {t = t} {u = u} (p → q) (s → r) ↦ joined-tree (code "+") sum plus-after ts us t u q r
  | less {ts = ts} {us = us} {t = t} {u = u} (p → q) (s → r) ↦ joined-tree (code "-") difference minus-after ts us t u q r
]

whole-tree : (ts : List Token) (t : Tree) → Operand 16 ts t → next ts (λ (u : Tree). u) [] ≡ some t
whole-tree ts t p = ap (λ (us : List Token). next us (λ (v : Tree). v) []) (sym (append-nil ts)) ∙ operand-tree p [] []

pub one-tree : (ts : List Token) (t u : Tree) → Operand 16 ts t → Operand 16 ts u → t ≡ u
one-tree ts t u p q = let a = whole-tree ts t p in let b = whole-tree ts u q in cc
