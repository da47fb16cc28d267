-- Every operand of the grammar is read, and gives its terms: by induction on how it is built, with whatever stands after it. Assumes nothing.
use Prim.Native.Nat.{ℕ, suc, ◌+◌, ◌≤◌}
use native.Mathlib.Omega.{arith}
use Prim.Native.Char.{code}
use mathlib.Core.Path.{◌≡◌, refl, sym, ap, ◌∙◌}
use mathlib.Core.Bool.{Bool, true, false, not}
use mathlib.Core.List.{List, [], ◌∷◌, ◌++◌, append_assoc, append-nil}
use mathlib.Core.Option.{Option, none, some}
use lib.ListN.{length}
use borrow.Author.Tests.{lt-ltb}
use Rattle.isa.specs.Choice.{pick}
use Rattle.mnemonic.specs.Spelling.{Token, mark, sign}
use Rattle.operand.specs.Text.{is_digit}
use Rattle.operand.specs.Words.{first, is_label, number_of}
use Rattle.operand.specs.Operand as Reading
use Rattle.operand.specs.Operand.{Term, part_of, before, wanted, followed, operand_of}
use Rattle.assembler_laws.specs.Grammar.{Tree, numeral, name, parenthesis}
use Rattle.assembler_laws.specs.Grammar.{Operand, single, added, less, terms_of}
use Rattle.assembler_laws.proofs.Numbers.{not-label}

-- ---- words
pub starts-with-digit : (w : List ℕ) (n : ℕ) → number_of w ≡ some n → is_digit (first w) ≡ true
unfolding number_of
starts-with-digit w n e = go (is_digit (first w)) _ e
  where
    go : (t : Bool) (o : Option ℕ) → pick t o none ≡ some n → t ≡ true
    go true o q = refl
    go false o q = cc

pub numeral-part : (w : List ℕ) (n : ℕ) → number_of w ≡ some n → part_of w ≡ some (Reading.number n)
unfolding part_of
numeral-part w n e = rw (not-label w (starts-with-digit w n e), e) refl

pub name-part : (w : List ℕ) → is_label w ≡ true → part_of w ≡ some (Reading.label w)
unfolding part_of
name-part w e = rw e refl

-- ---- terms before others
abbrev pub ahead : List Term → Option (List Term) → Option (List Term)
ahead [] o = o
ahead (t ∷ ts) o = before t (ahead ts o)

ahead-append : (xs ys : List Term) (o : Option (List Term)) → ahead xs (ahead ys o) ≡ ahead (xs ++ ys) o
ahead-append [] ys o = refl
ahead-append (x ∷ xs) ys o = ap (before x) (ahead-append xs ys o)

ahead-nothing : (xs : List Term) → ahead xs (some []) ≡ some xs
ahead-nothing [] = refl
ahead-nothing (x ∷ xs) = ap (before x) (ahead-nothing xs)

-- ---- signs
plus-follows : (ts : List Token) (here : Bool) (outer : List Bool) → followed (sign "+" ∷ ts) here outer ≡ wanted ts here here outer
plus-follows ts here [] = refl
plus-follows ts here (o ∷ os) = refl

minus-follows : (ts : List Token) (here : Bool) (outer : List Bool) → followed (sign "-" ∷ ts) here outer ≡ wanted ts (not here) here outer
minus-follows ts here [] = refl
minus-follows ts here (o ∷ os) = refl

-- what is read of the tokens of a single, or of an operand, with others after them, where so many more parentheses may be opened
abbrev SingleRead : ℕ → List Token → Tree → Type 0
SingleRead d ts t = (rest : List Token) (away here : Bool) (outer : List Bool) → d + length outer ≤ 16
    → wanted (ts ++ rest) away here outer ≡ ahead (terms_of away t) (followed rest here outer)

abbrev OperandRead : ℕ → List Token → Tree → Type 0
OperandRead d ts t = (rest : List Token) (here : Bool) (outer : List Bool) → d + length outer ≤ 16
    → wanted (ts ++ rest) here here outer ≡ ahead (terms_of here t) (followed rest here outer)

parenthesis-read : (d : ℕ) (ts : List Token) (t : Tree) → OperandRead d ts t → SingleRead (suc d) (sign "(" ∷ (ts ++ (sign ")" ∷ []))) t
parenthesis-read d ts t p rest away here outer h =
    ap (λ (b : Bool). pick b (wanted ((ts ++ (sign ")" ∷ [])) ++ rest) away away (here ∷ outer)) none) (lt-ltb (length outer) 16 (omega arith))
    ∙ ap (λ (us : List Token). wanted us away away (here ∷ outer)) (append_assoc ts (sign ")" ∷ []) rest)
    ∙ p (sign ")" ∷ rest) away (here ∷ outer) (omega arith)

-- an operand, a sign, and a single that is taken away as the sign says
joined-read : (c : ℕ) (turned : Bool → Bool)
    → ((ts : List Token) (here : Bool) (outer : List Bool) → followed (mark c ∷ ts) here outer ≡ wanted ts (turned here) here outer)
    → (d : ℕ) (ts us : List Token) (t u : Tree) → OperandRead d ts t → SingleRead d us u
    → (rest : List Token) (here : Bool) (outer : List Bool) → d + length outer ≤ 16
    → wanted ((ts ++ (mark c ∷ us)) ++ rest) here here outer ≡ ahead (terms_of here t ++ terms_of (turned here) u) (followed rest here outer)
joined-read c turned follows d ts us t u p s rest here outer h =
    ap (λ (vs : List Token). wanted vs here here outer) (append_assoc ts (mark c ∷ us) rest)
    ∙ p (mark c ∷ (us ++ rest)) here outer h
    ∙ ap (ahead (terms_of here t)) (follows (us ++ rest) here outer ∙ s rest (turned here) here outer h)
    ∙ ahead-append (terms_of here t) (terms_of (turned here) u) (followed rest here outer)

operand_read : {d : ℕ} {ts : List Token} {t : Tree} → Operand d ts t → OperandRead d ts t
operand_read p = elim p as (λ d ts t s. SingleRead d ts t) (λ d ts t p. OperandRead d ts t) [
  | numeral {n = n} {w = w} e ↦ λ rest away here outer h. rw (numeral-part w n e) refl
  | name {w = w} e ↦ λ rest away here outer h. rw (name-part w e) refl
  | parenthesis {d = d} {ts = ts} {t = t} (p → q) ↦ parenthesis-read d ts t q
  | single (s → q) ↦ λ rest here outer h. q rest here here outer h
  | added {d = d} {ts = ts} {us = us} {t = t} {u = u} (p → q) (s → r) ↦ joined-read (code "+") (λ (b : Bool). b) plus-follows d ts us t u q r
  | less {d = d} {ts = ts} {us = us} {t = t} {u = u} (p → q) (s → r) ↦ joined-read (code "-") not minus-follows d ts us t u q r
]

pub read : (ts : List Token) (t : Tree) → Operand 16 ts t → operand_of ts ≡ some (terms_of false t)
read ts t p =
    ap (λ (us : List Token). wanted us false false []) (sym (append-nil ts))
    ∙ operand_read p [] false [] (omega arith)
    ∙ ahead-nothing (terms_of false t)
