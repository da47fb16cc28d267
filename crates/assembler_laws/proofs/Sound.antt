-- What is read is an operand of the grammar: by the walk of `wanted` and `followed` themselves, with what is still to be read in each parenthesis
-- that is open. Assumes nothing.
use Prim.Native.Nat.{ℕ, zero, suc, ◌+◌}
use Prim.Native.Char.{code}
use native.Mathlib.Omega.{arith}
use mathlib.Core.Path.{◌≡◌, refl, sym, ap, subst, subst₂, ◌∙◌}
use mathlib.Core.Bool.{Bool, true, false, ◌&&◌, not}
use mathlib.Core.List.{List, [], ◌∷◌, ◌++◌, append_assoc, append-nil}
use mathlib.Core.Option.{Option, none, some}
use lib.Dec.{eqb, ltb}
use lib.ListN.{length}
use borrow.Author.Tests.{eqb-true, ltb-true}
use Rattle.isa.specs.Choice.{pick}
use Rattle.isa.proofs.Exact.{and_left, and_right}
use Rattle.mnemonic.specs.Spelling.{Token, letters, mark, operand, sign}
use Rattle.operand.specs.Words.{is_label, number_of}
use Rattle.operand.specs.Operand as Reading
use Rattle.operand.specs.Operand.{Part, Term, part_of, as_number, termed, wanted, followed, operand_of}
use Rattle.assembler_laws.specs.Grammar.{Tree, number, label, sum, difference, Single, numeral, name, parenthesis}
use Rattle.assembler_laws.specs.Grammar.{Operand, single, added, less, terms_of, Has}

never : {A B : Type 0} {a : A} → none ≡ some a → B
never e = absurd (let z : ◌≡◌ {A = ℕ} 0 1 = cc in omega arith)

-- ---- words
abbrev leaf : Part → Tree
leaf (Reading.number n) = number n
leaf (Reading.label w) = label w

word-single : (d : ℕ) (w : List ℕ) (p : Part) → part_of w ≡ some p → Single d (letters w ∷ []) (leaf p)
unfolding part_of
word-single d w p e = go (is_label w) (number_of w) refl refl e
  where
    go : (t : Bool) (o : Option ℕ) → is_label w ≡ t → number_of w ≡ o → pick t (some (Reading.label w)) (as_number o) ≡ some p
        → Single d (letters w ∷ []) (leaf p)
    go true o f g q = let r : Reading.label w ≡ p = cc in subst (λ (x : Part). Single d (letters w ∷ []) (leaf x)) r (name f)
    go false none f g q = never q
    go false (some n) f g q = let r : Reading.number n ≡ p = cc in subst (λ (x : Part). Single d (letters w ∷ []) (leaf x)) r (numeral g)

-- ---- what is still to be read
-- an operand that has these terms
record Whole (d : ℕ) (here : Bool) (ts : List Token) (terms : List Term) : Type 0 where
  tree : Tree
  whole : Operand d ts tree
  its-terms : terms_of here tree ≡ terms

-- what may follow an operand in its parenthesis: both together are an operand, which has the terms of both
abbrev More : ℕ → Bool → List Token → List Term → Type 0
More d here us xs = (ts : List Token) (t : Tree) → Operand d ts t → Whole d here (ts ++ us) (terms_of here t ++ xs)

-- what follows it to the end, where these parentheses are open
data Rests : ℕ → Bool → List Bool → List Token → List Term → Type 0 where
  end : {d : ℕ} {here : Bool} {us : List Token} {xs : List Term} → More d here us xs → Rests d here [] us xs
  close : {d : ℕ} {here o : Bool} {os : List Bool} {us vs : List Token} {xs ys : List Term} → More d here us xs → Rests (suc d) o os vs ys
      → Rests d here (o ∷ os) (us ++ (sign ")" ∷ vs)) (xs ++ ys)

-- a single, and what follows it
data Starts : ℕ → Bool → Bool → List Bool → List Token → List Term → Type 0 where
  start : {d : ℕ} {away here : Bool} {outer : List Bool} {ts us : List Token} {t : Tree} {xs : List Term} → Single d ts t → Rests d here outer us xs
      → Starts d away here outer (ts ++ us) (terms_of away t ++ xs)

nothing-more : (d : ℕ) (here : Bool) → More d here [] []
nothing-more d here ts t p = record {
  tree = t;
  whole = subst (λ (us : List Token). Operand d us t) (sym (append-nil ts)) p;
  its-terms = sym (append-nil (terms_of here t));
}

-- a sign and a single before what follows
module _ (d c : ℕ) (turned : Bool → Bool) (with : Tree → Tree → Tree)
    (join : (ts us : List Token) (t u : Tree) → Operand d ts t → Single d us u → Operand d (ts ++ (mark c ∷ us)) (with t u))
    (joined : (here : Bool) (t u : Tree) → terms_of here (with t u) ≡ terms_of here t ++ terms_of (turned here) u) where
  one_more : (here : Bool) (ts us : List Token) (t : Tree) (xs : List Term) → Single d ts t → More d here us xs
      → More d here (mark c ∷ (ts ++ us)) (terms_of (turned here) t ++ xs)
  one_more here ts us t xs s m vs v p =
      subst₂ (Whole d here) (append_assoc vs (mark c ∷ ts) us)
      (ap (λ (l : List Term). l ++ xs) (joined here v t) ∙ append_assoc (terms_of here v) (terms_of (turned here) t) xs)
      (m (vs ++ (mark c ∷ ts)) (with v t) (join vs ts v t p s))

  before-rests : (here : Bool) {outer : List Bool} (ts : List Token) (t : Tree) {us : List Token} {xs : List Term} → Single d ts t
      → Rests d here outer us xs → Rests d here outer (mark c ∷ (ts ++ us)) (terms_of (turned here) t ++ xs)
  before-rests here ts t s (end {us = us} {xs = xs} m) = end (one_more here ts us t xs s m)
  before-rests here ts t s (close {us = us} {vs = vs} {xs = xs} {ys = ys} m r) =
      subst₂ (Rests d here _) (ap (λ (l : List Token). mark c ∷ l) (append_assoc ts us (sign ")" ∷ vs)))
      (append_assoc (terms_of (turned here) t) xs ys) (close (one_more here ts us t xs s m) r)

  signed : (here : Bool) {outer : List Bool} {ts : List Token} {terms : List Term} → Starts d (turned here) here outer ts terms
      → Rests d here outer (mark c ∷ ts) terms
  signed here (start {ts = ts} {t = t} s r) = before-rests here ts t s r

plus-signed : (d : ℕ) (here : Bool) (outer : List Bool) (ts : List Token) (terms : List Term) → Starts d here here outer ts terms
    → Rests d here outer (sign "+" ∷ ts) terms
plus-signed d here outer ts terms = signed d (code "+") (λ (b : Bool). b) sum (λ ts us t u p s. added p s) (λ here t u. refl) here

minus-signed : (d : ℕ) (here : Bool) (outer : List Bool) (ts : List Token) (terms : List Term) → Starts d (not here) here outer ts terms
    → Rests d here outer (sign "-" ∷ ts) terms
minus-signed d here outer ts terms = signed d (code "-") not difference (λ ts us t u p s. less p s) (λ here t u. refl) here

-- an open parenthesis before a single and what follows it
module _ (d : ℕ) (away here : Bool) (outer : List Bool) where
  closed : (ts us vs : List Token) (xs ys zs : List Term) → Whole d away (ts ++ us) (zs ++ xs) → Rests (suc d) here outer vs ys
      → Starts (suc d) away here outer (sign "(" ∷ (ts ++ (us ++ (sign ")" ∷ vs)))) (zs ++ (xs ++ ys))
  closed ts us vs xs ys zs w r =
      subst₂ (Starts (suc d) away here outer)
      (ap (λ (l : List Token). sign "(" ∷ l) (append_assoc (ts ++ us) (sign ")" ∷ []) vs ∙ append_assoc ts us (sign ")" ∷ vs)))
      (ap (λ (l : List Term). l ++ ys) w.its-terms ∙ append_assoc zs xs ys) (start (parenthesis w.whole) r)

  rests-closed : {us : List Token} {xs : List Term} (ts : List Token) (t : Tree) → Single d ts t → Rests d away (here ∷ outer) us xs
      → Starts (suc d) away here outer (sign "(" ∷ (ts ++ us)) (terms_of away t ++ xs)
  rests-closed ts t s (close {us = us} {vs = vs} {xs = xs} {ys = ys} m r) = closed ts us vs xs ys (terms_of away t) (m ts t (single s)) r

  enclosed : {ts : List Token} {terms : List Term} → Starts d away away (here ∷ outer) ts terms
      → Starts (suc d) away here outer (sign "(" ∷ ts) terms
  enclosed (start {ts = ts} {t = t} s r) = rests-closed ts t s r

-- ---- the walk
-- a word, with what is read after it
word-starts : (d : ℕ) (away here : Bool) (outer : List Bool) (w : List ℕ) (ts : List Token) (terms : List Term) (o : Option Part)
    (r : Option (List Term)) → part_of w ≡ o → ((xs : List Term) → r ≡ some xs → Rests d here outer ts xs) → termed away o r ≡ some terms
    → Starts d away here outer (letters w ∷ ts) terms
word-starts d away here outer w ts terms none r e f q = never q
word-starts d away here outer w ts terms (some p) none e f q = never q
word-starts d away here outer w ts terms (some p) (some xs) e f q =
    let x : record { taken = away; part = p } ∷ xs ≡ terms = cc in
    subst (Starts d away here outer (letters w ∷ ts)) x (at_part p (word-single d w p e))
  where
    at_part : (p : Part) → Single d (letters w ∷ []) (leaf p)
        → Starts d away here outer (letters w ∷ ts) (record { taken = away; part = p } ∷ xs)
    at_part (Reading.number n) s = start s (f xs refl)
    at_part (Reading.label v) s = start s (f xs refl)

-- by which of two answers one is found
either : {A G : Type 0} (t : Bool) (x y : Option A) (a : A) → pick t x y ≡ some a → (t ≡ true → x ≡ some a → G) → (y ≡ some a → G) → G
either true x y a e f g = f refl e
either false x y a e f g = g e

by_sign : (c k d : ℕ) (here : Bool) (outer : List Bool) (ts : List Token) (terms : List Term) → eqb c k ≡ true
    → Rests d here outer (mark k ∷ ts) terms → Rests d here outer (mark c ∷ ts) terms
by_sign c k d here outer ts terms t = subst (λ (n : ℕ). Rests d here outer (mark n ∷ ts) terms) (sym (eqb-true c k t))

mutual
  wanted-starts : (ts : List Token) (d : ℕ) (away here : Bool) (outer : List Bool) (terms : List Term) → d + length outer ≡ 16
      → wanted ts away here outer ≡ some terms → Starts d away here outer ts terms
  wanted-starts [] d away here outer terms h e = never e
  wanted-starts (letters w ∷ ts) d away here outer terms h e =
      word-starts d away here outer w ts terms (part_of w) (followed ts here outer) refl (λ xs q. followed-rests ts d here outer xs h q) e
  wanted-starts (mark c ∷ ts) zero away here outer terms h e =
      either (eqb c (code "(") && ltb (length outer) 16) (wanted ts away away (here ∷ outer)) none terms e
      (λ t q. absurd (omega (arith, ltb-true (length outer) 16 (and_right (eqb c (code "(")) (ltb (length outer) 16) t)))) (λ q. never q)
  wanted-starts (mark c ∷ ts) (suc d) away here outer terms h e =
      either (eqb c (code "(") && ltb (length outer) 16) (wanted ts away away (here ∷ outer)) none terms e
      (λ t q. subst (λ (n : ℕ). Starts (suc d) away here outer (mark n ∷ ts) terms)
      (sym (eqb-true c (code "(") (and_left (eqb c (code "(")) (ltb (length outer) 16) t)))
      (enclosed d away here outer (wanted-starts ts d away away (here ∷ outer) terms (omega arith) q))) (λ q. never q)
  wanted-starts (operand n v ∷ ts) d away here outer terms h e = never e

  followed-rests : (ts : List Token) (d : ℕ) (here : Bool) (outer : List Bool) (terms : List Term) → d + length outer ≡ 16
      → followed ts here outer ≡ some terms → Rests d here outer ts terms
  followed-rests [] d here [] terms h e = let x : [] ≡ terms = cc in subst (Rests d here [] []) x (end (nothing-more d here))
  followed-rests [] d here (o ∷ os) terms h e = never e
  followed-rests (mark c ∷ ts) d here [] terms h e =
      either (eqb c (code "+")) (wanted ts here here []) (pick (eqb c (code "-")) (wanted ts (not here) here []) none) terms e
      (λ t q. by_sign c (code "+") d here [] ts terms t (plus-signed d here [] ts terms (wanted-starts ts d here here [] terms h q)))
      (λ r. either (eqb c (code "-")) (wanted ts (not here) here []) none terms r
      (λ t q. by_sign c (code "-") d here [] ts terms t (minus-signed d here [] ts terms (wanted-starts ts d (not here) here [] terms h q)))
      (λ q. never q))
  followed-rests (mark c ∷ ts) d here (o ∷ os) terms h e =
      either (eqb c (code "+")) (wanted ts here here (o ∷ os)) _ terms e
      (λ t q. by_sign c (code "+") d here (o ∷ os) ts terms t
      (plus-signed d here (o ∷ os) ts terms (wanted-starts ts d here here (o ∷ os) terms h q)))
      (λ r. either (eqb c (code "-")) (wanted ts (not here) here (o ∷ os)) _ terms r
      (λ t q. by_sign c (code "-") d here (o ∷ os) ts terms t
      (minus-signed d here (o ∷ os) ts terms (wanted-starts ts d (not here) here (o ∷ os) terms h q)))
      (λ z. either (eqb c (code ")")) (followed ts o os) none terms z
      (λ t q. by_sign c (code ")") d here (o ∷ os) ts terms t (close (nothing-more d here) (followed-rests ts (suc d) o os terms (omega arith) q)))
      (λ q. never q)))
  followed-rests (letters w ∷ ts) d here outer terms h e = never e
  followed-rests (operand n v ∷ ts) d here outer terms h e = never e

found : {ts : List Token} {terms : List Term} → Starts 16 false false [] ts terms → Has ts terms
found (start {ts = ts} {t = t} s r) = at-end ts t s r
  where
    at-end : {us : List Token} {xs : List Term} (ts : List Token) (t : Tree) → Single 16 ts t → Rests 16 false [] us xs
        → Has (ts ++ us) (terms_of false t ++ xs)
    at-end ts t s (end m) = let w = m ts t (single s) in record { tree = w.tree; operand = w.whole; its-terms = w.its-terms }

pub has : (ts : List Token) (terms : List Term) → operand_of ts ≡ some terms → Has ts terms
has ts terms e = found (wanted-starts ts 16 false false [] terms refl e)
