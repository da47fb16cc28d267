-- What a line puts at its address stays: the addresses written only grow, and no line puts a byte at an address that a line above has written.
-- Assumes nothing.
use Prim.Native.Nat.{ℕ, zero, suc, ◌+◌, ◌<◌, ◌≤◌}
use native.Mathlib.Nat.{not-suc-le-zero, le_of_suc-le-suc, add-suc, suc-add}
use native.Mathlib.Omega.{arith}
use mathlib.Core.Path.{◌≡◌, refl, sym, ap, subst, ◌∙◌}
use mathlib.Core.Bool.{Bool, true, false, ◌||◌, or-true, true≢false, false≢true}
use mathlib.Core.List.{List, [], ◌∷◌, ◌++◌, append_assoc}
use lib.Dec.{eqb}
use lib.ListN.{get_or, length, set, take, drop, get_or-append}
use lib.Seq.{sets, sets-eq, length-sets, get_or-append-add, get_or-set_other, length-take-le}
use borrow.Author.Tests.{eqb-true, eqb-false, eq-eqb}
use Rattle.assembler.specs.Statement.{Statement}
use Rattle.assembler.specs.Program.{Above, next, end, address_of, size_of, span, is_in, meets, bytes, put}
use Rattle.assembler_laws.specs.Lines.{Stands, here, there}

-- ---- addresses in a list
pub or_left : (x y : Bool) → x || y ≡ false → x ≡ false
or_left true y e = e
or_left false y e = refl

pub or_right : (x y : Bool) → x || y ≡ false → y ≡ false
or_right true y e = absurd (true≢false e)
or_right false y e = e

in_left : (s t : List ℕ) (a : ℕ) → is_in s a ≡ true → is_in (s ++ t) a ≡ true
in_left [] t a e = absurd (false≢true e)
in_left (b ∷ s) t a e = go (eqb b a) e (in_left s t a)
  where
    go : (x : Bool) → x || is_in s a ≡ true → (is_in s a ≡ true → is_in (s ++ t) a ≡ true) → x || is_in (s ++ t) a ≡ true
    go true q f = refl
    go false q f = f q

in_right : (s t : List ℕ) (a : ℕ) → is_in t a ≡ true → is_in (s ++ t) a ≡ true
in_right [] t a e = e
in_right (b ∷ s) t a e = rw (in_right s t a e) (or-true (eqb b a))

-- what is written is in nothing that does not meet it
apart : (w m : List ℕ) (a : ℕ) → meets w m ≡ false → is_in w a ≡ true → is_in m a ≡ false
apart w [] a e h = refl
apart w (b ∷ m) a e h = go (eqb b a) refl (apart w m a (or_right (is_in w b) (meets w m) e) h)
  where
    go : (x : Bool) → eqb b a ≡ x → is_in m a ≡ false → x || is_in m a ≡ false
    go true q f =
        let p : is_in w a ≡ false = subst (λ (n : ℕ). is_in w n ≡ false) (eqb-true b a q) (or_left (is_in w b) (meets w m) e) in
        absurd (false≢true (sym p ∙ h))
    go false q f = f

in_span : (a n j : ℕ) → j < n → is_in (span a n) (a + j) ≡ true
in_span a zero j h = absurd (not-suc-le-zero h)
in_span a (suc n) zero h = rw (eq-eqb a (a + 0) (omega arith)) refl
in_span a (suc n) (suc j) h =
    let e : suc a + j ≡ a + suc j = suc-add a j ∙ sym (add-suc a j) in
    rw (subst (λ (m : ℕ). is_in (span (suc a) n) m ≡ true) e (in_span (suc a) n j (le_of_suc-le-suc h))) (or-true (eqb a (a + suc j)))

-- ---- a run of stores
stored : (vs l : List ℕ) (i j : ℕ) → i + length vs ≤ length l → j < length vs → get_or (sets l i vs) (i + j) 0 ≡ get_or vs j 0
stored vs l i j h b =
    let d = drop (i + length vs) l in
    let p : length (take i l) ≡ i = length-take-le i l (omega arith) in
    ap (λ (t : List ℕ). get_or t (i + j) 0) (sets-eq vs l i h ∙ append_assoc (take i l) vs d)
    ∙ ap (λ (n : ℕ). get_or (take i l ++ (vs ++ d)) (n + j) 0) (sym p)
    ∙ get_or-append-add (take i l) (vs ++ d) j 0
    ∙ get_or-append vs d 0 j b

unstored : (vs l : List ℕ) (i a : ℕ) → is_in (span i (length vs)) a ≡ false → get_or (sets l i vs) a 0 ≡ get_or l a 0
unstored [] l i a e = refl
unstored (v ∷ vs) l i a e =
    unstored vs (set l i v) (suc i) a (or_right (eqb i a) (is_in (span (suc i) (length vs)) a) e)
    ∙ get_or-set_other l i a v 0 (λ q. eqb-false i a (or_left (eqb i a) (is_in (span (suc i) (length vs)) a) e) (sym q))

-- ---- what is written only grows
grows : (s : Above) (l : Statement) (a : ℕ) → is_in s.written a ≡ true → is_in (next s l).written a ≡ true
unfolding next
grows s l a = in_left s.written (span (address_of s l) (size_of l)) a

writes : (s : Above) (l : Statement) (a : ℕ) → is_in (span (address_of s l) (size_of l)) a ≡ true → is_in (next s l).written a ≡ true
unfolding next
writes s l a = in_right s.written (span (address_of s l) (size_of l)) a

above_in : {s u : Above} {ls : List Statement} {k : Statement} (a : ℕ) → Stands s ls u k → is_in s.written a ≡ true → is_in u.written a ≡ true
above_in a here e = e
above_in a (there {s = s} {l = l} h) e = above_in a h (grows s l a e)

end-in : (s : Above) (ls : List Statement) (a : ℕ) → is_in s.written a ≡ true → is_in (end s ls).written a ≡ true
end-in s [] a e = e
end-in s (l ∷ ls) a e = end-in (next s l) ls a (grows s l a e)

line-in : {s u : Above} {ls : List Statement} {k : Statement} (a : ℕ) → Stands s ls u k → is_in (span (address_of u k) (size_of k)) a ≡ true
    → is_in (end s ls).written a ≡ true
line-in a (here {s = s} {l = l} {ls = ls}) e = end-in (next s l) ls a (writes s l a e)
line-in a (there h) e = line-in a h e

-- ---- the bytes
-- a line's bytes take the addresses that it writes, none of which is written above it
pub record Clear (whole u : Above) (k : Statement) : Type 0 where
  pub spanned : span (address_of u k) (size_of k) ≡ span u.at (length (bytes whole k))
  pub clear : meets u.written (span u.at (length (bytes whole k))) ≡ false

module _ (whole : Above) where
  pub put-length : (s : Above) (ls : List Statement) (out : List ℕ) → length (put whole s ls out) ≡ length out
  put-length s [] out = refl
  put-length s (l ∷ ls) out = put-length (next s l) ls (sets out s.at (bytes whole l)) ∙ length-sets out s.at (bytes whole l)

  untouched : (s : Above) (ls : List Statement) (out : List ℕ) (a : ℕ)
      → ((u : Above) (k : Statement) → Stands s ls u k → is_in (span u.at (length (bytes whole k))) a ≡ false)
      → get_or (put whole s ls out) a 0 ≡ get_or out a 0
  untouched s [] out a f = refl
  untouched s (l ∷ ls) out a f =
      untouched (next s l) ls (sets out s.at (bytes whole l)) a (λ u k h. f u k (there h)) ∙ unstored (bytes whole l) out s.at a (f s l here)

  -- an address that no line writes
  pub unwritten : (s : Above) (ls : List Statement) (out : List ℕ) (a : ℕ) → ((u : Above) (k : Statement) → Stands s ls u k → Clear whole u k)
      → is_in (end s ls).written a ≡ false → get_or (put whole s ls out) a 0 ≡ get_or out a 0
  unwritten s ls out a c e = untouched s ls out a (λ u k h. go u k h (is_in (span u.at (length (bytes whole k))) a) refl)
    where
      go : (u : Above) (k : Statement) → Stands s ls u k → (x : Bool) → is_in (span u.at (length (bytes whole k))) a ≡ x → x ≡ false
      go u k h true q =
          let p : is_in (end s ls).written a ≡ true = line-in a h (rw (c u k h).spanned q) in
          absurd (false≢true (sym e ∙ p))
      go u k h false q = refl

  -- the addresses of a line
  pub put-line : {s u : Above} {ls : List Statement} {k : Statement} (out : List ℕ) (j : ℕ)
      → ((v : Above) (m : Statement) → Stands s ls v m → Clear whole v m) → Stands s ls u k
      → u.at + length (bytes whole k) ≤ length out → j < length (bytes whole k) → get_or (put whole s ls out) (u.at + j) 0 ≡ get_or (bytes whole k) j 0
  put-line out j c (here {s = s} {l = l} {ls = ls}) b h =
      untouched (next s l) ls (sets out s.at (bytes whole l)) (s.at + j)
      (λ v m g. apart v.written (span v.at (length (bytes whole m))) (s.at + j) (c v m (there g)).clear
      (above_in (s.at + j) g (writes s l (s.at + j) (rw (c s l here).spanned (in_span s.at (length (bytes whole l)) j h)))))
      ∙ stored (bytes whole l) out s.at j b h
  put-line out j c (there {s = s} {u = u} {l = l} {k = k} g) b h =
      put-line (sets out s.at (bytes whole l)) j (λ v m i. c v m (there i)) g
      (subst (λ (n : ℕ). u.at + length (bytes whole k) ≤ n) (sym (length-sets out s.at (bytes whole l))) b) h
