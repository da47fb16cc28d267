-- The loop of `walk`: a turn, and what its two ways out answer. Assumes nothing.
use Prim.Native.Nat.{ℕ, zero, suc, ◌+◌, ◌*◌, ◌^◌, ◌<◌, ◌≤◌}
use native.Mathlib.Nat.{add-zero, pow-le-pow_right}
use native.Mathlib.Numerals.{add-one}
use native.Mathlib.Omega.{arith}
use mathlib.Core.Path.{◌≡◌, refl, sym, ap, ◌∙◌, subst}
use mathlib.Core.Bool.{true}
use mathlib.Core.List.{List, [], ◌∷◌, ◌++◌}
use lib.Dec.{eqb, lit<}
use lib.ListN.{length, get_or}
use borrow.Author.Tests.{eq-eqb, ne_eqb}
use Rattle.std.specs.Prelude.{Option, Some, None, Ok, Err}
use Rattle.glass.specs.Shapes.{cell, cells}
use Rattle.glass.specs.Reading.{SeenAnswers, EightNibbles, all_nibbles}
use Rattle.glass.specs.Walk.{start, reading_of}
use Rattle.glass.specs.declared.Unseen.TheVariants.{Unreadable}
use Rattle.glass.specs.declared.read.Front.{Front}
use Rattle.glass.proofs.Marks.{next}
use Rattle.glass.proofs.Pairs.{cells-small, all-after}
use Rattle.glass.proofs.Walks.{Walked, ended, stopped, later, onward, empty, walked, Held, held_next, by-blanks, sound}
use Rattle.glass.proofs.Stops.{leftmost}

-- where the reader ends, counted from so many digits before
abbrev pub laters : ℕ → Walked → Walked
laters zero w = w
laters (suc k) w = laters k (later w)

laters-ended : (k : ℕ) (f : Front) → laters k (ended f) ≡ ended f
laters-ended zero f = refl
laters-ended (suc k) f = laters-ended k f

laters-stopped : (k j : ℕ) → laters k (stopped j) ≡ stopped (k + j)
laters-stopped zero j = ap stopped (let e : j ≡ 0 + j = omega arith in e)
laters-stopped (suc k) j = laters-stopped k (suc j) ∙ ap stopped (let e : k + suc j ≡ suc k + j = omega arith in e)

-- what holds before digit k: its nibbles and those behind it are left, and the reader ends as it does from here, with what it holds now
pub record Ahead (s rest : List ℕ) (k : ℕ) (f : Front) : Type 0 where
  pub left : length rest + k * 2 ≡ 8
  pub nibbles : all_nibbles rest ≡ true
  pub held : Held k f
  pub ends : walked (cells s) start ≡ laters k (walked (cells rest) f)

pub at-first : (s rest : List ℕ) (k : ℕ) → EightNibbles s → rest ≡ s → k ≡ 0 → Ahead s rest k start
at-first s rest k p e z =
    subst (λ (t : List ℕ). Ahead s t k start) (sym e)
    (subst (λ (j : ℕ). Ahead s s j start) (sym z)
    (record { left = omega (arith, p.0); nibbles = p.1; held = record { value = lit< tt; places = omega arith }; ends = refl }))

-- the next two of the nibbles that are left
pub given : (s x r rest : List ℕ) (k n : ℕ) (f : Front) → Ahead s rest n f → rest ≡ x ++ r → length x ≡ 2 → k ≡ n → Ahead s (get_or x 0 0 ∷ get_or x 1 0 ∷ r) k f
given s [] r rest k n f h e l q = absurd (omega (arith, l))
given s (a ∷ []) r rest k n f h e l q = absurd (omega (arith, l))
given s (a ∷ b ∷ []) r rest k n f h e l q = subst (λ (m : ℕ). Ahead s (a ∷ b ∷ r) m f) (sym q) (subst (λ (t : List ℕ). Ahead s t n f) e h)
given s (a ∷ b ∷ c ∷ x) r rest k n f h e l q = absurd (omega (arith, l))

-- the last digit of four
last_of : (r : List ℕ) (k : ℕ) → length r + 2 + k * 2 ≡ 8 → empty (cells r) ≡ eqb k 3
last_of [] k e = sym (eq-eqb k 3 (omega (arith, e)))
last_of (a ∷ []) k e = absurd (omega (arith, e))
last_of (a ∷ b ∷ r) k e = sym (ne_eqb k 3 (λ z. absurd (omega (arith, e, z))))

turn : (s r : List ℕ) (a b k : ℕ) (f : Front) (o : Option Front) → Ahead s (a ∷ b ∷ r) k f → o ≡ next f (cell a b) (eqb k 3)
    → walked (cells s) start ≡ laters k (onward o (walked (cells r)))
turn s r a b k f o h e =
    h.ends
    ∙ ap (λ x. laters k (onward (next f (cell a b) x) (walked (cells r)))) (last_of r k (let l = h.left in omega (arith, l)))
    ∙ ap (λ (x : Option Front). laters k (onward x (walked (cells r)))) (sym e)

pub turn_on : (s r : List ℕ) (a b k n : ℕ) (f g : Front) (o : Option Front) → Ahead s (a ∷ b ∷ r) k f → o ≡ next f (cell a b) (eqb k 3) → o ≡ Some g → n ≡ k + 1 → Ahead s r n g
turn_on s r a b k n f g o h e q m =
    let more : suc k ≡ n = sym (m ∙ add-one k) in
    record {
      left = let l = h.left in omega (arith, l, m);
      nibbles = all-after a b r h.nibbles;
      held = subst (λ (j : ℕ). Held j g) more (held_next k f (cell a b) (eqb k 3) g (cells-small (a ∷ b ∷ r) h.nibbles).0 h.held (sym e ∙ q));
      ends =
          turn s r a b k f o h e ∙ ap (λ (x : Option Front). laters k (onward x (walked (cells r)))) q
          ∙ ap (λ (j : ℕ). laters j (walked (cells r) g)) more;
    }

pub small : (s r : List ℕ) (a b k : ℕ) (f : Front) → Ahead s (a ∷ b ∷ r) k f → (f.value < 1000) × (f.places ≤ 3) × (a < 16)
small s r a b k f h =
    let j : k ≤ 3 = let l = h.left in omega (arith, l) in
    let t : 10 ^ k ≤ 10 ^ 3 = pow-le-pow_right (lit< tt) j in
    let v = h.held.value in
    let p = h.held.places in
    (omega (arith, t, v), omega (arith, j, p), (cells-small (a ∷ b ∷ r) h.nibbles).0.first)

pub answer-off : (s r : List ℕ) (a b k : ℕ) (f : Front) (o : Option Front) → EightNibbles s → Ahead s (a ∷ b ∷ r) k f → o ≡ next f (cell a b) (eqb k 3) → o ≡ None → SeenAnswers s (Err (Unreadable k))
answer-off s r a b k f o p h e q = (
  p,
  leftmost (cells s) k (cells-small s p.1)
      (turn s r a b k f o h e ∙ ap (λ (x : Option Front). laters k (onward x (walked (cells r)))) q ∙ laters-stopped k 0 ∙ ap stopped (add-zero k)),
)

pub answer-end : (s rest : List ℕ) (k : ℕ) (f : Front) → EightNibbles s → Ahead s rest k f → length rest < 2 → SeenAnswers s (Ok (reading_of f))
answer-end s [] k f p h l = (p, sound (cells s) [] start f (by-blanks 0 refl refl) (cells-small s p.1) (λ _ z. cc) (h.ends ∙ laters-ended k f))
answer-end s (a ∷ []) k f p h l = absurd (let e = h.left in omega (arith, e))
answer-end s (a ∷ b ∷ r) k f p h l = absurd (omega (arith, l))
