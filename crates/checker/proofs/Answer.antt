-- From the flags to the answer: the marks hold the flags as bits, and the lowest flagged code that is forbidden is the lowest reached pair
-- that is, since a pair's code is its rank. And the answer is the only one: bytes with the same three bits are equal, and so are two lowest
-- pairs. Assumes nothing.
use Prim.Native.Nat.{ℕ, zero, suc, ◌+◌, ◌*◌, ◌/◌, ◌%◌, ◌^◌, ◌<◌, ◌≤◌}
use native.Mathlib.Omega.{arith}
use mathlib.Core.Path.{◌≡◌, refl, sym, ap, subst, ◌∙◌}
use mathlib.Core.Bool.{Bool, true, false}
use mathlib.Core.List.{List}
use lib.Dec.{eqb}
use lib.ListN.{length, get_or}
use lib.Seq.{ext_get_or}
use borrow.Author.Tests.{lt-ltb, eq-eqb, eqb-true, eqb-false}
use Rattle.isa.specs.Code.{addresses}
use Rattle.rom.specs.Fetching.{sized}
use Rattle.reach.specs.Walk.{Found, Free, Names}
use Rattle.checker.specs.Marks.{levels, Pair, pair, fault, Reached}
use Rattle.checker.specs.Verdicts.{marks_size, is_marked, Marked, rank, Lowest, Safe, Written, Refused, Answers, AnswersDetermine}
use Rattle.checker.specs.Walk.{pairs, next_codes, fault_at, mark_of, Packed, NamesOf, verdict_of}
use Rattle.checker.specs.declared.walk.Named.{Named}
use Rattle.checker.specs.declared.check.Verdict.{Verdict}
use Rattle.checker.specs.declared.check.Verdict.TheVariants.{Passed, Failed}
use Rattle.std.specs.Prelude.{Option, Some, None, Result, Ok, Err}
use Rattle.refusals.specs.declared.Refusal.{Refusal}
use Rattle.refusals.specs.declared.Refusal.TheVariants as R
use Rattle.checker.proofs.Reach.{pair-rank, rank-pair, code-reached, reached-code, reached-level}

-- the bit of a level in a mark byte is its flag
flag : (seen : List ℕ) → ((k : ℕ) → get_or seen k 0 ≤ 1) → (a l : ℕ) → l < levels → mark_of seen a / 2 ^ l % 2 ≡ get_or seen (a * levels + l) 0
flag seen f a zero h = omega (arith, f (a * 3), f (a * 3 + 1), f (a * 3 + 2), ap (λ (n : ℕ). get_or seen n 0) (plus-zero (a * 3)))
  where
    plus-zero : (n : ℕ) → n + 0 ≡ n
    plus-zero n = omega arith
flag seen f a (suc zero) h = omega (arith, f (a * 3), f (a * 3 + 1), f (a * 3 + 2))
flag seen f a (suc (suc zero)) h = omega (arith, f (a * 3), f (a * 3 + 1), f (a * 3 + 2))
flag seen f a (suc (suc (suc l))) h = absurd (omega arith)

-- the mark of a pair in range is its bit
pub its-bit : (marks : List ℕ) (a l : ℕ) → a < addresses → l < levels → is_marked marks a l ≡ eqb (get_or marks a 0 / 2 ^ l % 2) 1
its-bit marks a l h k = rw (lt-ltb a addresses h, lt-ltb l levels k) refl

module _ (mask seen : List ℕ) (s : Found pairs (next_codes mask) seen) where
  -- of a pair with a level, flagged
  at_pair : (a l : ℕ) → l < levels → get_or seen (a * levels + l) 0 ≡ 1 → Reached mask (pair a l)
  at_pair a l h e = subst (Reached mask) (pair-rank (pair a l) h) (code-reached mask (a * levels + l) (s.sound (a * levels + l) e))

  -- a reached pair is flagged
  flagged : (p : Pair) → Reached mask p → (rank p < pairs) × (get_or seen (rank p) 0 ≡ 1)
  flagged p r = s.full (rank p) (reached-code mask p r).1

  marked : (marks : List ℕ) → Packed seen marks → Marked mask marks
  marked marks p =
      record {
        size = p.size;
        rest = λ a h. omega (arith, p.byte a h, s.flags (a * 3), s.flags (a * 3 + 1), s.flags (a * 3 + 2));
        sound = λ a l h k e. at_pair a l k (sym (told a l h k) ∙ eqb-true (get_or marks a 0 / 2 ^ l % 2) 1 (sym (its-bit marks a l h k) ∙ e));
        full = λ a l h k r. its-bit marks a l h k ∙ eq-eqb (get_or marks a 0 / 2 ^ l % 2) 1 (told a l h k ∙ (flagged (pair a l) r).1);
      }
    where
      told : (a l : ℕ) → a < addresses → l < levels → get_or marks a 0 / 2 ^ l % 2 ≡ get_or seen (a * levels + l) 0
      told a l h k = ap (λ (n : ℕ). n / 2 ^ l % 2) (p.byte a h) ∙ flag seen s.flags a l k

  -- the lowest of them that is forbidden
  module _ (m : Named) (n : Names (fault_at mask) seen m.code m.fault) where
    -- a reached pair that is forbidden is no lower than the named one
    not_lower : (p : Pair) → Reached mask p → (fault mask p ≡ 0 → ⊥) → m.code ≤ rank p
    not_lower p r z = n.lowest (rank p) (flagged p r).1 (λ y. z (sym (ap (fault mask) (pair-rank p (reached-level mask p r))) ∙ y))

    pub lowest : Lowest mask m.fault (m.code / levels) (m.code % levels)
    lowest =
        record {
          reached = code-reached mask m.code (s.sound m.code n.found);
          forbidden = n.forbidden;
          not-zero = n.not-zero;
          lowest = λ p r z. subst (λ (k : ℕ). k ≤ rank p) (sym (rank-pair m.code)) (not_lower p r z);
        }

  -- none of them is
  pub safe : Free (fault_at mask) seen → Safe mask
  safe f p r = sym (ap (fault mask) (pair-rank p (reached-level mask p r))) ∙ f (rank p) (flagged p r).1

  pub answered : (m : Option Named) → NamesOf mask seen m → (old marks : List ℕ) → sized mask ≡ true → length old ≡ marks_size → Packed seen marks
      → Answers mask old marks (Ok (verdict_of m))
  answered None n old marks e f p = (record { mask_size = e; marks-size = f; marked = marked marks p }, safe n)
  answered (Some m) n old marks e f p = (record { mask_size = e; marks-size = f; marked = marked marks p }, lowest m n)

-- ---- the only answer
-- a bit that is 1 in both or in neither
same_bit : (x y : ℕ) → (eqb (x % 2) 1 ≡ true → eqb (y % 2) 1 ≡ true) → (eqb (y % 2) 1 ≡ true → eqb (x % 2) 1 ≡ true) → x % 2 ≡ y % 2
same_bit x y f g = go (eqb (x % 2) 1) (eqb (y % 2) 1) (eqb-true (x % 2) 1) (eqb-false (x % 2) 1) (eqb-true (y % 2) 1) (eqb-false (y % 2) 1) f g
  where
    go : (s t : Bool) → (s ≡ true → x % 2 ≡ 1) → (s ≡ false → x % 2 ≡ 1 → ⊥) → (t ≡ true → y % 2 ≡ 1) → (t ≡ false → y % 2 ≡ 1 → ⊥)
        → (s ≡ true → t ≡ true) → (t ≡ true → s ≡ true) → x % 2 ≡ y % 2
    go true t a b c d f g = a refl ∙ sym (c (f refl))
    go false true a b c d f g = a (g refl) ∙ sym (c refl)
    go false false a b c d f g = neither (x % 2) (y % 2) (b refl) (d refl) (omega arith) (omega arith)
      where
        neither : (x y : ℕ) → (x ≡ 1 → ⊥) → (y ≡ 1 → ⊥) → x < 2 → y < 2 → x ≡ y
        neither x y m n h k = omega arith

of-bits : (x : ℕ) → x < 8 → x ≡ x / 2 ^ 0 % 2 + x / 2 ^ 1 % 2 * 2 + x / 2 ^ 2 % 2 * 4
of-bits x h = omega arith

-- marks of the same pairs
pub same-marks : (mask new other : List ℕ) → Marked mask new → Marked mask other → new ≡ other
same-marks mask new other m n = ext_get_or 0 new other (m.size ∙ sym n.size) (λ a h. byte a (omega (arith, m.size)))
  where
    bit : (a l : ℕ) → a < addresses → l < levels → get_or new a 0 / 2 ^ l % 2 ≡ get_or other a 0 / 2 ^ l % 2
    bit a l h k =
        same_bit (get_or new a 0 / 2 ^ l) (get_or other a 0 / 2 ^ l)
        (λ e. sym (its-bit other a l h k) ∙ n.full a l h k (m.sound a l h k (its-bit new a l h k ∙ e)))
        (λ e. sym (its-bit new a l h k) ∙ m.full a l h k (n.sound a l h k (its-bit other a l h k ∙ e)))

    byte : (a : ℕ) → a < addresses → get_or new a 0 ≡ get_or other a 0
    byte a h =
        of-bits (get_or new a 0) (m.rest a h)
        ∙ rw (bit a 0 h (omega arith), bit a 1 h (omega arith), bit a 2 h (omega arith)) refl
        ∙ sym (of-bits (get_or other a 0) (n.rest a h))

pub same-pair : (mask : List ℕ) (f a l g b m : ℕ) → Lowest mask f a l → Lowest mask g b m → (a ≡ b) × (l ≡ m)
same-pair mask f a l g b m v w =
    let h : l < levels = reached-level mask (pair a l) v.reached in
    let k : m < levels = reached-level mask (pair b m) w.reached in
    let below = v.lowest (pair b m) w.reached (λ z. w.not-zero (sym w.forbidden ∙ z)) in
    let above = w.lowest (pair a l) v.reached (λ z. v.not-zero (sym v.forbidden ∙ z)) in
    (omega arith, omega arith)

same-lowest : (mask : List ℕ) (f a l g b m : ℕ) → Lowest mask f a l → Lowest mask g b m → Failed f a l ≡ Failed g b m
same-lowest mask f a l g b m v w =
    let e = same-pair mask f a l g b m v w in
    let r : f ≡ g = sym v.forbidden ∙ rw (e.0, e.1) w.forbidden in
    rw (e.0, e.1, r) refl

-- what a mask and marks of the right lengths are answered, by what is reached
module _ (mask old new : List ℕ) (m : sized mask ≡ true) (o : length old ≡ marks_size) where
  pub not-refused : (r : Refusal) → Refused mask old r → ⊥
  not-refused R.Mask n = n m
  not-refused R.Buffer n = n.1 o
  not-refused _ n = n

  pub answer-passed : (v : Result Verdict Refusal) → Safe mask → Answers mask old new v → v ≡ Ok Passed
  answer-passed (Ok Passed) s w = refl
  answer-passed (Ok (Failed f a l)) s w = absurd (w.1.not-zero (sym w.1.forbidden ∙ s (pair a l) w.1.reached))
  answer-passed (Err r) s w = absurd (not-refused r w.0)

  pub answer-failed : (f a l : ℕ) (v : Result Verdict Refusal) → Lowest mask f a l → Answers mask old new v → v ≡ Ok (Failed f a l)
  answer-failed f a l (Ok Passed) s w = absurd (s.not-zero (sym s.forbidden ∙ w.1 (pair a l) s.reached))
  answer-failed f a l (Ok (Failed g b n)) s w = ap Ok (same-lowest mask g b n f a l w.1 s)
  answer-failed f a l (Err r) s w = absurd (not-refused r w.0)

-- a refusal excludes each other one
same-refusal : (mask old : List ℕ) (r q : Refusal) → Refused mask old r → Refused mask old q → r ≡ q
same-refusal mask old R.Mask R.Mask x y = refl
same-refusal mask old R.Mask R.Buffer x y = absurd (x y.0)
same-refusal mask old R.Buffer R.Mask x y = absurd (y x.0)
same-refusal mask old R.Buffer R.Buffer x y = refl
same-refusal mask old R.Mask _ x y = absurd y
same-refusal mask old R.Buffer _ x y = absurd y
same-refusal mask old _ q x y = absurd x

-- the marks of an answer that is not refused are written
pub written : (mask old new : List ℕ) (v : Verdict) → Answers mask old new (Ok v) → Written mask old new
written mask old new Passed w = w.0
written mask old new (Failed f a l) w = w.0

pub answers-determine : AnswersDetermine
answers-determine mask old new other v w a b = go v w a b
  where
    go : (v w : Result Verdict Refusal) → Answers mask old new v → Answers mask old other w → (v ≡ w) × (new ≡ other)
    go (Ok Passed) (Ok w) a b =
        (sym (answer-passed mask old other a.0.mask_size a.0.marks-size (Ok w) a.1 b), same-marks mask new other a.0.marked (written mask old other w b).marked)
    go (Ok (Failed f c l)) (Ok w) a b =
        (sym (answer-failed mask old other a.0.mask_size a.0.marks-size f c l (Ok w) a.1 b), same-marks mask new other a.0.marked (written mask old other w b).marked)
    go (Ok v) (Err r) a b = let w = written mask old new v a in absurd (not-refused mask old other w.mask_size w.marks-size r b.0)
    go (Err r) (Ok w) a b = let v = written mask old other w b in absurd (not-refused mask old new v.mask_size v.marks-size r a.0)
    go (Err r) (Err q) a b = (ap Err (same-refusal mask old r q a.0 b.0), a.1 ∙ sym b.1)
