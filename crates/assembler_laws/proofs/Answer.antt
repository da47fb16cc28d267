-- The answer to two lines, ORG with an address and an instruction that fits there: none of the tests finds a line, and the instruction's bytes are
-- put at the address. Assumes nothing.
use Prim.Native.Nat.{ℕ, ◌+◌, ◌-◌, ◌<◌, ◌≤◌}
use native.Mathlib.Omega.{arith}
use mathlib.Core.Path.{◌≡◌, refl, sym, ap, ap₂, subst, ◌∙◌}
use mathlib.Core.Bool.{Bool, true, false, not}
use mathlib.Core.List.{List, [], ◌∷◌}
use mathlib.Core.Option.{none}
use lib.Dec.{leb, ltb}
use lib.ListN.{replicate}
use lib.Seq.{sets}
use borrow.Author.Tests.{lt-ltb, le-ltb, le-leb}
use Rattle.isa.specs.Code.{bytes_of}
use Rattle.isa.specs.declared.Instruction.{Instruction}
use Rattle.isa.proofs.Exact.{and_both}
use Rattle.rom.specs.Fetching.{moved_by}
use Rattle.operand.specs.Operand.{Term, plus, minus, missing}
use Rattle.assembler.specs.Forms.{size, field, reaches, rom_size}
use Rattle.assembler.specs.Statement.{Statement, org, mnemonic}
use Rattle.assembler.specs.Program.{Above, start, next, end, address_of, span, first, unread, mislabelled, within, meets, misplaced, fitting, misfit}
use Rattle.assembler.specs.Program.{put, Answer, written, judged, answer_to}
use Rattle.assembler_laws.proofs.Spoken.{term}

nothing-found : (bad : Above → Statement → Bool) (l m : Statement) → bad start l ≡ false → bad (next start l) m ≡ false
    → first bad start 1 (l ∷ m ∷ []) ≡ 0
nothing-found bad l m e f = rw (e, f) refl

not-refused : (n k : ℕ) (x : Answer) → k ≡ 0 → judged n k x ≡ x
not-refused n k x e = rw e refl

nowhere : (m : List ℕ) → meets [] m ≡ false
nowhere [] = refl
nowhere (a ∷ m) = nowhere m

-- a value below n
value-within : (n v x y : ℕ) → x ≡ v → y ≡ 0 → v < n → within n x y ≡ true
value-within n v x y e f h = and_both (leb y x) (ltb (x - y) n) (le-leb y x (omega arith)) (lt-ltb (x - y) n (omega arith))

-- what stands above the second line
abbrev after-org : ℕ → Above
after-org a = record { names = []; addresses = []; at = a; written = [] }

above-second : (a : ℕ) → next start (org none (term a ∷ [])) ≡ after-org a
unfolding next
above-second a =
    let p : address_of start (org none (term a ∷ [])) + 0 ≡ a = omega arith in
    λ k. record { names = []; addresses = []; at = p k; written = [] }

-- its address
second_at : (a : ℕ) → (next start (org none (term a ∷ []))).at ≡ a
second_at a = ap (λ (s : Above). s.at) (above-second a)

module _ (a : ℕ) (f : ℕ → Instruction) (ts : List Term) (v : ℕ) (room : a < rom_size) (fits : a + size f ≤ rom_size) (low : v < field f)
    (reach : reaches f (moved_by (size f) a) v ≡ true) (added : plus [] [] ts ≡ v) (taken : minus [] [] ts ≡ 0) (known : missing [] ts ≡ false) where
  abbrev first-line : Statement
  first-line = org none (term a ∷ [])

  abbrev second-line : Statement
  second-line = mnemonic none f ts

  abbrev both : List Statement
  both = first-line ∷ second-line ∷ []

  abbrev whole : Above
  whole = end start both

  labelled : first (mislabelled whole.names) start 1 both ≡ 0
  unfolding next
  labelled = nothing-found (mislabelled []) first-line second-line refl (rw known refl)

  placed : first misplaced start 1 both ≡ 0
  placed =
      nothing-found misplaced first-line second-line (ap not (value-within rom_size a (a + 0) 0 (omega arith) refl room))
      (subst (λ (s : Above). misplaced s second-line ≡ false) (sym (above-second a)) (rw (le-ltb rom_size (a + size f) fits) (nowhere (span a (size f)))))

  fits-there : (at : ℕ) → at ≡ a → fitting at f (plus [] [] ts) (minus [] [] ts) ≡ true
  fits-there at e =
      let d : plus [] [] ts - minus [] [] ts ≡ v = omega arith in
      and_both (within (field f) (plus [] [] ts) (minus [] [] ts)) (reaches f (moved_by (size f) at) (plus [] [] ts - minus [] [] ts))
      (value-within (field f) v (plus [] [] ts) (minus [] [] ts) added taken low) (rw (e, d) reach)

  fitted : first (misfit whole) start 1 both ≡ 0
  unfolding next
  fitted = nothing-found (misfit whole) first-line second-line refl (ap not (fits-there (next start first-line).at (second_at a)))

  imaged : (out : List ℕ) → put whole start both out ≡ sets out a (bytes_of (f v))
  unfolding next
  imaged out =
      let d : plus [] [] ts - minus [] [] ts ≡ v = omega arith in
      ap₂ (λ (n m : ℕ). sets out n (bytes_of (f m))) (second_at a) d

  pub answer : answer_to both ≡ written (sets (replicate rom_size 0x3e) a (bytes_of (f v)))
  answer =
      not-refused 12 (first unread start 1 both) _ refl
      ∙ not-refused 14 (first (mislabelled whole.names) start 1 both) _ labelled
      ∙ not-refused 13 (first misplaced start 1 both) _ placed
      ∙ not-refused 13 (first (misfit whole) start 1 both) _ fitted
      ∙ ap written (imaged (replicate rom_size 0x3e))
