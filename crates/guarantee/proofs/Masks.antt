-- Document 01's proved table holds. Of its three masks: what is reached, and which of it is the lowest forbidden pair, leave one answer. Assumes
-- nothing.
use Prim.Native.Nat.{ℕ, zero, suc, ◌+◌, ◌/◌, ◌%◌, ◌<◌, ◌≤◌, ◌^◌}
use mathlib.Core.Path.{◌≡◌, refl, sym, ap, subst, ◌∙◌}
use mathlib.Core.Bool.{true}
use mathlib.Core.List.{List, [], ◌∷◌}
use native.Mathlib.Omega.{arith}
use native.Mathlib.Decide.{dec_le}
use borrow.Author.Tests.{eqb-true}
use lib.Dec.{eqb}
use lib.ListN.{length, get_or, replicate, length-replicate, get_or-replicate}
use Rattle.std.specs.Prelude.{Some, None}
use Rattle.isa.specs.Code.{addresses}
use Rattle.isa.specs.Reading.{decoded, opcodes}
use Rattle.isa.specs.Timing.{columns_of, columns_at}
use Rattle.isa.specs.Views.{view}
use Rattle.isa.specs.declared.Instruction.TheVariants as I
use Rattle.rom.specs.Fetching.{sized, byte_at, read_at, length_at}
use Rattle.rom.proofs.Fetching.{full, read-bytes, length-bytes}
use Rattle.machine.specs.Table.{nops}
use Rattle.machine.proofs.Table.{table}
use Rattle.reach.specs.Chains.{Member, here, there}
use Rattle.reach.proofs.Chains.{reached-start, reached-next, reached-all}
use Rattle.checker.specs.Marks.{Pair, pair, flow_of, flow_at, fault, successors, Reached}
use Rattle.checker.specs.Verdicts.{marks_size, Answers, Marked, rank, Safe, Lowest}
use Rattle.checker.specs.declared.check.Verdict.{Verdict}
use Rattle.checker.specs.declared.check.Verdict.TheVariants.{Passed, Failed}
use Rattle.std.specs.Prelude.{Result, Ok}
use Rattle.refusals.specs.declared.Refusal.{Refusal}
use Rattle.checker.proofs.Answer.{its-bit, same-marks, answer-passed, answer-failed}
use Rattle.guarantee.specs.Table.{ProvedTable}

-- ---- all 3E
nop-at : (a : ℕ) → byte_at nops a ≡ 0x3e
unfolding nops
nop-at a = get_or-replicate addresses (a % addresses) 0x3e 0 (below a)
  where
    below : (a : ℕ) → a % addresses < addresses
    below a = omega arith

-- a NOP hands on to the next address in its level, and gives no fault
module _ (mask : List ℕ) (a l : ℕ) (e : byte_at mask a ≡ 0x3e) where
  nop-read : read_at mask a ≡ Some I.Nop
  unfolding decoded opcodes
  nop-read = read-bytes mask a ∙ rw e refl

  nop-length : length_at mask a ≡ 1
  unfolding opcodes columns_of columns_at
  nop-length = length-bytes mask a ∙ rw e refl

  nop-next : successors mask (pair a l) ≡ pair ((a + 1) % addresses) l ∷ []
  unfolding successors fault flow_at flow_of view
  nop-next = rw (nop-read, nop-length) refl

  nop-fault : fault mask (pair a l) ≡ 0
  unfolding fault flow_at flow_of view
  nop-fault = rw nop-read refl

only : {q p : Pair} → Member q (p ∷ []) → q ≡ p
only (there m) = elim m [ ]
only here = refl

nops-reached : (a : ℕ) → a < addresses → Reached nops (pair a 0)
nops-reached zero h = reached-start
nops-reached (suc a) h =
    subst (λ (b : ℕ). Reached nops (pair b 0)) (on a h)
    (reached-next (nops-reached a (omega arith)) (rw (nop-next nops a 0 (nop-at a)) here))
  where
    on : (a : ℕ) → suc a < addresses → (a + 1) % addresses ≡ suc a
    on a h = omega arith

nops-main : (p : Pair) → Reached nops p → p.level ≡ 0
nops-main = reached-all (λ (p : Pair). p.level ≡ 0) refl step
  where
    step : (p q : Pair) → p.level ≡ 0 → Member q (successors nops p) → q.level ≡ 0
    step p q e m = ap (λ (x : Pair). x.level) (only (subst (λ (ps : List Pair). Member q ps) (nop-next nops p.address p.level (nop-at p.address)) m)) ∙ e

nops-full : sized nops ≡ true
unfolding nops
nops-full = full nops (length-replicate {A = ℕ} addresses 0x3e)

-- every mark 1 marks main at each address
one_at : (a : ℕ) → a < addresses → ◌≡◌ {A = ℕ} (get_or (replicate marks_size 1) a 0) 1
one_at a h = get_or-replicate marks_size a 1 0 h

ones : Marked nops (replicate marks_size 1)
ones =
    record {
      size = length-replicate {A = ℕ} marks_size 1;
      rest = λ a h. omega (arith, one_at a h);
      sound = λ a l h k e. main a l h k (subst (λ (b : ℕ). eqb (b / 2 ^ l % 2) 1 ≡ true) (one_at a h) (sym (its-bit (replicate marks_size 1) a l h k) ∙ e));
      full = λ a l h k r. its-bit (replicate marks_size 1) a l h k ∙ rw (nops-main (pair a l) r, one_at a h) refl;
    }
  where
    main : (a l : ℕ) → a < addresses → l < 3 → eqb (1 / 2 ^ l % 2) 1 ≡ true → Reached nops (pair a l)
    main a zero h k e = nops-reached a h
    main a (suc zero) h k e = absurd (omega (arith, eqb-true (1 / 2 % 2) 1 e))
    main a (suc (suc zero)) h k e = absurd (omega (arith, eqb-true (1 / 4 % 2) 1 e))
    main a (suc (suc (suc l))) h k e = absurd (omega arith)

nops-safe : Safe nops
nops-safe p r = nop-fault nops p.address p.level (nop-at p.address)

passes-3e : (old : List ℕ) → length old ≡ marks_size → Answers nops old (replicate marks_size 1) (Ok Passed)
passes-3e old l = (record { mask_size = nops-full; marks-size = l; marked = ones }, nops-safe)

pub every-3e : (old new : List ℕ) (v : Result Verdict Refusal) → length old ≡ marks_size → Answers nops old new v → (v ≡ Ok Passed) × (new ≡ replicate marks_size 1)
every-3e old new v l w =
    let e = answer-passed nops old new nops-full l v nops-safe w in
    (e, same-marks nops new (replicate marks_size 1) (subst (Answers nops old new) e w).0.marked ones)

-- ---- a mask that fails is answered with its lowest forbidden pair
first-unread : (mask : List ℕ) → byte_at mask 0 ≡ 0x40 → byte_at mask 1 ≡ 0x15 → read_at mask 0 ≡ None
unfolding decoded opcodes
first-unread mask e f = read-bytes mask 0 ∙ rw (e, f) refl

first-fault : (mask : List ℕ) → byte_at mask 0 ≡ 0x40 → byte_at mask 1 ≡ 0x15 → fault mask (pair 0 0) ≡ 1
unfolding fault flow_at
first-fault mask e f = rw (first-unread mask e f) refl

lowest-40-15 : (mask : List ℕ) → byte_at mask 0 ≡ 0x40 → byte_at mask 1 ≡ 0x15 → Lowest mask 1 0 0
lowest-40-15 mask e f = record { reached = reached-start; forbidden = first-fault mask e f; not-zero = λ z. omega arith; lowest = λ p r n. omega arith }

pub mask-40-15 : (mask old new : List ℕ) (v : Result Verdict Refusal) → sized mask ≡ true → length old ≡ marks_size → byte_at mask 0 ≡ 0x40 → byte_at mask 1 ≡ 0x15 → Answers mask old new v → v ≡ Ok (Failed 1 0 0)
mask-40-15 mask old new v m l e f =
    answer-failed mask old new m l 1 0 0 v (lowest-40-15 mask e f)

-- "F0 10 then 3E: fault 2 at 0, level 1": the subroutine at 010h runs on past FFFh to the CALL at 0
module _ (mask : List ℕ) (call : byte_at mask 0 ≡ 0xf0) (to : byte_at mask 1 ≡ 0x10) (rest : (a : ℕ) → 2 ≤ a → a < addresses → byte_at mask a ≡ 0x3e) where
  call-read : read_at mask 0 ≡ Some (I.Call (record { 0 = 0x010 }))
  unfolding decoded opcodes
  call-read = read-bytes mask 0 ∙ rw (call, to) refl

  call_length : length_at mask 0 ≡ 2
  unfolding opcodes columns_of columns_at
  call_length = length-bytes mask 0 ∙ rw call refl

  call_next : successors mask (pair 0 0) ≡ pair 0x010 1 ∷ pair 2 0 ∷ []
  unfolding successors fault flow_at flow_of view
  call_next = rw (call-read, call_length) refl

  call-main : fault mask (pair 0 0) ≡ 0
  unfolding fault flow_at flow_of view
  call-main = rw call-read refl

  call-inside : fault mask (pair 0 1) ≡ 2
  unfolding fault flow_at flow_of view
  call-inside = rw call-read refl

  inside : (n : ℕ) → 0x010 + n < addresses → Reached mask (pair (0x010 + n) 1)
  inside zero h = reached-next reached-start (rw call_next here)
  inside (suc n) h =
      subst (λ (b : ℕ). Reached mask (pair b 1)) (on n h)
      (reached-next (inside n (omega arith)) (rw (nop-next mask (0x010 + n) 1 (rest (0x010 + n) (omega arith) (omega arith))) here))
    where
      on : (n : ℕ) → 0x010 + suc n < addresses → (0x010 + n + 1) % addresses ≡ 0x010 + suc n
      on n h = omega arith

  at_zero : Reached mask (pair 0 1)
  at_zero = reached-next (inside 0xfef (omega arith)) (rw (nop-next mask 0xfff 1 (rest 0xfff (omega arith) (omega arith))) here)

  -- at rank 0 CALL stands in level 0
  lowest-one : (p : Pair) → (fault mask p ≡ 0 → ⊥) → rank (pair 0 1) ≤ rank p
  lowest-one p n = go (dec_le 1 (rank p))
    where
      go : Dec (1 ≤ rank p) → 1 ≤ rank p
      go (yes h) = h
      go (no h) = absurd (n (subst (λ (q : Pair). fault mask q ≡ 0) (λ k. record { address = first k; level = second k }) call-main))
        where
          first : 0 ≡ p.address
          first = omega arith

          second : 0 ≡ p.level
          second = omega arith

  lowest-f0-10 : Lowest mask 2 0 1
  lowest-f0-10 = record { reached = at_zero; forbidden = call-inside; not-zero = λ z. omega arith; lowest = λ p r n. lowest-one p n }

  pub mask-f0-10 : (old new : List ℕ) (v : Result Verdict Refusal) → sized mask ≡ true → length old ≡ marks_size → Answers mask old new v → v ≡ Ok (Failed 2 0 1)
  mask-f0-10 old new v m l = answer-failed mask old new m l 2 0 1 v lowest-f0-10

pub proved-table : ProvedTable
proved-table =
    record {
      machine = table;
      passes-3e = passes-3e;
      every-3e = every-3e;
      lowest-40-15 = lowest-40-15;
      mask-40-15 = mask-40-15;
      lowest-f0-10 = lowest-f0-10;
      mask-f0-10 = λ mask old new v m l e f g w. mask-f0-10 mask e f g old new v m l w;
    }
