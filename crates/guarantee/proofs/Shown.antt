-- Under a mask that the checker passed, every report of every list of inputs shows fault 0 and a marked pair: each is the report of a machine
-- that keeps what Kept.antt says, from a machine before its first power-on on. Assumes nothing.
use Prim.Native.Nat.{ℕ, zero, suc, ◌+◌, ◌*◌, ◌/◌, ◌%◌, ◌<◌}
use native.Mathlib.Nat.{not-suc-le-zero}
use native.Mathlib.Omega.{arith}
use mathlib.Core.Path.{◌≡◌, refl, sym, ap, subst, ◌∙◌}
use mathlib.Core.Bool.{true}
use mathlib.Core.List.{List, [], ◌∷◌, ◌++◌, append_assoc}
use lib.ListN.{length, take, drop, length-append}
use lib.Seq.{take_at, drop_at, drop-drop}
use borrow.Author.Tests.{eq-eqb}
use Rattle.rom.specs.Fetching.{Bytes}
use Rattle.machine.specs.Power.{blank}
use Rattle.machine.specs.Report.{reported}
use Rattle.machine.specs.Events.{Input}
use Rattle.machine.specs.declared.Machine.{Machine}
use Rattle.machine.proofs.Reports.{report-length}
use Rattle.script.specs.Check.{checked}
use Rattle.script.specs.Format.{inputs}
use Rattle.script.specs.Reports.{next, reports, reports_of, fronted, Applied, applied}
use Rattle.reach.proofs.Chains.{reached-start}
use Rattle.checker.specs.Verdicts.{is_marked, Marked, Safe}
use Rattle.cpu.proofs.Leaves.{standing}
use Rattle.guarantee.specs.Reports.{Shows, ReportsShow}
use Rattle.guarantee.proofs.Kept.{Keeps, start-kept, ReachedAt, safe-confines, kept-marked}
use Rattle.guarantee.proofs.Property3.{input-kept}

module _ (mask marks : List ℕ) (bytes : Bytes mask) (safe : Safe mask) (mark : Marked mask marks) where
  -- a machine that keeps it, in its report
  shows : (m : Machine) → Keeps (ReachedAt mask) m.cpu → Shows marks (reported m)
  shows m k =
      record {
        no-fault = k.no-fault;
        marked = subst (λ (a : ℕ). is_marked marks a m.cpu.interrupts.level ≡ true) (sym (together m.cpu.control.pc.0))
            (kept-marked mask marks bytes mark (standing m.cpu) k);
      }
    where
      together : (a : ℕ) → a % 256 + 256 * (a / 256) ≡ a
      together a = omega arith

  blank-kept : Keeps (ReachedAt mask) blank.cpu
  unfolding blank
  blank-kept = start-kept (ReachedAt mask) reached-start

  next-kept : (i : Input) (m : Machine) → Keeps (ReachedAt mask) m.cpu → Keeps (ReachedAt mask) (next mask i m).cpu
  next-kept i = input-kept (ReachedAt mask) reached-start mask i (λ v e. safe-confines mask safe)

  -- the reports of a list of inputs, whatever stands after them
  each : (rest : List ℕ) (is : List Input) (m : Machine) → Keeps (ReachedAt mask) m.cpu → (j : ℕ) → 48 * j < length (reports mask is m)
      → Shows marks (take 48 (drop (48 * j) (reports mask is m ++ rest)))
  unfolding reports
  each rest [] m k j h = absurd (not-suc-le-zero h)
  each rest (i ∷ is) m k zero h =
      let n = next mask i m in
      subst (λ (s : List ℕ). Shows marks (take 48 s)) (sym (append_assoc (reported n) (reports mask is n) rest))
      (subst (Shows marks) (sym (take_at (reported n) (reports mask is n ++ rest) 48 (report-length n))) (shows n (next-kept i m k)))
  each rest (i ∷ is) m k (suc j) h =
      let n = next mask i m in
      let l = report-length n in
      subst (λ (s : List ℕ). Shows marks (take 48 (drop (48 * suc j) s))) (sym (append_assoc (reported n) (reports mask is n) rest))
      (subst (λ (s : List ℕ). Shows marks (take 48 s)) (sym (past (reported n) (reports mask is n ++ rest) j l))
      (each rest is n (next-kept i m k) j (left (length (reports mask is n)) j (omega (arith, length-append (reported n) (reports mask is n), l, h)))))
    where
      left : (x j : ℕ) → 48 * suc j < 48 + x → 48 * j < x
      left x j h = omega arith

      one_more : (j : ℕ) → 48 * suc j ≡ 48 + 48 * j
      one_more j = omega arith

      past : (p q : List ℕ) (j : ℕ) → length p ≡ 48 → drop (48 * suc j) (p ++ q) ≡ drop (48 * j) q
      past p q j e = ap (λ (n : ℕ). drop n (p ++ q)) (one_more j) ∙ sym (drop-drop (48 * j) 48 (p ++ q)) ∙ ap (drop (48 * j)) (drop_at p q 48 e)

-- what a script that is not refused leaves in the buffer
left_by : (mask script before : List ℕ) → (applied mask script before).answer.number ≡ 0 → (applied mask script before).bytes ≡ fronted (reports_of mask script) before
unfolding applied
left_by mask script before e = rw (eq-eqb (checked mask script (length before)).number 0 e) refl

pub reports-show : ReportsShow
reports-show mask old marks script before after answer bytes passed e z j h =
    let ran : after ≡ fronted (reports_of mask script) before =
    ap (λ (a : Applied). a.bytes) e ∙ left_by mask script before (sym (ap (λ (a : Applied). a.answer.number) e) ∙ z) in
    subst (λ (s : List ℕ). Shows marks (take 48 (drop (48 * j) s))) (sym ran)
    (each mask marks bytes passed.1 passed.0.marked (drop (length (reports_of mask script)) before) (inputs script) blank
    (blank-kept mask marks bytes passed.1 passed.0.marked) j h)
