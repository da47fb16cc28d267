-- One record at a time: each step of an accepted script is a record that is well formed, and leads to a machine in range, whose report is not
-- refused. Assumes nothing.
use Prim.Native.Nat.{ℕ}
use mathlib.Core.Path.{◌≡◌, sym, ap, ap₂, subst, ◌∙◌}
use mathlib.Core.Bool.{true}
use mathlib.Core.List.{List, ◌++◌}
use Rattle.cpu.specs.Range.{valid}
use Rattle.rom.specs.Fetching.{Bytes}
use Rattle.machine.specs.Machine.{state_of}
use Rattle.machine.specs.Power.{blank}
use Rattle.machine.specs.Report.{Reporting, reported}
use Rattle.machine.specs.declared.Machine.{Machine}
use Rattle.machine.proofs.Lists.{input-valid}
use Rattle.records.specs.Records.{offsets_from}
use Rattle.script.specs.Format.{input_at}
use Rattle.script.specs.Check.{first, checked, format_at}
use Rattle.script.specs.Reports.{next, reports_of}
use Rattle.script.specs.declared.Progress.{Progress}
use Rattle.script.specs.Whole.{Printing, ended, going, RecordByRecord}
use Rattle.script.proofs.Checks.{accepted}
use Rattle.script.proofs.Accepts.{first-valid, good-here, good-after}
use Rattle.script.proofs.Rests.{rest, rest_all, rest_end, rest-next, stepped-in, report-good}

module _ (mask s : List ℕ) (b : Bytes mask) where
  from-here : {at : ℕ} {m : Machine} {bytes : List ℕ} → Printing mask s at m bytes → (first (format_at s) (offsets_from s at)).number ≡ 0
      → valid (state_of (next mask (input_at s at) m)) ≡ true → bytes ≡ rest mask s at m
  from-here {at} {m} (ended h) f v = sym (rest_end mask s at m h)
  from-here {at} {m} (going {more = more} p n buffer bytes h e l r k) f v =
      let q = e ∙ stepped-in mask s at m h (good-here (format_at s) s at h f) in
      let g = subst (λ (p : Progress). (first (format_at s) (offsets_from s p.at)).number ≡ 0) (sym q) (good-after (format_at s) s at h f) in
      let w = ap (λ (p : Progress). valid (state_of p.machine)) q ∙ v in
      ap₂ ◌++◌ (ap (λ (r : Reporting). r.bytes) (r ∙ report-good p.machine buffer l w))
      (from-here k g (input-valid mask b (input_at s p.at) p.machine w))
      ∙ ap (λ (p : Progress). reported p.machine ++ rest mask s p.at p.machine) q
      ∙ sym (rest-next mask s at m h)

  same-reports : (room : ℕ) (bytes : List ℕ) → (checked mask s room).number ≡ 0 → Printing mask s 0 blank bytes → bytes ≡ reports_of mask s
  same-reports room bytes e k = from-here k (accepted mask s room e).format (first-valid mask s room e) ∙ rest_all mask s

pub record-by-record : RecordByRecord
record-by-record = same-reports
