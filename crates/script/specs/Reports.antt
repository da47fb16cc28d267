-- What a script makes: "Each record yields a report". Assumes nothing.
use Rattle.std.specs.Prelude.{ℕ, List, [], ◌∷◌, ◌++◌, ltb, eqb, length, drop}
use Rattle.isa.specs.Choice.{pick}
use Rattle.machine.specs.Power.{blank}
use Rattle.machine.specs.Events.{Input, answer_to}
use Rattle.machine.specs.Report.{reported}
use Rattle.machine.specs.declared.Machine.{Machine}
use Rattle.machine.specs.declared.Answer.{Answer}
use Rattle.records.specs.Records.{end_at}
use Rattle.script.specs.Format.{input_at, inputs}
use Rattle.script.specs.Check.{format_at, checked, Checked}
use Rattle.script.specs.declared.Progress.{Progress}

-- the machine after an input, which is "as handed in" where the input is refused
abbrev pub next : List ℕ → Input → Machine → Machine
next mask i m = (answer_to mask i m).machine

-- the reports of a list of inputs, each on the machine that the one before left
unfoldable pub reports : List ℕ → List Input → Machine → List ℕ
reports mask [] m = []
reports mask (i ∷ is) m = reported (next mask i m) ++ reports mask is (next mask i m)

abbrev pub reports_of : List ℕ → List ℕ → List ℕ
reports_of mask s = reports mask (inputs s) blank

-- a buffer with reports at its front: "A longer report buffer keeps its bytes after the last report"
abbrev pub fronted : List ℕ → List ℕ → List ℕ
fronted r out = r ++ drop (length r) out

-- what applying a script leaves: the check's answer, and the lent bytes. Of a refused script "Nothing is written"
pub record Applied : Type 0 where
  pub answer : Checked
  pub bytes : List ℕ

abbrev pub leaving : Checked → List ℕ → Applied
leaving k out = record { answer = k; bytes = out }

unfoldable pub applied : List ℕ → List ℕ → List ℕ → Applied
applied mask s out =
    leaving (checked mask s (length out))
    (pick (eqb (checked mask s (length out)).number 0) (fronted (reports_of mask s) out) out)

abbrev pub progress : ℕ → ℕ → Machine → Progress
progress refusal at m = record { refusal = refusal; at = at; machine = m }

-- one record alone: the machine's answer to it, and the offset of the record that follows
abbrev pub passed : List ℕ → List ℕ → ℕ → Machine → Progress
passed mask s at m =
    let a : Answer = answer_to mask (input_at s at) m in
    progress a.refusal (end_at s at) a.machine

-- a record that is cut off, has a wrong length or is of no known kind has its number, 6 or 7, and nothing moves; at the end nothing moves
unfoldable pub stepped : List ℕ → List ℕ → ℕ → Machine → Progress
stepped mask s at m =
    pick (ltb at (length s))
    (pick (eqb (format_at s at) 0) (passed mask s at m) (progress (format_at s at) at m))
    (progress 0 at m)
