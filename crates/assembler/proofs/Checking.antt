-- The second pass, on plain values: no line so far has a label that is missing, not above its ORG or defined again. Assumes nothing.
use Prim.Native.Nat.{ℕ, ◌+◌, ◌<◌}
use mathlib.Core.Path.{◌≡◌, refl, ap, ◌∙◌}
use mathlib.Core.Bool.{Bool, true, false, ◌&&◌, ◌||◌}
use mathlib.Core.List.{List}
use lib.ListN.{length}
use Rattle.isa.specs.Choice.{pick}
use Rattle.operand.specs.Words.{among}
use Rattle.operand.specs.Read.{names_at, tokens_at, word_at}
use Rattle.assembler.specs.Statement.{Statement, statement}
use Rattle.assembler.specs.Program.{Above, end, first, mislabelled, next, program, start}
use Rattle.assembler.specs.Read.{Parts, Shows}
use Rattle.assembler.specs.Passing.{Settled, line_end}
use Rattle.assembler.proofs.Splitting.{program_at}
use Rattle.assembler.proofs.Walking.{Walk, shows-mislabelled, walk-begin, walk-clear, walk-found, walk-names, walk-on, walk-past}
use Rattle.assembler.proofs.Walking.{walk-readable}

abbrev pub faulty : List ℕ → Above → Statement → Bool
faulty text = mislabelled (end start (program text)).names

pub record Checking (text : List ℕ) (at number count : ℕ) : Type 0 where
  pub s : Above
  pub walk : Walk text at number count s
  pub found : first (faulty text) start 1 (program text) ≡ first (faulty text) s number (program_at text at)

pub checks : (text starts none : List ℕ) (all : ℕ) → Settled text starts none all → Checking text 0 1 0
checks text starts none all settled = record { s = start; walk = walk-begin text settled.read; found = refl }

module _ {text starts none : List ℕ} {all : ℕ} (settled : Settled text starts none all) {at number count : ℕ} (g : Checking text at number count)
    {r : Parts}
    (x : Shows text (names_at text starts count) (names_at text starts all) none (statement (tokens_at text at)) r) where
  abbrev defined : Bool
  defined = r.labelled && among (names_at text starts count) (word_at text r.label)

  fault-is : faulty text g.s (statement (tokens_at text at)) ≡ (r.missing || defined)
  fault-is = ap (λ (ns : List (List ℕ)). mislabelled ns g.s (statement (tokens_at text at))) settled.names
      ∙ shows-mislabelled x (walk-readable g.walk x) g.s (walk-names g.walk settled)

  pub is-wrong : (r.missing || defined) ≡ true → number ≡ first (faulty text) start 1 (program text)
  is-wrong e = walk-found g.walk (faulty text) g.found (fault-is ∙ e)

  module _ (right : (r.missing || defined) ≡ false) where
    no-fault : faulty text g.s (statement (tokens_at text at)) ≡ false
    no-fault = fault-is ∙ right

    pub checked : line_end text at ≡ length text → 0 ≡ first (faulty text) start 1 (program text)
    checked = walk-clear g.walk (faulty text) g.found no-fault

    pub check-on : (count' : ℕ) → count' ≡ pick r.labelled (count + 1) count → line_end text at < length text
        → Checking text (line_end text at + 1) (number + 1) count'
    check-on count' c h = record {
      s = next g.s (statement (tokens_at text at));
      walk = walk-on g.walk x count' c h;
      found = walk-past g.walk (faulty text) g.found no-fault h;
    }
