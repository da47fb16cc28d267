use mathlib.Core.Path.{◌≡◌}
use lib.ListN.{length}
use Rattle.assembler.specs.Passing.{Placed}
use Rattle.assembler.specs.Program.{first, misplaced, program, start}
use Rattle.assembler.proofs.Placing.{Placing}
use Rattle.assembler.specs.Places.{coming}
use Rattle.assembler.proofs.Turning.{Turn}
use Rattle.assembler.proofs.passes.place_lines.Given as goal

abbrev pub invariant-loop-place : goal.invariant-loop-place
invariant-loop-place l =
    (l.place-iterator.text.now ≡ l.text)
    × Turn (λ at number. Placing l.text l.starts l.addresses l.used (length l.starts) at number l.count l.address)
    ((0 ≡ first misplaced start 1 (program l.text)) × Placed l.text l.starts l.addresses (length l.starts)) (coming l.place-iterator.text.now l.place-iterator.last)
    × (length l.addresses ≡ length l.initial.addresses)
