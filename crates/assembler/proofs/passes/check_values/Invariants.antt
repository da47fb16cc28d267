use mathlib.Core.Path.{◌≡◌}
use Rattle.assembler.specs.Program.{end, first, misfit, program, start}
use Rattle.assembler.proofs.Settling.{Valuing}
use Rattle.assembler.specs.Places.{coming}
use Rattle.assembler.proofs.Turning.{Turn}
use Rattle.assembler.proofs.passes.check_values.Given as goal

abbrev pub invariant-loop-place : goal.invariant-loop-place
invariant-loop-place l =
    (l.place-iterator.text.now ≡ l.labels.text.now)
    × Turn (λ at number. Valuing l.labels.text.now at number l.count l.address)
    (0 ≡ first (misfit (end start (program l.labels.text.now))) start 1 (program l.labels.text.now)) (coming l.place-iterator.text.now l.place-iterator.last)
