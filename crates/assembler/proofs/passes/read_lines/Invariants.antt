use mathlib.Core.Path.{◌≡◌}
use Rattle.std.specs.Prelude.{Ok}
use Rattle.assembler.specs.Passing.{Collected}
use Rattle.assembler.proofs.Collecting.{Reading}
use Rattle.assembler.specs.Places.{coming}
use Rattle.assembler.proofs.Turning.{Turn}
use Rattle.assembler.proofs.passes.read_lines.Given as goal

abbrev pub invariant-loop-place : goal.invariant-loop-place
invariant-loop-place l =
    (l.place-iterator.text.now ≡ l.text)
    × Turn (λ at number. Reading l.text l.starts at number l.count) (Collected l.text l.starts (Ok l.count)) (coming l.place-iterator.text.now l.place-iterator.last)
