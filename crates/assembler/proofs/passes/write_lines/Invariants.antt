use mathlib.Core.Path.{◌≡◌}
use lib.ListN.{length}
use Rattle.assembler.specs.Program.{end, program, put, start}
use Rattle.assembler.proofs.Settling.{Writing}
use Rattle.assembler.specs.Places.{coming}
use Rattle.assembler.proofs.Turning.{Turn}
use Rattle.assembler.proofs.passes.write_lines.Given as goal

abbrev pub invariant-loop-place : goal.invariant-loop-place
invariant-loop-place l =
    let text = l.labels.text.now in
    let result = put (end start (program text)) start (program text) l.initial.out in
    (l.place-iterator.text.now ≡ text)
    × Turn (λ at number. Writing text l.out at number l.count l.address result) (l.out ≡ result) (coming l.place-iterator.text.now l.place-iterator.last)
    × (length l.out ≡ length l.initial.out)
