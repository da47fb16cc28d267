use Rattle.std.proofs.Common.{◌≡◌}
use Rattle.std.specs.Iterator.Adapters.{enumerate_source, enumerate_count}
use Rattle.std.specs.Slice.Iter.{chunks_exact_rest, chunks_exact_size}
use Rattle.glass.proofs.Turns.{Ahead}
use Rattle.glass.proofs.read.walk.Given as goal

-- the digits that are left are cut in twos
abbrev pub invariant-loop-k : goal.invariant-loop-k
invariant-loop-k l =
    Ahead l.picture (chunks_exact_rest (enumerate_source l.k-iterator)) (enumerate_count l.k-iterator) l.front
    × (chunks_exact_size (enumerate_source l.k-iterator) ≡ 2)
