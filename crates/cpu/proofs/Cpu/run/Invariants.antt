use Rattle.std.proofs.Common.{◌≡◌, ◌-◌}
use Rattle.datapath.specs.Memory.{tallied}
use Rattle.cpu.specs.State.{state}
use Rattle.cpu.specs.Gap.{strays_in}
use Rattle.cpu.specs.Run.{ran}
use Rattle.cpu.proofs.Cpu.run.Given as goal

-- the steps left end where all of them end
abbrev pub invariant-loop : goal.invariant-loop
invariant-loop l =
    let left = l.steps - l.counter in
    (ran l.mask left (state l.current l.memory) ≡ ran l.mask l.steps (state l.initial.current l.initial.memory))
    × (tallied l.gap (strays_in l.mask left (state l.current l.memory)) ≡ tallied l.initial.gap (strays_in l.mask l.steps (state l.initial.current l.initial.memory)))
    × (l.current.status.halted ≡ 0) × (l.current.status.fault ≡ 0)
