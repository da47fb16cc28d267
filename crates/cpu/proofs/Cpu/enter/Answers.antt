-- `cpu::Cpu::enter` meets its contract: by the interrupt, one flag or the other is cleared. Assumes nothing.
use Rattle.std.proofs.Common.{refl, ap, ◌∙◌}
use Rattle.cpu.specs.Step.{entered, ticked}
use Rattle.cpu.proofs.Cpu.enter.Goals as goal
use Rattle.cpu.proofs.Cpu.enter.Goals.{in-Edge, in-Timer}

pub returns : goal.returns
unfolding entered
returns c =
    elim c.match-interrupt.branch [
      | in-Edge w ↦ c.tick.ensures ∙ ap (ticked 2) w.self-is ∙ rw w.in-Edge.is refl
      | in-Timer w ↦ c.tick.ensures ∙ ap (ticked 2) w.self-is ∙ rw w.in-Timer.is refl
    ]
