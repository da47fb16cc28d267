-- `cpu::Cpu::go_on` meets its contract: each interrupt is one of the definition's. Assumes nothing.
use Rattle.std.proofs.Common.{◌≡◌, ℕ, Option, Some, None, List, sym, refl, ap, ◌∙◌, arith}
use Rattle.cpu.specs.State.{State, state, on_cpu}
use Rattle.cpu.specs.Step.{cleared, entered, step, vector, vector_of}
use Rattle.cpu.specs.declared.Cpu.{Cpu}
use Rattle.cpu.specs.declared.step.Interrupt.{Interrupt}
use Rattle.cpu.specs.declared.step.Interrupt.TheVariants.{Edge, Timer}
use Rattle.cpu.proofs.Steps.{takes-edge, takes-timer, runs}
use Rattle.cpu.proofs.Strays.{interrupt-counts-none, instruction-counts}
use Rattle.cpu.proofs.Cpu.go_on.Goals as goal

taken : (mask : List ℕ) (s : State) (i : Interrupt) → s.cpu.status.halted ≡ 0 → s.cpu.status.fault ≡ 0 → vector (Some i) ≡ vector_of s.cpu
    → on_cpu (λ (c : Cpu). entered (vector (Some i)) (cleared i c)) s ≡ step mask s
taken mask s Edge h f v = takes-edge mask s h f (sym v)
taken mask s Timer h f v = takes-timer mask s h f (sym v)

some : (i : Interrupt) → vector (Some i) ≡ 0 → ⊥
some Edge e = absurd (omega (arith, e))
some Timer e = absurd (omega (arith, e))

none : (o : Option Interrupt) → ((i : Interrupt) → o ≡ Some i → ⊥) → vector o ≡ 0
none (Some i) f = absurd (f i refl)
none None f = refl

pub returns-in-Some : goal.returns-in-Some
returns-in-Some c =
    let mask = c.args.mask.now in
    let s = state c.args.self c.args.memory.now in
    let i = c.in-Some.interrupt in
    let v : vector (Some i) ≡ vector_of c.args.self = ap vector (sym c.in-Some.is) ∙ c.pending.ensures in
    record {
      memory_after = ap (λ (k : Cpu). state k c.args.memory.now) c.enter.ensures ∙ taken mask s i c.requires.0 c.requires.1 v;
      gap_after = interrupt-counts-none mask s c.args.gap.now c.requires.0 c.requires.1 (λ z. some i (v ∙ z));
    }

pub returns : goal.returns
returns c =
    let mask = c.args.mask.now in
    let s = state c.args.self c.args.memory.now in
    let v : vector_of c.args.self ≡ 0 = sym c.pending.ensures ∙ none c.pending.result c.in_default.not-Some in
    record {
      memory_after = c.execute.ensures.memory_after ∙ runs mask s c.requires.0 c.requires.1 (λ z. absurd (omega (arith, v, z))) (λ z. absurd (omega (arith, v, z)));
      gap_after = c.execute.ensures.gap_after ∙ instruction-counts mask s c.args.gap.now c.requires.0 c.requires.1 v;
    }
