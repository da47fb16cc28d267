-- The fault and the successors of a code's pair, from the flow at its address, as the code has them: f, which an arm knows to be g. Assumes
-- nothing.
use Prim.Native.Nat.{ℕ, ◌/◌, ◌%◌}
use mathlib.Core.Path.{◌≡◌, sym, ap, subst, ◌∙◌}
use mathlib.Core.List.{List, [], map}
use lib.Dec.{eqb}
use Rattle.isa.specs.Choice.{pick}
use Rattle.isa.specs.Reading.{decoded}
use Rattle.isa.specs.Timing.{length_of}
use Rattle.rom.specs.Fetching.{Bytes, code_at, moved_by, moved_from}
use Rattle.rom.specs.declared.reader.Code.{Code}
use Rattle.rom.proofs.Fetching.{read-code, length-code}
use Rattle.checker.specs.declared.flow.Flow.{Flow}
use Rattle.checker.specs.Marks.{levels, flow_read, flow_at, fault_in, handed, fault, successors}
use Rattle.checker.specs.Verdicts.{rank}
use Rattle.checker.specs.Walk.{pair_of, next_codes}
use Rattle.checker.proofs.Reach.{Targets, flow-targets}

-- the flow of the code at an address
pub flow-there : (mask : List ℕ) (a : ℕ) (c : Code) → c ≡ code_at mask a → flow_read (decoded c.first c.second) ≡ flow_at mask a
unfolding flow_at
flow-there mask a c at = ap (λ (c : Code). flow_read (decoded c.first c.second)) at ∙ ap flow_read (read-code mask a)

-- the codes that a flow hands on
abbrev pub handed-on : Flow → ℕ → ℕ → List ℕ
handed-on g moved l = map rank (pick (eqb (fault_in g l) 0) (handed g moved l) [])

-- what an arm of the code knows: the bytes at the address, their flow f, and that it is g
module _ (mask : List ℕ) (c : ℕ) {k : Code} {f : Flow} (at : k ≡ code_at mask (c / levels)) (of : f ≡ flow_read (decoded k.first k.second)) (g : Flow) (is : f ≡ g) where
  its-flow : g ≡ flow_at mask (c / levels)
  its-flow = sym is ∙ of ∙ flow-there mask (c / levels) k at

  pub fault-here : fault mask (pair_of c) ≡ fault_in g (c % levels)
  unfolding fault
  fault-here = ap (λ (g : Flow). fault_in g (c % levels)) (sym its-flow)

  pub next-still : handed-on g (moved_from mask (c / levels)) (c % levels) ≡ next_codes mask c
  unfolding successors fault
  next-still = ap (λ (g : Flow). handed-on g (moved_from mask (c / levels)) (c % levels)) its-flow

  pub next-moved : {s m : ℕ} → s ≡ length_of k.first → m ≡ moved_by s (c / levels) → handed-on g m (c % levels) ≡ next_codes mask c
  next-moved {m = m} size moved = ap (λ (m : ℕ). handed-on g m (c % levels)) there ∙ next-still
    where
      there : m ≡ moved_from mask (c / levels)
      there = moved ∙ ap (λ (n : ℕ). moved_by n (c / levels)) (size ∙ ap (λ (k : Code). length_of k.first) at ∙ length-code mask (c / levels))

  pub targets-here : Bytes mask → Targets g
  targets-here bytes = subst Targets (sym its-flow) (flow-targets mask bytes (c / levels))
