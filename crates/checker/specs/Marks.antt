-- Document 01, "Marks": pairs, which of them are forbidden, and their successors. Assumes nothing.
use Rattle.std.specs.Prelude.{ℕ, List, [], ◌∷◌, ◌++◌, eqb, Option, Some, None}
use Rattle.isa.specs.Choice.{pick}
use Rattle.isa.specs.Reading.{fault_number}
use Rattle.rom.specs.Fetching.{read_at, moved_from, branch_to}
use Rattle.isa.specs.declared.Instruction.{Instruction}
use Rattle.isa.specs.Views.{View, on, jmp, branch, call, ret, reti, ei, view}
use Rattle.reach.specs.Chains.{Reaches}
use Rattle.checker.specs.declared.flow.Flow.{Flow}
use Rattle.checker.specs.declared.flow.Flow.TheVariants.{Unread, On, Enable, Jump, To, Sub, Back}

-- "level (0 main, 1 subroutine, 2 interrupt)"
abbrev pub levels : ℕ
levels = 3

-- "A pair is an address with a level" (document 01's term)
pub record Pair : Type 0 where
  pub address : ℕ
  pub level : ℕ

abbrev pub pair : ℕ → ℕ → Pair
pair a l = record { address = a; level = l }

-- where an instruction hands the program on: to the moved address, only to a target (JMP), also to a target (a branch), to a subroutine
-- (CALL), back (RET and RETI), or also to the two vectors (EI)
abbrev pub flow_by : {i : Instruction} → View i → Flow
flow_by on = On
flow_by (jmp t) = Jump t
flow_by (branch t k) = To t
flow_by (call t) = Sub t
flow_by ret = Back
flow_by reti = Back
flow_by ei = Enable

unfoldable pub flow_of : Instruction → Flow
flow_of i = flow_by (view i)

-- where what stands at an address hands the program on: nowhere, if it cannot be read
abbrev pub flow_read : Option Instruction → Flow
flow_read (Some i) = flow_of i
flow_read None = Unread

unfoldable pub flow_at : List ℕ → ℕ → Flow
flow_at mask a = flow_read (read_at mask a)

-- "it cannot be read, is CALL in level 1 or 2, or is RET or RETI in level 0": fault 1, 2 or 3, and 0 where there is none
abbrev pub fault_in : Flow → ℕ → ℕ
fault_in Unread l = fault_number None
fault_in On l = 0
fault_in Enable l = 0
fault_in (Jump t) l = 0
fault_in (To t) l = 0
fault_in (Sub t) l = pick (eqb l 0) 0 2
fault_in Back l = pick (eqb l 0) 3 0

-- "It is forbidden when the instruction at that address gives fault 1, 2 or 3 in that level"
unfoldable pub fault : List ℕ → Pair → ℕ
fault mask p = fault_in (flow_at mask p.address) p.level

-- "Successors of any other pair: the moved address in the same level; a branch also its target; JMP only its target; CALL in level 0 its
-- target in level 1 and the moved address in level 0; .. RET and RETI none"
abbrev pub onward : Flow → ℕ → ℕ → List Pair
onward Unread moved l = []
onward On moved l = pair moved l ∷ []
onward Enable moved l = pair moved l ∷ []
onward (Jump t) moved l = pair t.0 l ∷ []
onward (To t) moved l = pair moved l ∷ pair (branch_to moved t) l ∷ []
onward (Sub t) moved l = pair t.0 1 ∷ pair moved 0 ∷ []
onward Back moved l = []

-- "EI also 4 and 8 in level 2"
abbrev pub vectors : Flow → List Pair
vectors Unread = []
vectors On = []
vectors Enable = pair 4 2 ∷ pair 8 2 ∷ []
vectors (Jump t) = []
vectors (To t) = []
vectors (Sub t) = []
vectors Back = []

abbrev pub handed : Flow → ℕ → ℕ → List Pair
handed f moved l = onward f moved l ++ vectors f

-- "A forbidden pair has no successors"
abbrev pub unless_forbidden : List ℕ → Pair → List Pair → List Pair
unless_forbidden mask p qs = pick (eqb (fault mask p) 0) qs []

unfoldable pub successors : List ℕ → Pair → List Pair
successors mask p = unless_forbidden mask p (handed (flow_at mask p.address) (moved_from mask p.address) p.level)

-- "the pairs that chains from address 0, level 0 reach"
abbrev pub Reached : List ℕ → Pair → Type 0
Reached mask p = Reaches (successors mask) (pair 0 0) p
