-- Document 02, wish 6: "Every data read and write shall also tell whether it fell in the gap, and the machine counts such accesses". Which data
-- accesses an instruction makes, and how many of a step's, and of a Run's, fall in the gap. No number here has a limit. Assumes nothing.
use Rattle.std.specs.Prelude.{ℕ, ◌+◌, List, [], ◌∷◌, map, ◌==◌, Option, Some, None}
use Rattle.isa.specs.Choice.{pick}
use Rattle.isa.specs.declared.DataAddress.{DataAddress}
use Rattle.isa.specs.declared.Pointer.{Pointer}
use Rattle.isa.specs.declared.Pointer.TheVariants.{R1R0}
use Rattle.isa.specs.declared.Instruction.{Instruction}
use Rattle.isa.specs.declared.Instruction.TheVariants as I
use Rattle.rom.specs.Fetching.{read_at}
use Rattle.datapath.specs.Memory.{strays}
use Rattle.cpu.specs.State.{State}
use Rattle.cpu.specs.Effect.{place_of}
use Rattle.cpu.specs.Step.{executed, vector_of, stopped}
use Rattle.cpu.specs.Run.{yielded}
use Rattle.cpu.specs.declared.Cpu.{Cpu}

-- The data accesses of an instruction, by the register pair that addresses each. The lines "Operation" of document 001 have an M on the right for a
-- read and one on the left for a write: "A read-modify-write counts two". READ R4A and READF R4A read M(R1,R0) for the low bits of their address
-- ("addressed by ACC and M(R1,R0)"), READ MR0A and READF MR0A write it
unfoldable pub pointers : Instruction → List Pointer
pointers I.AddAM = R1R0 ∷ []
pointers I.AdcAM = R1R0 ∷ []
pointers I.SubAM = R1R0 ∷ []
pointers I.SbcAM = R1R0 ∷ []
pointers (I.AddAX d) = []
pointers (I.SubAX d) = []
pointers I.Daa = []
pointers I.AndAM = R1R0 ∷ []
pointers I.OrAM = R1R0 ∷ []
pointers I.XorAM = R1R0 ∷ []
pointers I.AndMA = R1R0 ∷ R1R0 ∷ []
pointers I.OrMA = R1R0 ∷ R1R0 ∷ []
pointers I.XorMA = R1R0 ∷ R1R0 ∷ []
pointers (I.AndAX d) = []
pointers (I.OrAX d) = []
pointers (I.XorAX d) = []
pointers I.IncA = []
pointers (I.IncR n) = []
pointers (I.IncM p) = p ∷ p ∷ []
pointers I.DecA = []
pointers (I.DecR n) = []
pointers (I.DecM p) = p ∷ p ∷ []
pointers (I.MovAR n) = []
pointers (I.MovRA n) = []
pointers (I.MovAM p) = p ∷ []
pointers (I.MovMA p) = p ∷ []
pointers (I.MovAX d) = []
pointers (I.MovPairXX p low high) = []
pointers (I.MovR4X d) = []
pointers I.RlA = []
pointers I.RlcA = []
pointers I.RrA = []
pointers I.RrcA = []
pointers (I.InA p) = []
pointers I.OutPaA = []
pointers (I.Jmp t) = []
pointers (I.Branch t k) = []
pointers (I.Call t) = []
pointers I.Ret = []
pointers I.Reti = []
pointers I.Clc = []
pointers I.Stc = []
pointers I.Ei = []
pointers I.Di = []
pointers I.Nop = []
pointers (I.TimerXX x) = []
pointers I.TimerOn = []
pointers I.TimerOff = []
pointers I.MovATmrl = []
pointers I.MovATmrh = []
pointers I.MovTmrlA = []
pointers I.MovTmrhA = []
pointers (I.ReadR4A p) = R1R0 ∷ []
pointers (I.ReadMr0A p) = R1R0 ∷ []
pointers (I.SoundN n) = []
pointers I.SoundA = []
pointers I.SoundOne = []
pointers I.SoundLoop = []
pointers I.SoundOff = []
pointers I.Halt = []

-- their data addresses
abbrev pub accesses : Instruction → Cpu → List DataAddress
accesses i c = map (λ (p : Pointer). place_of p c) (pointers i)

-- those of what stands at the PC
abbrev pub accesses_of : Option Instruction → Cpu → List DataAddress
accesses_of (Some i) c = accesses i c
accesses_of None c = []

-- an instruction that runs: "a refused or faulting instruction none"
unfoldable pub strays_at : List ℕ → State → ℕ
strays_at mask s = pick ((executed mask s).cpu.status.fault == 0) (strays (accesses_of (read_at mask s.cpu.control.pc.0) s.cpu)) 0

-- one step: none where the machine is halted or faulted, nor where an interrupt is taken
unfoldable pub strays_by : List ℕ → State → ℕ
strays_by mask s = pick (stopped s) 0 (pick (vector_of s.cpu == 0) (strays_at mask s) 0)

-- n steps
abbrev pub strays_in : List ℕ → ℕ → State → ℕ
strays_in mask n s = yielded 0 ◌+◌ (strays_by mask) mask n s
