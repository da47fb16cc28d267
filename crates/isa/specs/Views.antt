-- A view of the instructions by how they hand the program on. Six do it in a way of their own, which document 01, "Marks", names: "a branch
-- also its target; JMP only its target; CALL in level 0 its target in level 1 and the moved address in level 0; EI also 4 and 8 in level 2;
-- RET and RETI none". Every other goes on at the moved address. Assumes nothing.
use Rattle.isa.specs.declared.ProgramAddress.{ProgramAddress}
use Rattle.isa.specs.declared.Condition.{Condition}
use Rattle.isa.specs.declared.Instruction.{Instruction}
use Rattle.isa.specs.declared.Instruction.TheVariants as I

pub data View : Instruction → Type 0 where
  on : {i : Instruction} → View i
  jmp : (t : ProgramAddress) → View (I.Jmp t)
  branch : (t : ProgramAddress) (k : Condition) → View (I.Branch t k)
  call : (t : ProgramAddress) → View (I.Call t)
  ret : View I.Ret
  reti : View I.Reti
  ei : View I.Ei

unfoldable pub view : (i : Instruction) → View i
view I.AddAM = on
view I.AdcAM = on
view I.SubAM = on
view I.SbcAM = on
view (I.AddAX d) = on
view (I.SubAX d) = on
view I.Daa = on
view I.AndAM = on
view I.OrAM = on
view I.XorAM = on
view I.AndMA = on
view I.OrMA = on
view I.XorMA = on
view (I.AndAX d) = on
view (I.OrAX d) = on
view (I.XorAX d) = on
view I.IncA = on
view (I.IncR n) = on
view (I.IncM p) = on
view I.DecA = on
view (I.DecR n) = on
view (I.DecM p) = on
view (I.MovAR n) = on
view (I.MovRA n) = on
view (I.MovAM p) = on
view (I.MovMA p) = on
view (I.MovAX d) = on
view (I.MovPairXX p low high) = on
view (I.MovR4X d) = on
view I.RlA = on
view I.RlcA = on
view I.RrA = on
view I.RrcA = on
view (I.InA p) = on
view I.OutPaA = on
view (I.Jmp t) = jmp t
view (I.Branch t k) = branch t k
view (I.Call t) = call t
view I.Ret = ret
view I.Reti = reti
view I.Clc = on
view I.Stc = on
view I.Ei = ei
view I.Di = on
view I.Nop = on
view (I.TimerXX x) = on
view I.TimerOn = on
view I.TimerOff = on
view I.MovATmrl = on
view I.MovATmrh = on
view I.MovTmrlA = on
view I.MovTmrhA = on
view (I.ReadR4A p) = on
view (I.ReadMr0A p) = on
view (I.SoundN n) = on
view I.SoundA = on
view I.SoundOne = on
view I.SoundLoop = on
view I.SoundOff = on
view I.Halt = on
