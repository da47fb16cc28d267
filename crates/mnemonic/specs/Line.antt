-- The text of each line of document 001's "Instruction Set Summary", in its order: words, signs and operand places. X is a nibble, XX a byte,
-- addr an address of three digits; SOUND's n is a nibble. Document 001's summary prints MOV R4,XXH, its definition MOV R4,XH: one nibble.
-- Assumes nothing.
use Rattle.std.specs.Prelude.{ℕ, ◌+◌, ◌*◌, List, [], ◌∷◌}
use Rattle.isa.specs.declared.Pointer.TheVariants.{R1R0, R3R2}
use Rattle.isa.specs.declared.Port.TheVariants.{Pm, Ps, Pp}
use Rattle.isa.specs.declared.Page.TheVariants.{Current, F}
use Rattle.isa.specs.declared.Condition.TheVariants.{Ja, JnzR0, JnzR1, JnzR4, Jz, JnzA, Jc, Jnc, Jtmr}
use Rattle.isa.specs.declared.Instruction.{Instruction}
use Rattle.isa.specs.declared.Instruction.TheVariants as I
use Rattle.mnemonic.specs.Spelling.{Token, operand, word, sign, numbered, spelling}

unfoldable pub line_of : Instruction → List Token
-- Arithmetic
line_of I.AddAM = word "ADD" ∷ word "A" ∷ sign "," ∷ sign "[" ∷ word "R1R0" ∷ sign "]" ∷ []
line_of I.AdcAM = word "ADC" ∷ word "A" ∷ sign "," ∷ sign "[" ∷ word "R1R0" ∷ sign "]" ∷ []
line_of I.SubAM = word "SUB" ∷ word "A" ∷ sign "," ∷ sign "[" ∷ word "R1R0" ∷ sign "]" ∷ []
line_of I.SbcAM = word "SBC" ∷ word "A" ∷ sign "," ∷ sign "[" ∷ word "R1R0" ∷ sign "]" ∷ []
line_of (I.AddAX d) = word "ADD" ∷ word "A" ∷ sign "," ∷ operand 1 d ∷ []
line_of (I.SubAX d) = word "SUB" ∷ word "A" ∷ sign "," ∷ operand 1 d ∷ []
line_of I.Daa = word "DAA" ∷ []
-- Logic operation
line_of I.AndAM = word "AND" ∷ word "A" ∷ sign "," ∷ sign "[" ∷ word "R1R0" ∷ sign "]" ∷ []
line_of I.OrAM = word "OR" ∷ word "A" ∷ sign "," ∷ sign "[" ∷ word "R1R0" ∷ sign "]" ∷ []
line_of I.XorAM = word "XOR" ∷ word "A" ∷ sign "," ∷ sign "[" ∷ word "R1R0" ∷ sign "]" ∷ []
line_of I.AndMA = word "AND" ∷ sign "[" ∷ word "R1R0" ∷ sign "]" ∷ sign "," ∷ word "A" ∷ []
line_of I.OrMA = word "OR" ∷ sign "[" ∷ word "R1R0" ∷ sign "]" ∷ sign "," ∷ word "A" ∷ []
line_of I.XorMA = word "XOR" ∷ sign "[" ∷ word "R1R0" ∷ sign "]" ∷ sign "," ∷ word "A" ∷ []
line_of (I.AndAX d) = word "AND" ∷ word "A" ∷ sign "," ∷ operand 1 d ∷ []
line_of (I.OrAX d) = word "OR" ∷ word "A" ∷ sign "," ∷ operand 1 d ∷ []
line_of (I.XorAX d) = word "XOR" ∷ word "A" ∷ sign "," ∷ operand 1 d ∷ []
-- Increment and decrement
line_of I.IncA = word "INC" ∷ word "A" ∷ []
line_of (I.IncR n) = word "INC" ∷ numbered "R" n ∷ []
line_of (I.IncM R1R0) = word "INC" ∷ sign "[" ∷ word "R1R0" ∷ sign "]" ∷ []
line_of (I.IncM R3R2) = word "INC" ∷ sign "[" ∷ word "R3R2" ∷ sign "]" ∷ []
line_of I.DecA = word "DEC" ∷ word "A" ∷ []
line_of (I.DecR n) = word "DEC" ∷ numbered "R" n ∷ []
line_of (I.DecM R1R0) = word "DEC" ∷ sign "[" ∷ word "R1R0" ∷ sign "]" ∷ []
line_of (I.DecM R3R2) = word "DEC" ∷ sign "[" ∷ word "R3R2" ∷ sign "]" ∷ []
-- Data move
line_of (I.MovAR n) = word "MOV" ∷ word "A" ∷ sign "," ∷ numbered "R" n ∷ []
line_of (I.MovRA n) = word "MOV" ∷ numbered "R" n ∷ sign "," ∷ word "A" ∷ []
line_of (I.MovAM R1R0) = word "MOV" ∷ word "A" ∷ sign "," ∷ sign "[" ∷ word "R1R0" ∷ sign "]" ∷ []
line_of (I.MovAM R3R2) = word "MOV" ∷ word "A" ∷ sign "," ∷ sign "[" ∷ word "R3R2" ∷ sign "]" ∷ []
line_of (I.MovMA R1R0) = word "MOV" ∷ sign "[" ∷ word "R1R0" ∷ sign "]" ∷ sign "," ∷ word "A" ∷ []
line_of (I.MovMA R3R2) = word "MOV" ∷ sign "[" ∷ word "R3R2" ∷ sign "]" ∷ sign "," ∷ word "A" ∷ []
line_of (I.MovAX d) = word "MOV" ∷ word "A" ∷ sign "," ∷ operand 1 d ∷ []
line_of (I.MovPairXX R1R0 low high) = word "MOV" ∷ word "R1R0" ∷ sign "," ∷ operand 2 (16 * high + low) ∷ []
line_of (I.MovPairXX R3R2 low high) = word "MOV" ∷ word "R3R2" ∷ sign "," ∷ operand 2 (16 * high + low) ∷ []
line_of (I.MovR4X d) = word "MOV" ∷ word "R4" ∷ sign "," ∷ operand 1 d ∷ []
-- Rotate
line_of I.RlA = word "RL" ∷ word "A" ∷ []
line_of I.RlcA = word "RLC" ∷ word "A" ∷ []
line_of I.RrA = word "RR" ∷ word "A" ∷ []
line_of I.RrcA = word "RRC" ∷ word "A" ∷ []
-- Input and output
line_of (I.InA Pm) = word "IN" ∷ word "A" ∷ sign "," ∷ word "PM" ∷ []
line_of (I.InA Ps) = word "IN" ∷ word "A" ∷ sign "," ∷ word "PS" ∷ []
line_of (I.InA Pp) = word "IN" ∷ word "A" ∷ sign "," ∷ word "PP" ∷ []
line_of I.OutPaA = word "OUT" ∷ word "PA" ∷ sign "," ∷ word "A" ∷ []
-- Branch
line_of (I.Jmp t) = word "JMP" ∷ operand 3 t.0 ∷ []
line_of (I.Branch t Jc) = word "JC" ∷ operand 3 t.0 ∷ []
line_of (I.Branch t Jnc) = word "JNC" ∷ operand 3 t.0 ∷ []
line_of (I.Branch t Jtmr) = word "JTMR" ∷ operand 3 t.0 ∷ []
line_of (I.Branch t (Ja n)) = numbered "JA" n ∷ operand 3 t.0 ∷ []
line_of (I.Branch t Jz) = word "JZ" ∷ word "A" ∷ sign "," ∷ operand 3 t.0 ∷ []
line_of (I.Branch t JnzA) = word "JNZ" ∷ word "A" ∷ sign "," ∷ operand 3 t.0 ∷ []
line_of (I.Branch t JnzR0) = word "JNZ" ∷ word "R0" ∷ sign "," ∷ operand 3 t.0 ∷ []
line_of (I.Branch t JnzR1) = word "JNZ" ∷ word "R1" ∷ sign "," ∷ operand 3 t.0 ∷ []
line_of (I.Branch t JnzR4) = word "JNZ" ∷ word "R4" ∷ sign "," ∷ operand 3 t.0 ∷ []
-- Subroutine
line_of (I.Call t) = word "CALL" ∷ operand 3 t.0 ∷ []
line_of I.Ret = word "RET" ∷ []
line_of I.Reti = word "RETI" ∷ []
-- Flag
line_of I.Clc = word "CLC" ∷ []
line_of I.Stc = word "STC" ∷ []
line_of I.Ei = word "EI" ∷ []
line_of I.Di = word "DI" ∷ []
line_of I.Nop = word "NOP" ∷ []
-- Timer
line_of (I.TimerXX x) = word "TIMER" ∷ operand 2 x ∷ []
line_of I.TimerOn = word "TIMER" ∷ word "ON" ∷ []
line_of I.TimerOff = word "TIMER" ∷ word "OFF" ∷ []
line_of I.MovATmrl = word "MOV" ∷ word "A" ∷ sign "," ∷ word "TMRL" ∷ []
line_of I.MovATmrh = word "MOV" ∷ word "A" ∷ sign "," ∷ word "TMRH" ∷ []
line_of I.MovTmrlA = word "MOV" ∷ word "TMRL" ∷ sign "," ∷ word "A" ∷ []
line_of I.MovTmrhA = word "MOV" ∷ word "TMRH" ∷ sign "," ∷ word "A" ∷ []
-- Table read
line_of (I.ReadR4A Current) = word "READ" ∷ word "R4A" ∷ []
line_of (I.ReadMr0A Current) = word "READ" ∷ word "MR0A" ∷ []
line_of (I.ReadR4A F) = word "READF" ∷ word "R4A" ∷ []
line_of (I.ReadMr0A F) = word "READF" ∷ word "MR0A" ∷ []
-- Sound control
line_of (I.SoundN n) = word "SOUND" ∷ operand 1 n ∷ []
line_of I.SoundA = word "SOUND" ∷ word "A" ∷ []
line_of I.SoundOne = word "SOUND" ∷ word "ONE" ∷ []
line_of I.SoundLoop = word "SOUND" ∷ word "LOOP" ∷ []
line_of I.SoundOff = word "SOUND" ∷ word "OFF" ∷ []
-- Miscellaneous
line_of I.Halt = word "HALT" ∷ []

-- the text of an instruction
unfoldable pub text_of : Instruction → List ℕ
text_of i = spelling (line_of i)
