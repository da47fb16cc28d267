-- Instructions as numbers: a form, which is an instruction's place among the lines of document 001's instruction summary, counted from 0, and
-- two operands. The numbers are this interface's own; no sentence of document 01 gives them. Assumes nothing.
use Rattle.std.specs.Prelude.{ℕ, ◌+◌, ◌*◌, ◌/◌, ◌%◌, Bool, true, false, List, [], ◌∷◌, map, ltb, get_or, Option, Some, None}
use Rattle.isa.specs.declared.ProgramAddress.{ProgramAddress}
use Rattle.isa.specs.declared.Pointer.{Pointer}
use Rattle.isa.specs.declared.Pointer.TheVariants.{R1R0, R3R2}
use Rattle.isa.specs.declared.Port.{Port}
use Rattle.isa.specs.declared.Port.TheVariants.{Pm, Ps, Pp}
use Rattle.isa.specs.declared.Page.{Page}
use Rattle.isa.specs.declared.Page.TheVariants.{Current, F}
use Rattle.isa.specs.declared.Condition.{Condition}
use Rattle.isa.specs.declared.Condition.TheVariants.{Ja, JnzR0, JnzR1, JnzR4, Jz, JnzA, Jc, Jnc, Jtmr}
use Rattle.isa.specs.declared.Instruction.{Instruction}
use Rattle.isa.specs.declared.Instruction.TheVariants as I
use Rattle.abi.specs.declared.numbers.Numbers.{Numbers}

-- ---- from an instruction to its numbers
pub record Named : Type 0 where
  pub form : ℕ
  pub a : ℕ
  pub b : ℕ

abbrev pub numbers : ℕ → ℕ → ℕ → Named
numbers form a b = record { form = form; a = a; b = b }

-- the code's three numbers
abbrev pub fields : Numbers → Named
fields n = numbers n.form n.a n.b

abbrev pub pointer_number : Pointer → ℕ
pointer_number R1R0 = 0
pointer_number R3R2 = 1

abbrev pub port_number : Port → ℕ
port_number Pm = 0
port_number Ps = 1
port_number Pp = 2

abbrev pub page_number : Page → ℕ
page_number Current = 0
page_number F = 1

-- the five leading bits of the branch's code (isa's `leading`, over 8), less 16
abbrev pub condition_number : Condition → ℕ
condition_number (Ja n) = n
condition_number JnzR0 = 4
condition_number JnzR1 = 5
condition_number Jz = 6
condition_number JnzA = 7
condition_number Jc = 8
condition_number Jnc = 9
condition_number Jtmr = 10
condition_number JnzR4 = 11

-- an operand that the form does not have is 0. XX is 16 times its high nibble and its low one
unfoldable pub numbers_of : Instruction → Named
numbers_of I.AddAM = numbers 0 0 0
numbers_of I.AdcAM = numbers 1 0 0
numbers_of I.SubAM = numbers 2 0 0
numbers_of I.SbcAM = numbers 3 0 0
numbers_of (I.AddAX d) = numbers 4 d 0
numbers_of (I.SubAX d) = numbers 5 d 0
numbers_of I.Daa = numbers 6 0 0
numbers_of I.AndAM = numbers 7 0 0
numbers_of I.OrAM = numbers 8 0 0
numbers_of I.XorAM = numbers 9 0 0
numbers_of I.AndMA = numbers 10 0 0
numbers_of I.OrMA = numbers 11 0 0
numbers_of I.XorMA = numbers 12 0 0
numbers_of (I.AndAX d) = numbers 13 d 0
numbers_of (I.OrAX d) = numbers 14 d 0
numbers_of (I.XorAX d) = numbers 15 d 0
numbers_of I.IncA = numbers 16 0 0
numbers_of (I.IncR n) = numbers 17 n 0
numbers_of (I.IncM p) = numbers 18 (pointer_number p) 0
numbers_of I.DecA = numbers 19 0 0
numbers_of (I.DecR n) = numbers 20 n 0
numbers_of (I.DecM p) = numbers 21 (pointer_number p) 0
numbers_of (I.MovAR n) = numbers 22 n 0
numbers_of (I.MovRA n) = numbers 23 n 0
numbers_of (I.MovAM p) = numbers 24 (pointer_number p) 0
numbers_of (I.MovMA p) = numbers 25 (pointer_number p) 0
numbers_of (I.MovAX d) = numbers 26 d 0
numbers_of (I.MovPairXX p low high) = numbers 27 (pointer_number p) (16 * high + low)
numbers_of (I.MovR4X d) = numbers 28 d 0
numbers_of I.RlA = numbers 29 0 0
numbers_of I.RlcA = numbers 30 0 0
numbers_of I.RrA = numbers 31 0 0
numbers_of I.RrcA = numbers 32 0 0
numbers_of (I.InA p) = numbers 33 (port_number p) 0
numbers_of I.OutPaA = numbers 34 0 0
numbers_of (I.Jmp t) = numbers 35 0 t.0
numbers_of (I.Branch t k) = numbers 36 (condition_number k) t.0
numbers_of (I.Call t) = numbers 37 0 t.0
numbers_of I.Ret = numbers 38 0 0
numbers_of I.Reti = numbers 39 0 0
numbers_of I.Clc = numbers 40 0 0
numbers_of I.Stc = numbers 41 0 0
numbers_of I.Ei = numbers 42 0 0
numbers_of I.Di = numbers 43 0 0
numbers_of I.Nop = numbers 44 0 0
numbers_of (I.TimerXX x) = numbers 45 x 0
numbers_of I.TimerOn = numbers 46 0 0
numbers_of I.TimerOff = numbers 47 0 0
numbers_of I.MovATmrl = numbers 48 0 0
numbers_of I.MovATmrh = numbers 49 0 0
numbers_of I.MovTmrlA = numbers 50 0 0
numbers_of I.MovTmrhA = numbers 51 0 0
numbers_of (I.ReadR4A p) = numbers 52 (page_number p) 0
numbers_of (I.ReadMr0A p) = numbers 53 (page_number p) 0
numbers_of (I.SoundN n) = numbers 54 n 0
numbers_of I.SoundA = numbers 55 0 0
numbers_of I.SoundOne = numbers 56 0 0
numbers_of I.SoundLoop = numbers 57 0 0
numbers_of I.SoundOff = numbers 58 0 0
numbers_of I.Halt = numbers 59 0 0

-- ---- from numbers to an instruction
-- what stands at a place of a list
abbrev pub listed : {A : Type 0} → List A → ℕ → Option A
listed xs n = get_or (map Some xs) n None

abbrev pub provided : Bool → Option Instruction → Option Instruction
provided true m = m
provided false m = None

-- the register pairs, the ports, the pages and the conditions by their numbers
abbrev pub pointers : List Pointer
pointers = R1R0 ∷ R3R2 ∷ []

abbrev pub ports : List Port
ports = Pm ∷ Ps ∷ Pp ∷ []

abbrev pub pages : List Page
pages = Current ∷ F ∷ []

abbrev pub conditions : List Condition
conditions = Ja 0 ∷ Ja 1 ∷ Ja 2 ∷ Ja 3 ∷ JnzR0 ∷ JnzR1 ∷ Jz ∷ JnzA ∷ Jc ∷ Jnc ∷ Jtmr ∷ JnzR4 ∷ []

unfoldable pub branch_named : ℕ → ℕ → Option Instruction
branch_named a b = listed (map (λ (k : Condition). I.Branch (record { 0 = b }) k) conditions) a

-- XX is a byte
unfoldable pub pair_named : ℕ → ℕ → Option Instruction
pair_named a b = provided (ltb b 256) (listed (I.MovPairXX R1R0 (b % 16) (b / 16) ∷ I.MovPairXX R3R2 (b % 16) (b / 16) ∷ []) a)

-- a form: its instruction has no operand, a number in a, one of a few by a, a target in b, or both a and b
pub data Form : Type 0 where
  plain : Instruction → Form
  number : (ℕ → Instruction) → Form
  choice : List Instruction → Form
  target : (ProgramAddress → Instruction) → Form
  pair : Form
  branch : Form

-- what a form makes of its operands
abbrev pub meant : Form → ℕ → ℕ → Option Instruction
meant (plain i) a b = Some i
meant (number f) a b = Some (f a)
meant (choice is) a b = listed is a
meant (target f) a b = Some (f (record { 0 = b }))
meant pair a b = pair_named a b
meant branch a b = branch_named a b

-- the numbers of the form n with the operands that it has, 0 for one that it does not have
abbrev pub having : Form → ℕ → ℕ → ℕ → Named
having (plain i) n a b = numbers n 0 0
having (number f) n a b = numbers n a 0
having (choice is) n a b = numbers n a 0
having (target f) n a b = numbers n 0 b
having pair n a b = numbers n a b
having branch n a b = numbers n a b

-- the forms by their numbers
unfoldable pub forms : List Form
forms =
    plain I.AddAM ∷ plain I.AdcAM ∷ plain I.SubAM ∷ plain I.SbcAM
    ∷ number I.AddAX ∷ number I.SubAX ∷ plain I.Daa
    ∷ plain I.AndAM ∷ plain I.OrAM ∷ plain I.XorAM
    ∷ plain I.AndMA ∷ plain I.OrMA ∷ plain I.XorMA
    ∷ number I.AndAX ∷ number I.OrAX ∷ number I.XorAX
    ∷ plain I.IncA ∷ number I.IncR ∷ choice (I.IncM R1R0 ∷ I.IncM R3R2 ∷ [])
    ∷ plain I.DecA ∷ number I.DecR ∷ choice (I.DecM R1R0 ∷ I.DecM R3R2 ∷ [])
    ∷ number I.MovAR ∷ number I.MovRA
    ∷ choice (I.MovAM R1R0 ∷ I.MovAM R3R2 ∷ []) ∷ choice (I.MovMA R1R0 ∷ I.MovMA R3R2 ∷ [])
    ∷ number I.MovAX ∷ pair
    ∷ number I.MovR4X
    ∷ plain I.RlA ∷ plain I.RlcA ∷ plain I.RrA ∷ plain I.RrcA
    ∷ choice (I.InA Pm ∷ I.InA Ps ∷ I.InA Pp ∷ []) ∷ plain I.OutPaA
    ∷ target I.Jmp ∷ branch
    ∷ target I.Call
    ∷ plain I.Ret ∷ plain I.Reti
    ∷ plain I.Clc ∷ plain I.Stc ∷ plain I.Ei
    ∷ plain I.Di ∷ plain I.Nop
    ∷ number I.TimerXX ∷ plain I.TimerOn ∷ plain I.TimerOff
    ∷ plain I.MovATmrl ∷ plain I.MovATmrh ∷ plain I.MovTmrlA ∷ plain I.MovTmrhA
    ∷ choice (I.ReadR4A Current ∷ I.ReadR4A F ∷ []) ∷ choice (I.ReadMr0A Current ∷ I.ReadMr0A F ∷ [])
    ∷ number I.SoundN ∷ plain I.SoundA ∷ plain I.SoundOne ∷ plain I.SoundLoop ∷ plain I.SoundOff
    ∷ plain I.Halt
    ∷ []

-- past the last form there is nothing to choose
abbrev pub form_at : ℕ → Form
form_at n = get_or forms n (choice [])

unfoldable pub named : ℕ → ℕ → ℕ → Option Instruction
unfolding forms
named form a b = meant (form_at form) a b

-- what is left of three numbers: the operands that the form has
abbrev pub kept : ℕ → ℕ → ℕ → Named
kept form a b = having (form_at form) form a b
