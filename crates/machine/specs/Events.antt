-- The events, document 01, "One step, and events" and "Refused inputs", and document 02, wishes 1 and 6. Assumes nothing.
use Rattle.std.specs.Prelude.{ℕ, ◌≡◌, Bool, true, not, ◌&&◌, List, [], ◌∷◌, eqb, Option, Some, None}
use Rattle.std.specs.Int.Bits.{bit_and, bit_xor}
use Rattle.isa.specs.Choice.{pick}
use Rattle.rom.specs.Fetching.{sized}
use Rattle.datapath.specs.Timer.{counted}
use Rattle.cpu.specs.State.{with_held, with_halted, with_pins}
use Rattle.cpu.specs.Step.{timed}
use Rattle.cpu.specs.Range.{nibble, bit, valid}
use Rattle.cpu.specs.declared.Cpu.{Cpu}
use Rattle.cpu.specs.declared.Options.{Options}
use Rattle.machine.specs.Machine.{state_of, machine_of, traced}
use Rattle.machine.specs.Power.{reset, answered, power_on}
use Rattle.cpu.specs.Run.{ran}
use Rattle.machine.specs.declared.Machine.{Machine}
use Rattle.machine.specs.declared.Answer.{Answer}
use Rattle.machine.specs.declared.events.Event.{Event}
use Rattle.machine.specs.declared.events.Event.TheVariants.{Run, Pins, Int, Tmclk, Res}

abbrev pub on_cpu_of : (Cpu → Cpu) → Machine → Machine
on_cpu_of f m = record { cpu = f m.cpu; memory = m.memory; trace = m.trace }

-- an edge is held, and the machine wakes
abbrev pub woken : Cpu → Cpu
woken c = with_held 1 (with_halted 0 c)

-- the bits that fall and whose wake bit is 1
abbrev pub fallen : ℕ → ℕ → ℕ → ℕ
fallen old new wake = bit_and (bit_and old (bit_xor new 15)) wake

-- "A falling port bit whose wake bit is 1 does so only when halted"
abbrev pub wakes : ℕ → ℕ → ℕ → Cpu → Bool
wakes pm ps pp c =
    eqb c.status.halted 1
    && not (eqb (fallen c.pins.pm pm c.options.pm) 0
    && (eqb (fallen c.pins.ps ps c.options.ps) 0
    && eqb (fallen c.pins.pp pp c.options.pp) 0))

abbrev pub with_ports : ℕ → ℕ → ℕ → Cpu → Cpu
with_ports pm ps pp c = with_pins (record { pm = pm; ps = ps; pp = pp; int = c.pins.int }) c

abbrev pub with_int : ℕ → Cpu → Cpu
with_int level c = with_pins (record { pm = c.pins.pm; ps = c.pins.ps; pp = c.pins.pp; int = level }) c

-- "3 pins: PM, PS, PP"
unfoldable pub pinned : ℕ → ℕ → ℕ → Cpu → Cpu
pinned pm ps pp c = with_ports pm ps pp (pick (wakes pm ps pp c) (woken c) c)

-- "4 INT: 0 or 1"; "A falling INT edge always sets the held edge and wakes"
unfoldable pub interrupted : ℕ → Cpu → Cpu
interrupted level c = with_int level (pick (eqb c.pins.int 1 && eqb level 0) (woken c) c)

-- "5 TMCLK: two-byte count of rising edges; on the external clock, running", as one condition. Document 02, wish 1, in place of "and not halted":
-- "kind 5 moves a running, externally clocked timer when halted too"
abbrev pub clocked : Cpu → Bool
clocked c = eqb c.options.rate 255 && eqb c.timer.running 1

-- "the timer moves on by it modulo 256, TF set if it passed 255"
unfoldable pub counting : ℕ → Cpu → Cpu
counting n c = pick (clocked c) (timed (counted c.timer.count n) c) c

-- what an event makes of a machine, where nothing is refused. Run alone takes steps, and leaves their trace
unfoldable pub happened : List ℕ → Event → Machine → Machine
happened mask (Run n) m = machine_of (ran mask n (state_of m)) (traced mask n (state_of m) m.trace)
happened mask (Pins pm ps pp) m = on_cpu_of (pinned pm ps pp) m
happened mask (Int level) m = on_cpu_of (interrupted level) m
happened mask (Tmclk n) m = on_cpu_of (counting n) m
happened mask Res m = reset m

-- "1: mask not 4,096 bytes": Run alone has a mask
unfoldable pub mask_ok : List ℕ → Event → Bool
mask_ok mask (Run n) = sized mask
mask_ok mask (Pins pm ps pp) = true
mask_ok mask (Int level) = true
mask_ok mask (Tmclk n) = true
mask_ok mask Res = true

-- "3: in an .. event or record: nibble other than an option over 15, INT over 1"
unfoldable pub values_ok : Event → Bool
values_ok (Run n) = true
values_ok (Pins pm ps pp) = nibble pm && (nibble ps && nibble pp)
values_ok (Int level) = bit level
values_ok (Tmclk n) = true
values_ok Res = true

-- "5: machine field outside its range .. or halted with a fault"; the trace is in range whatever it is
abbrev pub range_refusal : Machine → ℕ
range_refusal m = pick (valid (state_of m)) 0 5

-- "Checked in this order; the lowest number wins"
unfoldable pub refusal_of : List ℕ → Event → Machine → ℕ
refusal_of mask e m = pick (mask_ok mask e) (pick (values_ok e) (range_refusal m) 3) 1

unfoldable pub applied : List ℕ → Event → Machine → Answer
applied mask e m = answered (refusal_of mask e m) (happened mask e m) m

-- RES by itself answers as the event does
abbrev pub resetting : Machine → Answer
resetting m = applied [] Res m

-- one step by itself answers as a Run of one step does
abbrev pub stepping : List ℕ → Machine → Answer
stepping mask m = applied mask (Run 1) m

-- ---- an event as a kind and numbers
-- "2 Run: two-byte step count", "3 pins: PM, PS, PP. 4 INT: 0 or 1. 6 RES: empty", "5 TMCLK: two-byte count of rising edges". What a kind does
-- not name is not looked at; another kind names no event
unfoldable pub event_of : ℕ → ℕ → ℕ → ℕ → ℕ → Option Event
event_of kind count a b c =
    pick (eqb kind 2) (Some (Run count))
    (pick (eqb kind 3) (Some (Pins a b c))
    (pick (eqb kind 4) (Some (Int a))
    (pick (eqb kind 5) (Some (Tmclk count))
    (pick (eqb kind 6) (Some Res)
    None))))

-- the number of each case: "7: unknown kind"
abbrev pub kind_refusal : Option Event → ℕ
kind_refusal (Some e) = 0
kind_refusal None = 7

-- ---- whole lists
-- what a host does: a power-on with options and an image of its own, another event, or a kind that names none
pub data Input : Type 0 where
  power : Options → List ℕ → Input
  named : Option Event → Input

-- a kind with this number: 0, what it names is answered; else the number, but a machine out of range comes first: "the lowest number wins"
abbrev pub by_kind : ℕ → Answer → Machine → Answer
by_kind n known m = pick (eqb n 0) known (answered (pick (valid (state_of m)) n 5) m m)

-- an unknown kind names nothing that could be done
abbrev pub named_answer : List ℕ → Option Event → Machine → Answer
named_answer mask (Some e) m = by_kind (kind_refusal (Some e)) (applied mask e m) m
named_answer mask None m = by_kind (kind_refusal None) (answered 0 m m) m

abbrev pub answer_to : List ℕ → Input → Machine → Answer
answer_to mask (power options image) m = power_on options image m
answer_to mask (named e) m = named_answer mask e m

-- the steps of an input: "Run: two-byte step count". No other takes any
unfoldable pub steps_of : Input → ℕ
steps_of (power options image) = 0
steps_of (named (Some (Run n))) = n
steps_of (named (Some (Pins pm ps pp))) = 0
steps_of (named (Some (Int level))) = 0
steps_of (named (Some (Tmclk n))) = 0
steps_of (named (Some Res)) = 0
steps_of (named None) = 0

-- an input with the mask that it came with: a Run may have a mask of its own
pub record Call : Type 0 where
  pub mask : List ℕ
  pub input : Input

-- the machine after a list of inputs: "Each gets the machine that the one before returned .. a refused one leaves it as it was"
unfoldable pub after : List Call → Machine → Machine
after [] m = m
after (k ∷ ks) m = after ks (answer_to k.mask k.input m).machine

-- "Every Run in the list has the one passed mask"; another input may come with any
abbrev pub UnderMask : List ℕ → Call → Type 0
UnderMask mask k = (n : ℕ) → k.input ≡ named (Some (Run n)) → k.mask ≡ mask

-- every one of a list of calls
abbrev pub Every : (Call → Type 0) → List Call → Type 0
Every P [] = Unit {0}
Every P (k ∷ ks) = P k × Every P ks

-- machines handed on: `Machine::power_on` promises `r ≡ power_on ..`, `Machine::apply_named` `r ≡ named_answer ..`, and `apply`, `reset` and `step`
-- what it says of their events. So each call's answer is `answer_to`'s, and each gets the machine that the one before answered; a call on a lent record is
-- one too, whose answer is the number and the record that it left
pub data Session : Machine → List Call → Machine → Type 0 where
  ended : {m : Machine} → Session m [] m
  calling : {m n : Machine} {ks : List Call} (k : Call) (r : Answer) → r ≡ answer_to k.mask k.input m → Session r.machine ks n → Session m (k ∷ ks) n
