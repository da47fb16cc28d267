-- What an operator sees of a machine. Document 02, wish 7: "The bench should log what an operator sees". A picture is display nibbles 0 to 7 as a
-- report shows them (document 01: "with 3 commons bit 3 shows 0; halted shows all 0"). Assumes nothing.
use Rattle.std.specs.Prelude.{ℕ, ◌*◌, ◌≡◌, true, false, List, take, replicate, Result, Ok, Err}
use Rattle.refusals.specs.Numbers.{number_of}
use Rattle.refusals.specs.declared.Refusal.{Refusal}
use Rattle.isa.specs.Choice.{pick}
use Rattle.cpu.specs.Range.{valid}
use Rattle.machine.specs.Machine.{state_of}
use Rattle.machine.specs.Report.{display}
use Rattle.machine.specs.declared.Machine.{Machine}
use Rattle.glass.specs.Shapes.{glass}
use Rattle.glass.specs.Reading.{Seen, EightNibbles, SeenSays, seen_refusal}
use Rattle.glass.specs.declared.Reading.TheVariants.{Dark}

-- "Digit k, leftmost 0, uses display nibbles 2k .. and 2k+1"
abbrev pub on_glass : Machine → List ℕ
on_glass m = take (2 * glass) (display m)

-- a picture, and document 01's number, 0 for none
pub record Pictured : Type 0 where
  pub nibbles : List ℕ
  pub refusal : ℕ

abbrev pub pictured : List ℕ → ℕ → Pictured
pictured s n = record { nibbles = s; refusal = n }

-- the picture of a machine. "5: machine field outside its range", and then it is blank
unfoldable pub picture_of : Machine → Pictured
picture_of m = pick (valid (state_of m)) (pictured (on_glass m) 0) (pictured (replicate (2 * glass) 0) 5)

-- what an answer says: no picture is a blank one
abbrev pub answered : Result (List ℕ) Refusal → Pictured
answered (Ok s) = pictured s 0
answered (Err r) = pictured (replicate (2 * glass) 0) (number_of r)

-- what is seen of a machine: what its picture is read as, or why the machine is refused
abbrev pub Sight : Type 0
Sight = Result Seen Refusal

-- the paper's number of each answer, 0 for an answer that is not refused
abbrev pub sight_refusal : Sight → ℕ
sight_refusal (Ok s) = seen_refusal s
sight_refusal (Err r) = number_of r

-- what each answer says of the machine: in range its picture is what its number says. A refusal has the number of its picture, which is 5 where the
-- machine is out of range
abbrev pub Sees : Machine → Sight → Type 0
Sees m (Ok s) = (valid (state_of m) ≡ true) × SeenSays (on_glass m) s (sight_refusal (Ok s))
Sees m (Err r) = (valid (state_of m) ≡ false) × ((picture_of m).refusal ≡ sight_refusal (Err r))

-- a machine has one answer
abbrev pub SightDetermined : Type 0
SightDetermined = (m : Machine) (x y : Sight) → Sees m x → Sees m y → x ≡ y

-- a machine in range shows eight nibbles, none over 15: 2 and 3 are never the answer
abbrev pub ShowsPicture : Type 0
ShowsPicture = (m : Machine) → valid (state_of m) ≡ true → EightNibbles (on_glass m)

-- "halted shows all 0": asleep is dark
abbrev pub AsleepIsDark : Type 0
AsleepIsDark = (m : Machine) → valid (state_of m) ≡ true → m.cpu.status.halted ≡ 1 → Sees m (Ok (Ok Dark))
