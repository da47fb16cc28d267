-- The numbers of refusals. Document 01, "Refused inputs"; 10 and 11 are document 02's wish 2, 12 to 14 wish 4, 15 wish 5, 16 wish 7. Assumes nothing.
use Rattle.std.specs.Prelude.{ℕ, ◌≡◌, Result, Ok, Err}
use Rattle.refusals.specs.declared.Refusal.{Refusal}
use Rattle.refusals.specs.declared.Refusal.TheVariants.{Mask, Buffer, Value, Choice, Range, Format, Kind, Start, Room, Passes, List, Line, Operand, Label, Fails, Glass}

abbrev pub number_of : Refusal → ℕ
number_of Mask = 1
number_of Buffer = 2
number_of Value = 3
number_of Choice = 4
number_of Range = 5
number_of Format = 6
number_of Kind = 7
number_of Start = 8
number_of Room = 9
number_of Passes = 10
number_of List = 11
number_of Line = 12
number_of Operand = 13
number_of Label = 14
number_of Fails = 15
number_of Glass = 16

-- what `u8::from` answers
abbrev pub Numbered : Refusal → ℕ → Type 0
Numbered r n = n ≡ number_of r

-- the number of an answer: 0 where nothing is refused
abbrev pub refusal_of : {A : Type 0} → Result A Refusal → ℕ
refusal_of (Ok x) = 0
refusal_of (Err r) = number_of r
