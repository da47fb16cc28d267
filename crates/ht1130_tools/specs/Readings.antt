-- Readings as numbers of eight bytes, which are this interface's own: the refusal in byte 0, the digit of a refusal in byte 1, 1 for dark in byte 2,
-- the count of digits after the point in byte 3, the value in bytes 4 to 7. Assumes nothing.
use Rattle.std.specs.Prelude.{ℕ, suc, ◌+◌, ◌*◌, ◌-◌, ◌^◌, ◌≡◌, List, eqb, ℤ, pos, negsuc, Ok, Err}
use Rattle.isa.specs.Choice.{pick}
use Rattle.machine.specs.declared.Machine.{Machine}
use Rattle.glass.specs.Reading.{Seen, SeenAnswers, seen_refusal}
use Rattle.glass.specs.Drawing.{Drawing}
use Rattle.glass.specs.declared.Reading.{Reading}
use Rattle.glass.specs.declared.Reading.TheVariants.{Dark, Number}
use Rattle.glass.specs.declared.Unseen.TheVariants.{BadLength, BadNibble, Unreadable}
use Rattle.machine_glass.specs.Glass.{Sight, Sees, sight_refusal}

-- a signed number in 32 bits, two's complement
abbrev pub complement : ℤ → ℕ
complement (pos n) = n
complement (negsuc n) = 2 ^ 32 - suc n

abbrev pub reading_number : Reading → ℕ
reading_number Dark = 1 * 2 ^ 16
reading_number (Number value count) = count * 2 ^ 24 + complement value * 2 ^ 32

-- what stands above the refusal: the reading, or the digit of a 16
abbrev pub seen_values : Seen → ℕ
seen_values (Ok r) = reading_number r
seen_values (Err BadLength) = 0
seen_values (Err BadNibble) = 0
seen_values (Err (Unreadable k)) = k * 2 ^ 8

-- document 02, wish 7: "3 for a picture nibble over 15; then 16 .., with the leftmost digit ..". 2 is a picture of another length
abbrev pub seen_number : Seen → ℕ
seen_number s = seen_refusal s + seen_values s

-- what `ht1130_glass_read` answers: what the picture is read as, and its number
pub record GlassRead (picture : List ℕ) (r : ℕ) : Type 0 where
  pub seen : Seen
  pub answers : SeenAnswers picture seen
  pub number : r ≡ seen_number seen

-- the reading that `ht1130_glass_draw` is given: any `dark` but 0 is dark, and then the numbers are not looked at
abbrev pub given : ℕ → ℤ → ℕ → Reading
given dark value count = pick (eqb dark 0) (Number value count) Dark

-- what `ht1130_glass_draw` leaves: "16 with digit 0", the number in byte 0 and the digit in byte 1, and the lent picture
pub record GlassDrawn (d : Drawing) (new : List ℕ) (r : ℕ) : Type 0 where
  pub number : r ≡ d.refusal + d.digit * 2 ^ 8
  pub bytes : new ≡ d.picture

abbrev pub sight_number : Sight → ℕ
sight_number (Ok s) = sight_refusal (Ok s) + seen_values s
sight_number (Err r) = sight_refusal (Err r)

-- what `ht1130_reading` answers: what is seen of the lent machine, and its number
pub record SightTold (m : Machine) (r : ℕ) : Type 0 where
  pub sight : Sight
  pub sees : Sees m sight
  pub number : r ≡ sight_number sight

-- the numbers depend on the picture and on the machine alone
abbrev pub GlassReadDetermined : Type 0
GlassReadDetermined = (picture : List ℕ) (r q : ℕ) → GlassRead picture r → GlassRead picture q → r ≡ q

abbrev pub SightToldDetermined : Type 0
SightToldDetermined = (m : Machine) (r q : ℕ) → SightTold m r → SightTold m q → r ≡ q

-- the number of a reading is no other's: a host can tell what is seen from it
abbrev pub NumberTells : Type 0
NumberTells = (p q : List ℕ) (x y : Seen) → SeenAnswers p x → SeenAnswers q y → seen_number x ≡ seen_number y → x ≡ y

-- nor is that of what is seen of a machine: 5 is no picture's number
abbrev pub SightTells : Type 0
SightTells = (m n : Machine) (x y : Sight) → Sees m x → Sees n y → sight_number x ≡ sight_number y → x ≡ y
