-- What reading a picture answers. Document 02, wish 7: "Answers: 3 for a picture nibble over 15; then 16 for any picture not allowed here, with the
-- leftmost digit that no valid picture with the same digits before it has". Assumes nothing.
use Rattle.std.specs.Prelude.{ℕ, suc, ◌*◌, ◌<◌, ◌≡◌, Bool, true, false, cond, ◌&&◌, List, [], ◌∷◌, eqb, ltb, length, take, Result, Ok, Err}
use Rattle.refusals.specs.Numbers.{number_of}
use Rattle.refusals.specs.declared.Refusal.{Refusal}
use Rattle.refusals.specs.declared.Refusal.TheVariants.{Buffer, Value, Glass}
use Rattle.glass.specs.Shapes.{Cell, glass, cells}
use Rattle.glass.specs.Pictures.{Reads, Valid}
use Rattle.glass.specs.declared.Reading.{Reading}
use Rattle.glass.specs.declared.Reading.TheVariants.{Dark}
use Rattle.glass.specs.declared.Unseen.{Unseen}
use Rattle.glass.specs.declared.Unseen.TheVariants.{BadLength, BadNibble, Unreadable}

-- a picture has as many digits as this one, the first k of them the same, and is valid
pub record Shares (k : ℕ) (picture : List Cell) : Type 0 where
  pub other : List Cell
  pub size : length other ≡ length picture
  pub same : take k other ≡ take k picture
  pub valid : Valid other

-- "that no valid picture with the same digits before it has"
abbrev pub Wrong : List Cell → ℕ → Type 0
Wrong picture k = Shares (suc k) picture → ⊥

-- "the leftmost digit"
pub record Leftmost (picture : List Cell) (k : ℕ) : Type 0 where
  pub inside : k < length picture
  pub wrong : Wrong picture k
  pub first : (j : ℕ) → j < k → Wrong picture j → ⊥

-- "3 for a picture nibble over 15"
unfoldable pub all_nibbles : List ℕ → Bool
all_nibbles [] = true
all_nibbles (x ∷ xs) = ltb x 16 && all_nibbles xs

-- eight nibbles, none over 15
abbrev pub EightNibbles : List ℕ → Type 0
EightNibbles s = (length s ≡ 2 * glass) × (all_nibbles s ≡ true)

-- what a picture is read as, or why it has no reading
abbrev pub Seen : Type 0
Seen = Result Reading Unseen

-- why a picture is refused. `Buffer` is a picture of another length
abbrev pub refusal_for : Unseen → Refusal
refusal_for BadLength = Buffer
refusal_for BadNibble = Value
refusal_for (Unreadable k) = Glass

-- what `Refusal::from` answers
abbrev pub Refused : Unseen → Refusal → Type 0
Refused x r = r ≡ refusal_for x

-- the paper's number of each answer, 0 for an answer that is not refused: 2 is a picture of another length
abbrev pub seen_refusal : Seen → ℕ
seen_refusal (Ok r) = 0
seen_refusal (Err x) = number_of (refusal_for x)

-- and its values: the reading of 0, the digit of 16. Dark and 0 stand beside any other number
abbrev pub seen_reading : Seen → Reading
seen_reading (Ok r) = r
seen_reading (Err x) = Dark

abbrev pub seen_digit : Seen → ℕ
seen_digit (Ok r) = 0
seen_digit (Err BadLength) = 0
seen_digit (Err BadNibble) = 0
seen_digit (Err (Unreadable k)) = k

-- what each number says of a picture, with an answer's values: 0, that it reads so; document 01's 2, a buffer of another length; "3 for a picture
-- nibble over 15; then 16 .."
abbrev pub SeenSays : List ℕ → Seen → ℕ → Type 0
SeenSays s x n =
    cond (eqb n 0) (EightNibbles s × Reads (cells s) (seen_reading x))
    (cond (eqb n 2) (length s ≡ 2 * glass → ⊥)
    (cond (eqb n 3) ((length s ≡ 2 * glass) × (all_nibbles s ≡ false))
    (cond (eqb n 16) (EightNibbles s × Leftmost (cells s) (seen_digit x))
    ⊥)))

-- an answer says what its number says
abbrev pub SeenAnswers : List ℕ → Seen → Type 0
SeenAnswers s x = SeenSays s x (seen_refusal x)

-- a picture has one answer
abbrev pub SeenDetermined : Type 0
SeenDetermined = (s : List ℕ) (x y : Seen) → SeenAnswers s x → SeenAnswers s y → x ≡ y
