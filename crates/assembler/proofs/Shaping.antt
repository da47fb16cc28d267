-- Each form is as its number's shape and first byte say: its bytes for every value, its digits, and where it reaches; and its bytes are bytes for
-- every value of its field. Stated of each form once, and computed with the value as a variable. Assumes nothing.
use Prim.Native.Nat.{ℕ, zero, suc, ◌+◌, ◌%◌, ◌^◌, ◌<◌}
use mathlib.Core.Path.{◌≡◌, refl, ap}
use mathlib.Core.Bool.{false}
use mathlib.Core.List.{List, [], ◌∷◌, map}
use native.Mathlib.Omega.{arith}
use lib.Dec.{T, eqb, leb, leb→le}
use lib.ListN.{get_or, length, drop}
use Rattle.isa.specs.Code.{bytes_of, leading}
use Rattle.isa.specs.Views.{view}
use Rattle.isa.specs.declared.Instruction.{Instruction}
use Rattle.isa.specs.declared.Instruction.TheVariants as I
use Rattle.mnemonic.specs.Line.{line_of}
use Rattle.assembler.specs.Forms.{always, operand_digits, forms, reaches, size, rom_size}
use Rattle.assembler.specs.Shapes.{bytes_in, digits_in, firsts, form_at, low_bytes, reaches_in, shape_number, shapes, size_in}
use Rattle.assembler.specs.declared.forms.Form.{Form}
use Rattle.assembler.specs.declared.forms.TheConstants.{BLANK}

pub record Shaped (f : ℕ → Instruction) (first s : ℕ) : Type 0 where
  pub bytes : (v : ℕ) → bytes_of (f v) ≡ bytes_in s first v
  pub digit : operand_digits f ≡ digits_in s
  pub sized : size f ≡ size_in s
  pub solid : eqb s 0 ≡ false
  pub reach : (moved v : ℕ) → reaches f moved v ≡ reaches_in s moved v
  pub low : (v : ℕ) → v < 16 ^ digits_in s → low_bytes (bytes_in s first v) ≡ bytes_in s first v

shaped : {f : ℕ → Instruction} {a s : ℕ} → ((v : ℕ) → bytes_of (f v) ≡ bytes_in s a v) → operand_digits f ≡ digits_in s → size f ≡ size_in s → eqb s 0 ≡ false
    → ((moved v : ℕ) → reaches f moved v ≡ reaches_in s moved v) → ((v : ℕ) → v < 16 ^ digits_in s → low_bytes (bytes_in s a v) ≡ bytes_in s a v)
    → Shaped f a s
shaped b d z o r l = record { bytes = b; digit = d; sized = z; solid = o; reach = r; low = l }

two : {a b c d : ℕ} → a ≡ b → c ≡ d → ◌≡◌ {A = List ℕ} (a ∷ c ∷ []) (b ∷ d ∷ [])
two e f = cc

module _ (a : ℕ) (h : T (leb a 240)) where
  low-within : (v : ℕ) → v < 16 → low_bytes (bytes_in 3 a v) ≡ bytes_in 3 a v
  low-within v l = let b = leb→le a 240 h in let e : (a + v) % 256 ≡ a + v = omega arith in ap (λ (x : ℕ). x ∷ []) e

  low-nibble : (v : ℕ) → v < 16 → low_bytes (bytes_in 4 a v) ≡ bytes_in 4 a v
  low-nibble v l = let b = leb→le a 240 h in two (omega arith) (omega arith)

  low-pair : (v : ℕ) → v < 256 → low_bytes (bytes_in 5 a v) ≡ bytes_in 5 a v
  low-pair v l = let b = leb→le a 240 h in two (omega arith) (omega arith)

  low_byte : (v : ℕ) → v < 256 → low_bytes (bytes_in 6 a v) ≡ bytes_in 6 a v
  low_byte v l = let b = leb→le a 240 h in two (omega arith) (omega arith)

  low-address : (v : ℕ) → v < rom_size → low_bytes (bytes_in 8 a v) ≡ bytes_in 8 a v
  low-address v l = let b = leb→le a 240 h in two (omega arith) (omega arith)

low-branch : (a : ℕ) (h : T (leb a 248)) (v : ℕ) → v < rom_size → low_bytes (bytes_in 7 a v) ≡ bytes_in 7 a v
low-branch a h v l = let b = leb→le a 248 h in two (omega arith) (omega arith)

infixr 67 ◌and◌
data Each : List (ℕ → Instruction) → List ℕ → List ℕ → Type 0 where
  none : Each [] [] []
  ◌and◌ : {f : ℕ → Instruction} {fs : List (ℕ → Instruction)} {a s : ℕ} {firsts shapes : List ℕ} → Shaped f a s → Each fs firsts shapes
      → Each (f ∷ fs) (a ∷ firsts) (s ∷ shapes)

each : Each forms (drop 1 firsts) (drop 1 shapes)
unfolding forms bytes_of leading line_of view
each =
    shaped (λ v. refl) refl refl refl (λ m v. refl) (λ v h. refl) and shaped (λ v. refl) refl refl refl (λ m v. refl) (λ v h. refl) and
    shaped (λ v. refl) refl refl refl (λ m v. refl) (λ v h. refl) and shaped (λ v. refl) refl refl refl (λ m v. refl) (λ v h. refl) and
    shaped (λ v. refl) refl refl refl (λ m v. refl) (low-nibble 0x40 tt) and shaped (λ v. refl) refl refl refl (λ m v. refl) (low-nibble 0x41 tt) and
    shaped (λ v. refl) refl refl refl (λ m v. refl) (λ v h. refl) and shaped (λ v. refl) refl refl refl (λ m v. refl) (λ v h. refl) and
    shaped (λ v. refl) refl refl refl (λ m v. refl) (λ v h. refl) and shaped (λ v. refl) refl refl refl (λ m v. refl) (λ v h. refl) and
    shaped (λ v. refl) refl refl refl (λ m v. refl) (λ v h. refl) and shaped (λ v. refl) refl refl refl (λ m v. refl) (λ v h. refl) and
    shaped (λ v. refl) refl refl refl (λ m v. refl) (λ v h. refl) and shaped (λ v. refl) refl refl refl (λ m v. refl) (low-nibble 0x42 tt) and
    shaped (λ v. refl) refl refl refl (λ m v. refl) (low-nibble 0x44 tt) and shaped (λ v. refl) refl refl refl (λ m v. refl) (low-nibble 0x43 tt) and
    shaped (λ v. refl) refl refl refl (λ m v. refl) (λ v h. refl) and shaped (λ v. refl) refl refl refl (λ m v. refl) (λ v h. refl) and
    shaped (λ v. refl) refl refl refl (λ m v. refl) (λ v h. refl) and shaped (λ v. refl) refl refl refl (λ m v. refl) (λ v h. refl) and
    shaped (λ v. refl) refl refl refl (λ m v. refl) (λ v h. refl) and shaped (λ v. refl) refl refl refl (λ m v. refl) (λ v h. refl) and
    shaped (λ v. refl) refl refl refl (λ m v. refl) (λ v h. refl) and shaped (λ v. refl) refl refl refl (λ m v. refl) (λ v h. refl) and
    shaped (λ v. refl) refl refl refl (λ m v. refl) (λ v h. refl) and shaped (λ v. refl) refl refl refl (λ m v. refl) (λ v h. refl) and
    shaped (λ v. refl) refl refl refl (λ m v. refl) (λ v h. refl) and shaped (λ v. refl) refl refl refl (λ m v. refl) (λ v h. refl) and
    shaped (λ v. refl) refl refl refl (λ m v. refl) (λ v h. refl) and shaped (λ v. refl) refl refl refl (λ m v. refl) (λ v h. refl) and
    shaped (λ v. refl) refl refl refl (λ m v. refl) (λ v h. refl) and shaped (λ v. refl) refl refl refl (λ m v. refl) (λ v h. refl) and
    shaped (λ v. refl) refl refl refl (λ m v. refl) (λ v h. refl) and shaped (λ v. refl) refl refl refl (λ m v. refl) (λ v h. refl) and
    shaped (λ v. refl) refl refl refl (λ m v. refl) (λ v h. refl) and shaped (λ v. refl) refl refl refl (λ m v. refl) (λ v h. refl) and
    shaped (λ v. refl) refl refl refl (λ m v. refl) (λ v h. refl) and shaped (λ v. refl) refl refl refl (λ m v. refl) (λ v h. refl) and
    shaped (λ v. refl) refl refl refl (λ m v. refl) (λ v h. refl) and shaped (λ v. refl) refl refl refl (λ m v. refl) (λ v h. refl) and
    shaped (λ v. refl) refl refl refl (λ m v. refl) (λ v h. refl) and shaped (λ v. refl) refl refl refl (λ m v. refl) (λ v h. refl) and
    shaped (λ v. refl) refl refl refl (λ m v. refl) (λ v h. refl) and shaped (λ v. refl) refl refl refl (λ m v. refl) (λ v h. refl) and
    shaped (λ v. refl) refl refl refl (λ m v. refl) (λ v h. refl) and shaped (λ v. refl) refl refl refl (λ m v. refl) (λ v h. refl) and
    shaped (λ v. refl) refl refl refl (λ m v. refl) (low-within 0x70 tt) and shaped (λ v. refl) refl refl refl (λ m v. refl) (low-pair 0x50 tt) and
    shaped (λ v. refl) refl refl refl (λ m v. refl) (low-pair 0x60 tt) and shaped (λ v. refl) refl refl refl (λ m v. refl) (low-nibble 0x46 tt) and
    shaped (λ v. refl) refl refl refl (λ m v. refl) (λ v h. refl) and shaped (λ v. refl) refl refl refl (λ m v. refl) (λ v h. refl) and
    shaped (λ v. refl) refl refl refl (λ m v. refl) (λ v h. refl) and shaped (λ v. refl) refl refl refl (λ m v. refl) (λ v h. refl) and
    shaped (λ v. refl) refl refl refl (λ m v. refl) (λ v h. refl) and shaped (λ v. refl) refl refl refl (λ m v. refl) (λ v h. refl) and
    shaped (λ v. refl) refl refl refl (λ m v. refl) (λ v h. refl) and shaped (λ v. refl) refl refl refl (λ m v. refl) (λ v h. refl) and
    shaped (λ v. refl) refl refl refl (λ m v. refl) (low-address 0xe0 tt) and
    shaped (λ v. refl) refl refl refl (λ m v. refl) (low-branch 0xc0 tt) and shaped (λ v. refl) refl refl refl (λ m v. refl) (low-branch 0xc8 tt) and
    shaped (λ v. refl) refl refl refl (λ m v. refl) (low-branch 0xd0 tt) and shaped (λ v. refl) refl refl refl (λ m v. refl) (low-branch 0x80 tt) and
    shaped (λ v. refl) refl refl refl (λ m v. refl) (low-branch 0x88 tt) and shaped (λ v. refl) refl refl refl (λ m v. refl) (low-branch 0x90 tt) and
    shaped (λ v. refl) refl refl refl (λ m v. refl) (low-branch 0x98 tt) and shaped (λ v. refl) refl refl refl (λ m v. refl) (low-branch 0xb0 tt) and
    shaped (λ v. refl) refl refl refl (λ m v. refl) (low-branch 0xb8 tt) and shaped (λ v. refl) refl refl refl (λ m v. refl) (low-branch 0xa0 tt) and
    shaped (λ v. refl) refl refl refl (λ m v. refl) (low-branch 0xa8 tt) and shaped (λ v. refl) refl refl refl (λ m v. refl) (low-branch 0xd8 tt) and
    shaped (λ v. refl) refl refl refl (λ m v. refl) (low-address 0xf0 tt) and shaped (λ v. refl) refl refl refl (λ m v. refl) (λ v h. refl) and
    shaped (λ v. refl) refl refl refl (λ m v. refl) (λ v h. refl) and shaped (λ v. refl) refl refl refl (λ m v. refl) (λ v h. refl) and
    shaped (λ v. refl) refl refl refl (λ m v. refl) (λ v h. refl) and shaped (λ v. refl) refl refl refl (λ m v. refl) (λ v h. refl) and
    shaped (λ v. refl) refl refl refl (λ m v. refl) (λ v h. refl) and shaped (λ v. refl) refl refl refl (λ m v. refl) (λ v h. refl) and
    shaped (λ v. refl) refl refl refl (λ m v. refl) (low_byte 0x47 tt) and shaped (λ v. refl) refl refl refl (λ m v. refl) (λ v h. refl) and
    shaped (λ v. refl) refl refl refl (λ m v. refl) (λ v h. refl) and shaped (λ v. refl) refl refl refl (λ m v. refl) (λ v h. refl) and
    shaped (λ v. refl) refl refl refl (λ m v. refl) (λ v h. refl) and shaped (λ v. refl) refl refl refl (λ m v. refl) (λ v h. refl) and
    shaped (λ v. refl) refl refl refl (λ m v. refl) (λ v h. refl) and shaped (λ v. refl) refl refl refl (λ m v. refl) (λ v h. refl) and
    shaped (λ v. refl) refl refl refl (λ m v. refl) (λ v h. refl) and shaped (λ v. refl) refl refl refl (λ m v. refl) (λ v h. refl) and
    shaped (λ v. refl) refl refl refl (λ m v. refl) (λ v h. refl) and shaped (λ v. refl) refl refl refl (λ m v. refl) (low-nibble 0x45 tt) and
    shaped (λ v. refl) refl refl refl (λ m v. refl) (λ v h. refl) and shaped (λ v. refl) refl refl refl (λ m v. refl) (λ v h. refl) and
    shaped (λ v. refl) refl refl refl (λ m v. refl) (λ v h. refl) and shaped (λ v. refl) refl refl refl (λ m v. refl) (λ v h. refl) and
    shaped (λ v. refl) refl refl refl (λ m v. refl) (λ v h. refl) and none

nth : {fs : List (ℕ → Instruction)} {firsts shapes : List ℕ} → Each fs firsts shapes → (k : ℕ) → k < length fs
    → Shaped (get_or fs k (always I.Nop)) (get_or firsts k 0) (get_or shapes k 0)
nth none k h = absurd (omega arith)
nth (p and ps) zero h = p
nth (p and ps) (suc k) h = nth ps k (omega arith)

pub form-count : length forms ≡ 96
unfolding forms
form-count = refl

-- the form of each number but ORG's
pub shape_at : (k : ℕ) → 0 < k → k < 97 → Shaped (form_at k) (get_or firsts k 0) (get_or shapes k 0)
unfolding form_at
shape_at zero l h = absurd (omega arith)
shape_at (suc k) l h = nth each k (omega (arith, form-count))

-- a table's column
pub first_at : (l : List Form) (k : ℕ) → (get_or l k BLANK).first ≡ get_or (map (λ (f : Form). f.first) l) k 0
first_at [] k = refl
first_at (f ∷ l) zero = refl
first_at (f ∷ l) (suc k) = first_at l k

pub number_at : (l : List Form) (k : ℕ) → shape_number (get_or l k BLANK).shape ≡ get_or (map (λ (f : Form). shape_number f.shape) l) k 0
number_at [] k = refl
number_at (f ∷ l) zero = refl
number_at (f ∷ l) (suc k) = number_at l k
