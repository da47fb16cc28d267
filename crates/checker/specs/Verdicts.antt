-- What the checker writes and answers. Assumes nothing.
use Rattle.std.specs.Prelude.{ℕ, ◌+◌, ◌*◌, ◌/◌, ◌%◌, ◌^◌, ◌<◌, ◌≤◌, ◌≡◌, Bool, true, ◌&&◌, List, length, get_or, eqb, ltb, Result, Ok, Err}
use Rattle.isa.specs.Choice.{pick}
use Rattle.isa.specs.Code.{addresses}
use Rattle.rom.specs.Fetching.{sized}
use Rattle.checker.specs.Marks.{levels, Pair, pair, fault, Reached}
use Rattle.checker.specs.declared.check.Verdict.{Verdict}
use Rattle.checker.specs.declared.check.Verdict.TheVariants.{Passed, Failed}
use Rattle.refusals.specs.Numbers as Numbers
use Rattle.refusals.specs.declared.Refusal.{Refusal}
use Rattle.refusals.specs.declared.Refusal.TheVariants as R

-- "2: .. marks .. not .. 4,096": how many mark bytes there are
abbrev pub marks_size : ℕ
marks_size = 4096

-- "mark bytes: 1 level 0, 2 level 1, 4 level 2, added": the bit of a level in the byte of an address. No pair out of range has one
abbrev pub is_marked : List ℕ → ℕ → ℕ → Bool
is_marked marks a l = ltb a addresses && ltb l levels && eqb (get_or marks a 0 / 2 ^ l % 2) 1

-- "The checker writes 4,096 mark bytes .. for exactly the pairs that chains from address 0, level 0 reach"
pub record Marked (mask marks : List ℕ) : Type 0 where
  pub size : length marks ≡ marks_size
  pub rest : (a : ℕ) → a < addresses → get_or marks a 0 < 8
  pub sound : (a l : ℕ) → a < addresses → l < levels → is_marked marks a l ≡ true → Reached mask (pair a l)
  pub full : (a l : ℕ) → a < addresses → l < levels → Reached mask (pair a l) → is_marked marks a l ≡ true

-- the order "address first, then level"
abbrev pub rank : Pair → ℕ
rank p = p.address * levels + p.level

-- "fault, address and level of the lowest forbidden marked pair"
pub record Lowest (mask : List ℕ) (f a l : ℕ) : Type 0 where
  pub reached : Reached mask (pair a l)
  pub forbidden : fault mask (pair a l) ≡ f
  pub not-zero : f ≡ 0 → ⊥
  pub lowest : (p : Pair) → Reached mask p → (fault mask p ≡ 0 → ⊥) → rank (pair a l) ≤ rank p

-- no reached pair is forbidden
abbrev pub Safe : List ℕ → Type 0
Safe mask = (p : Pair) → Reached mask p → fault mask p ≡ 0

-- neither length is refused, and the marks are written
pub record Written (mask old new : List ℕ) : Type 0 where
  pub mask_size : sized mask ≡ true
  pub marks-size : length old ≡ marks_size
  pub marked : Marked mask new

-- what each refusal says: document 01's numbers are 1 "mask not 4,096 bytes" and 2 "marks .. not .. 4,096"
abbrev pub Refused : List ℕ → List ℕ → Refusal → Type 0
Refused mask marks R.Mask = sized mask ≡ true → ⊥
Refused mask marks R.Buffer = (sized mask ≡ true) × (length marks ≡ marks_size → ⊥)
Refused mask marks _ = ⊥

-- what each answer says of the mask, and of the marks at entry and at exit: on a refusal the marks are as they were
abbrev pub Answers : List ℕ → List ℕ → List ℕ → Result Verdict Refusal → Type 0
Answers mask old new (Ok Passed) = Written mask old new × Safe mask
Answers mask old new (Ok (Failed f a l)) = Written mask old new × Lowest mask f a l
Answers mask old new (Err r) = Refused mask old r × (new ≡ old)

-- the answer and the marks depend on the mask and the marks at entry alone
abbrev pub AnswersDetermine : Type 0
AnswersDetermine =
    (mask old new other : List ℕ) (v w : Result Verdict Refusal) → Answers mask old new v → Answers mask old other w → (v ≡ w) × (new ≡ other)

-- the paper's number of each answer, 0 for an answer that is not refused
abbrev pub number_of : Result Verdict Refusal → ℕ
number_of (Ok Passed) = 0
number_of (Ok (Failed f a l)) = 0
number_of (Err r) = Numbers.number_of r

-- "1: mask not 4,096 bytes"; "2: .. marks .. not .. 4,096"; the lowest number wins
abbrev pub check_refusal : List ℕ → List ℕ → ℕ
check_refusal mask marks = pick (sized mask) (pick (eqb (length marks) marks_size) 0 2) 1
