-- Document 02, wish 2, "The way to a forbidden place": what is listed, and what each answer says. "Which of several is free", so a listed chain
-- is held to a relation; the answer and the count are determined. Assumes nothing.
use Rattle.std.specs.Prelude.{ℕ, ◌*◌, ◌/◌, ◌%◌, ◌<◌, ◌≤◌, ◌≡◌, true, cond, List, [], ◌∷◌, ◌++◌, eqb, length, drop, Result, Ok, Err}
use Rattle.isa.specs.Code.{addresses}
use Rattle.rom.specs.Fetching.{Bytes, sized}
use Rattle.reach.specs.Chains.{Shortest}
use Rattle.checker.specs.Marks.{levels, Pair, pair, successors}
use Rattle.checker.specs.Verdicts.{Lowest, Safe, Answers}
use Rattle.checker.specs.declared.check.Verdict.TheVariants.{Failed}
use Rattle.refusals.specs.Numbers.{number_of}
use Rattle.refusals.specs.declared.Refusal.{Refusal}

-- "three bytes a pair (address low byte first, level)"
unfoldable pub listed : List Pair → List ℕ
listed [] = []
listed (p ∷ ps) = p.address % 256 ∷ p.address / 256 ∷ p.level ∷ listed ps

-- "a chain from address 0, level 0 to the pair that the checker named. No such chain has fewer pairs"
pub record Way (mask : List ℕ) (chain : List Pair) : Type 0 where
  pub f : ℕ
  pub a : ℕ
  pub l : ℕ
  pub named : Lowest mask f a l
  pub shortest : Shortest (successors mask) (pair 0 0) chain (pair a l)

-- "It is written into a lent list ..; bytes after it stay, and the answer is its count of pairs"
pub record Lists (mask old new : List ℕ) (count : ℕ) : Type 0 where
  pub mask_size : sized mask ≡ true
  pub chain : List Pair
  pub way : Way mask chain
  pub counted : count ≡ length chain
  pub fits : 3 * count ≤ length old
  pub bytes : new ≡ listed chain ++ drop (3 * count) old

-- "11 if the list is too short": for a shortest chain
pub record TooShort (mask old : List ℕ) : Type 0 where
  pub mask_size : sized mask ≡ true
  pub chain : List Pair
  pub way : Way mask chain
  pub short : length old < 3 * length chain

-- the paper's number of each answer, 0 for an answer that is not refused
abbrev pub way_refusal : Result ℕ Refusal → ℕ
way_refusal (Ok n) = 0
way_refusal (Err r) = number_of r

-- and its value, "its count of pairs": 0 beside a refusal
abbrev pub way_count : Result ℕ Refusal → ℕ
way_count (Ok n) = n
way_count (Err r) = 0

-- what each refusal says: document 01's "1: mask not 4,096 bytes"; "10 if the mask passes, after 1; 11 if the list is too short, after 10"
abbrev pub WayRefused : List ℕ → List ℕ → ℕ → Type 0
WayRefused mask old n =
    cond (eqb n 1) (sized mask ≡ true → ⊥) (cond (eqb n 10) ((sized mask ≡ true) × Safe mask) (cond (eqb n 11) (TooShort mask old) ⊥))

-- what each answer says, by its number, of the mask and of the list at entry and at exit: 0, that so many pairs are listed; after a refusal the list
-- is as it was. "Which of several is free": the bytes listed are those of some shortest chain
abbrev pub WayAnswers : List ℕ → List ℕ → List ℕ → Result ℕ Refusal → Type 0
WayAnswers mask old new v =
    cond (eqb (way_refusal v) 0) (Lists mask old new (way_count v)) (WayRefused mask old (way_refusal v) × (new ≡ old))

-- the answer, its count with it, depends on the mask and the list at entry alone
abbrev pub WayDetermines : Type 0
WayDetermines =
    (mask old new other : List ℕ) (v w : Result ℕ Refusal) → WayAnswers mask old new v → WayAnswers mask old other w → v ≡ w

-- the way leads to the pair that the checker's verdict names
abbrev pub WayToVerdict : Type 0
WayToVerdict =
    (mask old new : List ℕ) (f a l : ℕ) (chain : List Pair) → Answers mask old new (Ok (Failed f a l)) → Way mask chain
    → Shortest (successors mask) (pair 0 0) chain (pair a l)

-- a shortest chain has each pair once, so at most 12,288 pairs; a list of three bytes for each is never too short
abbrev pub WayFits : Type 0
WayFits = (mask : List ℕ) → Bytes mask → (chain : List Pair) → Way mask chain → length chain ≤ addresses * levels

abbrev pub NeverTooShort : Type 0
NeverTooShort = (mask old : List ℕ) → Bytes mask → 3 * (addresses * levels) ≤ length old → TooShort mask old → ⊥
