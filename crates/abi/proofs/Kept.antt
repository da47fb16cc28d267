-- The two tables of numbers are inverse the other way too: what three numbers name has, by `numbers_of`, these numbers, but for the operands that the
-- form does not have. The lines of `forms` and of `numbers_of` are compared as two lists, which antt computes. Assumes nothing.
use Prim.Native.Nat.{ℕ, zero, suc, ◌+◌, ◌*◌, ◌/◌, ◌%◌}
use mathlib.Core.Path.{◌≡◌, refl, ap, ◌∙◌}
use mathlib.Core.Bool.{Bool, true, false}
use mathlib.Core.List.{List, [], ◌∷◌, map}
use native.Mathlib.Omega.{arith}
use lib.Dec.{ltb}
use lib.ListN.{length, get_or}
use Rattle.std.specs.Prelude.{Option, Some}
use Rattle.isa.specs.declared.Pointer.TheVariants.{R1R0, R3R2}
use Rattle.isa.specs.declared.Condition.{Condition}
use Rattle.isa.specs.declared.Instruction.{Instruction}
use Rattle.isa.specs.declared.Instruction.TheVariants as I
use Rattle.abi.specs.Forms.{Named, numbers, numbers_of, listed, provided, conditions, branch_named, pair_named}
use Rattle.abi.specs.Forms.{Form, plain, number, choice, target, pair, branch, meant, having, forms, named, kept}

-- the first n values of a function
abbrev values : ℕ → (ℕ → Named) → List Named
values zero f = []
values (suc n) f = f 0 ∷ values n (λ (k : ℕ). f (suc k))

-- the numbers of what a form can make, by a where it chooses; and what they are at the place n
abbrev made : Form → ℕ → ℕ → List Named
made (plain i) a b = numbers_of i ∷ []
made (number f) a b = numbers_of (f a) ∷ []
made (choice is) a b = map numbers_of is
made (target f) a b = numbers_of (f (record { 0 = b })) ∷ []
made pair a b = map numbers_of (I.MovPairXX R1R0 (b % 16) (b / 16) ∷ I.MovPairXX R3R2 (b % 16) (b / 16) ∷ [])
made branch a b = map numbers_of (map (λ (k : Condition). I.Branch (record { 0 = b }) k) conditions)

abbrev placed : ℕ → Form → ℕ → ℕ → List Named
placed n (plain i) a b = numbers n 0 0 ∷ []
placed n (number f) a b = numbers n a 0 ∷ []
placed n (choice is) a b = values (length is) (λ (a : ℕ). numbers n a 0)
placed n (target f) a b = numbers n 0 b ∷ []
placed n pair a b = values 2 (λ (a : ℕ). numbers n a (16 * (b / 16) + b % 16))
placed n branch a b = values 12 (λ (a : ℕ). numbers n a b)

abbrev all : (ℕ → ℕ) → List Form → List (ℕ → ℕ → List Named)
all place [] = []
all place (f ∷ fs) = placed (place 0) f ∷ all (λ (k : ℕ). place (suc k)) fs

tables : map made forms ≡ all (λ (k : ℕ). k) forms
unfolding numbers_of forms
tables = refl

-- ---- one form
chosen : (is : List Instruction) (f : ℕ → Named) → map numbers_of is ≡ values (length is) f → (a : ℕ) (i : Instruction) → listed is a ≡ Some i → numbers_of i ≡ f a
chosen [] f e a i m = absurd (let z : ◌≡◌ {A = ℕ} 0 1 = cc in omega arith)
chosen (j ∷ is) f e zero i m = cc
chosen (j ∷ is) f e (suc a) i m = chosen is (λ (k : ℕ). f (suc k)) (cc) a i m

within : (t : Bool) (m : Option Instruction) (i : Instruction) → provided t m ≡ Some i → m ≡ Some i
within true m i e = e
within false m i e = absurd (let z : ◌≡◌ {A = ℕ} 0 1 = cc in omega arith)

right : (n : ℕ) (f : Form) (a b : ℕ) (i : Instruction) → made f a b ≡ placed n f a b → meant f a b ≡ Some i → numbers_of i ≡ having f n a b
unfolding branch_named pair_named
right n (plain j) a b i e m = cc
right n (number f) a b i e m = cc
right n (choice is) a b i e m = chosen is (λ (a : ℕ). numbers n a 0) e a i m
right n (target f) a b i e m = cc
right n pair a b i e m =
    let whole : 16 * (b / 16) + b % 16 ≡ b = omega arith in
    chosen (I.MovPairXX R1R0 (b % 16) (b / 16) ∷ I.MovPairXX R3R2 (b % 16) (b / 16) ∷ []) (λ (a : ℕ). numbers n a (16 * (b / 16) + b % 16)) e a i (within (ltb b 256) _ i m)
    ∙ ap (numbers n a) whole
right n branch a b i e m = chosen (map (λ (k : Condition). I.Branch (record { 0 = b }) k) conditions) (λ (a : ℕ). numbers n a b) e a i m

-- ---- all of them
at : (fs : List Form) (place : ℕ → ℕ) → map made fs ≡ all place fs → (k a b : ℕ) (i : Instruction) → meant (get_or fs k (choice [])) a b ≡ Some i
    → numbers_of i ≡ having (get_or fs k (choice [])) (place k) a b
at [] place e k a b i m = absurd (let z : ◌≡◌ {A = ℕ} 0 1 = cc in omega arith)
at (f ∷ fs) place e zero a b i m =
    let here : made f ≡ placed (place 0) f = cc in
    right (place 0) f a b i (ap (λ (g : ℕ → ℕ → List Named). g a b) here) m
at (f ∷ fs) place e (suc k) a b i m = at fs (λ (k : ℕ). place (suc k)) (cc) k a b i m

pub named-kept : (form a b : ℕ) (i : Instruction) → named form a b ≡ Some i → numbers_of i ≡ kept form a b
unfolding named
named-kept form a b i m = at forms (λ (k : ℕ). k) tables form a b i m
