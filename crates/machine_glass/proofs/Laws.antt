-- A machine has one answer, its picture is one, and asleep it is dark. Assumes nothing.
use Prim.Native.Nat.{ℕ, zero, suc, ◌+◌, ◌%◌, ◌<◌}
use native.Mathlib.Omega.{arith}
use mathlib.Core.Path.{◌≡◌, refl, sym, ap, ap₂, ◌∙◌, subst}
use mathlib.Core.Bool.{Bool, true, false, ◌&&◌}
use mathlib.Core.List.{List, ◌∷◌}
use lib.Dec.{eqb}
use lib.ListN.{replicate}
use borrow.Author.Tests.{lt-ltb, eq-eqb}
use Rattle.std.specs.Prelude.{Ok, Err}
use Rattle.isa.specs.Choice.{pick}
use Rattle.datapath.specs.Memory.{loaded}
use Rattle.cpu.specs.Range.{cpu_ok, memory_ok, valid}
use Rattle.cpu.specs.declared.Cpu.{Cpu}
use Rattle.cpu.proofs.Ranges.{loaded-in}
use Rattle.machine.specs.Machine.{state_of}
use Rattle.machine.specs.Report.{places, shown}
use Rattle.glass.specs.Reading.{all_nibbles, SeenAnswers}
use Rattle.glass.specs.declared.Reading.TheVariants.{Dark}
use Rattle.glass.proofs.Laws.{true-false, seen-determined}
use Rattle.refusals.proofs.Numbers.{same_number}
use Rattle.machine_glass.specs.Glass.{on_glass, Sight, SightDetermined, ShowsPicture, AsleepIsDark}

pub sight-determined : SightDetermined
sight-determined m (Ok s) (Ok t) a b = ap {B = Sight} Ok (seen-determined (on_glass m) s t a.1 b.1)
sight-determined m (Ok s) (Err q) a b = absurd (true-false (valid (state_of m)) a.0 b.0)
sight-determined m (Err r) (Ok t) a b = absurd (true-false (valid (state_of m)) b.0 a.0)
sight-determined m (Err r) (Err q) a b = ap {B = Sight} Err (same_number r q (sym a.1 ∙ b.1))

and_right : (a b : Bool) → a && b ≡ true → b ≡ true
and_right true b e = e
and_right false b e = absurd (let y : ◌≡◌ {A = ℕ} 0 1 = cc in omega arith)

-- a shown nibble is one
shown-in : (c : Cpu) (memory : List ℕ) → memory_ok memory ≡ true → (s : ℕ) → shown c memory s < 16
unfolding shown
shown-in c memory v s = go (eqb c.status.halted 1) (eqb c.options.commons 3) (loaded-in memory v (record { 0 = 0xe0 + s }))
  where
    go : (a b : Bool) → loaded memory (record { 0 = 0xe0 + s }) < 16 → pick a 0 (pick b (loaded memory (record { 0 = 0xe0 + s }) % 8) (loaded memory (record { 0 = 0xe0 + s }))) < 16
    go true b h = omega arith
    go false true h = omega arith
    go false false h = h

all_in : (n : ℕ) (f : ℕ → ℕ) (s : ℕ) → ((k : ℕ) → f k < 16) → all_nibbles (places n f s) ≡ true
unfolding all_nibbles
all_in zero f s h = refl
all_in (suc n) f s h = rw (lt-ltb (f s) 16 (h s)) (all_in n f (suc s) h)

pub shows-picture : ShowsPicture
unfolding valid
shows-picture m v = (refl, all_in 8 (shown m.cpu m.memory) 0 (shown-in m.cpu m.memory (and_right (cpu_ok m.cpu) (memory_ok m.memory) v)))

-- asleep each nibble is 0
shown-asleep : (c : Cpu) (memory : List ℕ) → c.status.halted ≡ 1 → (s : ℕ) → shown c memory s ≡ 0
unfolding shown
shown-asleep c memory h s = rw (eq-eqb c.status.halted 1 h) refl

all-0 : (n : ℕ) (f : ℕ → ℕ) (s : ℕ) → ((k : ℕ) → f k ≡ 0) → places n f s ≡ replicate n 0
all-0 zero f s h = refl
all-0 (suc n) f s h = ap₂ {C = List ℕ} (λ (x : ℕ) (xs : List ℕ). x ∷ xs) (h s) (all-0 n f (suc s) h)

dark : SeenAnswers (replicate 8 0) (Ok Dark)
unfolding all_nibbles
dark = ((refl, refl), refl)

pub asleep-is-dark : AsleepIsDark
asleep-is-dark m v h =
    (v, subst (λ (s : List ℕ). SeenAnswers s (Ok Dark)) (sym (all-0 8 (shown m.cpu m.memory) 0 (shown-asleep m.cpu m.memory h))) dark)
