-- What stands at an address of a mask, as the walk has it: the addresses that follow, from the flow there, are addresses; an entry of document 01's
-- list has at most 2 cycles, by one computed test. Assumes nothing.
use Prim.Native.Nat.{ℕ, zero, suc, ◌%◌, ◌<◌, ◌≤◌}
use native.Mathlib.Omega.{arith}
use mathlib.Core.Path.{◌≡◌, refl, sym, ap, ap₂, subst, ◌∙◌}
use mathlib.Core.Bool.{Bool, true, false, ◌&&◌, false≢true}
use mathlib.Core.List.{List, [], ◌∷◌}
use lib.Dec.{ltb}
use lib.ListN.{get_or}
use borrow.Author.Tests.{ltb-true}
use Rattle.std.specs.Prelude.{Option, Some, None}
use Rattle.isa.specs.Code.{addresses}
use Rattle.isa.specs.Timing.{entries, columns_of}
use Rattle.isa.specs.Views.{View, on, jmp, branch, call, ret, reti, ei, view}
use Rattle.isa.specs.Reading.{opcodes, decoded}
use Rattle.isa.specs.declared.Instruction.{Instruction}
use Rattle.rom.specs.Fetching.{Bytes, code_at, read_at, cycles_at, moved_from}
use Rattle.rom.specs.declared.reader.Code.{Code}
use Rattle.rom.proofs.Fetching.{read-code, read-cycles, cycles-entry}
use Rattle.reach.specs.Walk.{Small}
use Rattle.checker.specs.Marks.{flow_by, flow_of, flow_read, flow_at, fault}
use Rattle.checker.specs.declared.flow.Flow.{Flow}
use Rattle.checker.specs.declared.flow.Flow.TheVariants.{Unread, On, Enable, Jump, To, Sub, Back}
use Rattle.checker.proofs.Reach.{Targets, flow-targets}
use Rattle.bound.specs.Bounds.{within}
use Rattle.bound.specs.Walk.{handed_to, next_addresses, HandedOn, Follows, StandsAt}
use Rattle.bound.specs.declared.ways.Ways.{Ways}
use Rattle.bound.specs.declared.ways.Ways.TheVariants.{Stop, Out, One, Two}

-- ---- cycles
cheap : List ℕ → Bool
cheap [] = true
cheap (x ∷ xs) = ltb (x % 16) 3 && cheap xs

first-cheap : (x : ℕ) (xs : List ℕ) → cheap (x ∷ xs) ≡ true → (x % 16 ≤ 2) × (cheap xs ≡ true)
unfolding cheap
first-cheap x xs = go (ltb (x % 16) 3) (ltb-true (x % 16) 3)
  where
    go : (b : Bool) → (b ≡ true → x % 16 < 3) → (b && cheap xs) ≡ true → (x % 16 ≤ 2) × (cheap xs ≡ true)
    go true f h = let l = f refl in (omega arith, h)
    go false f h = absurd (false≢true h)

cheap-at : (xs : List ℕ) (k : ℕ) → cheap xs ≡ true → get_or xs k 0 % 16 ≤ 2
cheap-at [] zero e = omega arith
cheap-at [] (suc k) e = omega arith
cheap-at (x ∷ xs) zero e = (first-cheap x xs e).0
cheap-at (x ∷ xs) (suc k) e = cheap-at xs k (first-cheap x xs e).1

all-cheap : cheap entries ≡ true
unfolding entries columns_of opcodes cheap
all-cheap = refl

pub two-cycles : (mask : List ℕ) (a : ℕ) → cycles_at mask a ≤ 2
two-cycles mask a = subst (λ (n : ℕ). n ≤ 2) (cycles-entry mask a) (cheap-at entries (code_at mask a).first all-cheap)

-- a return takes one
return-cycles : {i : Instruction} (v : View i) → flow_by v ≡ Back → (columns_of i).cycles ≡ 1
unfolding columns_of
return-cycles on e = let z : ◌≡◌ {A = ℕ} 0 1 = cc in absurd (omega arith)
return-cycles (jmp t) e = let z : ◌≡◌ {A = ℕ} 0 1 = cc in absurd (omega arith)
return-cycles (branch t k) e = let z : ◌≡◌ {A = ℕ} 0 1 = cc in absurd (omega arith)
return-cycles (call t) e = let z : ◌≡◌ {A = ℕ} 0 1 = cc in absurd (omega arith)
return-cycles ret e = refl
return-cycles reti e = refl
return-cycles ei e = let z : ◌≡◌ {A = ℕ} 0 1 = cc in absurd (omega arith)

pub returned-cycles : (mask : List ℕ) → Bytes mask → (a : ℕ) → flow_at mask a ≡ Back → cycles_at mask a ≡ 1
unfolding flow_at flow_of
returned-cycles mask bytes a = go (read_at mask a) refl
  where
    go : (d : Option Instruction) → read_at mask a ≡ d → flow_read d ≡ Back → cycles_at mask a ≡ 1
    go (Some i) e b = read-cycles mask a bytes i e ∙ return-cycles (view i) b
    go None e b = let z : ◌≡◌ {A = ℕ} 0 1 = cc in absurd (omega arith)

-- ---- what follows
module _ (mask : List ℕ) (a : ℕ) where
  pub next-flow : next_addresses mask a ≡ handed_to (flow_at mask a) (moved_from mask a)
  unfolding within fault
  next-flow = refl

  pub next_small : Bytes mask → Small addresses (next_addresses mask a)
  next_small bytes = subst (Small addresses) (sym next-flow) (go (flow_at mask a) (flow-targets mask bytes a))
    where
      go : (f : Flow) → Targets f → Small addresses (handed_to f (moved_from mask a))
      go Unread t = tt
      go On t = (omega arith, tt)
      go Enable t = (omega arith, tt)
      go (Jump b) t = (t, tt)
      go (To b) t = (omega arith, (omega arith, tt))
      go (Sub b) t = tt
      go Back t = tt

  -- the ways of the code there
  pub stands : (c : Code) (moved : ℕ) (w : Ways) → c ≡ code_at mask a → moved ≡ moved_from mask a → HandedOn (decoded c.first c.second) moved w → StandsAt mask a w
  unfolding flow_at
  stands c moved w at m = go w
    where
      read : decoded c.first c.second ≡ read_at mask a
      read = ap (λ (c : Code). decoded c.first c.second) at ∙ read-code mask a

      next : handed_to (flow_read (decoded c.first c.second)) moved ≡ next_addresses mask a
      next = ap₂ (λ (d : Option Instruction) (n : ℕ). handed_to (flow_read d) n) read m ∙ sym next-flow

      go : (w : Ways) → HandedOn (decoded c.first c.second) moved w → StandsAt mask a w
      go Stop h = sym read ∙ h
      go Out h = (λ e. h.0 (read ∙ e), subst (Follows Out) next h.1)
      go (One q) h = (λ e. h.0 (read ∙ e), subst (Follows (One q)) next h.1)
      go (Two q r) h = (λ e. h.0 (read ∙ e), subst (Follows (Two q r)) next h.1)
