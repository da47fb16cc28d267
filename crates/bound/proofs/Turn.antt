-- One turn of the walk over a mask, at an address that may be known: what its successors may be told, what they leave, and what the turn answers. The laws
-- are Worst's, over any successor function; that an address is marked first takes one from what is not found yet. Assumes nothing.
use Prim.Native.Nat.{ℕ, max, suc, ◌-◌, ◌<◌, ◌≤◌}
use native.Mathlib.Decide.{ℕ_discrete, dec_le}
use native.Mathlib.Omega.{arith}
use mathlib.Core.Path.{◌≡◌, sym, subst}
use mathlib.Core.List.{List}
use lib.ListN.{get_or, set, replicate, length-replicate}
use Rattle.isa.specs.Code.{addresses}
use Rattle.rom.specs.Fetching.{Bytes, cycles_at}
use Rattle.reach.specs.Chains.{Member, here, there}
use Rattle.reach.specs.Walk.{zeros}
use Rattle.reach.proofs.Chains.{all-member}
use Rattle.reach.proofs.Count.{zeros-replicate, get_d-zeros}
use Rattle.bound.specs.Paths.{Leads}
use Rattle.bound.specs.Lists.{endless}
use Rattle.bound.specs.Walk.{most_cycles, settled, next_addresses, HaltsAt, ToldOf, RemembersOf, StandsAt}
use Rattle.bound.specs.declared.ways.Ways.TheVariants.{Out, One, Two}
use Rattle.bound.proofs.Addresses.{two-cycles, next_small}
use Rattle.bound.proofs.Worst.{zeros-mark, zeros-set-most, Worst, worst-none, worst-one, worst-two, told-settled, told-halt, finite-small}
use Rattle.bound.proofs.Worst.{told-known, stays, opened, descend, ascend, closed}

-- what a turn at an address leaves of what was found before it, and its number
abbrev pub Left : List ℕ → List ℕ → List ℕ → Type 0
Left mask old new = RemembersOf mask (λ (k : ℕ). get_or old k 0 ≡ endless) new × (zeros new ≤ zeros old)

abbrev pub Turned : List ℕ → ℕ → List ℕ → List ℕ → ℕ → Type 0
Turned mask a old new r = ToldOf mask a r × Left mask old new

-- nothing is found yet
pub fresh : (mask : List ℕ) (P : ℕ → Type 0) → RemembersOf mask P (replicate addresses 0)
fresh mask P =
    record {
      size = length-replicate {A = ℕ} addresses 0;
      unbounded = λ k e. absurd (omega (arith, get_d-zeros addresses k));
      bounded = λ k n. absurd (n (get_d-zeros addresses k));
    }

pub fresh-left : zeros (replicate addresses 0) ≤ addresses
fresh-left = omega (arith, zeros-replicate addresses)

module _ (mask : List ℕ) (bytes : Bytes mask) where
  -- a number of an address is 65,535 or small
  pub told-small : (q n : ℕ) → q < addresses → ToldOf mask q n → (n ≡ endless → ⊥) → n ≤ most_cycles
  told-small q n h t f =
      finite-small (next_addresses mask) (HaltsAt mask) (cycles_at mask) (λ k. next_small mask k bytes) (two-cycles mask) q n h (t.bounded f)

  pub told-most : (q n : ℕ) → q < addresses → ToldOf mask q n → n ≤ endless
  told-most q n h t = go (ℕ_discrete n endless)
    where
      go : Dec (n ≡ endless) → n ≤ endless
      go (yes e) = omega arith
      go (no f) = let l = told-small q n h t f in omega arith

  module _ (a left : ℕ) (found : List ℕ) (h : a < addresses) (l : zeros found ≤ left)
      (before : RemembersOf mask (λ (k : ℕ). Leads (next_addresses mask) k a) found) where
    pub known : (get_or found a 0 ≡ 0 → ⊥) → Turned mask a found found (get_or found a 0)
    known n = (
      told-known (next_addresses mask) (HaltsAt mask) (cycles_at mask) a found before n,
      (stays (next_addresses mask) (HaltsAt mask) (cycles_at mask) a found before, omega arith),
    )

-- what is known when the turn of an address that is not found yet begins
pub record Opened (mask : List ℕ) (a left : ℕ) (found : List ℕ) : Type 0 where
  pub bytes : Bytes mask
  pub inside : a < addresses
  pub room : zeros found ≤ left
  pub before : RemembersOf mask (λ (k : ℕ). Leads (next_addresses mask) k a) found
  pub new : get_or found a 0 ≡ 0

module _ {mask : List ℕ} {a left : ℕ} {found : List ℕ} (o : Opened mask a left found) where
  marked : zeros found ≡ suc (zeros (set found a endless))
  marked = zeros-mark found a 65534 (omega (arith, o.before.size)) o.new

  pub some_left : 0 < left
  some_left = omega (arith, marked)

  -- while the chains of the address are walked
  pub record Walked (now : List ℕ) : Type 0 where
    pub opened : RemembersOf mask (λ (k : ℕ). get_or (set found a endless) k 0 ≡ endless) now
    pub fewer : zeros now < zeros found

  pub begun : Walked (set found a endless)
  begun =
      record { opened = opened (next_addresses mask) (HaltsAt mask) (cycles_at mask) a found o.before o.inside; fewer = omega (arith, marked) }

  -- a successor's turn: what it is told, and what it leaves
  pub inside : (q : ℕ) → Member q (next_addresses mask a) → q < addresses
  inside q m = all-member (λ (k : ℕ). k < addresses) m (next_small mask a o.bytes)

  pub given : (q : ℕ) (now : List ℕ) → Walked now → Member q (next_addresses mask a)
      → ((q < addresses) × (zeros now ≤ left - 1)) × RemembersOf mask (λ (k : ℕ). Leads (next_addresses mask) k q) now
  given q now w m =
      let f = w.fewer in
      ((inside q m, omega arith), descend (next_addresses mask) (HaltsAt mask) (cycles_at mask) a found o.before o.inside q now w.opened m)

  pub after : (now new : List ℕ) → Walked now → Left mask now new → Walked new
  after now new w r =
      let f = w.fewer in
      record {
        opened = ascend (next_addresses mask) (HaltsAt mask) (cycles_at mask) a found o.before o.inside now new w.opened r.0;
        fewer = omega (arith, r.1);
      }

  -- what the turn answers
  closes : (now : List ℕ) → Walked now → (r : ℕ) → ToldOf mask a r → Turned mask a found (set now a r) r
  closes now w r t =
      let f = w.fewer in
      let y = zeros-set-most now a r in
      (t, (closed (next_addresses mask) (HaltsAt mask) (cycles_at mask) a found o.before o.inside now r w.opened t, omega arith))

  pub halts : HaltsAt mask a → (r : ℕ) → r ≡ endless → Turned mask a found (set (set found a endless) a r) r
  halts e r p = closes (set found a endless) begun r (subst (ToldOf mask a) (sym p) (told-halt (next_addresses mask) (HaltsAt mask) (cycles_at mask) a e))

  settles : (now : List ℕ) (w r : ℕ) → Walked now → (HaltsAt mask a → ⊥)
      → Worst (next_addresses mask) (HaltsAt mask) (cycles_at mask) (next_addresses mask a) w → ((w ≡ endless → ⊥) → w ≤ most_cycles)
      → r ≡ settled w (cycles_at mask a) → Turned mask a found (set now a r) r
  settles now w r k n worst s e =
      closes now k r
      (subst (ToldOf mask a) (sym e) (told-settled (next_addresses mask) (HaltsAt mask) (cycles_at mask) a w n worst s (two-cycles mask a)))

  pub settles-none : (r : ℕ) → StandsAt mask a Out → r ≡ settled 0 (cycles_at mask a) → Turned mask a found (set (set found a endless) a r) r
  settles-none r k =
      settles (set found a endless) 0 r begun k.0
      (subst (λ (qs : List ℕ). Worst (next_addresses mask) (HaltsAt mask) (cycles_at mask) qs 0) k.1
      (worst-none (next_addresses mask) (HaltsAt mask) (cycles_at mask))) (λ n. omega arith)

  -- one way on
  module _ (q : ℕ) (k : StandsAt mask a (One q)) where
    pub one-first : Member q (next_addresses mask a)
    one-first = subst (Member q) k.1 here

    pub settles-one : (now : List ℕ) (n r : ℕ) → Walked now → ToldOf mask q n → r ≡ settled n (cycles_at mask a) → Turned mask a found (set now a r) r
    settles-one now n r w t =
        settles now n r w k.0
        (subst (λ (qs : List ℕ). Worst (next_addresses mask) (HaltsAt mask) (cycles_at mask) qs n) k.1
        (worst-one (next_addresses mask) (HaltsAt mask) (cycles_at mask) q n t)) (told-small mask o.bytes q n (inside q one-first) t)

  -- two
  module _ (q s : ℕ) (k : StandsAt mask a (Two q s)) where
    pub two-first : Member q (next_addresses mask a)
    two-first = subst (Member q) k.1 here

    pub two-second : Member s (next_addresses mask a)
    two-second = subst (Member s) k.1 (there here)

    pub two-small : (n m : ℕ) → ToldOf mask q n → ToldOf mask s m → (max n m ≡ endless → ⊥) → max n m ≤ most_cycles
    two-small n m t u e = go (dec_le n m)
      where
        go : Dec (n ≤ m) → max n m ≤ most_cycles
        go (yes l) = let k = told-small mask o.bytes s m (inside s two-second) u (λ y. e (omega arith)) in omega arith
        go (no l) = let k = told-small mask o.bytes q n (inside q two-first) t (λ y. e (omega arith)) in omega arith

    pub settles-two : (now : List ℕ) (n m r : ℕ) → Walked now → ToldOf mask q n → ToldOf mask s m → r ≡ settled (max n m) (cycles_at mask a)
        → Turned mask a found (set now a r) r
    settles-two now n m r w t u =
        settles now (max n m) r w k.0
        (subst (λ (qs : List ℕ). Worst (next_addresses mask) (HaltsAt mask) (cycles_at mask) qs (max n m)) k.1
        (worst-two (next_addresses mask) (HaltsAt mask) (cycles_at mask) q s n m t u (told-most mask o.bytes q n (inside q two-first) t) (told-most mask o.bytes s m (inside s two-second) u)))
        (two-small n m t u)

    -- the second is known already
    pub known-second : (now : List ℕ) → Walked now → (get_or now s 0 ≡ 0 → ⊥) → ToldOf mask s (get_or now s 0)
    known-second now w = told-known (next_addresses mask) (HaltsAt mask) (cycles_at mask) s now (given s now w two-second).1
