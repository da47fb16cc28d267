-- The list of all bounds, address by address: what is remembered is true of every address, so one walk after the other goes on with it. Then the CALLs'
-- targets, place by place. Assumes nothing.
use Prim.Native.Nat.{ℕ, ◌+◌, ◌*◌, ◌/◌, ◌%◌, ◌^◌, ◌<◌, ◌≤◌}
use native.Mathlib.Omega.{arith}
use mathlib.Core.Path.{◌≡◌, refl, sym, ap, subst, ◌∙◌}
use mathlib.Core.Bool.{Bool, true, false, ◌&&◌, false≢true}
use mathlib.Core.List.{List}
use mathlib.Core.Logic.{◌⊎◌, inl, inr}
use lib.Dec.{eqb, ltb}
use lib.ListN.{length, get_or, set, replicate, length-set, length-replicate}
use borrow.Author.Tests.{eq-eqb, lt-ltb, ltb-true}
use Rattle.isa.specs.Choice.{pick}
use Rattle.isa.specs.Code.{addresses}
use Rattle.isa.specs.declared.ProgramAddress.{ProgramAddress}
use Rattle.rom.specs.Fetching.{Bytes, sized}
use Rattle.reach.specs.Walk.{zeros}
use Rattle.reach.proofs.Count.{after-set, get_d-zeros}
use Rattle.checker.specs.Marks.{levels, pair, flow_at}
use Rattle.checker.specs.Verdicts.{Marked, Safe, is_marked}
use Rattle.checker.proofs.Reach.{Targets}
use Rattle.checker.specs.declared.flow.Flow.{Flow}
use Rattle.checker.specs.declared.flow.Flow.TheVariants.{Unread, Sub}
use Rattle.bound.specs.Paths.{Endless}
use Rattle.bound.specs.Bounds.{BoundAnswers}
use Rattle.bound.specs.Lists.{bound_at, bounds_size, place_of, entry_of, Entries, Called, CallTargets}
use Rattle.bound.specs.Paths.{Leads}
use Rattle.bound.specs.Lists.{endless}
use Rattle.bound.specs.Walk.{next_addresses, HaltsAt, RemembersOf, target_of}
use Rattle.std.specs.Prelude.{Option, Some, None, Ok}
use Rattle.bound.proofs.Answers.{listed}
use Rattle.bound.proofs.Turn.{Turned, fresh, fresh-left}

-- ---- the entries
-- the entry of a pair above main
pub entry_at : (list : List ℕ) (a l : ℕ) → length list ≡ bounds_size → a < addresses → 0 < l → l < levels → entry_of list a l ≡ get_or list (place_of a l) 0
entry_at list a l e h z k = rw (eq-eqb (length list) bounds_size e, lt-ltb a addresses h, lt-ltb 0 l z, lt-ltb l levels k) refl

module _ (mask marks : List ℕ) (bytes : Bytes mask) (size : sized mask ≡ true) (marked : Marked mask marks) (safe : Safe mask) where
  -- the entries of the addresses before a
  pub record Filling (list found : List ℕ) (a : ℕ) : Type 0 where
    pub room : length list ≡ bounds_size
    pub known : RemembersOf mask (λ (k : ℕ). ⊥) found
    pub few : zeros found ≤ addresses
    pub done : (b l : ℕ) → b < a → 0 < l → l < levels → BoundAnswers mask (pair b l) (Ok (bound_at (get_or list (place_of b l) 0)))

  pub filling-start : (list : List ℕ) → length list ≡ bounds_size → Filling list (replicate addresses 0) 0
  filling-start list e = record { room = e; known = fresh mask (λ (k : ℕ). ⊥); few = fresh-left; done = λ b l h. absurd (omega arith) }

  -- what the walk from the next address is told
  pub filling-given : (list found : List ℕ) (a : ℕ) → Filling list found a → a < addresses
      → ((a < addresses) × (zeros found ≤ addresses)) × RemembersOf mask (λ (k : ℕ). Leads (next_addresses mask) k a) found
  filling-given list found a f h =
      ((h, f.few), record { size = f.known.size; unbounded = λ k e. sure k (f.known.unbounded k e); bounded = f.known.bounded })
    where
      sure : (k : ℕ) → Endless (next_addresses mask) (HaltsAt mask) k ⊎ ⊥ → Endless (next_addresses mask) (HaltsAt mask) k ⊎ Leads (next_addresses mask) k a
      sure k (inr n) = elim n [ ]
      sure k (inl e) = inl e

  -- the two entries of the address
  pub filling-next : (list found new : List ℕ) (a n x y : ℕ) → Filling list found a → a < addresses → Turned mask a found new n
      → x ≡ pick (is_marked marks a 1) n 0 → y ≡ pick (is_marked marks a 2) n 0 → Filling (set (set list (a * 2) x) (a * 2 + 1) y) new (a + 1)
  filling-next list found new a n x y f h t ex ey =
      record {
        room = length-set (set list (a * 2) x) (a * 2 + 1) y ∙ length-set list (a * 2) x ∙ f.room;
        known = record { size = t.1.0.size; unbounded = λ k e. sure k (t.1.0.unbounded k e); bounded = t.1.0.bounded };
        few = omega (arith, t.1.1, f.few);
        done = each;
      }
    where
      sure : (k : ℕ) → Endless (next_addresses mask) (HaltsAt mask) k ⊎ (get_or found k 0 ≡ endless) → Endless (next_addresses mask) (HaltsAt mask) k ⊎ ⊥
      sure k (inl e) = inl e
      sure k (inr e) = f.known.unbounded k e

      here : (b l : ℕ) → b ≡ a → 0 < l → l < levels → BoundAnswers mask (pair b l) (Ok (bound_at (pick (is_marked marks a l) n 0)))
      here b l e z k =
          subst (λ (b : ℕ). BoundAnswers mask (pair b l) (Ok (bound_at (pick (is_marked marks a l) n 0)))) (sym e)
          (listed mask marks a l size h k marked safe bytes z n t.0)

      at : (b l m v : ℕ) → b ≡ a → l ≡ m → 0 < l → l < levels → v ≡ pick (is_marked marks a m) n 0 → BoundAnswers mask (pair b l) (Ok (bound_at v))
      at b l m v e f z k g =
          subst (λ (v : ℕ). BoundAnswers mask (pair b l) (Ok (bound_at v))) (sym (g ∙ ap (λ (m : ℕ). pick (is_marked marks a m) n 0) (sym f))) (here b l e z k)

      each : (b l : ℕ) → b < a + 1 → 0 < l → l < levels
          → BoundAnswers mask (pair b l) (Ok (bound_at (get_or (set (set list (a * 2) x) (a * 2 + 1) y) (place_of b l) 0)))
      each b l i z k =
          let P : ℕ → Type 0 = λ (v : ℕ). BoundAnswers mask (pair b l) (Ok (bound_at v)) in
          after-set P (set list (a * 2) x) (a * 2 + 1) (place_of b l) y (omega (arith, length-set list (a * 2) x, f.room))
          (λ e. at b l 2 y (omega arith) (omega arith) z k ey)
          (λ e. after-set P list (a * 2) (place_of b l) x (omega (arith, f.room))
          (λ g. at b l 1 x (omega arith) (omega arith) z k ex)
          (λ g. f.done b l (omega (arith, e, g)) z k))

  pub filling-end : (list found : List ℕ) (a : ℕ) → Filling list found a → addresses ≤ a → (length list ≡ bounds_size) × Entries mask list
  filling-end list found a f h =
      (f.room, λ b l i z k. subst (λ (n : ℕ). BoundAnswers mask (pair b l) (Ok (bound_at n))) (sym (entry_at list b l f.room i z k)) (f.done b l (omega arith) z k))

-- ---- the CALLs' targets
-- a target is a marked CALL's
called : (m : Bool) (f : Flow) (r : ℕ) → Some r ≡ target_of (pick m f Unread) → (m ≡ true) × (t : ProgramAddress) × (f ≡ Sub t) × (t.0 ≡ r)
called true (Sub t) r e = (refl, t, refl, cc)
called true _ r e = absurd (cc)
called false f r e = absurd (cc)

-- and it is in range
pub called-inside : (m : Bool) (f : Flow) (r : ℕ) → Targets f → Some r ≡ target_of (pick m f Unread) → r < addresses
called-inside true (Sub t) r h e = let same : r ≡ t.0 = cc in omega (arith, h)
called-inside true _ r h e = absurd (cc)
called-inside false f r h e = absurd (cc)

-- a marked pair is in range
marked-inside : (marks : List ℕ) (a l : ℕ) → is_marked marks a l ≡ true → a < addresses
marked-inside marks a l = go (ltb a addresses) (ltb l levels) (eqb (get_or marks a 0 / 2 ^ l % 2) 1) (ltb-true a addresses)
  where
    go : (b d t : Bool) → (b ≡ true → a < addresses) → (b && d && t) ≡ true → a < addresses
    go true d t f e = f refl
    go false d t f e = absurd (false≢true e)

module _ (mask marks : List ℕ) where
  -- the CALLs before address a
  pub record Calling (flags : List ℕ) (a : ℕ) : Type 0 where
    pub size : length flags ≡ addresses
    pub flags-two : (t : ℕ) → get_or flags t 0 ≤ 1
    pub sound : (t : ℕ) → get_or flags t 0 ≡ 1 → Called mask marks t
    pub full : (t : ℕ) → t < addresses → (k : Called mask marks t) → k.from < a → get_or flags t 0 ≡ 1

  pub calling-start : Calling (replicate addresses 0) 0
  calling-start =
      record { size = length-replicate {A = ℕ} addresses 0; flags-two = λ t. omega (arith, get_d-zeros addresses t); sound = λ t e. absurd (omega (arith, get_d-zeros addresses t)); full = λ t h k z. absurd (omega arith) }

  module _ (flags : List ℕ) (a : ℕ) (c : Calling flags a) where
    abbrev TargetAt : Option ℕ → Type 0
    TargetAt r = r ≡ target_of (pick (is_marked marks a 0) (flow_at mask a) Unread)

    -- where a CALL at the address goes
    goes : (r : Option ℕ) → TargetAt r → (t : ℕ) (k : Called mask marks t) → k.from ≡ a → r ≡ Some t
    goes r target t k e = target ∙ ap target_of both ∙ ap Some k.there
      where
        both : pick (is_marked marks a 0) (flow_at mask a) Unread ≡ Sub k.target
        both = subst (λ (a : ℕ). pick (is_marked marks a 0) (flow_at mask a) Unread ≡ Sub k.target) e (rw k.marked k.calls)

    earlier : (t : ℕ) (k : Called mask marks t) → k.from < a + 1 → (k.from ≡ a → ⊥) → k.from < a
    earlier t k z n = omega (arith, n)

    pub calling-new : (r : ℕ) → r < addresses → TargetAt (Some r) → Calling (set flags r 1) (a + 1)
    calling-new r l target =
        record {
          size = length-set flags r 1 ∙ c.size;
          flags-two = λ t. after-set (λ (v : ℕ). v ≤ 1) flags r t 1 (omega (arith, c.size)) (λ e. omega arith) (λ n. c.flags-two t);
          sound = λ t. after-set (λ (v : ℕ). v ≡ 1 → Called mask marks t) flags r t 1 (omega (arith, c.size)) (λ e z. new t e) (λ n. c.sound t);
          full = λ t i k z. after-set (λ (v : ℕ). v ≡ 1) flags r t 1 (omega (arith, c.size)) (λ e. refl)
              (λ n. c.full t i k (earlier t k z (λ e. n (same t (goes (Some r) target t k e)))));
        }
      where
        same : (t : ℕ) → Some r ≡ Some t → t ≡ r
        same t e = cc

        new : (t : ℕ) → t ≡ r → Called mask marks t
        new t e =
            let x = called (is_marked marks a 0) (flow_at mask a) r target in
            record { from = a; target = x.1; calls = x.2; there = x.3 ∙ sym e; marked = x.0 }

    pub calling-old : TargetAt None → Calling flags (a + 1)
    calling-old target =
        record {
          size = c.size;
          flags-two = c.flags-two;
          sound = c.sound;
          full = λ t i k z. c.full t i k (earlier t k z (λ e. none t (goes None target t k e)));
        }
      where
        none : (t : ℕ) → None ≡ Some t → ⊥
        none t e = cc

  pub calling-end : (flags : List ℕ) (a : ℕ) → Calling flags a → addresses ≤ a → CallTargets mask marks flags
  calling-end flags a c h =
      record {
        called = λ t i k. c.full t i k (omega (arith, marked-inside marks k.from 0 k.marked));
        others = λ t i n. none (get_or flags t 0) (c.flags-two t) (λ e. n (c.sound t e));
      }
    where
      none : (v : ℕ) → v ≤ 1 → (v ≡ 1 → ⊥) → v ≡ 0
      none v l n = omega (arith, n)
