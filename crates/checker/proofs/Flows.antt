-- The flow of two bytes by the tests that the code makes: over the 256 first bytes antt computes that the map's entries have it, with any second
-- byte. Assumes nothing.
use Prim.Native.Nat.{ℕ, zero, suc, ◌+◌, ◌*◌, ◌%◌, ◌<◌}
use native.Mathlib.Nat.{le_of_suc-le-suc, not-suc-le-zero}
use mathlib.Core.Path.{◌≡◌, refl, sym, ◌∙◌}
use mathlib.Core.Bool.{Bool, true, false}
use mathlib.Core.List.{List, [], ◌∷◌}
use lib.Dec.{ltb, eqb}
use lib.ListN.{get_or}
use borrow.Author.Tests.{lt-ltb, le-ltb, eq-eqb, ne_eqb}
use Rattle.std.specs.Prelude.{Some, None}
use Rattle.isa.specs.Choice.{pick}
use Rattle.isa.specs.Reading.{Entry, undefined, whole, fixed, nibble, byte, opcodes, complete, decoded}
use Rattle.isa.specs.declared.Instruction.{Instruction}
use Rattle.isa.specs.Views.{view}
use Rattle.checker.specs.declared.flow.Flow.{Flow}
use Rattle.checker.specs.declared.flow.Flow.TheVariants.{Unread, On, Enable, Jump, To, Sub, Back}
use Rattle.checker.specs.Marks.{flow_of, flow_read}

-- an entry's flow with its second byte
abbrev flow_in : Entry → ℕ → Flow
flow_in undefined b = Unread
flow_in (whole i) b = flow_of i
flow_in (fixed k i) b = pick (eqb b k) (flow_of i) Unread
flow_in (nibble f) b = pick (ltb b 16) (flow_of (f b)) Unread
flow_in (byte f) b = flow_of (f b)

picked : (t : Bool) (i : Instruction) → pick t (flow_of i) Unread ≡ flow_read (pick t (Some i) None)
picked true i = refl
picked false i = refl

entry-flow : (e : Entry) (b : ℕ) → flow_in e b ≡ flow_read (complete e b)
entry-flow undefined b = refl
entry-flow (whole i) b = refl
entry-flow (fixed k i) b = picked (eqb b k) i
entry-flow (nibble f) b = picked (ltb b 16) (f b)
entry-flow (byte f) b = refl

-- two functions agree below n where the lists of their first n values are one list
abbrev values : ℕ → (ℕ → Flow) → List Flow
values zero f = []
values (suc n) f = f 0 ∷ values n (λ (k : ℕ). f (suc k))

agree : (n : ℕ) (f g : ℕ → Flow) → values n f ≡ values n g → (k : ℕ) → k < n → f k ≡ g k
agree zero f g e k h = absurd (not-suc-le-zero h)
agree (suc n) f g e zero h = cc
agree (suc n) f g e (suc k) h = agree n (λ (k : ℕ). f (suc k)) (λ (k : ℕ). g (suc k)) (cc) k (le_of_suc-le-suc h)

-- by runs of first bytes
abbrev pub runs : ℕ → ℕ → Flow
runs a b =
    pick (ltb 0x7f a)
    (pick (ltb a 0xe0) (To (record { 0 = a % 8 * 256 + b }))
    (pick (ltb a 0xf0) (Jump (record { 0 = a % 16 * 256 + b })) (Sub (record { 0 = a % 16 * 256 + b }))))
    (pick (ltb a 0x35)
    (pick (ltb a 0x2c) On (pick (eqb a 0x2c) Enable (pick (eqb a 0x2d) On (pick (ltb a 0x30) Back On))))
    (pick (ltb a 0x38)
    (pick (eqb a 0x35) Unread (pick (eqb a 0x36) On (pick (eqb b 0x3e) On Unread)))
    (pick (ltb a 0x40) On
    (pick (ltb a 0x48) (pick (eqb a 0x47) On (pick (ltb b 16) On Unread))
    (pick (ltb a 0x50) On (pick (ltb a 0x70) (pick (ltb b 16) On Unread) On))))))

pub read_by_runs : (a b : ℕ) → a < 256 → flow_read (decoded a b) ≡ runs a b
unfolding decoded opcodes flow_of view
read_by_runs a b h =
    sym (agree 256 (λ (k : ℕ). runs k b) (λ (k : ℕ). flow_in (get_or opcodes k undefined) b) refl a h ∙ entry-flow (get_or opcodes a undefined) b)

-- with the laws of the tests
pub ruleset by_runs = (read_by_runs, lt-ltb, le-ltb, eq-eqb, ne_eqb)
