-- The third pass, on plain values: every line so far has its place, flags say which addresses are written, and the labels have their addresses.
-- Assumes nothing.
use Prim.Native.Nat.{ℕ, suc, ◌+◌, ◌-◌, ◌<◌, ◌≤◌}
use mathlib.Core.Path.{◌≡◌, refl, sym, ap, ◌∙◌}
use mathlib.Core.Bool.{Bool, true, false, ◌&&◌, not}
use mathlib.Core.List.{List, ◌++◌, append-nil}
use native.Mathlib.Numerals.{add-one}
use native.Mathlib.Omega.{arith}
use borrow.Author.Tests.{leb-true, ltb-true}
use lib.Dec.{eqb, leb, ltb}
use lib.ListN.{get_or, get_or-replicate, length, length-replicate, length-set, replicate, set, take}
use lib.Seq.{length-sets, sets, take-suc-set}
use Rattle.assembler.specs.Forms.{rom_size}
use Rattle.isa.specs.Choice.{pick}
use Rattle.operand.specs.Read.{names_at, tokens_at}
use Rattle.operand.proofs.Places.{names-count}
use Rattle.operand.proofs.Texts.{both, case, differ}
use Rattle.assembler.specs.Statement.{Statement, statement}
use Rattle.assembler.specs.Program.{Above, address_of, end, first, misplaced, next, program, span, start, within}
use Rattle.assembler.specs.Shapes.{is_free, shapes, size_in}
use Rattle.assembler.specs.Read.{Parts, Shows}
use Rattle.assembler.specs.Passing.{Placed, Settled, line_end}
use Rattle.assembler.proofs.Addresses.{Flags, flag-span, shows-address, shows-place-free, shows-size, shows-stray, size-most}
use Rattle.assembler.proofs.Splitting.{last_line, program_at}
use Rattle.assembler.proofs.Walking.{Walk, shows-labelled, walk-begin, next-count, walk-clear, walk-found, walk-held, walk-names, walk-next-few}
use Rattle.assembler.proofs.Walking.{walk-on, walk-past, walk-readable}

pub record Placing (text starts addresses : List ℕ) (used : List Bool) (all at number count address : ℕ) : Type 0 where
  pub s : Above
  pub walk : Walk text at number count s
  pub settled : Settled text starts addresses all
  pub found : first misplaced start 1 (program text) ≡ first misplaced s number (program_at text at)
  pub at-is : address ≡ s.at
  pub most : address ≤ rom_size
  pub flags : Flags s.written used
  pub flag-count : length used ≡ rom_size
  pub stored : s.addresses ≡ take count addresses

pub places : (text starts addresses : List ℕ) (used : List Bool) (all : ℕ) → Settled text starts addresses all → used ≡ replicate rom_size false
    → Placing text starts addresses used all 0 1 0 0
places text starts addresses used all settled u = record {
  s = start;
  walk = walk-begin text settled.read;
  settled = settled;
  found = refl;
  at-is = refl;
  most = omega arith;
  flags = λ a h. rw (u, get_or-replicate {A = Bool} rom_size a false false h) refl;
  flag-count = ap length u ∙ length-replicate {A = Bool} rom_size false;
  stored = refl;
}

module _ {text starts addresses : List ℕ} {used : List Bool} {all at number count address : ℕ} (g : Placing text starts addresses used all at number count address)
    {r : Parts}
    (x : Shows text (names_at text starts count) (names_at text starts 0) addresses (statement (tokens_at text at)) r) where
  abbrev st : Statement
  st = statement (tokens_at text at)

  readable : r.readable ≡ true
  readable = walk-readable g.walk x

  names : g.s.names ≡ names_at text starts count
  names = walk-names g.walk g.settled

  few : count ≤ length starts
  few = walk-held g.walk g.settled

  stored_here : g.s.addresses ≡ take (length (names_at text starts count)) addresses
  stored_here = g.stored ∙ ap (λ (n : ℕ). take n addresses) (sym (names-count text starts count few))

  pub stray : (eqb r.form 0 && not (within rom_size r.plus r.minus)) ≡ true → number ≡ first misplaced start 1 (program text)
  stray h = walk-found g.walk misplaced g.found (shows-stray x readable g.s names stored_here h)

  module _ (inside : (eqb r.form 0 && not (within rom_size r.plus r.minus)) ≡ false) (here size : ℕ)
      (here-is : here ≡ pick (eqb r.form 0) (r.plus - r.minus) address) (size_is : size ≡ size_in (get_or shapes r.form 0)) where
    here-at : here ≡ pick (eqb r.form 0) (r.plus - r.minus) g.s.at
    here-at = here-is ∙ ap (λ (a : ℕ). pick (eqb r.form 0) (r.plus - r.minus) a) g.at-is

    free-is : misplaced g.s st ≡ not (is_free used here size)
    free-is = shows-place-free x readable g.s names stored_here used g.flags g.flag-count (omega (arith, g.at-is, g.most)) inside
        ∙ rw (sym here-at, sym size_is) refl

    pub here-most : (here ≤ rom_size) × (size ≤ 2)
    here-most = (
      case (eqb r.form 0) (λ e. org e) (λ e. let q : here ≡ address = here-is ∙ rw e refl in omega (arith, g.most)),
      omega
          (arith, size_is, size-most (get_or shapes r.form 0)),
    )
      where
        yes : (b : Bool) → not b ≡ false → b ≡ true
        yes true q = refl
        yes false q = absurd (differ (sym q))

        org : eqb r.form 0 ≡ true → here ≤ rom_size
        org e =
            let q : here ≡ r.plus - r.minus = here-is ∙ rw e refl in
            let i : not (within rom_size r.plus r.minus) ≡ false = rw e at inside in
            let l = ltb-true (r.plus - r.minus) rom_size
            (both (leb r.minus r.plus) (ltb (r.plus - r.minus) rom_size) (yes (within rom_size r.plus r.minus) i)).1 in
            omega arith

    pub crowded : is_free used here size ≡ false → number ≡ first misplaced start 1 (program text)
    crowded f = walk-found g.walk misplaced g.found (free-is ∙ rw f refl)

    module _ (free : is_free used here size ≡ true) where
      good-place : misplaced g.s st ≡ false
      good-place = free-is ∙ rw free refl

      pub end-most : here + size ≤ rom_size
      end-most = leb-true (here + size) rom_size (both (leb (here + size) rom_size) _ free).0

      address_is : address_of g.s st ≡ here
      address_is = shows-address x readable g.s names stored_here ∙ sym here-at

      pub label-room : r.labelled ≡ true → (count < length addresses) × (here < 65536)
      label-room l =
          let n = walk-next-few g.walk x g.settled (pick r.labelled (count + 1) count) refl in
          let m : count + 1 ≤ all = rw l at n in
          (omega (arith, g.settled.room), omega (arith, here-most.0))

      module _ (addresses' : List ℕ) (two : List Bool) (count' : ℕ) (noted : addresses' ≡ pick r.labelled (set addresses count here) addresses)
          (counts : count' ≡ pick r.labelled (count + 1) count) (marked : two ≡ sets used here (replicate size true)) where
        pub same-room : length addresses' ≡ length addresses
        same-room = case r.labelled
            (λ l. let a : addresses' ≡ set addresses count here = noted ∙ rw l refl in ap length a ∙ length-set addresses count here)
            (λ l. let a : addresses' ≡ addresses = noted ∙ rw l refl in ap length a)

        settled' : Settled text starts addresses' all
        settled' = record {
          short = g.settled.short;
          held = g.settled.held;
          room = omega (arith, same-room, g.settled.room);
          most = omega (arith, same-room, g.settled.most);
          names = g.settled.names;
          read = g.settled.read;
        }

        next-stored : (next g.s st).addresses ≡ take count' addresses'
        unfolding next
        next-stored = ap (λ (more : List ℕ). g.s.addresses ++ more) (shows-labelled x readable (address_of g.s st))
            ∙ case r.labelled
            (λ l. let a : addresses' ≡ set addresses count here = noted ∙ rw l refl in
            let c : count' ≡ suc count = counts ∙ rw (l, add-one) refl in
            rw (l, a, c, address_is, g.stored) (sym (take-suc-set addresses count here (label-room l).0)))
            (λ l. let a : addresses' ≡ addresses = noted ∙ rw l refl in
            let c : count' ≡ count = counts ∙ rw l refl in
            rw (l, a, c) (append-nil g.s.addresses ∙ g.stored))

        pub placed : line_end text at ≡ length text → (0 ≡ first misplaced start 1 (program text)) × (◌≡◌ {A = ℕ} 0 0 → Placed text starts addresses' all)
        placed h =
            let clear = walk-clear g.walk misplaced g.found good-place h in
            let is = last_line text at g.walk.within h in
            let last-names : length (next g.s st).names ≡ count' = next-count g.walk x count' counts in
            let over : end start (program text) ≡ next g.s st = g.walk.ends ∙ ap (end g.s) is in
            let full : count' ≡ all = sym last-names ∙ ap (λ (a : Above). length a.names) (sym over) ∙ ap length g.settled.names
            ∙ names-count text starts all g.settled.held in (
              clear,
              λ _. record {
                settled = settled';
                placed = sym clear;
                addressed = ap (λ (a : Above). a.addresses) over ∙ next-stored ∙ ap (λ (n : ℕ). take n addresses') full;
              },
            )

        next-at : here + size ≡ (next g.s st).at
        unfolding next
        next-at = rw (address_is, shows-size x readable, size_is) refl

        next-flags : Flags (g.s.written ++ span here size) two → Flags (next g.s st).written two
        unfolding next
        next-flags f = rw (address_is, shows-size x readable, sym size_is) f

        pub place-on : line_end text at < length text
            → Placing text starts addresses' two all (line_end text at + 1) (number + 1) count' (here + size)
        place-on h =
            record {
              s = next g.s st;
              walk = walk-on g.walk x count' counts h;
              settled = settled';
              found = walk-past g.walk misplaced g.found good-place h;
              at-is = next-at;
              most = end-most;
              flags = next-flags (rw marked (flag-span size g.s.written used here g.flags g.flag-count end-most));
              flag-count = ap length marked ∙ length-sets used here (replicate size true) ∙ g.flag-count;
              stored = next-stored;
            }
