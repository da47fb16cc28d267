-- `bound::longest::longest` meets its contract. The measure is the count of pairs left. What a turn makes of what is remembered stands in Turn. Assumes
-- nothing.
use Prim.Native.Nat.{ℕ, ◌≤◌}
use mathlib.Core.Path.{◌≡◌, sym, ap, subst, ◌∙◌}
use mathlib.Core.List.{List}
use native.Mathlib.Omega.{arith}
use lib.ListN.{get_or, set}
use Rattle.isa.specs.Timing.{length_of, cycles_of}
use Rattle.isa.specs.Reading.{decoded}
use Rattle.rom.specs.Fetching.{Bytes, code_at, cycles_at, moved_by, moved_from}
use Rattle.rom.specs.declared.reader.Code.{Code}
use Rattle.rom.proofs.Fetching.{length-code, cycles-code}
use Rattle.bound.specs.Lists.{endless}
use Rattle.bound.specs.Walk.{most_cycles, settled, HandedOn, StandsAt}
use Rattle.bound.specs.declared.ways.Ways.{Ways}
use Rattle.bound.specs.declared.ways.Ways.TheVariants.{Stop, Out, One, Two}
use Rattle.bound.proofs.Addresses.{stands}
use Rattle.bound.proofs.Turn.{Turned, Opened, Walked, told-small, known, some_left, begun, inside, given, after, halts}
use Rattle.bound.proofs.Turn.{settles-none, one-first, settles-one, two-first, two-second, two-small, settles-two, known-second}
use Rattle.bound.proofs.longest.+longest.Goals as goal

-- the length and cycles of the code's first byte are the instruction's
module _ (mask : List ℕ) (a : ℕ) (code : Code) (size cycles : ℕ) (p : code ≡ code_at mask a) (l : size ≡ length_of code.first) (q : cycles ≡ cycles_of code.first) where
  timed : cycles ≡ cycles_at mask a
  timed = q ∙ ap (λ (c : Code). cycles_of c.first) p ∙ cycles-code mask a

  moves : moved_by size a ≡ moved_from mask a
  moves = ap (λ (n : ℕ). moved_by n a) (l ∙ ap (λ (c : Code). length_of c.first) p ∙ length-code mask a)

  -- what stands there, once the ways are known
  there : (w : Ways) → HandedOn (decoded code.first code.second) (moved_by size a) w → StandsAt mask a w
  there w h = stands mask a code (moved_by size a) w p moves h

  spends : (w r : ℕ) → r ≡ settled w cycles → r ≡ settled w (cycles_at mask a)
  spends w r k = k ∙ ap (settled w) timed

-- an address that is known
pub returns-then-known-ne0 : goal.returns-then-known-ne0
returns-then-known-ne0 t c =
    let b : Bytes c.args.mask.now = λ k. omega (arith, c.type_inv.mask k) in
    let x = known c.args.mask.now b c.args.address c.args.left c.args.found.now c.requires.in_range.0 c.requires.in_range.1 c.requires.on_the_way c.if-known-ne0.true in
    record { told = x.0; remembers = x.1.0; no_more_left = x.1.1 }

pub overflow_sub-left : goal.overflow_sub-left
overflow_sub-left t c =
    let o : Opened c.args.mask.now c.args.address c.args.left c.args.found.now =
    record { bytes = λ k. omega (arith, c.type_inv.mask k); inside = c.requires.in_range.0; room = c.requires.in_range.1; before = c.requires.on_the_way; new = c.if-known-ne0.false } in
    some_left o

pub overflow_sub-left-in-Two : goal.overflow_sub-left-in-Two
overflow_sub-left-in-Two t c =
    let o : Opened c.args.mask.now c.args.address c.args.left c.args.found.now =
    record { bytes = λ k. omega (arith, c.type_inv.mask k); inside = c.requires.in_range.0; room = c.requires.in_range.1; before = c.requires.on_the_way; new = c.if-known-ne0.false } in
    some_left o

pub overflow_sub-left-in-Two-2 : goal.overflow_sub-left-in-Two-2
overflow_sub-left-in-Two-2 t c =
    let o : Opened c.args.mask.now c.args.address c.args.left c.args.found.now =
    record { bytes = λ k. omega (arith, c.type_inv.mask k); inside = c.requires.in_range.0; room = c.requires.in_range.1; before = c.requires.on_the_way; new = c.if-known-ne0.false } in
    some_left o

pub longest-one-requires : goal.longest-one-requires
longest-one-requires t c =
    let o : Opened c.args.mask.now c.args.address c.args.left c.args.found.now =
    record { bytes = λ k. omega (arith, c.type_inv.mask k); inside = c.requires.in_range.0; room = c.requires.in_range.1; before = c.requires.on_the_way; new = c.if-known-ne0.false } in
    let e = there c.args.mask.now c.args.address c.code_at-code.result c.entry-timing.result.bytes c.entry-timing.result.cycles c.code_at-code.ensures c.entry-timing.ensures.bytes c.entry-timing.ensures.cycles (One c.in-One.a) c.in-One.ensures in
    let g = given o c.in-One.a (set c.args.found.now c.args.address endless) (begun o) (one-first o c.in-One.a e) in
    let l = some_left o in
    (omega arith, g)

pub longest-one-requires-in-Two : goal.longest-one-requires-in-Two
longest-one-requires-in-Two t c =
    let o : Opened c.args.mask.now c.args.address c.args.left c.args.found.now =
    record { bytes = λ k. omega (arith, c.type_inv.mask k); inside = c.requires.in_range.0; room = c.requires.in_range.1; before = c.requires.on_the_way; new = c.if-known-ne0.false } in
    let e = there c.args.mask.now c.args.address c.code_at-code.result c.entry-timing.result.bytes c.entry-timing.result.cycles c.code_at-code.ensures c.entry-timing.ensures.bytes c.entry-timing.ensures.cycles (Two c.in-Two.a c.in-Two.b) c.in-Two.ensures in
    let g = given o c.in-Two.a (set c.args.found.now c.args.address endless) (begun o) (two-first o c.in-Two.a c.in-Two.b e) in
    let l = some_left o in
    (omega arith, g)

pub longest-two-requires : goal.longest-two-requires
longest-two-requires t c =
    let o : Opened c.args.mask.now c.args.address c.args.left c.args.found.now =
    record { bytes = λ k. omega (arith, c.type_inv.mask k); inside = c.requires.in_range.0; room = c.requires.in_range.1; before = c.requires.on_the_way; new = c.if-known-ne0.false } in
    let e = there c.args.mask.now c.args.address c.code_at-code.result c.entry-timing.result.bytes c.entry-timing.result.cycles c.code_at-code.ensures c.entry-timing.ensures.bytes c.entry-timing.ensures.cycles (Two c.in-Two.a c.in-Two.b) c.in-Two.ensures in
    let w : Walked o c.longest-one-in-Two.new.found = after o (set c.args.found.now c.args.address endless) c.longest-one-in-Two.new.found (begun o) (c.longest-one-in-Two.ensures.remembers, c.longest-one-in-Two.ensures.no_more_left) in
    let g = given o c.in-Two.b c.longest-one-in-Two.new.found w (two-second o c.in-Two.a c.in-Two.b e) in
    let l = some_left o in
    (omega arith, g)

pub settle-requires-in-One : goal.settle-requires-in-One
settle-requires-in-One t c =
    let o : Opened c.args.mask.now c.args.address c.args.left c.args.found.now =
    record { bytes = λ k. omega (arith, c.type_inv.mask k); inside = c.requires.in_range.0; room = c.requires.in_range.1; before = c.requires.on_the_way; new = c.if-known-ne0.false } in
    let e = there c.args.mask.now c.args.address c.code_at-code.result c.entry-timing.result.bytes c.entry-timing.result.cycles c.code_at-code.ensures c.entry-timing.ensures.bytes c.entry-timing.ensures.cycles (One c.in-One.a) c.in-One.ensures in
    (c.requires.in_range.0, told-small c.args.mask.now o.bytes c.in-One.a c.longest-one.result (inside o c.in-One.a (one-first o c.in-One.a e)) c.longest-one.ensures.told)

pub settle-requires-then-other-ne0 : goal.settle-requires-then-other-ne0
settle-requires-then-other-ne0 t c =
    let o : Opened c.args.mask.now c.args.address c.args.left c.args.found.now =
    record { bytes = λ k. omega (arith, c.type_inv.mask k); inside = c.requires.in_range.0; room = c.requires.in_range.1; before = c.requires.on_the_way; new = c.if-known-ne0.false } in
    let e = there c.args.mask.now c.args.address c.code_at-code.result c.entry-timing.result.bytes c.entry-timing.result.cycles c.code_at-code.ensures c.entry-timing.ensures.bytes c.entry-timing.ensures.cycles (Two c.in-Two.a c.in-Two.b) c.in-Two.ensures in
    let w : Walked o c.longest-one-in-Two.new.found = after o (set c.args.found.now c.args.address endless) c.longest-one-in-Two.new.found (begun o) (c.longest-one-in-Two.ensures.remembers, c.longest-one-in-Two.ensures.no_more_left) in
    let u = known-second o c.in-Two.a c.in-Two.b e c.longest-one-in-Two.new.found w c.if-other-ne0.true in
    (c.requires.in_range.0, subst (λ (n : ℕ). (n ≡ endless → ⊥) → n ≤ most_cycles) (sym c.max.ensures) (two-small o c.in-Two.a c.in-Two.b e c.longest-one-in-Two.result _ c.longest-one-in-Two.ensures.told u))

pub settle-requires-in-Two : goal.settle-requires-in-Two
settle-requires-in-Two t c =
    let o : Opened c.args.mask.now c.args.address c.args.left c.args.found.now =
    record { bytes = λ k. omega (arith, c.type_inv.mask k); inside = c.requires.in_range.0; room = c.requires.in_range.1; before = c.requires.on_the_way; new = c.if-known-ne0.false } in
    let e = there c.args.mask.now c.args.address c.code_at-code.result c.entry-timing.result.bytes c.entry-timing.result.cycles c.code_at-code.ensures c.entry-timing.ensures.bytes c.entry-timing.ensures.cycles (Two c.in-Two.a c.in-Two.b) c.in-Two.ensures in
    (c.requires.in_range.0, subst (λ (n : ℕ). (n ≡ endless → ⊥) → n ≤ most_cycles) (sym c.max-in-Two.ensures) (two-small o c.in-Two.a c.in-Two.b e c.longest-one-in-Two.result c.longest-two.result c.longest-one-in-Two.ensures.told c.longest-two.ensures.told))

-- HALT
pub returns-in-Stop : goal.returns-in-Stop
returns-in-Stop t c =
    let o : Opened c.args.mask.now c.args.address c.args.left c.args.found.now =
    record { bytes = λ k. omega (arith, c.type_inv.mask k); inside = c.requires.in_range.0; room = c.requires.in_range.1; before = c.requires.on_the_way; new = c.if-known-ne0.false } in
    let e = there c.args.mask.now c.args.address c.code_at-code.result c.entry-timing.result.bytes c.entry-timing.result.cycles c.code_at-code.ensures c.entry-timing.ensures.bytes c.entry-timing.ensures.cycles (Stop) c.in-Stop.ensures in
    let x : Turned c.args.mask.now c.args.address c.args.found.now c.settle.new.found c.settle.result =
    subst (λ (new : List ℕ). Turned c.args.mask.now c.args.address c.args.found.now new c.settle.result) (sym c.settle.ensures.found_after)
    (halts o e c.settle.result c.settle.ensures.value) in
    record { told = x.0; remembers = x.1.0; no_more_left = x.1.1 }

-- a return
pub returns-in-Out : goal.returns-in-Out
returns-in-Out t c =
    let o : Opened c.args.mask.now c.args.address c.args.left c.args.found.now =
    record { bytes = λ k. omega (arith, c.type_inv.mask k); inside = c.requires.in_range.0; room = c.requires.in_range.1; before = c.requires.on_the_way; new = c.if-known-ne0.false } in
    let e = there c.args.mask.now c.args.address c.code_at-code.result c.entry-timing.result.bytes c.entry-timing.result.cycles c.code_at-code.ensures c.entry-timing.ensures.bytes c.entry-timing.ensures.cycles (Out) c.in-Out.ensures in
    let x : Turned c.args.mask.now c.args.address c.args.found.now c.settle-in-Out.new.found c.settle-in-Out.result =
    subst (λ (new : List ℕ). Turned c.args.mask.now c.args.address c.args.found.now new c.settle-in-Out.result) (sym c.settle-in-Out.ensures.found_after)
    (settles-none o c.settle-in-Out.result e (spends c.args.mask.now c.args.address c.code_at-code.result c.entry-timing.result.bytes c.entry-timing.result.cycles c.code_at-code.ensures c.entry-timing.ensures.bytes c.entry-timing.ensures.cycles 0 c.settle-in-Out.result c.settle-in-Out.ensures.value)) in
    record { told = x.0; remembers = x.1.0; no_more_left = x.1.1 }

-- one way on
pub returns-in-One : goal.returns-in-One
returns-in-One t c =
    let o : Opened c.args.mask.now c.args.address c.args.left c.args.found.now =
    record { bytes = λ k. omega (arith, c.type_inv.mask k); inside = c.requires.in_range.0; room = c.requires.in_range.1; before = c.requires.on_the_way; new = c.if-known-ne0.false } in
    let e = there c.args.mask.now c.args.address c.code_at-code.result c.entry-timing.result.bytes c.entry-timing.result.cycles c.code_at-code.ensures c.entry-timing.ensures.bytes c.entry-timing.ensures.cycles (One c.in-One.a) c.in-One.ensures in
    let w : Walked o c.longest-one.new.found = after o (set c.args.found.now c.args.address endless) c.longest-one.new.found (begun o) (c.longest-one.ensures.remembers, c.longest-one.ensures.no_more_left) in
    let x : Turned c.args.mask.now c.args.address c.args.found.now c.settle-in-One.new.found c.settle-in-One.result =
    subst (λ (new : List ℕ). Turned c.args.mask.now c.args.address c.args.found.now new c.settle-in-One.result) (sym c.settle-in-One.ensures.found_after)
    (settles-one o c.in-One.a e c.longest-one.new.found c.longest-one.result c.settle-in-One.result w c.longest-one.ensures.told (spends c.args.mask.now c.args.address c.code_at-code.result c.entry-timing.result.bytes c.entry-timing.result.cycles c.code_at-code.ensures c.entry-timing.ensures.bytes c.entry-timing.ensures.cycles c.longest-one.result c.settle-in-One.result c.settle-in-One.ensures.value)) in
    record { told = x.0; remembers = x.1.0; no_more_left = x.1.1 }

-- two ways, the second known
pub returns-then-other-ne0 : goal.returns-then-other-ne0
returns-then-other-ne0 t c =
    let o : Opened c.args.mask.now c.args.address c.args.left c.args.found.now =
    record { bytes = λ k. omega (arith, c.type_inv.mask k); inside = c.requires.in_range.0; room = c.requires.in_range.1; before = c.requires.on_the_way; new = c.if-known-ne0.false } in
    let e = there c.args.mask.now c.args.address c.code_at-code.result c.entry-timing.result.bytes c.entry-timing.result.cycles c.code_at-code.ensures c.entry-timing.ensures.bytes c.entry-timing.ensures.cycles (Two c.in-Two.a c.in-Two.b) c.in-Two.ensures in
    let w : Walked o c.longest-one-in-Two.new.found = after o (set c.args.found.now c.args.address endless) c.longest-one-in-Two.new.found (begun o) (c.longest-one-in-Two.ensures.remembers, c.longest-one-in-Two.ensures.no_more_left) in
    let u = known-second o c.in-Two.a c.in-Two.b e c.longest-one-in-Two.new.found w c.if-other-ne0.true in
    let x : Turned c.args.mask.now c.args.address c.args.found.now c.settle-then-other-ne0.new.found c.settle-then-other-ne0.result =
    subst (λ (new : List ℕ). Turned c.args.mask.now c.args.address c.args.found.now new c.settle-then-other-ne0.result) (sym c.settle-then-other-ne0.ensures.found_after)
    (settles-two o c.in-Two.a c.in-Two.b e c.longest-one-in-Two.new.found c.longest-one-in-Two.result (get_or c.longest-one-in-Two.new.found c.in-Two.b 0) c.settle-then-other-ne0.result w c.longest-one-in-Two.ensures.told u
    (spends c.args.mask.now c.args.address c.code_at-code.result c.entry-timing.result.bytes c.entry-timing.result.cycles c.code_at-code.ensures c.entry-timing.ensures.bytes c.entry-timing.ensures.cycles c.max.result c.settle-then-other-ne0.result c.settle-then-other-ne0.ensures.value ∙ ap (λ (n : ℕ). settled n (cycles_at c.args.mask.now c.args.address)) c.max.ensures)) in
    record { told = x.0; remembers = x.1.0; no_more_left = x.1.1 }

-- two ways
pub returns-else-other-ne0 : goal.returns-else-other-ne0
returns-else-other-ne0 t c =
    let o : Opened c.args.mask.now c.args.address c.args.left c.args.found.now =
    record { bytes = λ k. omega (arith, c.type_inv.mask k); inside = c.requires.in_range.0; room = c.requires.in_range.1; before = c.requires.on_the_way; new = c.if-known-ne0.false } in
    let e = there c.args.mask.now c.args.address c.code_at-code.result c.entry-timing.result.bytes c.entry-timing.result.cycles c.code_at-code.ensures c.entry-timing.ensures.bytes c.entry-timing.ensures.cycles (Two c.in-Two.a c.in-Two.b) c.in-Two.ensures in
    let w : Walked o c.longest-one-in-Two.new.found = after o (set c.args.found.now c.args.address endless) c.longest-one-in-Two.new.found (begun o) (c.longest-one-in-Two.ensures.remembers, c.longest-one-in-Two.ensures.no_more_left) in
    let v = after o c.longest-one-in-Two.new.found c.longest-two.new.found w (c.longest-two.ensures.remembers, c.longest-two.ensures.no_more_left) in
    let x : Turned c.args.mask.now c.args.address c.args.found.now c.settle-in-Two.new.found c.settle-in-Two.result =
    subst (λ (new : List ℕ). Turned c.args.mask.now c.args.address c.args.found.now new c.settle-in-Two.result) (sym c.settle-in-Two.ensures.found_after)
    (settles-two o c.in-Two.a c.in-Two.b e c.longest-two.new.found c.longest-one-in-Two.result c.longest-two.result c.settle-in-Two.result v c.longest-one-in-Two.ensures.told c.longest-two.ensures.told
    (spends c.args.mask.now c.args.address c.code_at-code.result c.entry-timing.result.bytes c.entry-timing.result.cycles c.code_at-code.ensures c.entry-timing.ensures.bytes c.entry-timing.ensures.cycles c.max-in-Two.result c.settle-in-Two.result c.settle-in-Two.ensures.value ∙ ap (λ (n : ℕ). settled n (cycles_at c.args.mask.now c.args.address)) c.max-in-Two.ensures)) in
    record { told = x.0; remembers = x.1.0; no_more_left = x.1.1 }
