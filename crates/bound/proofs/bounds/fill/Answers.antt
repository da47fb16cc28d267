-- `bound::bounds::fill` meets its contract: the entries before an address are those of their pairs. Assumes nothing.
use Prim.Native.Nat.{◌*◌}
use native.Mathlib.Omega.{arith}
use mathlib.Core.Path.{sym, ◌∙◌}
use lib.ListN.{length-set}
use Rattle.rom.specs.Fetching.{Bytes}
use Rattle.bound.proofs.Filling.{filling-start, filling-given, filling-next, filling-end}
use Rattle.bound.proofs.bounds.fill.Goals as goal

pub loop-address-init : goal.loop-address-init
loop-address-init c b e m f = filling-start c.args.mask.now c.args.marks.now b e m f c.args.list.now c.requires.1

pub longest-number-requires : goal.longest-number-requires
longest-number-requires c =
    let b : Bytes c.args.mask.now = λ k. omega (arith, c.type_inv.mask k) in
    let g = filling-given c.args.mask.now c.args.marks.now b c.requires.0 c.requires.2 c.requires.3 c.loop-address.list c.loop-address.found c.loop-address.address (c.loop-address.invariant b c.requires.0 c.requires.2 c.requires.3) c.loop-address-test.true in
    record { in_range = g.0; on_the_way = g.1 }

pub loop-address-preserved : goal.loop-address-preserved
loop-address-preserved c b e m f =
    filling-next c.args.mask.now c.args.marks.now b e m f c.loop-address.list c.loop-address.found c.longest-number.new.found c.loop-address.address c.longest-number.result
    c.entry.result c.entry-in-loop-address.result (c.loop-address.invariant b e m f) c.loop-address-test.true (c.longest-number.ensures.told, (c.longest-number.ensures.remembers, c.longest-number.ensures.no_more_left)) c.entry.ensures c.entry-in-loop-address.ensures

pub returns : goal.returns
returns c =
    let b : Bytes c.args.mask.now = λ k. omega (arith, c.type_inv.mask k) in
    filling-end c.args.mask.now c.args.marks.now b c.requires.0 c.requires.2 c.requires.3 c.loop-address.list c.loop-address.found c.loop-address.address (c.loop-address.invariant b c.requires.0 c.requires.2 c.requires.3) c.loop-address-test.false

-- both places are in the list
pub bounds-list-at : goal.bounds-list-at
bounds-list-at c =
    let b : Bytes c.args.mask.now = λ k. omega (arith, c.type_inv.mask k) in
    let f = c.loop-address.invariant b c.requires.0 c.requires.2 c.requires.3 in
    omega (arith, f.room, c.loop-address-test.true)

pub bounds-list-at-in-loop-address : goal.bounds-list-at-in-loop-address
bounds-list-at-in-loop-address c =
    let b : Bytes c.args.mask.now = λ k. omega (arith, c.type_inv.mask k) in
    let f = c.loop-address.invariant b c.requires.0 c.requires.2 c.requires.3 in
    omega (arith, f.room, c.loop-address-test.true, length-set c.loop-address.list (c.loop-address.address * 2) c.entry.result)

pub shape_of-list : goal.shape_of-list
shape_of-list c =
    let b : Bytes c.args.mask.now = λ k. omega (arith, c.type_inv.mask k) in
    let f = c.loop-address.invariant b c.requires.0 c.requires.2 c.requires.3 in
    f.room ∙ sym c.requires.1
