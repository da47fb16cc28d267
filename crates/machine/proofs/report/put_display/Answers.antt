-- `machine::report::put_display` meets its contract. The loop's invariant: the bytes up to `s` are what the bits that show make of each nibble,
-- which is said of any function that does the same to a byte. Assumes nothing.
use Prim.Native.Nat.{ℕ, ◌+◌, ◌-◌, ◌%◌, ◌<◌}
use mathlib.Core.Path.{◌≡◌, sym, ap, ◌∙◌}
use mathlib.Core.List.{List, ◌++◌}
use native.Mathlib.Omega.{arith}
use borrow.Rule.Slice.PartMut.{put_mid, same_len_mid}
use Rattle.std.proofs.lemmas.Slice.{take-put_mid}
use lib.Bits.{bit_and}
use lib.Dec.{eqb}
use lib.ListN.{length, take, set, length-set}
use lib.Seq.{take_all}
use Rattle.isa.specs.Choice.{pick}
use Rattle.datapath.specs.declared.memory.Access.{Access}
use Rattle.datapath.specs.Memory.{loaded}
use Rattle.machine.specs.Report.{shown}
use Rattle.machine.proofs.Fill.{fill_more, fill-all}
use Rattle.machine.proofs.Reports.{display-at}
use Rattle.machine.proofs.report.put_display.Invariants.{target, Shows}
use Rattle.machine.proofs.report.put_display.Goals as goal

-- one nibble more
more : (memory out : List ℕ) (s x lit : ℕ) (g : ℕ → ℕ) → Shows lit g → x < 256 → x ≡ loaded memory (record { 0 = 0xe0 + s }) → s < 32
    → length out ≡ 32 → take s out ≡ take s (target memory g) → take (s + 1) (set out s (bit_and x lit)) ≡ take (s + 1) (target memory g)
more memory out s x lit g shows small e h l i =
    fill_more (target memory g) out s (bit_and x lit) (omega arith) h
    (shows x small ∙ ap g e ∙ display-at (λ s. g (loaded memory (record { 0 = 0xe0 + s }))) s h) i

pub loop-s-preserved : goal.loop-s-preserved
loop-s-preserved c = (
  omega arith,
  length-set c.loop-s.byte-items c.loop-s.s (bit_and c.load.result.nibble c.lit-lit.result) ∙ c.loop-s.invariant.1,
  λ g shows. more c.args.memory.now c.loop-s.byte-items c.loop-s.s c.load.result.nibble c.lit-lit.result g shows (omega arith)
      (ap (λ (x : Access). x.nibble) c.load.ensures) (omega arith) c.loop-s.invariant.1 (c.loop-s.invariant.2 g shows),
)

pub returns : goal.returns
unfolding shown
returns c =
    let g : ℕ → ℕ = λ x. pick (eqb c.args.cpu.status.halted 1) 0 (pick (eqb c.args.cpu.options.commons 3) (x % 8) x) in
    sym (take_all 48 (put_mid 16 (length c.args.out.now - 16) c.args.out.now c.loop-s.byte-items) (omega (arith, same_len_mid 16 (length c.args.out.now - 16) c.args.out.now c.loop-s.byte-items c.loop-s.auto.byte-items, c.requires)))
    ∙ take-put_mid 16 (length c.args.out.now - 16) c.args.out.now c.loop-s.byte-items 48 (omega (arith, c.loop-s.invariant.1)) (omega arith)
    ∙ ap (λ (l : List ℕ). take 16 c.args.out.now ++ l)
    (fill-all (target c.args.memory.now g) c.loop-s.byte-items c.loop-s.s (omega (arith, c.loop-s.invariant.1)) (omega arith) (c.loop-s.invariant.2 g c.lit-lit.ensures))
