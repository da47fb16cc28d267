-- `rom::reader::read_at` meets its contract: each return rewrites with the tests that led there, and the decoder's answer is the
-- definition's. Assumes nothing.
use Prim.Native.Nat.{ℕ, ◌<◌}
use mathlib.Core.Path.{◌≡◌, refl, sym, ap, ap₂, ◌∙◌}
use mathlib.Core.Bool.{true}
use mathlib.Core.List.{List}
use native.Mathlib.Omega.{arith}
use borrow.Author.Tests.{lt-ltb}
use Rattle.std.specs.Prelude.{Option}
use Rattle.isa.specs.declared.Instruction.{Instruction}
use Rattle.isa.specs.Reading.{Reading}
use Rattle.isa.specs.Timing.{length_of, cycles_of}
use Rattle.isa.specs.Code.{addresses}
use Rattle.rom.specs.Fetching.{sized, code_at, instruction, with_timing, fetching}
use Rattle.rom.specs.declared.reader.Code.{Code}
use Rattle.rom.proofs.Fetching.{mask-passes, read-there, length-code, cycles-code}
use Rattle.rom.proofs.reader.read_at.Goals as goal

-- what stands there, from the code and the decoder's answer
met : (mask : List ℕ) (a : ℕ) (k : Code) (d : Option Instruction) → sized mask ≡ true → a < addresses → k ≡ code_at mask a → k.second < 256 → Reading k.first k.second d
    → with_timing (length_of k.first) (cycles_of k.first) d ≡ fetching mask a
met mask a k d e h at f r =
    ap (λ (k : Code). with_timing (length_of k.first) (cycles_of k.first) d) at
    ∙ rw (length-code mask a, cycles-code mask a, read-there mask a k at f d r, e, lt-ltb a addresses h) refl

-- cannot be read
pub returns-in_default : goal.returns-in_default
returns-in_default c = ap (with_timing (length_of c.code_at-code.result.first) (cycles_of c.code_at-code.result.first)) (sym c.in_default.is)
    ∙ met c.args.mask.now c.args.address.0 c.code_at-code.result c.decode.result (mask-passes (sized c.args.mask.now) _ _ c.check_mask.ensures c.in_ok-check_mask.was) c.if-at-ge-ADDRESSES.false c.code_at-code.ensures (omega arith) c.decode.ensures

-- an instruction
pub returns : goal.returns
returns c = ap₂ (instruction c.in-Some.instruction) c.length.ensures c.cycles.ensures
    ∙ ap (with_timing (length_of c.code_at-code.result.first) (cycles_of c.code_at-code.result.first)) (sym c.in-Some.is)
    ∙ met c.args.mask.now c.args.address.0 c.code_at-code.result c.decode.result (mask-passes (sized c.args.mask.now) _ _ c.check_mask.ensures c.in_ok-check_mask.was) c.if-at-ge-ADDRESSES.false c.code_at-code.ensures (omega arith) c.decode.ensures
