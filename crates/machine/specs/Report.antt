-- The display and the report of a machine. Document 01: "Each record yields a report: length 44, kind 16, PC (2), cycle count (4), level,
-- halted, fault, PA, sound channel, sound mode, 32 display nibbles. Nibble s is the one at E0h + s, bit c for common c; with 3 commons
-- bit 3 shows 0; halted shows all 0". Numbers are little-endian. Assumes nothing.
use Rattle.std.specs.Prelude.{ℕ, zero, suc, ◌+◌, ◌/◌, ◌%◌, List, [], ◌∷◌, ◌++◌, eqb, length}
use Rattle.isa.specs.Choice.{pick}
use Rattle.datapath.specs.Memory.{loaded}
use Rattle.cpu.specs.Range.{valid}
use Rattle.cpu.specs.declared.Cpu.{Cpu}
use Rattle.machine.specs.Machine.{state_of}
use Rattle.machine.specs.declared.Machine.{Machine}

-- display nibble s
unfoldable pub shown : Cpu → List ℕ → ℕ → ℕ
shown c memory s =
    pick (eqb c.status.halted 1) 0
    (pick (eqb c.options.commons 3) (loaded memory (record { 0 = 0xe0 + s }) % 8) (loaded memory (record { 0 = 0xe0 + s })))

-- f at s, s + 1, .. for n places
abbrev pub places : ℕ → (ℕ → ℕ) → ℕ → List ℕ
places zero f s = []
places (suc n) f s = f s ∷ places n f (suc s)

abbrev pub display : Machine → List ℕ
display m = places 32 (shown m.cpu m.memory) 0

-- the first 16 bytes: length and kind, then the processor's part
abbrev pub heading : Cpu → List ℕ
heading c =
    44 ∷ 0
    ∷ 16 ∷ 0
    ∷ (c.control.pc.0 % 256) ∷ (c.control.pc.0 / 256)
    ∷ (c.cycles % 256) ∷ (c.cycles / 256 % 256) ∷ (c.cycles / 65536 % 256) ∷ (c.cycles / 16777216 % 256)
    ∷ c.interrupts.level ∷ c.status.halted ∷ c.status.fault
    ∷ c.outputs.pa ∷ c.outputs.channel ∷ c.outputs.mode
    ∷ []

abbrev pub reported : Machine → List ℕ
reported m = heading m.cpu ++ display m

-- what a query leaves: document 01's number and the lent bytes. "2: .. single-report buffer not .. 48"; "5: machine field outside its
-- range"; "Nothing is written"
pub record Reporting : Type 0 where
  pub refusal : ℕ
  pub bytes : List ℕ

abbrev pub reporting : ℕ → List ℕ → Reporting
reporting n s = record { refusal = n; bytes = s }

unfoldable pub report : Machine → List ℕ → Reporting
report m out =
    pick (eqb (length out) 48) (pick (valid (state_of m)) (reporting 0 (reported m)) (reporting 5 out)) (reporting 2 out)
