-- Document 01's "Proved table", whole: the lines on the machine, and its three masks. Of each mask: the answer that stands, and that every answer
-- that keeps the checker's promise, `Answers`, is this one. Assumes nothing.
use Rattle.std.specs.Prelude.{ℕ, ◌<◌, ◌≤◌, ◌≡◌, true, List, length, replicate, Result, Ok}
use Rattle.isa.specs.Code.{addresses}
use Rattle.rom.specs.Fetching.{sized, byte_at}
use Rattle.machine.specs.Table.{nops, Table}
use Rattle.checker.specs.Verdicts.{marks_size, Lowest, Answers}
use Rattle.checker.specs.declared.check.Verdict.{Verdict}
use Rattle.checker.specs.declared.check.Verdict.TheVariants.{Passed, Failed}
use Rattle.refusals.specs.declared.Refusal.{Refusal}

pub record ProvedTable : Type 0 where
  pub machine : Table
  -- "All-3E mask passes, every mark 1"
  pub passes-3e : (old : List ℕ) → length old ≡ marks_size → Answers nops old (replicate marks_size 1) (Ok Passed)
  pub every-3e : (old new : List ℕ) (v : Result Verdict Refusal) → length old ≡ marks_size → Answers nops old new v → (v ≡ Ok Passed) × (new ≡ replicate marks_size 1)
  -- "Mask 40 15: fault 1 at 0"
  pub lowest-40-15 : (mask : List ℕ) → byte_at mask 0 ≡ 0x40 → byte_at mask 1 ≡ 0x15 → Lowest mask 1 0 0
  pub mask-40-15 : (mask old new : List ℕ) (v : Result Verdict Refusal) → sized mask ≡ true → length old ≡ marks_size → byte_at mask 0 ≡ 0x40 → byte_at mask 1 ≡ 0x15
      → Answers mask old new v → v ≡ Ok (Failed 1 0 0)
  -- "F0 10 then 3E: fault 2 at 0, level 1"
  pub lowest-f0-10 : (mask : List ℕ) → byte_at mask 0 ≡ 0xf0 → byte_at mask 1 ≡ 0x10 → ((a : ℕ) → 2 ≤ a → a < addresses → byte_at mask a ≡ 0x3e)
      → Lowest mask 2 0 1
  pub mask-f0-10 : (mask old new : List ℕ) (v : Result Verdict Refusal) → sized mask ≡ true → length old ≡ marks_size → byte_at mask 0 ≡ 0xf0 → byte_at mask 1 ≡ 0x10
      → ((a : ℕ) → 2 ≤ a → a < addresses → byte_at mask a ≡ 0x3e) → Answers mask old new v → v ≡ Ok (Failed 2 0 1)
