-- `rom::timing::entry` meets its contract: each return has the entry of a run of the list, and the tests that led there say which. Assumes nothing.
use mathlib.Core.Path.{refl}
use native.Mathlib.Omega.{arith}
use Rattle.rom.proofs.Rule.{timed-run}
use Rattle.rom.proofs.timing.entry.Goals as goal

-- branches, JMP, CALL
pub returns-then-first-gt127 : goal.returns-then-first-gt127
returns-then-first-gt127 c = let t = timed-run 10 _ _ _ (omega arith) (omega arith) (omega arith) refl in record { bytes = t.bytes; cycles = t.cycles; listed = t.listed }

-- 00h to 34h
pub returns-then-first-lt53 : goal.returns-then-first-lt53
returns-then-first-lt53 c = let t = timed-run 0 _ _ _ (omega arith) (omega arith) (omega arith) refl in record { bytes = t.bytes; cycles = t.cycles; listed = t.listed }

-- 35h
pub returns-then-first-eq53 : goal.returns-then-first-eq53
returns-then-first-eq53 c = let t = timed-run 1 _ _ _ (omega arith) (omega arith) (omega arith) refl in record { bytes = t.bytes; cycles = t.cycles; listed = t.listed }

-- DAA
pub returns-then-first-eq54 : goal.returns-then-first-eq54
returns-then-first-eq54 c = let t = timed-run 2 _ _ _ (omega arith) (omega arith) (omega arith) refl in record { bytes = t.bytes; cycles = t.cycles; listed = t.listed }

-- HALT
pub returns-then-first-lt56 : goal.returns-then-first-lt56
returns-then-first-lt56 c = let t = timed-run 3 _ _ _ (omega arith) (omega arith) (omega arith) refl in record { bytes = t.bytes; cycles = t.cycles; listed = t.listed }

-- 38h to 3Fh
pub returns-then-first-lt64 : goal.returns-then-first-lt64
returns-then-first-lt64 c = let t = timed-run 4 _ _ _ (omega arith) (omega arith) (omega arith) refl in record { bytes = t.bytes; cycles = t.cycles; listed = t.listed }

-- 40h to 47h
pub returns-then-first-lt72 : goal.returns-then-first-lt72
returns-then-first-lt72 c = let t = timed-run 5 _ _ _ (omega arith) (omega arith) (omega arith) refl in record { bytes = t.bytes; cycles = t.cycles; listed = t.listed }

-- SOUND
pub returns-then-first-lt76 : goal.returns-then-first-lt76
returns-then-first-lt76 c = let t = timed-run 6 _ _ _ (omega arith) (omega arith) (omega arith) refl in record { bytes = t.bytes; cycles = t.cycles; listed = t.listed }

-- READ
pub returns-then-first-lt80 : goal.returns-then-first-lt80
returns-then-first-lt80 c = let t = timed-run 7 _ _ _ (omega arith) (omega arith) (omega arith) refl in record { bytes = t.bytes; cycles = t.cycles; listed = t.listed }

-- MOV R1R0 and MOV R3R2
pub returns-then-first-lt112 : goal.returns-then-first-lt112
returns-then-first-lt112 c = let t = timed-run 8 _ _ _ (omega arith) (omega arith) (omega arith) refl in record { bytes = t.bytes; cycles = t.cycles; listed = t.listed }

-- MOV A,XH
pub returns : goal.returns
returns c = let t = timed-run 9 _ _ _ (omega arith) (omega arith) (omega arith) refl in record { bytes = t.bytes; cycles = t.cycles; listed = t.listed }
