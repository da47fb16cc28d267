-- The timer. Document 01: "With c cycles spent and T = 4 times the old cycle count modulo 8,192, a timer running after the effect on
-- rate n moves on by floor((T + 4c)/2^n) - floor(T/2^n); passing 255 to 0 sets TF". A rate over 13 is no internal clock.
-- Assumes nothing.
use Rattle.std.specs.Prelude.{ℕ, ◌+◌, ◌-◌, ◌*◌, ◌/◌, ◌%◌, ◌^◌, ltb}
use Rattle.isa.specs.Choice.{pick}
use Rattle.datapath.specs.Alu.{flag}
use Rattle.datapath.specs.declared.timer.Count.{Count}

-- the clocks of the timer in c cycles after the given cycle count
abbrev pub clocks : ℕ → ℕ → ℕ → ℕ
clocks rate cycles c = pick (ltb rate 14) ((4 * cycles % 8192 + 4 * c) / 2 ^ rate - 4 * cycles % 8192 / 2 ^ rate) 0

-- the count n clocks on, and whether it passed 255
abbrev pub counted : ℕ → ℕ → Count
counted count n = record { count = (count + n) % 256; passed = flag (ltb 255 (count + n)) }
