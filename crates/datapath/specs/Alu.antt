-- Document 01, "Effects", and for the rotates document 001. A carry is 0 or 1. Assumes nothing.
use Rattle.std.specs.Prelude.{ℕ, ◌+◌, ◌-◌, ◌*◌, ◌/◌, ◌%◌, ◌^◌, Bool, true, false, not, ◌||◌, ltb, eqb}
use Rattle.isa.specs.Choice.{pick}
use Rattle.datapath.specs.declared.alu.Sum.{Sum}

-- a test as a flag of the machine
abbrev pub flag : Bool → ℕ
flag true = 1
flag false = 0

-- "sums are modulo 16; ADD and ADC set CF to 1 when the sum is over 15, else 0"
abbrev pub summed : ℕ → ℕ → ℕ → Sum
summed a b c = record { value = (a + b + c) % 16; carry = flag (ltb 15 (a + b + c)) }

-- "SUB adds 15 - operand and 1, SBC adds 15 - operand and CF; CF is then 1 when that sum is over 15, so 1 is no borrow"
abbrev pub subtracted : ℕ → ℕ → ℕ → Sum
subtracted a b c = summed a (15 - b) c

-- "DAA: if ACC is over 9 or CF is 1, ACC + 6 and CF 1; else nothing"
abbrev pub adjusted : ℕ → ℕ → Sum
adjusted a c = pick (ltb 9 a || eqb c 1) (record { value = (a + 6) % 16; carry = 1 }) (record { value = a; carry = c })

-- bit n of a number
abbrev pub bit : ℕ → ℕ → ℕ
bit n a = a / 2 ^ n % 2

-- a nibble by its bits, bit 3 first
abbrev pub nibble_of : ℕ → ℕ → ℕ → ℕ → ℕ
nibble_of a₃ a₂ a₁ a₀ = 8 * a₃ + 4 * a₂ + 2 * a₁ + a₀

-- The rotates by document 001's lines "Operation", n being 0, 1, 2; CF is bit 0 of its byte
-- RL: "An+1 <- An, A0 <- A3, CF <- A3"
abbrev pub rotated_left : ℕ → Sum
rotated_left a = record { value = nibble_of (bit 2 a) (bit 1 a) (bit 0 a) (bit 3 a); carry = bit 3 a }

-- RLC: "An+1 <- An, A0 <- CF, CF <- A3"
abbrev pub rotated_left_through : ℕ → ℕ → Sum
rotated_left_through a c = record { value = nibble_of (bit 2 a) (bit 1 a) (bit 0 a) (bit 0 c); carry = bit 3 a }

-- RR: "An <- An+1, A3 <- A0, CF <- A0"
abbrev pub rotated_right : ℕ → Sum
rotated_right a = record { value = nibble_of (bit 0 a) (bit 3 a) (bit 2 a) (bit 1 a); carry = bit 0 a }

-- RRC: "An <- An+1, A3 <- CF, CF <- A0"
abbrev pub rotated_right_through : ℕ → ℕ → Sum
rotated_right_through a c = record { value = nibble_of (bit 0 c) (bit 3 a) (bit 2 a) (bit 1 a); carry = bit 0 a }

-- INC and DEC, modulo 16
abbrev pub incremented : ℕ → ℕ
incremented a = (a + 1) % 16

abbrev pub decremented : ℕ → ℕ
decremented a = (a + 15) % 16

-- JAn: bit n of ACC is 1, n being 0 to 3
abbrev pub bit_set : ℕ → ℕ → Bool
bit_set a n = eqb (bit (n % 4) a) 1

-- JNZ
abbrev pub not_zero : ℕ → Bool
not_zero a = not (eqb a 0)
