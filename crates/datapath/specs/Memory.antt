-- The data memory: 00h-7Fh and E0h-FFh in nibbles, 160 in that order. Document 01: "Data addresses 80h-DFh read 0 and ignore
-- writes. M(R1,R0) is the nibble at 16 times R1 + R0, likewise M(R3,R2)". And its gap, document 02, wish 6. Assumes nothing.
use Rattle.std.specs.Prelude.{ℕ, zero, suc, ◌+◌, ◌-◌, ◌*◌, ◌%◌, Bool, not, ◌&&◌, List, [], ◌∷◌, ltb, get_or, set}
use Rattle.isa.specs.Choice.{pick}
use Rattle.isa.specs.declared.DataAddress.{DataAddress}
use Rattle.datapath.specs.Alu.{flag}
use Rattle.datapath.specs.declared.memory.Access.{Access}

-- how many nibbles there are
abbrev pub memory_size : ℕ
memory_size = 160

-- the address that a register pair names: 255 is the last
abbrev pub pointed : ℕ → ℕ → DataAddress
pointed high low = record { 0 = (16 * high + low) % 256 }

-- the nibble at an address: E0h stands at place 128
unfoldable pub loaded : List ℕ → DataAddress → ℕ
loaded m a = pick (ltb a.0 0x80) (get_or m a.0 0) (pick (ltb a.0 0xe0) 0 (get_or m (a.0 - 96) 0))

-- the memory with a nibble written
unfoldable pub stored : List ℕ → DataAddress → ℕ → List ℕ
stored m a v = pick (ltb a.0 0x80) (set m a.0 v) (pick (ltb a.0 0xe0) m (set m (a.0 - 96) v))

-- ---- the gap
-- "Masks that touch 80h-DFh work by luck. Every data read and write shall also tell whether it fell in the gap"
abbrev pub in_gap : DataAddress → Bool
in_gap a = not (ltb a.0 0x80) && ltb a.0 0xe0

-- what a read gives
abbrev pub accessed : List ℕ → DataAddress → Access
accessed m a = record { nibble = loaded m a; stray = in_gap a }

-- how many of a list of accesses fell there
unfoldable pub strays : List DataAddress → ℕ
strays [] = 0
strays (a ∷ rest) = flag (in_gap a) + strays rest

-- "the machine counts such accesses, stopping at 65,535": a count after n more, one by one
unfoldable pub tallied : ℕ → ℕ → ℕ
tallied count zero = count
tallied count (suc n) = tallied (pick (ltb count 65535) (count + 1) count) n
