-- What the passes leave and need: for contracts inside this crate alone, `assemble` promises nothing of it. Assumes nothing.
use Rattle.std.specs.Prelude.{ℕ, ◌+◌, ◌≤◌, ◌<◌, ◌≡◌, List, length, ltb, drop, take, Option, Some, None, Result, Ok, Err, IfErr}
use Rattle.isa.specs.Choice.{pick}
use Rattle.operand.specs.Read.{names_at, up_to_lf}
use Rattle.refusals.specs.declared.Refusal.{Refusal}
use Rattle.refusals.specs.declared.Refusal.TheVariants.{Label, Operand}
use Rattle.assembler.specs.Statement.{Statement}
use Rattle.assembler.specs.Program.{end, first, line_of, mislabelled, misplaced, program, start, unread}
use Rattle.assembler.specs.declared.places.Place.{Place}
use Rattle.assembler.specs.declared.refused.Refused.{Refused}

abbrev pub line_end : List ℕ → ℕ → ℕ
line_end text at = at + length (up_to_lf (drop at text))

-- the line after one that ends in LF
abbrev pub following : List ℕ → Place → Option Place
following text p = pick (ltb (line_end text p.at) (length text)) (Some (record { at = line_end text p.at + 1; number = p.number + 1 })) None

-- a pass refuses for this reason alone, at some line
abbrev pub Refuses : {A : Type 0} → Refusal → Result A Refused → Type 0
Refuses why r = IfErr r (λ e. (e.refusal ≡ why) × (0 < e.line))

abbrev pub count_of : Result ℕ Refused → ℕ
count_of (Ok n) = n
count_of (Err r) = 0

-- the first pass: the labels' words stand at these places, if every line can be read
pub record Collected (text starts : List ℕ) (r : Result ℕ Refused) : Type 0 where
  pub line : line_of r ≡ first unread start 1 (program text)
  pub held : count_of r ≤ length starts
  pub room : length starts ≡ 32768
  pub names : line_of r ≡ 0 → (end start (program text)).names ≡ names_at text starts (count_of r)

-- every line can be read, and the labels' words stand at these places
pub record Settled (text starts addresses : List ℕ) (all : ℕ) : Type 0 where
  pub short : length text ≤ 65535
  pub held : all ≤ length starts
  pub room : all ≤ length addresses
  pub most : length addresses ≤ 32768
  pub names : (end start (program text)).names ≡ names_at text starts all
  pub read : first unread start 1 (program text) ≡ 0

-- every line has its place, and the labels these addresses
pub record Placed (text starts addresses : List ℕ) (all : ℕ) : Type 0 where
  pub settled : Settled text starts addresses all
  pub placed : first misplaced start 1 (program text) ≡ 0
  pub addressed : (end start (program text)).addresses ≡ take all addresses

-- the second and third passes: what refuses a text for its labels or its places
pub data Unresolved (ls : List Statement) (r : Refused) : Type 0 where
  labels : r.refusal ≡ Label → 0 < r.line → r.line ≡ first (mislabelled (end start ls).names) start 1 ls → Unresolved ls r
  places : first (mislabelled (end start ls).names) start 1 ls ≡ 0 → r.refusal ≡ Operand → 0 < r.line
      → r.line ≡ first misplaced start 1 ls → Unresolved ls r

abbrev pub Resolved : List Statement → Result (Unit {0}) Refused → Type 0
Resolved ls (Ok x) = first (mislabelled (end start ls).names) start 1 ls ≡ 0
Resolved ls (Err r) = Unresolved ls r
