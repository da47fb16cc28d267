-- "An operand is a number, a label, or sums and differences of operands, with parentheses up to 16 deep" (document 02, wish 4). It is read from
-- left to right as its numbers and labels, each with whether it is added or taken away; its value is the sum of those added less the sum of those
-- taken away, so it may be negative. assembler_laws/specs/Grammar has the same as a grammar with whole numbers, and shows that both agree. Assumes
-- nothing.
use Rattle.std.specs.Prelude.{ℕ, ◌+◌, Bool, false, ◌&&◌, ◌||◌, not, List, [], ◌∷◌, eqb, ltb, get_or, length}
use Prim.Native.Char.{code}
use Rattle.std.proofs.Math.Option.{Option, none, some}
use Rattle.isa.specs.Choice.{pick}
use Rattle.mnemonic.specs.Spelling.{Token, letters, mark, operand}
use Rattle.operand.specs.Words.{among, is_label, number_of, place}

pub data Part : Type 0 where
  number : ℕ → Part
  label : List ℕ → Part

-- a number or a label, and whether it is taken away
pub record Term : Type 0 where
  pub taken : Bool
  pub part : Part

abbrev pub as_number : Option ℕ → Option Part
as_number none = none
as_number (some n) = some (number n)

-- what a word is in an operand
unfoldable pub part_of : List ℕ → Option Part
part_of w = pick (is_label w) (some (label w)) (as_number (number_of w))

abbrev pub before : Term → Option (List Term) → Option (List Term)
before t none = none
before t (some ts) = some (t ∷ ts)

abbrev pub termed : Bool → Option Part → Option (List Term) → Option (List Term)
termed minus none rest = none
termed minus (some p) rest = before (record { taken = minus; part = p }) rest

abbrev pub deepest : ℕ
deepest = 16

-- The operand from here to the end of the line. `here` is whether things are taken away in the parenthesis that is open here, or false outside
-- of any; `outer` the same of each one around it, so that its length is the depth.
abbrev mutual
  -- where a number, a label or a parenthesis must stand, which is taken away if `minus`
  pub wanted : List Token → Bool → Bool → List Bool → Option (List Term)
  wanted [] minus here outer = none
  wanted (letters w ∷ ts) minus here outer = termed minus (part_of w) (followed ts here outer)
  wanted (mark c ∷ ts) minus here outer = pick (eqb c (code "(") && ltb (length outer) deepest) (wanted ts minus minus (here ∷ outer)) none
  wanted (operand n v ∷ ts) minus here outer = none

  -- where one has ended
  pub followed : List Token → Bool → List Bool → Option (List Term)
  followed [] here [] = some []
  followed [] here (o ∷ os) = none
  followed (mark c ∷ ts) here [] = pick (eqb c (code "+")) (wanted ts here here []) (pick (eqb c (code "-")) (wanted ts (not here) here []) none)
  followed (mark c ∷ ts) here (o ∷ os) = pick (eqb c (code "+")) (wanted ts here here (o ∷ os))
      (pick (eqb c (code "-")) (wanted ts (not here) here (o ∷ os)) (pick (eqb c (code ")")) (followed ts o os) none))
  followed (letters w ∷ ts) here outer = none
  followed (operand n v ∷ ts) here outer = none

abbrev pub operand_of : List Token → Option (List Term)
operand_of ts = wanted ts false false []

-- what a part counts, where these labels have these addresses; 0 for a label that is missing
abbrev pub value_of : List (List ℕ) → List ℕ → Part → ℕ
value_of names addresses (number n) = n
value_of names addresses (label w) = pick (among names w) (get_or addresses (place names w) 0) 0

abbrev pub is_missing : List (List ℕ) → Part → Bool
is_missing names (number n) = false
is_missing names (label w) = not (among names w)

-- the terms' values, added where they are not taken away, or where they are
abbrev pub plus : List (List ℕ) → List ℕ → List Term → ℕ
plus names addresses [] = 0
plus names addresses (t ∷ ts) = pick t.taken 0 (value_of names addresses t.part) + plus names addresses ts

abbrev pub minus : List (List ℕ) → List ℕ → List Term → ℕ
minus names addresses [] = 0
minus names addresses (t ∷ ts) = pick t.taken (value_of names addresses t.part) 0 + minus names addresses ts

abbrev pub missing : List (List ℕ) → List Term → Bool
missing names [] = false
missing names (t ∷ ts) = is_missing names t.part || missing names ts
