-- The last two passes, on plain values: every line has its place, and the labels their addresses. Assumes nothing.
use Prim.Native.Nat.{ℕ, ◌+◌, ◌-◌, ◌%◌, ◌<◌, ◌≤◌}
use mathlib.Core.Path.{◌≡◌, refl, sym, ap, ◌∙◌}
use mathlib.Core.Bool.{true, false}
use mathlib.Core.List.{List, [], ◌∷◌}
use Rattle.std.specs.Prelude.{Option}
use native.Mathlib.Omega.{arith}
use lib.Dec.{eqb}
use lib.ListN.{get_or, length, take}
use lib.Seq.{sets}
use Rattle.rom.specs.declared.encoder.Written.{Written}
use Rattle.assembler.specs.Forms.{rom_size}
use Rattle.isa.specs.Choice.{pick}
use Rattle.operand.specs.Read.{names_at, tokens_at}
use Rattle.operand.proofs.Places.{names-count}
use Rattle.assembler.specs.Statement.{Statement, statement}
use Rattle.assembler.specs.Program.{Above, address_of, bytes, end, first, misfit, misplaced, next, program, put, start}
use Rattle.assembler.specs.Shapes.{bytes_in, firsts, is_misfit, listed, low_bytes, shapes, size_in}
use Rattle.assembler.specs.Read.{Parts, Shows}
use Rattle.assembler.specs.Passing.{Placed, line_end}
use Rattle.assembler.proofs.Addresses.{first-addresses, next-paired, shows-address, shows-bytes, shows-misfit, shows-placed, shows-put}
use Rattle.assembler.proofs.Addresses.{shows-size, size-most}
use Rattle.assembler.proofs.Splitting.{last_line, next-line, program_at}
use Rattle.assembler.proofs.Walking.{Walk, walk-begin, walk-few, walk-names, walk_none, walk-on, walk-past}
use Rattle.assembler.proofs.Walking.{walk-readable}

-- a walk on which each line has its place
pub record Going (text : List ℕ) (at number count address : ℕ) (s : Above) : Type 0 where
  pub walk : Walk text at number count s
  pub at-is : address ≡ s.at
  pub most : address ≤ rom_size
  pub paired : length s.addresses ≡ length s.names
  pub placed : first misplaced start 1 (program text) ≡ first misplaced s number (program_at text at)

pub goes : {text starts addresses : List ℕ} {all : ℕ} → Placed text starts addresses all → Going text 0 1 0 0 start
goes {text} p = record { walk = walk-begin text p.settled.read; at-is = refl; most = omega arith; paired = refl; placed = refl }

module _ {text starts addresses : List ℕ} {all : ℕ} (p : Placed text starts addresses all) {at number count address : ℕ} {s : Above}
    (g : Going text at number count address s) {r : Parts}
    (x : Shows text (names_at text starts count) (names_at text starts all) addresses (statement (tokens_at text at)) r) where
  abbrev st : Statement
  st = statement (tokens_at text at)

  abbrev whole : Above
  whole = end start (program text)

  readable : r.readable ≡ true
  readable = walk-readable g.walk x

  names : s.names ≡ names_at text starts count
  names = walk-names g.walk p.settled

  few : count ≤ all
  few = walk-few g.walk p.settled

  many : length s.addresses ≡ count
  many = g.paired ∙ g.walk.counted

  stored : s.addresses ≡ take (length (names_at text starts count)) addresses
  stored =
      first-addresses s (program_at text at) all addresses (ap (λ (a : Above). a.addresses) (sym g.walk.ends) ∙ p.addressed)
      (omega (arith, many, few))
      ∙ ap (λ (n : ℕ). take n addresses) (many ∙ sym (names-count text starts count (omega (arith, few, p.settled.held))))

  whole-stored : whole.addresses ≡ take (length (names_at text starts all)) addresses
  whole-stored = p.addressed ∙ ap (λ (n : ℕ). take n addresses) (sym (names-count text starts all p.settled.held))

  in_place : misplaced s st ≡ false
  in_place = walk_none g.walk misplaced g.placed p.placed

  module _ (here size : ℕ) (here-is : here ≡ pick (eqb r.form 0) (r.plus - r.minus) address)
      (size_is : size ≡ size_in (get_or shapes r.form 0)) where
    here-at : here ≡ pick (eqb r.form 0) (r.plus - r.minus) s.at
    here-at = here-is ∙ ap (λ (a : ℕ). pick (eqb r.form 0) (r.plus - r.minus) a) g.at-is

    address_is : address_of s st ≡ here
    address_is = shows-address x readable s names stored ∙ sym here-at

    pub going-most : (here ≤ rom_size) × (size ≤ 2) × (here + size ≤ rom_size)
    going-most =
        let q = shows-placed x readable s names stored in_place (omega (arith, g.at-is, g.most)) in
        let z = shows-size x readable in
        (omega (arith, address_is, q.1), omega (arith, size_is, size-most (get_or shapes r.form 0)), omega (arith, address_is, q.0))

    pub misfit-is : (shape : ℕ) → shape ≡ get_or shapes r.form 0 → misfit whole s st ≡ is_misfit size shape here r.plus r.minus
    misfit-is shape e = shows-misfit x readable s names stored whole p.settled.names whole-stored ∙ rw (sym here-at, sym size_is, sym e) refl

    next-at : here + size ≡ (next s st).at
    unfolding next
    next-at = rw (address_is, shows-size x readable, size_is) refl

    pub going_on : (count' : ℕ) → count' ≡ pick r.labelled (count + 1) count → line_end text at < length text
        → Going text (line_end text at + 1) (number + 1) count' (here + size) (next s st)
    going_on count' c h = record {
      walk = walk-on g.walk x count' c h;
      at-is = next-at;
      most = going-most.2;
      paired = next-paired s st g.paired;
      placed = walk-past g.walk misplaced g.placed in_place h;
    }

    -- the bytes that are stored
    module _ (fits : misfit whole s st ≡ false) (b : Option Written) (shape first value : ℕ) (Shape-is : shape ≡ get_or shapes r.form 0)
        (first-is : first ≡ get_or firsts r.form 0) (value-is : value ≡ (r.plus - r.minus) % 65536)
        (bytes-are : listed b ≡ low_bytes (bytes_in shape first value)) (out two : List ℕ) (stored-are : two ≡ sets out here (listed b)) where
      line-bytes : bytes whole st ≡ listed b
      line-bytes = shows-bytes x readable s names stored whole p.settled.names whole-stored fits ∙ sym
          (bytes-are ∙ rw (Shape-is, first-is, value-is) refl)

      stores : two ≡ sets out s.at (bytes whole st)
      stores = stored-are ∙ ap (sets out here) (sym line-bytes) ∙ ap (λ (a : ℕ). sets out a (bytes whole st)) here-at
          ∙ shows-put x readable s names stored whole p.settled.names whole-stored out

      put-line : (rest : List Statement) → program_at text at ≡ st ∷ rest → put whole s (program_at text at) out ≡ put whole (next s st) rest two
      put-line rest is = ap (λ (ls : List Statement). put whole s ls out) is ∙ ap (put whole (next s st) rest) (sym stores)

      pub put_last : line_end text at ≡ length text → put whole s (program_at text at) out ≡ two
      put_last h = put-line [] (last_line text at g.walk.within h)

      pub put_on : line_end text at < length text → put whole s (program_at text at) out ≡ put whole (next s st) (program_at text (line_end text at + 1)) two
      put_on h = put-line (program_at text (line_end text at + 1)) (next-line text at g.walk.within h)

-- ---- values that are checked
pub record Valuing (text : List ℕ) (at number count address : ℕ) : Type 0 where
  pub s : Above
  pub going : Going text at number count address s
  pub found : first (misfit (end start (program text))) start 1 (program text) ≡ first (misfit (end start (program text))) s number
      (program_at text at)

-- ---- bytes that are written: what is put from here on makes the whole; no value is a misfit
pub record Writing (text out : List ℕ) (at number count address : ℕ) (result : List ℕ) : Type 0 where
  pub s : Above
  pub going : Going text at number count address s
  pub found : first (misfit (end start (program text))) start 1 (program text) ≡ first (misfit (end start (program text))) s number
      (program_at text at)
  pub whole : result ≡ put (end start (program text)) s (program_at text at) out
