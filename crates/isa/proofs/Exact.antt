-- The laws of reading: the map by first byte (`decoded`) and the codes (`Reads`) say the same, so each pair of bytes reads as at
-- most one instruction, and what is written reads back. One direction is a test that antt computes over the map's 256 entries, and
-- the other goes by the cases of an instruction. Assumes nothing.
use Prim.Native.Nat.{ℕ, zero, suc, ◌+◌, ◌*◌, ◌/◌, ◌%◌, ◌<◌}
use native.Mathlib.Nat.{le_of_suc-le-suc, not-suc-le-zero, add-zero, zero-add, add-suc, suc-add, div-add-mod'}
use native.Mathlib.Omega.{arith}
use mathlib.Core.Path.{◌≡◌, refl, sym, ap, subst, ◌∙◌}
use mathlib.Core.Bool.{Bool, true, false, ◌&&◌}
use mathlib.Core.List.{List, [], ◌∷◌}
use lib.Dec.{ltb, eqb, lit<}
use lib.ListN.{length, take, get_or}
use borrow.Author.Tests.{ltb-true, eqb-true}
use Rattle.std.specs.Prelude.{Option, Some, None}
use Rattle.isa.specs.Choice.{pick}
use Rattle.isa.specs.Code.{addresses, bytes_of, in_range, leading, bit_in_range}
use Rattle.isa.specs.Reading.{Reads, Reading, Entry, undefined, whole, fixed, nibble, byte, opcodes, complete, decoded, ReadingDetermines}
use Rattle.isa.specs.Timing.{Columns, columns, columns_of, columns_at, entry_columns, Timed}
use Rattle.isa.specs.declared.Pointer.{Pointer}
use Rattle.isa.specs.declared.Pointer.TheVariants.{R1R0, R3R2}
use Rattle.isa.specs.declared.Port.TheVariants.{Pm, Ps, Pp}
use Rattle.isa.specs.declared.Page.TheVariants.{Current, F}
use Rattle.isa.specs.declared.ProgramAddress.{ProgramAddress}
use Rattle.isa.specs.declared.Condition.{Condition}
use Rattle.isa.specs.declared.Condition.TheVariants.{Ja, JnzR0, JnzR1, JnzR4, Jz, JnzA, Jc, Jnc, Jtmr}
use Rattle.isa.specs.declared.Instruction.{Instruction}
use Rattle.isa.specs.declared.Instruction.TheVariants as I

-- ---- two functions agree below n where the lists of their first n values are one list, which antt computes
abbrev pub values : ℕ → (ℕ → Option Instruction) → List (Option Instruction)
values zero f = []
values (suc n) f = f 0 ∷ values n (λ (k : ℕ). f (suc k))

pub agree : (n : ℕ) (f g : ℕ → Option Instruction) → values n f ≡ values n g → (k : ℕ) → k < n → f k ≡ g k
agree zero f g e k h = absurd (not-suc-le-zero h)
agree (suc n) f g e zero h = cc
agree (suc n) f g e (suc k) h = agree n (λ (k : ℕ). f (suc k)) (λ (k : ℕ). g (suc k)) (cc) k (le_of_suc-le-suc h)

-- ---- from an instruction to the map
head : {a x : ℕ} {s t : List ℕ} → a ∷ s ≡ x ∷ t → a ≡ x
head e = cc

tail : {a x : ℕ} {s t : List ℕ} → a ∷ s ≡ x ∷ t → s ≡ t
tail e = cc

pub and_left : (x y : Bool) → x && y ≡ true → x ≡ true
and_left true y e = refl
and_left false y e = e

pub and_right : (x y : Bool) → x && y ≡ true → y ≡ true
and_right true y e = e
and_right false y e = absurd (let z : ◌≡◌ {A = ℕ} 0 1 = cc in omega arith)

passed : {t : Bool} (d : Option Instruction) → t ≡ true → pick t d None ≡ d
passed d e = rw e

-- the map at a first byte whose field is below n, with b after it
module _ (n : ℕ) (x : ℕ → ℕ) (b : ℕ) (f : ℕ → Option Instruction) (e : values n (λ (k : ℕ). decoded (x k) b) ≡ values n f) where
  field : (k : ℕ) → ltb k n ≡ true → decoded (x k) b ≡ f k
  field k h = agree n (λ (k : ℕ). decoded (x k) b) f e k (ltb-true k n h)

abbrev pair : Pointer → ℕ → ℕ → Option Instruction
pair p high low = pick (ltb high 16) (Some (I.MovPairXX p low high)) None

abbrev to : (ProgramAddress → Instruction) → ℕ → ℕ → Option Instruction
to f low high = Some (f (record { 0 = high * 256 + low }))

-- an address whose high part, below n, is in the first byte
address : (n : ℕ) (f : ProgramAddress → Instruction) (x : ℕ) (t : ProgramAddress) → values n (λ (k : ℕ). decoded (x + k) (t.0 % 256)) ≡ values n (to f (t.0 % 256))
    → t.0 / 256 < n → decoded (x + t.0 / 256) (t.0 % 256) ≡ Some (f t)
address n f x t e h =
    agree n (λ (k : ℕ). decoded (x + k) (t.0 % 256)) (to f (t.0 % 256)) e (t.0 / 256) h
    ∙ ap (λ (m : ℕ). Some (f (record { 0 = m }))) (div-add-mod' t.0 256)

module _ (a b : ℕ) where
  one : {x : ℕ} {d : Option Instruction} → a ∷ [] ≡ x ∷ [] → decoded x b ≡ d → decoded a b ≡ d
  one {x} {d} e p = subst (λ (n : ℕ). decoded n b ≡ d) (sym (head e)) p

  two : {x y : ℕ} {d : Option Instruction} → a ∷ b ∷ [] ≡ x ∷ y ∷ [] → decoded x y ≡ d → decoded a b ≡ d
  two {x} {y} {d} e p = ap (λ (n : ℕ). decoded n b) (head e) ∙ ap (decoded x) (head (tail e)) ∙ p

  paired : (p : Pointer) (x low high : ℕ) → values 16 (λ (k : ℕ). decoded (x + k) high) ≡ values 16 (pair p high) → ltb low 16 && ltb high 16 ≡ true → decoded (x + low) high ≡ Some (I.MovPairXX p low high)
  paired p x low high e h =
      field 16 (λ (k : ℕ). x + k) high (pair p high) e low (and_left (ltb low 16) (ltb high 16) h)
      ∙ passed {t = ltb high 16} (Some (I.MovPairXX p low high)) (and_right (ltb low 16) (ltb high 16) h)

  jump : (f : ProgramAddress → Instruction) (x : ℕ) (t : ProgramAddress) → values 16 (λ (k : ℕ). decoded (x + k) (t.0 % 256)) ≡ values 16 (to f (t.0 % 256)) → ltb t.0 addresses ≡ true → decoded (x + t.0 / 256) (t.0 % 256) ≡ Some (f t)
  jump f x t e h = address 16 f x t e (omega (arith, ltb-true t.0 addresses h))

  target : (k : Condition) (x : ℕ) (t : ProgramAddress) → values 8 (λ (k : ℕ). decoded (x + k) (t.0 % 256)) ≡ values 8 (to (λ (t : ProgramAddress). I.Branch t k) (t.0 % 256)) → ltb t.0 2048 ≡ true → decoded (x + t.0 / 256) (t.0 % 256) ≡ Some (I.Branch t k)
  target k x t e h = address 8 (λ (t : ProgramAddress). I.Branch t k) x t e (omega (arith, ltb-true t.0 2048 h))

  -- JAn: the four bits, then the eight high parts
  abbrev eight : ℕ → ℕ → Type 0
  eight b n = values 8 (λ (k : ℕ). decoded (0b1000_0000 + 8 * n + k) b) ≡ values 8 (to (λ (t : ProgramAddress). I.Branch t (Ja n)) b)

  bits : (b n : ℕ) → n < 4 → eight b n
  unfolding decoded opcodes
  bits b zero h = refl
  bits b (suc zero) h = refl
  bits b (suc (suc zero)) h = refl
  bits b (suc (suc (suc zero))) h = refl
  bits b (suc (suc (suc (suc n)))) h = absurd (omega arith)

  bit : (n : ℕ) (t : ProgramAddress) → ltb n 4 && ltb t.0 2048 ≡ true → decoded (0b1000_0000 + 8 * n + t.0 / 256) (t.0 % 256) ≡ Some (I.Branch t (Ja n))
  bit n t h = target (Ja n) (0b1000_0000 + 8 * n) t (bits (t.0 % 256) n (ltb-true n 4 (and_left (ltb n 4) (ltb t.0 2048) h))) (and_right (ltb n 4) (ltb t.0 2048) h)

  pub back : (i : Instruction) → Reads a b i → decoded a b ≡ Some i
  unfolding bytes_of in_range leading bit_in_range decoded opcodes
  back I.AddAM r = one r.bytes refl
  back I.AdcAM r = one r.bytes refl
  back I.SubAM r = one r.bytes refl
  back I.SbcAM r = one r.bytes refl
  back (I.AddAX d) r = two r.bytes (passed _ r.fields)
  back (I.SubAX d) r = two r.bytes (passed _ r.fields)
  back I.Daa r = one r.bytes refl
  back I.AndAM r = one r.bytes refl
  back I.OrAM r = one r.bytes refl
  back I.XorAM r = one r.bytes refl
  back I.AndMA r = one r.bytes refl
  back I.OrMA r = one r.bytes refl
  back I.XorMA r = one r.bytes refl
  back (I.AndAX d) r = two r.bytes (passed _ r.fields)
  back (I.OrAX d) r = two r.bytes (passed _ r.fields)
  back (I.XorAX d) r = two r.bytes (passed _ r.fields)
  back I.IncA r = one r.bytes refl
  back (I.IncR n) r = one r.bytes (field 5 (λ (n : ℕ). 0b0001_0000 + 2 * n) b (λ (n : ℕ). Some (I.IncR n)) refl n r.fields)
  back (I.IncM R1R0) r = one r.bytes refl
  back (I.IncM R3R2) r = one r.bytes refl
  back I.DecA r = one r.bytes refl
  back (I.DecR n) r = one r.bytes (field 5 (λ (n : ℕ). 0b0001_0001 + 2 * n) b (λ (n : ℕ). Some (I.DecR n)) refl n r.fields)
  back (I.DecM R1R0) r = one r.bytes refl
  back (I.DecM R3R2) r = one r.bytes refl
  back (I.MovAR n) r = one r.bytes (field 5 (λ (n : ℕ). 0b0010_0001 + 2 * n) b (λ (n : ℕ). Some (I.MovAR n)) refl n r.fields)
  back (I.MovRA n) r = one r.bytes (field 5 (λ (n : ℕ). 0b0010_0000 + 2 * n) b (λ (n : ℕ). Some (I.MovRA n)) refl n r.fields)
  back (I.MovAM R1R0) r = one r.bytes refl
  back (I.MovAM R3R2) r = one r.bytes refl
  back (I.MovMA R1R0) r = one r.bytes refl
  back (I.MovMA R3R2) r = one r.bytes refl
  back (I.MovAX d) r = one r.bytes (field 16 (λ (d : ℕ). 0b0111_0000 + d) b (λ (d : ℕ). Some (I.MovAX d)) refl d r.fields)
  back (I.MovPairXX R1R0 low high) r = two r.bytes (paired R1R0 0b0101_0000 low high refl r.fields)
  back (I.MovPairXX R3R2 low high) r = two r.bytes (paired R3R2 0b0110_0000 low high refl r.fields)
  back (I.MovR4X d) r = two r.bytes (passed _ r.fields)
  back I.RlA r = one r.bytes refl
  back I.RlcA r = one r.bytes refl
  back I.RrA r = one r.bytes refl
  back I.RrcA r = one r.bytes refl
  back (I.InA Pm) r = one r.bytes refl
  back (I.InA Ps) r = one r.bytes refl
  back (I.InA Pp) r = one r.bytes refl
  back I.OutPaA r = one r.bytes refl
  back (I.Jmp t) r = two r.bytes (jump I.Jmp 0b1110_0000 t refl r.fields)
  back (I.Branch t (Ja n)) r = two r.bytes (bit n t r.fields)
  back (I.Branch t JnzR0) r = two r.bytes (target JnzR0 0b1010_0000 t refl r.fields)
  back (I.Branch t JnzR1) r = two r.bytes (target JnzR1 0b1010_1000 t refl r.fields)
  back (I.Branch t JnzR4) r = two r.bytes (target JnzR4 0b1101_1000 t refl r.fields)
  back (I.Branch t Jz) r = two r.bytes (target Jz 0b1011_0000 t refl r.fields)
  back (I.Branch t JnzA) r = two r.bytes (target JnzA 0b1011_1000 t refl r.fields)
  back (I.Branch t Jc) r = two r.bytes (target Jc 0b1100_0000 t refl r.fields)
  back (I.Branch t Jnc) r = two r.bytes (target Jnc 0b1100_1000 t refl r.fields)
  back (I.Branch t Jtmr) r = two r.bytes (target Jtmr 0b1101_0000 t refl r.fields)
  back (I.Call t) r = two r.bytes (jump I.Call 0b1111_0000 t refl r.fields)
  back I.Ret r = one r.bytes refl
  back I.Reti r = one r.bytes refl
  back I.Clc r = one r.bytes refl
  back I.Stc r = one r.bytes refl
  back I.Ei r = one r.bytes refl
  back I.Di r = one r.bytes refl
  back I.Nop r = one r.bytes refl
  back (I.TimerXX x) r = two r.bytes refl
  back I.TimerOn r = one r.bytes refl
  back I.TimerOff r = one r.bytes refl
  back I.MovATmrl r = one r.bytes refl
  back I.MovATmrh r = one r.bytes refl
  back I.MovTmrlA r = one r.bytes refl
  back I.MovTmrhA r = one r.bytes refl
  back (I.ReadR4A Current) r = one r.bytes refl
  back (I.ReadR4A F) r = one r.bytes refl
  back (I.ReadMr0A Current) r = one r.bytes refl
  back (I.ReadMr0A F) r = one r.bytes refl
  back (I.SoundN n) r = two r.bytes (passed _ r.fields)
  back I.SoundA r = one r.bytes refl
  back I.SoundOne r = one r.bytes refl
  back I.SoundLoop r = one r.bytes refl
  back I.SoundOff r = one r.bytes refl
  back I.Halt r = two r.bytes refl

-- ---- from the map to an instruction: one test over the 256 entries
abbrev same : List ℕ → List ℕ → Bool
same [] [] = true
same [] (y ∷ t) = false
same (x ∷ s) [] = false
same (x ∷ s) (y ∷ t) = eqb x y && same s t

abbrev pub below : ℕ → (ℕ → Bool) → Bool
below zero f = true
below (suc n) f = f 0 && below n (λ (k : ℕ). f (suc k))

-- i's fields are in range and its bytes are s; and its columns are c
abbrev good : Columns → Instruction → List ℕ → Bool
good c i s = in_range i && same (bytes_of i) s && (eqb c.bytes (columns_of i).bytes && eqb c.cycles (columns_of i).cycles)

abbrev right : ℕ → Entry → Bool
right a undefined = true
right a (whole i) = good (columns_of i) i (a ∷ [])
right a (fixed b i) = good (columns_of i) i (a ∷ b ∷ [])
right a (nibble f) = below 16 (λ (b : ℕ). good (columns_of (f 0)) (f b) (a ∷ b ∷ []))
right a (byte f) = below 256 (λ (b : ℕ). good (columns_of (f 0)) (f b) (a ∷ b ∷ []))

abbrev every : ℕ → List Entry → Bool
every a [] = true
every a (e ∷ es) = right a e && every (suc a) es

tested : every 0 opcodes ≡ true
unfolding in_range bytes_of leading bit_in_range columns_of opcodes
tested = refl

same-is : (s t : List ℕ) → same s t ≡ true → s ≡ t
same-is [] [] e = refl
same-is [] (y ∷ t) e = absurd (let z : ◌≡◌ {A = ℕ} 0 1 = cc in omega arith)
same-is (x ∷ s) [] e = absurd (let z : ◌≡◌ {A = ℕ} 0 1 = cc in omega arith)
same-is (x ∷ s) (y ∷ t) e =
    let p : x ≡ y = eqb-true x y (and_left (eqb x y) (same s t) e) in
    let q : s ≡ t = same-is s t (and_right (eqb x y) (same s t) e) in
    cc

pub below_at : (n : ℕ) (f : ℕ → Bool) → below n f ≡ true → (k : ℕ) → k < n → f k ≡ true
below_at zero f e k h = absurd (not-suc-le-zero h)
below_at (suc n) f e zero h = and_left (f 0) (below n (λ (k : ℕ). f (suc k))) e
below_at (suc n) f e (suc k) h = below_at n (λ (k : ℕ). f (suc k)) (and_right (f 0) (below n (λ (k : ℕ). f (suc k))) e) k (le_of_suc-le-suc h)

every-at : (es : List Entry) (a k : ℕ) → every a es ≡ true → right (a + k) (get_or es k undefined) ≡ true
every-at [] a zero e = refl
every-at [] a (suc k) e = refl
every-at (x ∷ es) a zero e = rw (add-zero a) (and_left (right a x) (every (suc a) es) e)
every-at (x ∷ es) a (suc k) e =
    subst (λ (m : ℕ). right m (get_or es k undefined) ≡ true) (suc-add a k ∙ sym (add-suc a k))
    (every-at es (suc a) k (and_right (right a x) (every (suc a) es) e))

-- what a passed test says of the instruction
pub record Made (c : Columns) (a b : ℕ) (i : Instruction) : Type 0 where
  pub reads : Reads a b i
  pub timed : c ≡ columns_of i

made : (c : Columns) (a b : ℕ) (i : Instruction) (s : List ℕ) → good c i s ≡ true → take (length s) (a ∷ b ∷ []) ≡ s → Made c a b i
made c a b i s g e =
    let coded : in_range i && same (bytes_of i) s ≡ true = and_left (in_range i && same (bytes_of i) s) (eqb c.bytes (columns_of i).bytes && eqb c.cycles (columns_of i).cycles) g in
    let timed : eqb c.bytes (columns_of i).bytes && eqb c.cycles (columns_of i).cycles ≡ true = and_right (in_range i && same (bytes_of i) s) (eqb c.bytes (columns_of i).bytes && eqb c.cycles (columns_of i).cycles) g in
    let p : bytes_of i ≡ s = same-is (bytes_of i) s (and_right (in_range i) (same (bytes_of i) s) coded) in
    let l : c.bytes ≡ (columns_of i).bytes = eqb-true _ _ (and_left (eqb c.bytes (columns_of i).bytes) (eqb c.cycles (columns_of i).cycles) timed) in
    let n : c.cycles ≡ (columns_of i).cycles = eqb-true _ _ (and_right (eqb c.bytes (columns_of i).bytes) (eqb c.cycles (columns_of i).cycles) timed) in
    record { reads = record { fields = and_left (in_range i) (same (bytes_of i) s) coded; bytes = rw p e }; timed = λ k. record { bytes = l k; cycles = n k } }

same_read : {i j : Instruction} → Some i ≡ Some j → i ≡ j
same_read e = cc

picked : (t : Bool) (i j : Instruction) → pick t (Some j) None ≡ Some i → t ≡ true × j ≡ i
picked true i j e = (refl, same_read e)
picked false i j e = absurd (let z : ◌≡◌ {A = ℕ} 0 1 = cc in omega arith)

entry : (e : Entry) (a b : ℕ) (i : Instruction) → right a e ≡ true → b < 256 → complete e b ≡ Some i → Made (entry_columns e) a b i
entry undefined a b i t h e = absurd (let z : ◌≡◌ {A = ℕ} 0 1 = cc in omega arith)
entry (whole j) a b i t h e = subst (Made (columns_of j) a b) (same_read e) (made (columns_of j) a b j (a ∷ []) t refl)
entry (fixed y j) a b i t h e =
    let p = picked (eqb b y) i j e in
    subst (Made (columns_of j) a b) p.1 (made (columns_of j) a b j (a ∷ y ∷ []) t (rw (eqb-true b y p.0) refl))
entry (nibble f) a b i t h e =
    let p = picked (ltb b 16) i (f b) e in
    subst (Made (columns_of (f 0)) a b) p.1
    (made (columns_of (f 0)) a b (f b) (a ∷ b ∷ []) (below_at 16 (λ (b : ℕ). good (columns_of (f 0)) (f b) (a ∷ b ∷ [])) t b (ltb-true b 16 p.0)) refl)
entry (byte f) a b i t h e =
    subst (Made (columns_of (f 0)) a b) (same_read e)
    (made (columns_of (f 0)) a b (f b) (a ∷ b ∷ []) (below_at 256 (λ (b : ℕ). good (columns_of (f 0)) (f b) (a ∷ b ∷ [])) t b h) refl)

-- ---- the laws
row : (a : ℕ) → right a (get_or opcodes a undefined) ≡ true
row a = subst (λ (m : ℕ). right m (get_or opcodes a undefined) ≡ true) (zero-add a) (every-at opcodes 0 a tested)

from-map : (a b : ℕ) (i : Instruction) → b < 256 → decoded a b ≡ Some i → Made (columns_at a) a b i
unfolding decoded columns_at
from-map a b i h e = entry (get_or opcodes a undefined) a b i (row a) h e

-- what the map gives is what the codes say, for every pair of bytes
pub sound : (a b : ℕ) (i : Instruction) → b < 256 → decoded a b ≡ Some i → Reads a b i
sound a b i h e = (from-map a b i h e).reads

-- no two instructions in range share a code
pub unique : (a b : ℕ) (i j : Instruction) → Reads a b i → Reads a b j → i ≡ j
unique a b i j r s = same_read (sym (back a b i r) ∙ back a b j s)

unread : (a b : ℕ) → decoded a b ≡ None → (i : Instruction) → Reads a b i → ⊥
unread a b e i r = let p : Some i ≡ None = sym (back a b i r) ∙ e in let z : ◌≡◌ {A = ℕ} 0 1 = cc in omega arith

-- `decoded` is the reading of every pair of bytes, and the only one
pub exact : (a b : ℕ) → b < 256 → Reading a b (decoded a b)
exact a b h = go (decoded a b) refl
  where
    go : (d : Option Instruction) → decoded a b ≡ d → Reading a b d
    go (Some i) e = sound a b i h e
    go None e = unread a b e

pub reading : (a b : ℕ) (d : Option Instruction) → b < 256 → Reading a b d → d ≡ decoded a b
reading a b (Some i) h r = sym (back a b i r)
reading a b None h r = go (decoded a b) (exact a b h)
  where
    go : (d : Option Instruction) → Reading a b d → None ≡ d
    go (Some i) s = absurd (r i s)
    go None s = refl

pub reading-determines : ReadingDetermines
reading-determines a b d e h r s = reading a b d h r ∙ sym (reading a b e h s)

-- ---- the list's entries
timed-read : (a b : ℕ) (i : Instruction) → b < 256 → Reads a b i → columns_at a ≡ columns_of i
timed-read a b i h r = (from-map a b i h (back a b i r)).timed

timed-unread : (a : ℕ) (e : Entry) → right a e ≡ true → ((b : ℕ) (i : Instruction) → Reads a b i → ⊥) → entry_columns e ≡ columns 0 0
timed-unread a undefined t h = refl
timed-unread a (whole i) t h = absurd (h 0 i (made (columns_of i) a 0 i (a ∷ []) t refl).reads)
timed-unread a (fixed b i) t h = absurd (h b i (made (columns_of i) a b i (a ∷ b ∷ []) t refl).reads)
timed-unread a (nibble f) t h = absurd (h 0 (f 0) (made (columns_of (f 0)) a 0 (f 0) (a ∷ 0 ∷ []) (below_at 16 (λ (b : ℕ). good (columns_of (f 0)) (f b) (a ∷ b ∷ [])) t 0 (lit< tt)) refl).reads)
timed-unread a (byte f) t h = absurd (h 0 (f 0) (made (columns_of (f 0)) a 0 (f 0) (a ∷ 0 ∷ []) (below_at 256 (λ (b : ℕ). good (columns_of (f 0)) (f b) (a ∷ b ∷ [])) t 0 (lit< tt)) refl).reads)

-- the entry for a first byte is what the summary says of it
pub timed : (a : ℕ) → Timed a (columns_at a)
unfolding columns_at
timed a = record { read = λ b i h r. timed-read a b i h r; unread = timed-unread a (get_or opcodes a undefined) (row a) }

-- ---- an instruction from its bytes
pub one_byte : {a b x : ℕ} {i : Instruction} → in_range i ≡ true → bytes_of i ≡ x ∷ [] → a ≡ x → Reads a b i
one_byte {a} {b} {x} {i} f e p = record { fields = f; bytes = rw e (ap (λ (n : ℕ). n ∷ []) p) }

pub two-byte : {a b x y : ℕ} {i : Instruction} → in_range i ≡ true → bytes_of i ≡ x ∷ y ∷ [] → a ≡ x → b ≡ y → Reads a b i
two-byte {a} {b} {x} {y} {i} f e p q = record { fields = f; bytes = rw e (rw (p, q) refl) }

pub and_both : (x y : Bool) → x ≡ true → y ≡ true → x && y ≡ true
and_both true y e f = f
and_both false y e f = e
