-- Reading an accepted text's bytes gives its lines: every line passed the tests, so its value is within its field, its bytes are as many as its form
-- takes, and they stay where they are put (Image). Assumes nothing.
use Prim.Native.Nat.{ℕ, ◌+◌, ◌-◌, ◌%◌, ◌<◌, ◌≤◌}
use native.Mathlib.Omega.{arith}
use mathlib.Core.Path.{◌≡◌, refl, sym, ap, ap₂, subst, ◌∙◌}
use mathlib.Core.Bool.{false}
use mathlib.Core.List.{List, [], ◌∷◌, map}
use mathlib.Core.Option.{Option}
use lib.Dec.{leb, ltb, lit<}
use lib.ListN.{get_or, length, take, replicate, length-replicate, get_or-replicate}
use borrow.Author.Tests.{ltb-true, ltb-false, not-false}
use Rattle.isa.specs.Code.{bytes_of}
use Rattle.isa.specs.declared.Instruction.{Instruction}
use Rattle.isa.proofs.Exact.{and_left, and_right}
use Rattle.rom.specs.Fetching.{byte_at, moved_by}
use Rattle.rom.specs.declared.reader.Code.{Code}
use Rattle.rom.proofs.Fetching.{code-bytes}
use Rattle.operand.specs.Text as Text
use Rattle.operand.specs.Text.{tokens}
use Rattle.operand.specs.Operand.{Term, plus, minus}
use Rattle.assembler.specs.Forms.{size, field, reaches, rom_size}
use Rattle.assembler.specs.Statement.{Statement, unreadable, blank, org, mnemonic, statement}
use Rattle.assembler.specs.Program.{Above, start, next, end, span, meets, within, misplaced, misfit, instruction, put, image, program}
use Rattle.assembler_laws.specs.Lines.{Stands, here, there, BytesRead, LinesRead, LinesReadAll}
use Rattle.assembler_laws.proofs.Each.{Each, ◌and◌, each_map}
use Rattle.assembler_laws.proofs.Form.{Fits, Formed, formed}
use Rattle.assembler_laws.proofs.Image.{or_left, or_right, Clear, put-length, unwritten, put-line}
use Rattle.assembler_laws.proofs.Passed.{Passed, passed, never}

each_line : {P : Statement → Type 0} {s u : Above} {ls : List Statement} {k : Statement} → Each P ls → Stands s ls u k → P k
each_line Each.none h = elim h [ ]
each_line (p and ps) here = p
each_line {P = P} {s = s} {u = u} {k = k} (◌and◌ {a = a} {l = l} p ps) (there h) = each_line {s = next s a} ps h

-- at most two bytes that stand at an address, as the two that are read there
two-read : (xs bs : List ℕ) (a : ℕ) → length xs ≤ 2 → a + length xs ≤ rom_size → ((j : ℕ) → j < length xs → get_or bs (a + j) 0 ≡ get_or xs j 0)
    → take (length xs) (byte_at bs a ∷ byte_at bs (a + 1) ∷ []) ≡ xs
two-read [] bs a s h f = refl
two-read (x ∷ []) bs a s h f =
    let p : a % rom_size ≡ a + 0 = omega arith in
    ap (λ (n : ℕ). n ∷ []) (ap (λ (n : ℕ). get_or bs n 0) p ∙ f 0 (lit< tt))
two-read (x ∷ y ∷ []) bs a s h f =
    let p : a % rom_size ≡ a + 0 = omega arith in
    let q : (a + 1) % rom_size ≡ a + 1 = omega arith in
    ap₂ (λ (n m : ℕ). n ∷ m ∷ []) (ap (λ (n : ℕ). get_or bs n 0) p ∙ f 0 (lit< tt)) (ap (λ (n : ℕ). get_or bs n 0) q ∙ f 1 (lit< tt))
two-read (x ∷ y ∷ z ∷ xs) bs a s h f = absurd (omega arith)

module _ (ls : List Statement) (out : List ℕ) (room : length out ≡ rom_size) (fits : Each Formed ls)
    (placed : (u : Above) (k : Statement) → Stands start ls u k → misplaced u k ≡ false)
    (fitted : (u : Above) (k : Statement) → Stands start ls u k → misfit (end start ls) u k ≡ false) where
  abbrev whole : Above
  whole = end start ls

  abbrev added : List Term → ℕ
  added ts = plus whole.names whole.addresses ts

  abbrev taken : List Term → ℕ
  taken ts = minus whole.names whole.addresses ts

  cleared : (u : Above) (k : Statement) → Formed k → misplaced u k ≡ false → Clear whole u k
  cleared u unreadable p e = record { spanned = refl; clear = refl }
  cleared u blank p e = record { spanned = refl; clear = refl }
  cleared u (org l ts) p e = record { spanned = refl; clear = refl }
  cleared u (mnemonic l f ts) p e =
      let q : length (bytes_of (instruction whole f ts)) ≡ size f = p.sized (added ts - taken ts) in
      record {
        spanned = ap (span u.at) (sym q);
        clear = rw q (or_right (ltb rom_size (u.at + size f)) (meets u.written (span u.at (size f))) e);
      }

  all-clear : (u : Above) (k : Statement) → Stands start ls u k → Clear whole u k
  all-clear u k h = cleared u k (each_line fits h) (placed u k h)

  bytes_read : (u : Above) (l : Option (List ℕ)) (f : ℕ → Instruction) (ts : List Term) → Stands start ls u (mnemonic l f ts)
      → BytesRead whole u f ts (put whole start ls out)
  bytes_read u l f ts h =
      let p : Fits f = each_line fits h in
      let v = added ts - taken ts in
      let q : length (bytes_of (f v)) ≡ size f = p.sized v in
      let short : length (bytes_of (f v)) ≤ 2 = rw q p.short in
      let fit = not-false _ (fitted u (mnemonic l f ts) h) in
      let value = and_left (within (field f) (added ts) (taken ts)) (reaches f (moved_by (size f) u.at) v) fit in
      let low : v < field f = ltb-true v (field f) (and_right (leb (taken ts) (added ts)) (ltb v (field f)) value) in
      let here : u.at + size f ≤ rom_size =
      ltb-false rom_size (u.at + size f)
      (or_left (ltb rom_size (u.at + size f)) (meets u.written (span u.at (size f))) (placed u (mnemonic l f ts) h)) in
      let inside : u.at + length (bytes_of (f v)) ≤ rom_size = rw q here in
      record {
        reads = record {
          fields = p.in-range v low;
          bytes =
              ap (λ (k : Code). take (length (bytes_of (f v))) (k.first ∷ k.second ∷ [])) (code-bytes (put whole start ls out) u.at)
              ∙ two-read (bytes_of (f v)) (put whole start ls out) u.at short inside (λ j b. put-line whole out j all-clear h (rw room inside) b);
        };
        fits = here;
        in_field = value;
        goes = p.goes (moved_by (size f) u.at) v low (and_right (within (field f) (added ts) (taken ts)) (reaches f (moved_by (size f) u.at) v) fit);
      }

module _ (text bs : List ℕ) (p : Passed (program text) bs) where
  abbrev blank-mask : List ℕ
  blank-mask = replicate rom_size 0x3e

  room : length blank-mask ≡ rom_size
  room = length-replicate {A = ℕ} rom_size 0x3e

  fits : Each Formed (program text)
  fits = each_map Formed statement formed (map tokens (Text.lines text))

  placed : (u : Above) (k : Statement) → Stands start (program text) u k → misplaced u k ≡ false
  placed u k h = never misplaced 0 p.placed h

  fitted : (u : Above) (k : Statement) → Stands start (program text) u k → misfit (end start (program text)) u k ≡ false
  fitted u k h = never (misfit (end start (program text))) 0 p.fitted h

  image-read : LinesRead text (image (program text))
  image-read =
      record {
        size = put-length (end start (program text)) start (program text) blank-mask ∙ room;
        lines = bytes_read (program text) blank-mask room fits placed fitted;
        others = λ a h e.
            unwritten (end start (program text)) start (program text) blank-mask a (all-clear (program text) blank-mask room fits placed fitted) e
            ∙ get_or-replicate {A = ℕ} rom_size a 0x3e 0 h;
      }

pub lines-read : LinesReadAll
lines-read text bs e = let p = passed text bs e in subst (LinesRead text) p.result (image-read text bs p)
