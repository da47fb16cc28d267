-- What an accepted text has passed: each of the four tests finds no line, so each is false of every line, and the bytes are the image.
-- Assumes nothing.
use Prim.Native.Nat.{ℕ, zero, suc}
use mathlib.Core.Path.{◌≡◌, refl}
use mathlib.Core.Bool.{Bool, true, false}
use mathlib.Core.List.{List}
use native.Mathlib.Omega.{arith}
use lib.Dec.{ltb}
use lib.ListN.{length}
use Rattle.isa.specs.Choice.{pick}
use Rattle.assembler.specs.Statement.{Statement}
use Rattle.assembler.specs.Program.{Above, start, next, end, first, unread, mislabelled, misplaced, misfit, image, program}
use Rattle.assembler.specs.Program.{Answer, refused, written, judged, answer_to, assembled}
use Rattle.assembler_laws.specs.Lines.{Stands, here, there}

pub record Passed (ls : List Statement) (bs : List ℕ) : Type 0 where
  pub placed : first misplaced start 1 ls ≡ 0
  pub fitted : first (misfit (end start ls)) start 1 ls ≡ 0
  pub result : image ls ≡ bs

judged-out : (n k : ℕ) (a : Answer) (bs : List ℕ) → judged n k a ≡ written bs → (k ≡ 0) × (a ≡ written bs)
judged-out n zero a bs e = (refl, e)
judged-out n (suc k) a bs e = absurd (let z : ◌≡◌ {A = ℕ} 0 1 = cc in omega arith)

accepted : (ls : List Statement) (bs : List ℕ) → answer_to ls ≡ written bs → Passed ls bs
accepted ls bs e =
    let a = judged-out 12 (first unread start 1 ls) _ bs e in
    let b = judged-out 14 (first (mislabelled (end start ls).names) start 1 ls) _ bs a.1 in
    let c = judged-out 13 _ _ bs b.1 in
    let d = judged-out 13 _ _ bs c.1 in
    record { placed = c.0; fitted = d.0; result = inner d.1 }
  where
    inner : {s t : List ℕ} → written s ≡ written t → s ≡ t
    inner p = cc

not-long : (t : Bool) (a : Answer) (bs : List ℕ) → pick t (refused 12 1) a ≡ written bs → a ≡ written bs
not-long true a bs e = absurd (let z : ◌≡◌ {A = ℕ} 0 1 = cc in omega arith)
not-long false a bs e = e

pub passed : (text bs : List ℕ) → assembled text ≡ written bs → Passed (program text) bs
unfolding assembled
passed text bs e = accepted (program text) bs (not-long (ltb 65535 (length text)) (answer_to (program text)) bs e)

-- a test that finds no line is false of each
module _ (bad : Above → Statement → Bool) where
  not_first : (t : Bool) (n k : ℕ) → pick t (suc n) k ≡ 0 → (t ≡ false) × (k ≡ 0)
  not_first true n k e = absurd (omega arith)
  not_first false n k e = (refl, e)

  pub never : {s u : Above} {ls : List Statement} {k : Statement} (n : ℕ) → first bad s (suc n) ls ≡ 0 → Stands s ls u k → bad u k ≡ false
  never {s = s} n e (here {l = l} {ls = ls}) = (not_first (bad s l) n (first bad (next s l) (suc (suc n)) ls) e).0
  never {s = s} n e (there {l = l} {ls = ls} h) = never (suc n) (not_first (bad s l) n (first bad (next s l) (suc (suc n)) ls) e).1 h
