-- The fixed words are those of the lines, and ORG. For each fixed word an instruction is named whose line has it, which is tested once; the other
-- way, an instruction's line is that of its form (Own), whose words are tested to be fixed (Tested). Assumes nothing.
use Prim.Native.Nat.{ℕ, zero, suc, ◌<◌}
use native.Mathlib.Nat.{not-suc-le-zero, le_of_suc-le-suc}
use native.Mathlib.Omega.{arith}
use mathlib.Core.Path.{◌≡◌, refl, sym, ap, subst, ◌∙◌}
use mathlib.Core.Bool.{Bool, true, false, ◌&&◌, ◌||◌, false≢true}
use mathlib.Core.List.Memᴰ
use mathlib.Core.List.{List, [], ◌∷◌, ◌++◌, Memᴰ}
use mathlib.Core.Logic.{⊎_elim}
use lib.ListN.{length}
use borrow.Author.Tests.{ltb-true}
use Rattle.isa.specs.Choice.{pick}
use Rattle.isa.specs.Code.{in_range, bit_in_range}
use Rattle.isa.specs.declared.Pointer.TheVariants.{R3R2}
use Rattle.isa.specs.declared.Port.TheVariants.{Pm, Ps, Pp}
use Rattle.isa.specs.declared.Page.TheVariants.{Current, F}
use Rattle.isa.specs.declared.ProgramAddress.{ProgramAddress}
use Rattle.isa.specs.declared.Condition.TheVariants.{Ja, JnzA, Jz, Jc, Jnc, Jtmr}
use Rattle.isa.specs.declared.Instruction.{Instruction}
use Rattle.isa.specs.declared.Instruction.TheVariants as I
use Rattle.isa.proofs.Exact.{and_left, and_right}
use Rattle.mnemonic.specs.Line.{line_of}
use Rattle.mnemonic.specs.Spelling.{Token, letters, mark, operand, codes}
use Rattle.operand.specs.Words.{fixed_words, same, place, is_fixed}
use Rattle.assembler.specs.Forms.{operand_digits, lead}
use Rattle.assembler.specs.Statement.{leads}
use Rattle.assembler_laws.specs.Fixed.{Stated, org, mnemonic, FixedExactly}
use Rattle.assembler_laws.proofs.Each.{Each, ◌and◌, every, passes}
use Rattle.assembler_laws.proofs.Numbers.{same-is}
use Rattle.assembler_laws.proofs.Own.{own-case, own_line}
use Rattle.assembler_laws.proofs.Spoken.{spoken}
use Rattle.assembler_laws.proofs.Tested.{tested-form}

-- ---- each fixed word stands in a line
abbrev has : List ℕ → List Token → Bool
has w [] = false
has w (letters v ∷ ts) = same v w || has w ts
has w (mark c ∷ ts) = has w ts
has w (operand n v ∷ ts) = has w ts

has-stands : (w : List ℕ) (ts : List Token) → has w ts ≡ true → Memᴰ (letters w) ts
has-stands w [] e = absurd (false≢true e)
has-stands w (letters v ∷ ts) e = go (same v w) refl e (has-stands w ts)
  where
    go : (t : Bool) → same v w ≡ t → t || has w ts ≡ true → (has w ts ≡ true → Memᴰ (letters w) ts) → Memᴰ (letters w) (letters v ∷ ts)
    go true q f g = Memᴰ.head (ap letters (sym (same-is v w q)))
    go false q f g = Memᴰ.tail (g f)
has-stands w (mark c ∷ ts) e = Memᴰ.tail (has-stands w ts e)
has-stands w (operand n v ∷ ts) e = Memᴰ.tail (has-stands w ts e)

-- words of which each is in the line of its instruction, or ORG where there are no more instructions
abbrev shown : List (List ℕ) → List Instruction → Bool
shown [] is = true
shown (w ∷ ws) [] = same w (codes "ORG") && shown ws []
shown (w ∷ ws) (i ∷ is) = (in_range i && has w (line_of i)) && shown ws is

each-stated : (ws : List (List ℕ)) (is : List Instruction) → shown ws is ≡ true → Each Stated ws
each-stated [] is e = Each.none
each-stated (w ∷ ws) [] e =
    org (same-is w (codes "ORG") (and_left (same w (codes "ORG")) (shown ws []) e))
    and each-stated ws [] (and_right (same w (codes "ORG")) (shown ws []) e)
each-stated (w ∷ ws) (i ∷ is) e =
    let p = and_left (in_range i && has w (line_of i)) (shown ws is) e in
    mnemonic i (and_left (in_range i) (has w (line_of i)) p) (has-stands w (line_of i) (and_right (in_range i) (has w (line_of i)) p))
    and each-stated ws is (and_right (in_range i && has w (line_of i)) (shown ws is) e)

abbrev origin : ProgramAddress
origin = record { 0 = 0 }

-- an instruction for each word, in their order, and none for ORG
abbrev with-them : List Instruction
with-them =
    I.AddAM ∷ I.AddAM ∷ I.AddAM ∷ I.AdcAM ∷ I.SubAM ∷ I.SbcAM ∷ I.Daa ∷ I.AndAM ∷ I.OrAM ∷ I.XorAM ∷ I.IncA ∷ I.IncR 0 ∷ I.IncR 1 ∷ I.IncR 2
    ∷ I.IncR 3 ∷ I.IncR 4 ∷ I.IncM R3R2 ∷ I.DecA ∷ I.MovAX 0 ∷ I.RlA ∷ I.RlcA ∷ I.RrA ∷ I.RrcA ∷ I.InA Pm ∷ I.InA Pm ∷ I.InA Ps ∷ I.InA Pp
    ∷ I.OutPaA ∷ I.OutPaA ∷ I.Jmp origin ∷ I.Branch origin Jc ∷ I.Branch origin Jnc ∷ I.Branch origin Jtmr ∷ I.Branch origin (Ja 0)
    ∷ I.Branch origin (Ja 1) ∷ I.Branch origin (Ja 2) ∷ I.Branch origin (Ja 3) ∷ I.Branch origin Jz ∷ I.Branch origin JnzA ∷ I.Call origin
    ∷ I.Ret ∷ I.Reti ∷ I.Clc ∷ I.Stc ∷ I.Ei ∷ I.Di ∷ I.Nop ∷ I.TimerOn ∷ I.TimerOn ∷ I.TimerOff ∷ I.MovATmrl ∷ I.MovATmrh
    ∷ I.ReadR4A Current ∷ I.ReadR4A Current ∷ I.ReadMr0A Current ∷ I.ReadR4A F ∷ I.SoundA ∷ I.SoundOne ∷ I.SoundLoop ∷ I.Halt ∷ []

fixed-stated : Each Stated fixed_words
unfolding fixed_words line_of in_range bit_in_range
fixed-stated = each-stated fixed_words with-them refl

-- what holds of each word of a list holds of a word that is among them
found : (P : List ℕ → Type 0) (w : List ℕ) {vs : List (List ℕ)} → Each P vs → place vs w < length vs → P w
found P w Each.none h = absurd (not-suc-le-zero h)
found P w (◌and◌ {a = v} {l = vs} p ps) h = go (same v w) refl h (found P w ps)
  where
    go : (t : Bool) → same v w ≡ t → pick t zero (suc (place vs w)) < suc (length vs) → (place vs w < length vs → P w) → P w
    go true q k f = subst P (same-is v w q) p
    go false q k f = f (le_of_suc-le-suc k)

stated : (w : List ℕ) → is_fixed w ≡ true → Stated w
unfolding is_fixed
stated w e = found Stated w fixed-stated (ltb-true (place fixed_words w) (length fixed_words) e)

-- ---- each word of a line is fixed
no_word : (w : List ℕ) (n v : ℕ) → Memᴰ (letters w) (spoken n v) → ⊥
no_word w zero v m = Memᴰ.not-nil m
no_word w (suc n) v m =
    let e : letters w ≡ operand (suc n) v = Memᴰ.eq_of_singleton m in
    let z : ◌≡◌ {A = ℕ} 0 1 = cc in omega arith

word-fixed : (w : List ℕ) (ts : List Token) (n v : ℕ) → every leads ts ≡ true → Memᴰ (letters w) (ts ++ spoken n v) → is_fixed w ≡ true
word-fixed w ts n v e m = ⊎_elim (λ q. passes leads (letters w) ts e q) (λ q. absurd (no_word w n v q)) (Memᴰ.append_cases ts m)

line-fixed : (w : List ℕ) (i : Instruction) → in_range i ≡ true → Memᴰ (letters w) (line_of i) → is_fixed w ≡ true
line-fixed w i r m =
    let f = (own-case i r).form in
    word-fixed w (lead f) (operand_digits f) (own-case i r).value (tested-form f (own-case i r).found).words.fixed
    (subst (Memᴰ (letters w)) (own_line i r) m)

org-fixed : is_fixed (codes "ORG") ≡ true
unfolding is_fixed fixed_words
org-fixed = refl

fixed : (w : List ℕ) → Stated w → is_fixed w ≡ true
fixed w (org e) = ap is_fixed e ∙ org-fixed
fixed w (mnemonic i r m) = line-fixed w i r m

pub fixed-exactly : FixedExactly
fixed-exactly = record { sound = stated; full = fixed }
