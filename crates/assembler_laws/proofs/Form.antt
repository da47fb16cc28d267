-- The laws of the forms: with a value of its field a form's instruction is in range, and has the form's size, which is at most two bytes; a line that
-- a text has is one of the forms. They are stated of each form once and computed with the value as a variable. Assumes nothing.
use Prim.Native.Nat.{ℕ, ◌+◌, ◌*◌, ◌/◌, ◌%◌, ◌<◌, ◌≤◌}
use mathlib.Core.Path.{◌≡◌, refl, sym, subst, ◌∙◌}
use mathlib.Core.Bool.{Bool, true, false, ◌&&◌}
use mathlib.Core.List.{List, [], ◌∷◌}
use mathlib.Core.Option.{Option, none, some}
use native.Mathlib.Omega.{arith}
use lib.Dec.{T, eqb, leb, ltb, lit≤}
use lib.ListN.{length}
use borrow.Author.Tests.{eqb-true, lt-ltb}
use Rattle.isa.specs.Choice.{pick}
use Rattle.isa.specs.Code.{bytes_of, in_range, leading, bit_in_range}
use Rattle.isa.specs.Views.{view}
use Rattle.isa.specs.declared.Instruction.{Instruction}
use Rattle.isa.proofs.Exact.{and_both, and_left, and_right}
use Rattle.mnemonic.specs.Line.{line_of}
use Rattle.mnemonic.specs.Spelling.{Token, letters, codes}
use Rattle.operand.specs.Operand.{Term, operand_of}
use Rattle.assembler.specs.Forms.{always, forms, lead, operand_digits, size, field, reaches, rom_size}
use Rattle.assembler.specs.Statement.{Statement, unreadable, blank, org, mnemonic, before, after, equals, form_in, org_of, code_of, operand_for, coded}
use Rattle.assembler.specs.Statement.{body, labelled, label_of, after_two, statement}
use Rattle.assembler_laws.specs.Lines.{GoesBy}
use Rattle.assembler_laws.proofs.Each.{Each, ◌and◌}

-- what a form is with a value of its field
pub record Fits (f : ℕ → Instruction) : Type 0 where
  pub in-range : (v : ℕ) → v < field f → in_range (f v) ≡ true
  pub sized : (v : ℕ) → length (bytes_of (f v)) ≡ size f
  pub short : size f ≤ 2
  pub goes : (moved v : ℕ) → v < field f → reaches f moved v ≡ true → GoesBy (view (f v)) moved v

limited : {f : ℕ → Instruction} → ((v : ℕ) → v < field f → in_range (f v) ≡ true) → ((v : ℕ) → length (bytes_of (f v)) ≡ size f)
    → T (leb (size f) 2) → ((moved v : ℕ) → v < field f → reaches f moved v ≡ true → GoesBy (view (f v)) moved v) → Fits f
limited r e h g = record { in-range = r; sized = e; short = lit≤ h; goes = g }

-- a form whose field is the range of its value
direct : {f : ℕ → Instruction} → ((v : ℕ) → in_range (f v) ≡ ltb v (field f)) → ((v : ℕ) → length (bytes_of (f v)) ≡ size f)
    → T (leb (size f) 2) → ((moved v : ℕ) → v < field f → reaches f moved v ≡ true → GoesBy (view (f v)) moved v) → Fits f
direct {f} r = limited (λ v l. r v ∙ lt-ltb v (field f) l)

-- a form with no operand
still : {i : Instruction} → in_range i && leb (length (bytes_of i)) 2 ≡ true → ((moved v : ℕ) → GoesBy (view i) moved v) → Fits (always i)
still {i} e g = limited (λ v l. and_left (in_range i) (leb (length (bytes_of i)) 2) e) (λ v. refl)
    (subst T (sym (and_right (in_range i) (leb (length (bytes_of i)) 2) e)) tt) (λ moved v l r. g moved v)

nibbles : (v : ℕ) → v < 256 → ltb (v % 16) 16 && ltb (v / 16) 16 ≡ true
nibbles v h = and_both (ltb (v % 16) 16) (ltb (v / 16) 16) (lt-ltb (v % 16) 16 (omega arith)) (lt-ltb (v / 16) 16 (omega arith))

-- the whole target, where bit 11 is the moved PC's
whole-target : (moved v : ℕ) → v < rom_size → eqb (v / 2048) (moved / 2048) ≡ true → moved / 2048 * 2048 + v % 2048 % 2048 ≡ v
whole-target moved v h e = let q = eqb-true (v / 2048) (moved / 2048) e in omega arith

low_bits : (v : ℕ) → v < rom_size → ltb (v % 2048) 2048 ≡ true
low_bits v h = lt-ltb (v % 2048) 2048 (omega arith)

pub forms-fit : Each Fits forms
unfolding forms bytes_of in_range leading bit_in_range line_of view
forms-fit =
    still refl (λ m v. tt) and still refl (λ m v. tt) and still refl (λ m v. tt) and still refl (λ m v. tt) and direct (λ v. refl) (λ v. refl) tt (λ m v l r. tt) and direct (λ v. refl) (λ v. refl) tt (λ m v l r. tt)
    and still refl (λ m v. tt) and still refl (λ m v. tt) and still refl (λ m v. tt) and still refl (λ m v. tt) and still refl (λ m v. tt) and still refl (λ m v. tt) and still refl (λ m v. tt) and direct (λ v. refl) (λ v. refl) tt (λ m v l r. tt)
    and direct (λ v. refl) (λ v. refl) tt (λ m v l r. tt) and direct (λ v. refl) (λ v. refl) tt (λ m v l r. tt) and still refl (λ m v. tt) and still refl (λ m v. tt) and still refl (λ m v. tt) and still refl (λ m v. tt)
    and still refl (λ m v. tt) and still refl (λ m v. tt) and still refl (λ m v. tt) and still refl (λ m v. tt) and still refl (λ m v. tt) and still refl (λ m v. tt) and still refl (λ m v. tt) and still refl (λ m v. tt) and still refl (λ m v. tt)
    and still refl (λ m v. tt) and still refl (λ m v. tt) and still refl (λ m v. tt) and still refl (λ m v. tt) and still refl (λ m v. tt) and still refl (λ m v. tt) and still refl (λ m v. tt) and still refl (λ m v. tt) and still refl (λ m v. tt)
    and still refl (λ m v. tt) and still refl (λ m v. tt) and still refl (λ m v. tt) and still refl (λ m v. tt) and still refl (λ m v. tt) and still refl (λ m v. tt) and still refl (λ m v. tt) and still refl (λ m v. tt)
    and direct (λ v. refl) (λ v. refl) tt (λ m v l r. tt) and limited nibbles (λ v. refl) tt (λ m v l r. tt) and limited nibbles (λ v. refl) tt (λ m v l r. tt)
    and direct (λ v. refl) (λ v. refl) tt (λ m v l r. tt) and still refl (λ m v. tt) and still refl (λ m v. tt) and still refl (λ m v. tt) and still refl (λ m v. tt) and still refl (λ m v. tt) and still refl (λ m v. tt) and still refl (λ m v. tt)
    and still refl (λ m v. tt) and direct (λ v. refl) (λ v. refl) tt (λ m v l r. tt) and limited low_bits (λ v. refl) tt whole-target and limited low_bits (λ v. refl) tt whole-target
    and limited low_bits (λ v. refl) tt whole-target and limited low_bits (λ v. refl) tt whole-target and limited low_bits (λ v. refl) tt whole-target
    and limited low_bits (λ v. refl) tt whole-target and limited low_bits (λ v. refl) tt whole-target and limited low_bits (λ v. refl) tt whole-target
    and limited low_bits (λ v. refl) tt whole-target and limited low_bits (λ v. refl) tt whole-target and limited low_bits (λ v. refl) tt whole-target
    and limited low_bits (λ v. refl) tt whole-target and direct (λ v. refl) (λ v. refl) tt (λ m v l r. tt) and still refl (λ m v. tt) and still refl (λ m v. tt) and still refl (λ m v. tt) and still refl (λ m v. tt)
    and still refl (λ m v. tt) and still refl (λ m v. tt) and still refl (λ m v. tt) and direct (λ v. refl) (λ v. refl) tt (λ m v l r. tt) and still refl (λ m v. tt) and still refl (λ m v. tt) and still refl (λ m v. tt) and still refl (λ m v. tt)
    and still refl (λ m v. tt) and still refl (λ m v. tt) and still refl (λ m v. tt) and still refl (λ m v. tt) and still refl (λ m v. tt) and still refl (λ m v. tt) and direct (λ v. refl) (λ v. refl) tt (λ m v l r. tt) and still refl (λ m v. tt)
    and still refl (λ m v. tt) and still refl (λ m v. tt) and still refl (λ m v. tt) and still refl (λ m v. tt) and Each.none

-- ---- the form of a line
-- what holds of the form that is found, if one is
abbrev pub OfForm : ((ℕ → Instruction) → Type 0) → Option (ℕ → Instruction) → Type 0
OfForm P none = Unit {0}
OfForm P (some f) = P f

abbrev pub Formed : Statement → Type 0
Formed unreadable = Unit {0}
Formed blank = Unit {0}
Formed (org l ts) = Unit {0}
Formed (mnemonic l f ts) = Fits f

either : {A : Type 0} (P : A → Type 0) {a b : A} (t : Bool) → P a → P b → P (pick t a b)
either P true p q = p
either P false p q = q

pub found : {P : (ℕ → Instruction) → Type 0} {fs : List (ℕ → Instruction)} (ts : List Token) → Each P fs → OfForm P (form_in fs ts)
found ts Each.none = tt
found {P} ts (◌and◌ {a = f} p ps) = either (OfForm P) (equals (lead f) ts) p (found ts ps)

formed-org : (l : Option (List ℕ)) (o : Option (List Term)) → Formed (org_of l o)
formed-org l none = tt
formed-org l (some ts) = tt

formed-code : (l : Option (List ℕ)) {f : ℕ → Instruction} (o : Option (List Term)) → Fits f → Formed (code_of l f o)
formed-code l none p = tt
formed-code l (some ts) p = p

formed-coded : (l : Option (List ℕ)) (ts : List Token) (o : Option (ℕ → Instruction)) → OfForm Fits o → Formed (coded l ts o)
formed-coded l ts none p = tt
formed-coded l ts (some f) p = formed-code l (operand_for (operand_digits f) ts) p

formed-body : (l : Option (List ℕ)) (ts : List Token) → Formed (body l ts)
unfolding body
formed-body l ts =
    either Formed (equals (letters (codes "ORG") ∷ []) (before ts)) (formed-org l (operand_of (after ts)))
    (formed-coded l (after ts) (form_in forms (before ts)) (found (before ts) forms-fit))

pub formed : (ts : List Token) → Formed (statement ts)
formed [] = tt
formed (t ∷ ts) = either Formed (labelled (t ∷ ts)) (formed-body (label_of (t ∷ ts)) (after_two (t ∷ ts))) (formed-body none (t ∷ ts))
