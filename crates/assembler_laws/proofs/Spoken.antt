-- The statement of a form's words and signs with its number after them: the words and signs before the operand end where the number starts, and are
-- those of the form. Assumes nothing.
use Prim.Native.Nat.{ℕ, zero, suc, ◌+◌, ◌^◌, ◌<◌, ◌≤◌}
use native.Mathlib.Omega.{arith}
use mathlib.Core.Path.{◌≡◌, refl, ap, subst, ◌∙◌}
use mathlib.Core.Bool.{Bool, true, false, ◌&&◌, not, false≢true}
use mathlib.Core.List.{List, [], ◌∷◌, ◌++◌, map}
use mathlib.Core.Option.{Option, none, some}
use lib.Dec.{leb}
use lib.ListN.{length}
use borrow.Author.Tests.{leb-true, not-true}
use Rattle.isa.specs.Choice.{pick}
use Rattle.isa.specs.declared.Instruction.{Instruction}
use Rattle.isa.proofs.Exact.{and_left, and_right}
use Rattle.mnemonic.specs.Line.{line_of}
use Rattle.mnemonic.specs.Spelling.{Token, letters, mark, operand, codes, number, spelling}
use Rattle.operand.specs.Text.{in_word, is_letter, tokens}
use Rattle.operand.specs.Words.{fixed_words, first, is_fixed, is_label}
use Rattle.operand.specs.Operand as Operand
use Rattle.operand.specs.Operand.{Term, operand_of}
use Rattle.assembler.specs.Forms.{forms, lead_of, lead, operand_digits, field}
use Rattle.assembler.specs.Statement.{org, mnemonic, leads, before, after, equals, form_in, org_of, code_of, operand_for, coded, body, labelled}
use Rattle.assembler.specs.Statement.{statement}
use Rattle.assembler_laws.proofs.Each.{every}
use Rattle.assembler_laws.proofs.Numbers.{number-led, not-fixed, number-part}
use Rattle.assembler_laws.proofs.Tokens.{heard, is_word, not_lf, readable, tight, spaced, heard-spelling, spelling-line}
use Rattle.assembler_laws.proofs.Tokens.{wide, widths, spelling-length}

-- a value as an operand's one term; no term where the form has no operand
abbrev pub term : ℕ → Term
term v = record { taken = false; part = Operand.number v }

abbrev pub terms : ℕ → ℕ → List Term
terms zero v = []
terms (suc n) v = term v ∷ []

-- its place in the printed line, and its word as it is read
abbrev pub spoken : ℕ → ℕ → List Token
spoken zero v = []
spoken (suc n) v = operand (suc n) v ∷ []

abbrev pub said : ℕ → ℕ → List Token
said zero v = []
said (suc n) v = letters (number (suc n) v) ∷ []

-- ---- where the operand starts
before-there : (ts us : List Token) → every leads ts ≡ true → before us ≡ [] → before (ts ++ us) ≡ ts
before-there [] us e f = f
before-there (t ∷ ts) us e f = rw (and_left (leads t) (every leads ts) e, before-there ts us (and_right (leads t) (every leads ts) e) f) refl

after-there : (ts us : List Token) → every leads ts ≡ true → after us ≡ us → after (ts ++ us) ≡ us
after-there [] us e f = f
after-there (t ∷ ts) us e f = rw (and_left (leads t) (every leads ts) e, after-there ts us (and_right (leads t) (every leads ts) e) f) refl

before-said : (n v : ℕ) → before (said n v) ≡ []
before-said zero v = refl
before-said (suc n) v = rw (not-fixed (number (suc n) v) (number-led n v).digit-first) refl

after-said : (n v : ℕ) → after (said n v) ≡ said n v
after-said zero v = refl
after-said (suc n) v = rw (not-fixed (number (suc n) v) (number-led n v).digit-first) refl

-- ---- the operand
operand-said : (n v : ℕ) → v < 16 ^ suc n → v ≤ 65535 → operand_of (said (suc n) v) ≡ some (terms (suc n) v)
operand-said n v h b = rw (number-part n v h b) refl

operand-for : (n v : ℕ) → v < 16 ^ n → v ≤ 65535 → operand_for n (said n v) ≡ some (terms n v)
operand-for zero v h b = refl
operand-for (suc n) v h b = operand-said n v h b

-- ---- no label
-- a label is no fixed word, so a line that starts with fixed words has none
fixed-no-label : (w : List ℕ) → is_fixed w ≡ true → is_label w ≡ false
unfolding is_label
fixed-no-label w e = go (is_letter (first w)) (is_fixed w) e
  where
    go : (a b : Bool) → b ≡ true → a && not b ≡ false
    go true true q = refl
    go false true q = refl
    go a false q = absurd (false≢true q)

unlabelled : (t : Token) (ts : List Token) → leads t ≡ true → labelled (t ∷ ts) ≡ false
unlabelled (letters w) [] e = refl
unlabelled (letters w) (letters x ∷ ts) e = refl
unlabelled (letters w) (mark c ∷ ts) e = rw (fixed-no-label w e) refl
unlabelled (letters w) (operand m x ∷ ts) e = refl
unlabelled (mark c) ts e = refl
unlabelled (operand m x) ts e = refl

abbrev pub nonempty : List Token → Bool
nonempty [] = false
nonempty (t ∷ ts) = true

pub bodied : (ts us : List Token) → nonempty ts ≡ true → every leads ts ≡ true → statement (ts ++ us) ≡ body none (ts ++ us)
bodied [] us n e = absurd (false≢true n)
bodied (t ∷ ts) us n e = rw (unlabelled t (ts ++ us) (and_left (leads t) (every leads ts) e)) refl

-- ---- the line
abbrev pub org-words : List Token
org-words = letters (codes "ORG") ∷ []

pub body-parted : (l : Option (List ℕ)) (ts us : List Token) → every leads ts ≡ true → before us ≡ [] → after us ≡ us
    → body l (ts ++ us) ≡ pick (equals org-words ts) (org_of l (operand_of us)) (coded l us (form_in forms ts))
unfolding body
body-parted l ts us e b a = rw (before-there ts us e b, after-there ts us e a) refl

body-said : (ts : List Token) (n v : ℕ) → every leads ts ≡ true
    → body none (ts ++ said n v) ≡ pick (equals org-words ts) (org_of none (operand_of (said n v))) (coded none (said n v) (form_in forms ts))
body-said ts n v e = body-parted none ts (said n v) e (before-said n v) (after-said n v)

pub org-leads : every leads org-words ≡ true
unfolding is_fixed fixed_words
org-leads = refl

pub org-said : (n v : ℕ) → v < 16 ^ suc n → v ≤ 65535 → statement (org-words ++ said (suc n) v) ≡ org none (terms (suc n) v)
org-said n v h b =
    bodied org-words (said (suc n) v) refl org-leads
    ∙ body-said org-words (suc n) v org-leads
    ∙ ap (org_of none) (operand-said n v h b)

-- a form whose words and signs are a line's before its operand, and not ORG
pub record Worded (f : ℕ → Instruction) : Type 0 where
  pub some_words : nonempty (lead f) ≡ true
  pub fixed : every leads (lead f) ≡ true
  pub no-org : equals org-words (lead f) ≡ false

abbrev pub worded : (ℕ → Instruction) → Bool
worded f = nonempty (lead f) && (every leads (lead f) && not (equals org-words (lead f)))

pub is-worded : (f : ℕ → Instruction) → worded f ≡ true → Worded f
is-worded f w =
    let q = and_right (nonempty (lead f)) (every leads (lead f) && not (equals org-words (lead f))) w in
    record {
      some_words = and_left (nonempty (lead f)) (every leads (lead f) && not (equals org-words (lead f))) w;
      fixed = and_left (every leads (lead f)) (not (equals org-words (lead f))) q;
      no-org = not-true (equals org-words (lead f)) (and_right (every leads (lead f)) (not (equals org-words (lead f))) q);
    }

pub form-said : (f : ℕ → Instruction) (v : ℕ) → Worded f → form_in forms (lead f) ≡ some f → v < field f → v ≤ 65535
    → statement (lead f ++ said (operand_digits f) v) ≡ mnemonic none f (terms (operand_digits f) v)
form-said f v w e h b =
    bodied (lead f) (said (operand_digits f) v) w.some_words w.fixed
    ∙ body-said (lead f) (operand_digits f) v w.fixed
    ∙ ap (λ (t : Bool). pick t (org_of none (operand_of (said (operand_digits f) v))) (coded none (said (operand_digits f) v) (form_in forms (lead f)))) w.no-org
    ∙ ap (coded none (said (operand_digits f) v)) e
    ∙ ap (code_of none f) (operand-for (operand_digits f) v h b)

-- ---- the printed line
tight-any : (ts : List Token) (n v w : ℕ) → tight (ts ++ spoken n v) ≡ tight (ts ++ spoken n w)
tight-any [] zero v w = refl
tight-any [] (suc n) v w = refl
tight-any (t ∷ []) zero v w = refl
tight-any (t ∷ []) (suc n) v w = refl
tight-any (t ∷ u ∷ ts) n v w = ap (λ (b : Bool). readable t && (not (is_word t && is_word u) && b)) (tight-any (u ∷ ts) n v w)

spaced-any : (ts : List Token) (n v w : ℕ) → spaced (ts ++ spoken n v) ≡ spaced (ts ++ spoken n w)
spaced-any [] zero v w = refl
spaced-any [] (suc n) v w = refl
spaced-any (t ∷ ts) n v w = ap (λ (b : Bool). readable t && b) (tight-any ts n v w)

widths-any : (ts : List Token) (n v w : ℕ) → widths (ts ++ spoken n v) ≡ widths (ts ++ spoken n w)
widths-any [] zero v w = refl
widths-any [] (suc n) v w = refl
widths-any (t ∷ ts) n v w = ap (λ (k : ℕ). wide t + k) (widths-any ts n v w)

heard-lead : (ts : List Token) (n v : ℕ) → map heard (lead_of ts ++ spoken n v) ≡ lead_of ts ++ said n v
heard-lead [] zero v = refl
heard-lead [] (suc n) v = refl
heard-lead (letters w ∷ ts) n v = ap (λ (us : List Token). letters w ∷ us) (heard-lead ts n v)
heard-lead (mark c ∷ ts) n v = ap (λ (us : List Token). mark c ∷ us) (heard-lead ts n v)
heard-lead (operand m x ∷ ts) zero v = refl
heard-lead (operand m x ∷ ts) (suc n) v = refl

-- the line of a form with a value
abbrev pub line-of : (ℕ → Instruction) → ℕ → List Token
line-of f v = lead f ++ spoken (operand_digits f) v

-- a line that is printed, as it is read
pub record Reread (ts us : List Token) : Type 0 where
  pub line : every not_lf (spelling ts) ≡ true
  pub read : tokens (spelling ts) ≡ us
  pub short : length (spelling ts) ≤ 1001

-- whether it can be read, and is short
abbrev pub spelled : List Token → Bool
spelled ts = spaced ts && leb (widths ts) 1000

reads : (ts : List Token) → spelled ts ≡ true → Reread ts (map heard ts)
reads ts e =
    let p : spaced ts ≡ true = and_left (spaced ts) (leb (widths ts) 1000) e in
    record {
      line = spelling-line ts p;
      read = heard-spelling ts p;
      short = omega (arith, spelling-length ts, leb-true (widths ts) 1000 (and_right (spaced ts) (leb (widths ts) 1000) e));
    }

pub reads-form : (f : ℕ → Instruction) (v : ℕ) → spelled (line-of f 0) ≡ true → Reread (line-of f v) (lead f ++ said (operand_digits f) v)
reads-form f v e =
    subst (Reread (line-of f v)) (heard-lead (line_of (f 0)) (operand_digits f) v)
    (reads (line-of f v) (rw (spaced-any (lead f) (operand_digits f) v 0, widths-any (lead f) (operand_digits f) v 0) e))

pub reads-org : (a : ℕ) → Reread (org-words ++ spoken 3 a) (org-words ++ said 3 a)
unfolding in_word
reads-org a = reads (org-words ++ spoken 3 a) refl
