-- A line is read exactly where the grammar has it. Before its operand a line has words and signs that `leads` takes, and an operand starts with none of
-- them, so both part a line at one place; there the words and signs are those of one form, as no two forms have the same. Assumes nothing.
use Prim.Native.Nat.{ℕ, zero, suc}
use Prim.Native.Char.{code}
use native.Mathlib.Omega.{arith}
use mathlib.Core.Path.{◌≡◌, refl, sym, ap, subst, ◌∙◌}
use mathlib.Core.Bool.{Bool, true, false, ◌&&◌, not, false≢true}
use mathlib.Core.List.{List, [], ◌∷◌, ◌++◌, Memᴰ}
use mathlib.Core.Option.{Option, none, some}
use lib.Dec.{eqb}
use borrow.Author.Tests.{eqb-true, not-true}
use Rattle.isa.specs.Choice.{pick}
use Rattle.isa.specs.declared.Instruction.{Instruction}
use Rattle.isa.proofs.Exact.{and_left, and_right}
use Rattle.mnemonic.specs.Line.{line_of}
use Rattle.mnemonic.specs.Spelling.{Token, letters, mark, operand}
use Rattle.operand.specs.Text.{is_letter}
use Rattle.operand.specs.Words.{is_fixed, is_label, number_of, first}
use Rattle.operand.specs.Operand as Reading
use Rattle.operand.specs.Operand.{Part, Term, part_of, as_number, termed, wanted, followed, operand_of}
use Rattle.assembler.specs.Forms.{forms, lead_of, digits_of, lead, operand_digits}
use Rattle.assembler.specs.Statement.{Statement, leads, before, after, equal, equals, form_in, org_of, code_of, operand_for, coded, body, statement}
use Rattle.assembler_laws.specs.Grammar.{Has}
use Rattle.assembler_laws.specs.Syntax as Syntax
use Rattle.assembler_laws.specs.Syntax.{Fills, Body, Line, LineReads}
use Rattle.assembler_laws.proofs.Each.{every, passes}
use Rattle.assembler_laws.proofs.Full.{starts-with-digit}
use Rattle.assembler_laws.proofs.Grammar.{grammatical}
use Rattle.assembler_laws.proofs.Numbers.{same-is, not-fixed}
use Rattle.assembler_laws.proofs.Spoken.{org-words, org-leads, bodied, body-parted}
use Rattle.assembler_laws.proofs.Tested.{tested-form}

never : {A B : Type 0} {a : A} → none ≡ some a → B
never e = absurd (let z : ◌≡◌ {A = ℕ} 0 1 = cc in omega arith)

-- ---- where an operand starts
-- tokens that start with none of those before an operand
record Starts (ts : List Token) : Type 0 where
  none_before : before ts ≡ []
  all_after : after ts ≡ ts

starts-at : (t : Token) (ts : List Token) → leads t ≡ false → Starts (t ∷ ts)
starts-at t ts e = record { none_before = rw e refl; all_after = rw e refl }

label-free : (w : List ℕ) → is_label w ≡ true → is_fixed w ≡ false
unfolding is_label
label-free w e = not-true (is_fixed w) (and_right (is_letter (first w)) (not (is_fixed w)) e)

part_free : (w : List ℕ) (p : Part) → part_of w ≡ some p → is_fixed w ≡ false
unfolding part_of
part_free w p e = go (is_label w) (number_of w) refl refl e
  where
    go : (t : Bool) (o : Option ℕ) → is_label w ≡ t → number_of w ≡ o → pick t (some (Reading.label w)) (as_number o) ≡ some p → is_fixed w ≡ false
    go true o f g q = label-free w f
    go false none f g q = never q
    go false (some n) f g q = not-fixed w (starts-with-digit w n g)

operand-starts : (ts : List Token) (terms : List Term) → operand_of ts ≡ some terms → Starts ts
operand-starts [] terms e = never e
operand-starts (letters w ∷ ts) terms e = go (part_of w) refl e
  where
    go : (o : Option Part) → part_of w ≡ o → termed false o (followed ts false []) ≡ some terms → Starts (letters w ∷ ts)
    go none p q = never q
    go (some x) p q = starts-at (letters w) ts (part_free w x p)
operand-starts (mark c ∷ ts) terms e = go (eqb c (code "(")) refl e
  where
    go : (t : Bool) → eqb c (code "(") ≡ t → pick (t && true) (wanted ts false false (false ∷ [])) none ≡ some terms → Starts (mark c ∷ ts)
    go true p q = starts-at (mark c) ts (ap (λ (n : ℕ). leads (mark n)) (eqb-true c (code "(") p))
    go false p q = never q
operand-starts (operand n v ∷ ts) terms e = never e

has-starts : (ts : List Token) (terms : List Term) → Has ts terms → Starts ts
has-starts ts terms h = operand-starts ts terms (grammatical.full ts terms h)

-- ---- a form's own line
-- whether an operand of it has a digit at least, and stands last
abbrev closed : List Token → Bool
closed [] = true
closed (letters w ∷ ts) = closed ts
closed (mark c ∷ ts) = closed ts
closed (operand zero v ∷ ts) = false
closed (operand (suc n) v ∷ []) = true
closed (operand (suc n) v ∷ t ∷ ts) = false

-- tokens of a form's line, parted where its operand starts
record Parted (ts us : List Token) (terms : List Term) : Type 0 where
  rest : List Token
  whole : us ≡ lead_of ts ++ rest
  its-operand : operand_for (digits_of ts) rest ≡ some terms
  starts : Starts rest

parted : {ts us : List Token} {terms : List Term} → Fills ts us terms → closed ts ≡ true → Parted ts us terms
parted Syntax.end e = record { rest = []; whole = refl; its-operand = refl; starts = record { none_before = refl; all_after = refl } }
parted (Syntax.same_word {w = w} p) e =
    let q = parted p e in
    record { rest = q.rest; whole = ap (λ (l : List Token). letters w ∷ l) q.whole; its-operand = q.its-operand; starts = q.starts }
parted (Syntax.same_sign {c = c} p) e =
    let q = parted p e in
    record { rest = q.rest; whole = ap (λ (l : List Token). mark c ∷ l) q.whole; its-operand = q.its-operand; starts = q.starts }
parted (Syntax.in_place {n = n} {us = us} {terms = terms} h) e = go n e
  where
    go : (n : ℕ) {v : ℕ} → closed (operand n v ∷ []) ≡ true → Parted (operand n v ∷ []) us terms
    go zero e = absurd (false≢true e)
    go (suc n) e = record { rest = us; whole = refl; its-operand = grammatical.full us terms h; starts = has-starts us terms h }

filled : (ts us : List Token) (terms : List Term) → closed ts ≡ true → operand_for (digits_of ts) us ≡ some terms → Fills ts (lead_of ts ++ us) terms
filled [] [] terms e q = let x : [] ≡ terms = cc in subst (Fills [] []) x Syntax.end
filled [] (u ∷ us) terms e q = never q
filled (letters w ∷ ts) us terms e q = Syntax.same_word (filled ts us terms e q)
filled (mark c ∷ ts) us terms e q = Syntax.same_sign (filled ts us terms e q)
filled (operand zero v ∷ ts) us terms e q = absurd (false≢true e)
filled (operand (suc n) v ∷ []) us terms e q = Syntax.in_place (grammatical.sound us terms q)
filled (operand (suc n) v ∷ t ∷ ts) us terms e q = absurd (false≢true e)

-- ---- the forms
abbrev form-closed : (ℕ → Instruction) → Bool
form-closed f = closed (line_of (f 0))

forms-closed : every form-closed forms ≡ true
unfolding forms line_of
forms-closed = refl

member-closed : (f : ℕ → Instruction) → Memᴰ f forms → closed (line_of (f 0)) ≡ true
member-closed f m = passes form-closed f forms forms-closed m

-- whether a form is told from another, and each of these from those after it, by its words and signs
abbrev other-than : (ℕ → Instruction) → (ℕ → Instruction) → Bool
other-than f g = not (equals (lead f) (lead g))

abbrev told : List (ℕ → Instruction) → Bool
told [] = true
told (f ∷ fs) = equals (lead f) (lead f) && (every (other-than f) fs && told fs)

forms-told : told forms ≡ true
unfolding forms line_of
forms-told = refl

member-found : (fs : List (ℕ → Instruction)) (f : ℕ → Instruction) → told fs ≡ true → Memᴰ f fs → form_in fs (lead f) ≡ some f
member-found [] f e m = elim m [ ]
member-found (g ∷ gs) f e (Memᴰ.head p) =
    let own = and_left (equals (lead g) (lead g)) (every (other-than g) gs && told gs) e in
    subst (λ (h : ℕ → Instruction). pick (equals (lead g) (lead h)) (some g) (form_in gs (lead h)) ≡ some h) (sym p) (rw own refl)
member-found (g ∷ gs) f e (Memᴰ.tail m) =
    let q = and_right (equals (lead g) (lead g)) (every (other-than g) gs && told gs) e in
    let other = passes (other-than g) f gs (and_left (every (other-than g) gs) (told gs) q) m in
    rw (not-true (equals (lead g) (lead f)) other) (member-found gs f (and_right (every (other-than g) gs) (told gs) q) m)

equal_is : (t u : Token) → equal t u ≡ true → t ≡ u
equal_is (letters v) (letters w) e = ap letters (same-is v w e)
equal_is (letters v) (mark d) e = absurd (false≢true e)
equal_is (letters v) (operand n x) e = absurd (false≢true e)
equal_is (mark c) (letters w) e = absurd (false≢true e)
equal_is (mark c) (mark d) e = ap mark (eqb-true c d e)
equal_is (mark c) (operand n x) e = absurd (false≢true e)
equal_is (operand n x) u e = absurd (false≢true e)

equals-is : (ts us : List Token) → equals ts us ≡ true → ts ≡ us
equals-is [] [] e = refl
equals-is [] (u ∷ us) e = absurd (false≢true e)
equals-is (t ∷ ts) [] e = absurd (false≢true e)
equals-is (t ∷ ts) (u ∷ us) e =
    let p : t ≡ u = equal_is t u (and_left (equal t u) (equals ts us) e) in
    let q : ts ≡ us = equals-is ts us (and_right (equal t u) (equals ts us) e) in
    cc

record FormOf (fs : List (ℕ → Instruction)) (ts : List Token) (f : ℕ → Instruction) : Type 0 where
  member : Memᴰ f fs
  its-words : lead f ≡ ts

found-member : (fs : List (ℕ → Instruction)) (ts : List Token) (f : ℕ → Instruction) → form_in fs ts ≡ some f → FormOf fs ts f
found-member [] ts f e = never e
found-member (g ∷ gs) ts f e = go (equals (lead g) ts) refl e (found-member gs ts f)
  where
    go : (t : Bool) → equals (lead g) ts ≡ t → pick t (some g) (form_in gs ts) ≡ some f → (form_in gs ts ≡ some f → FormOf gs ts f)
        → FormOf (g ∷ gs) ts f
    go true p q k =
        let r : f ≡ g = cc in
        record { member = Memᴰ.head r; its-words = ap lead r ∙ equals-is (lead g) ts p }
    go false p q k = let r = k q in record { member = Memᴰ.tail r.member; its-words = r.its-words }

-- ---- what is read is a line
split : (ts : List Token) → before ts ++ after ts ≡ ts
split [] = refl
split (t ∷ ts) = go (leads t) (split ts)
  where
    go : (b : Bool) → before ts ++ after ts ≡ ts → pick b (t ∷ before ts) [] ++ pick b (after ts) (t ∷ ts) ≡ t ∷ ts
    go true p = ap (λ (l : List Token). t ∷ l) p
    go false p = refl

module _ (l : Option (List ℕ)) (ts : List Token) (s : Statement) (n : s ≡ Statement.unreadable → ⊥) where
  org-body : (o : Option (List Term)) → before ts ≡ org-words → operand_of (after ts) ≡ o → org_of l o ≡ s → Body l ts s
  org-body none b p e = absurd (n (sym e))
  org-body (some terms) b p e =
      subst (Body l ts) e
      (subst (λ (us : List Token). Body l us (Statement.org l terms)) (ap (λ (us : List Token). us ++ after ts) (sym b) ∙ split ts)
      (Syntax.org (grammatical.sound (after ts) terms p)))

  code_body : (f : ℕ → Instruction) (o : Option (List Term)) → FormOf forms (before ts) f → operand_for (operand_digits f) (after ts) ≡ o → code_of l f o ≡ s
      → Body l ts s
  code_body f none m p e = absurd (n (sym e))
  code_body f (some terms) m p e =
      subst (Body l ts) e
      (subst (λ (us : List Token). Body l us (Statement.mnemonic l f terms)) (ap (λ (us : List Token). us ++ after ts) m.its-words ∙ split ts)
      (Syntax.mnemonic m.member (filled (line_of (f 0)) (after ts) terms (member-closed f m.member) p)))

  coded-body : (o : Option (ℕ → Instruction)) → form_in forms (before ts) ≡ o → coded l (after ts) o ≡ s → Body l ts s
  coded-body none p e = absurd (n (sym e))
  coded-body (some f) p e = code_body f (operand_for (operand_digits f) (after ts)) (found-member forms (before ts) f p) refl e

  body-sound : body l ts ≡ s → Body l ts s
  unfolding body
  body-sound e = go (equals org-words (before ts)) refl e
    where
      go : (b : Bool) → equals org-words (before ts) ≡ b
          → pick b (org_of l (operand_of (after ts))) (coded l (after ts) (form_in forms (before ts))) ≡ s → Body l ts s
      go true p q = org-body (operand_of (after ts)) (sym (equals-is org-words (before ts) p)) refl q
      go false p q = coded-body (form_in forms (before ts)) refl q

sound : (ts : List Token) (s : Statement) → statement ts ≡ s → (s ≡ Statement.unreadable → ⊥) → Line ts s
sound [] s e n = subst (Line []) e Syntax.blank
sound (letters w ∷ mark c ∷ us) s e n = go (is_label w) (eqb c (code ":")) refl refl e
  where
    go : (a b : Bool) → is_label w ≡ a → eqb c (code ":") ≡ b → pick (a && b) (body (some w) us) (body none (letters w ∷ mark c ∷ us)) ≡ s
        → Line (letters w ∷ mark c ∷ us) s
    go true true p q r =
        subst (λ (k : ℕ). Line (letters w ∷ mark k ∷ us) s) (sym (eqb-true c (code ":") q)) (Syntax.labelled p (body-sound (some w) us s n r))
    go true false p q r = Syntax.unlabelled (body-sound none (letters w ∷ mark c ∷ us) s n r)
    go false b p q r = Syntax.unlabelled (body-sound none (letters w ∷ mark c ∷ us) s n r)
sound (letters w ∷ []) s e n = Syntax.unlabelled (body-sound none (letters w ∷ []) s n e)
sound (letters w ∷ letters v ∷ us) s e n = Syntax.unlabelled (body-sound none (letters w ∷ letters v ∷ us) s n e)
sound (letters w ∷ operand m v ∷ us) s e n = Syntax.unlabelled (body-sound none (letters w ∷ operand m v ∷ us) s n e)
sound (mark c ∷ us) s e n = Syntax.unlabelled (body-sound none (mark c ∷ us) s n e)
sound (operand m v ∷ us) s e n = Syntax.unlabelled (body-sound none (operand m v ∷ us) s n e)

-- ---- a line is read
-- what follows a label or none, and that it starts with no label
record Read (l : Option (List ℕ)) (ts : List Token) (s : Statement) : Type 0 where
  says : body l ts ≡ s
  unlabelled : statement ts ≡ body none ts

org-read : (l : Option (List ℕ)) (us : List Token) (terms : List Term) → Has us terms → Read l (org-words ++ us) (Statement.org l terms)
org-read l us terms h =
    let p = has-starts us terms h in
    record {
      says = body-parted l org-words us org-leads p.none_before p.all_after ∙ ap (org_of l) (grammatical.full us terms h);
      unlabelled = bodied org-words us refl org-leads;
    }

form-read : (l : Option (List ℕ)) (f : ℕ → Instruction) (us : List Token) (terms : List Term) → Memᴰ f forms → Fills (line_of (f 0)) us terms
    → Read l us (Statement.mnemonic l f terms)
form-read l f us terms m p =
    let found = member-found forms f forms-told m in
    let w = (tested-form f found).words in
    let q = parted p (member-closed f m) in
    subst (λ (vs : List Token). Read l vs (Statement.mnemonic l f terms)) (sym q.whole)
    (record {
      says =
          body-parted l (lead f) q.rest w.fixed q.starts.none_before q.starts.all_after
          ∙ ap (λ (t : Bool). pick t (org_of l (operand_of q.rest)) (coded l q.rest (form_in forms (lead f)))) w.no-org
          ∙ ap (coded l q.rest) found
          ∙ ap (code_of l f) q.its-operand;
      unlabelled = bodied (lead f) q.rest w.some_words w.fixed;
    })

body-read : {l : Option (List ℕ)} {ts : List Token} {s : Statement} → Body l ts s → Read l ts s
body-read {l} (Syntax.org {us = us} {terms = terms} h) = org-read l us terms h
body-read {l} (Syntax.mnemonic {f = f} {us = us} {terms = terms} m p) = form-read l f us terms m p

full : {ts : List Token} {s : Statement} → Line ts s → statement ts ≡ s
full Syntax.blank = refl
full (Syntax.unlabelled p) = let r = body-read p in r.unlabelled ∙ r.says
full (Syntax.labelled {w = w} e p) = rw e (body-read p).says

-- ---- no line says that it cannot be read
org-says : (l : Option (List ℕ)) (terms : List Term) → Statement.org l terms ≡ Statement.unreadable → ⊥
org-says l terms e = let z : ◌≡◌ {A = ℕ} 0 1 = cc in omega arith

mnemonic-says : (l : Option (List ℕ)) (f : ℕ → Instruction) (terms : List Term) → Statement.mnemonic l f terms ≡ Statement.unreadable → ⊥
mnemonic-says l f terms e = let z : ◌≡◌ {A = ℕ} 0 1 = cc in omega arith

body-says : {l : Option (List ℕ)} {ts : List Token} {s : Statement} → Body l ts s → s ≡ Statement.unreadable → ⊥
body-says {l} (Syntax.org {terms = terms} h) e = org-says l terms e
body-says {l} (Syntax.mnemonic {f = f} {terms = terms} m p) e = mnemonic-says l f terms e

line-says : {ts : List Token} {s : Statement} → Line ts s → s ≡ Statement.unreadable → ⊥
line-says Syntax.blank e = let z : ◌≡◌ {A = ℕ} 0 1 = cc in omega arith
line-says (Syntax.unlabelled p) e = body-says p e
line-says (Syntax.labelled q p) e = body-says p e

no_line : (ts : List Token) → ((s : Statement) → Line ts s → ⊥) → statement ts ≡ Statement.unreadable
no_line ts n = go (statement ts) refl
  where
    other : (s : Statement) → statement ts ≡ s → (s ≡ Statement.unreadable → ⊥) → s ≡ Statement.unreadable
    other s e k = absurd (n s (sound ts s e k))

    go : (s : Statement) → statement ts ≡ s → s ≡ Statement.unreadable
    go Statement.unreadable e = refl
    go Statement.blank e = other Statement.blank e (line-says Syntax.blank)
    go (Statement.org l terms) e = other (Statement.org l terms) e (org-says l terms)
    go (Statement.mnemonic l f terms) e = other (Statement.mnemonic l f terms) e (mnemonic-says l f terms)

pub line_reads : LineReads
line_reads = record {
  sound = sound;
  full = λ ts s p. full p;
  only = λ ts s r p q. sym (full p) ∙ full q;
  refused = λ ts e s p. line-says p (sym (full p) ∙ e);
  no_line = no_line;
}
