-- Walking over the lines of a program: the first line with a fault, what the lines above leave, and what a line that is read says of it. Assumes
-- nothing.
use Prim.Native.Nat.{ℕ, zero, suc, ◌+◌, ◌<◌, ◌≤◌}
use mathlib.Core.Path.{◌≡◌, refl, sym, ap, subst, ◌∙◌}
use mathlib.Core.Bool.{Bool, true, false, ◌&&◌, ◌||◌, not}
use mathlib.Core.List.{List, [], ◌∷◌, ◌++◌, append_assoc, append-nil, map}
use mathlib.Core.Option.{Option, none, some}
use native.Mathlib.Numerals.{add-one}
use native.Mathlib.Omega.{arith}
use borrow.Author.Tests.{ltb-false, ltb-true}
use lib.Dec.{eqb, ltb}
use lib.ListN.{length, drop, take, length-append}
use lib.Seq.{take-append_seam, take_all, take-take}
use Rattle.isa.specs.Choice.{pick}
use Rattle.isa.specs.declared.Instruction.{Instruction}
use Rattle.mnemonic.specs.Spelling.{Token, letters, mark, operand, codes}
use Rattle.operand.specs.Text.{begins, in_word, on_word, tokens}
use Rattle.operand.specs.Words.{among}
use Rattle.operand.specs.Operand.{Term, operand_of}
use Rattle.operand.specs.Read.{names_at, names_of, tokens_at, up_to_lf, word_at}
use Rattle.operand.proofs.Places.{names-count}
use Rattle.operand.proofs.Texts.{case, differ}
use Rattle.assembler.specs.Statement.{Statement, after, before, body, coded, code_of, equals, form_in, labelled}
use Rattle.assembler.specs.Statement.{operand_for, org_of, statement}
use Rattle.assembler.specs.Forms.{operand_digits, forms}
use Rattle.assembler.specs.Program.{Above, again, end, first, if_labelled, label_of, mislabelled, named, next, program, start, unread}
use Rattle.assembler.specs.Read.{Parts, Shows, broken, coded as code, empty, label_in, origin}
use Rattle.assembler.specs.Passing.{Settled, line_end}
use Rattle.assembler.proofs.Splitting.{end-within, last_line, next-line, program_at}

-- ---- the first fault
module _ (bad : Above → Statement → Bool) (s : Above) (n : ℕ) (l : Statement) (ls : List Statement) where
  pub first_found : bad s l ≡ true → first bad s n (l ∷ ls) ≡ n
  first_found e = rw e refl

  pub first_on : bad s l ≡ false → first bad s n (l ∷ ls) ≡ first bad (next s l) (suc n) ls
  first_on e = rw e refl

  pub first-clear : first bad s n (l ∷ ls) ≡ 0 → 0 < n → (bad s l ≡ false) × (first bad (next s l) (suc n) ls ≡ 0)
  first-clear e h = case (bad s l) (λ b. absurd (omega (arith, rw b at e))) (λ b. (b, rw b at e))

-- ---- the line at a position
pub record Split (text : List ℕ) (at : ℕ) : Type 0 where
  pub rest : List Statement
  pub is : program_at text at ≡ statement (tokens_at text at) ∷ rest

pub split : (text : List ℕ) (at : ℕ) → at ≤ length text → Split text at
split text at h = case (ltb (line_end text at) (length text))
    (λ e. record { rest = program_at text (line_end text at + 1); is = next-line text at h (ltb-true (line_end text at) (length text) e) })
    (λ e. record {
      rest = [];
      is = last_line text at h
          (let a = ltb-false (line_end text at) (length text) e in let b = end-within text at h in omega arith);
    })

-- ---- the labels of the lines above
abbrev pub labels : List Statement → List (List ℕ)
labels [] = []
labels (l ∷ ls) = named (label_of l) ++ labels ls

pub end-names : (s : Above) (ls : List Statement) → (end s ls).names ≡ s.names ++ labels ls
unfolding next
end-names s [] = sym (append-nil s.names)
end-names s (l ∷ ls) = end-names (next s l) ls ∙ append_assoc s.names (named (label_of l)) (labels ls)

take-map : {A B : Type 0} (f : A → B) (n : ℕ) (l : List A) → take n (map f l) ≡ map f (take n l)
take-map f zero l = refl
take-map f (suc n) [] = refl
take-map f (suc n) (a ∷ l) = ap (λ (t : List _). f a ∷ t) (take-map f n l)

-- the labels above a line are the first ones of all
module _ (text starts : List ℕ) (all : ℕ) (room : all ≤ length starts) (s : Above) (ls : List Statement)
    (names : (end s ls).names ≡ names_at text starts all) where
  pub few-names : length s.names ≤ all
  few-names = omega (arith, names-count text starts all room, ap length names, ap length (end-names s ls), length-append s.names (labels ls))

  pub first-names : s.names ≡ names_at text starts (length s.names)
  first-names =
      sym (take-append_seam s.names (labels ls)) ∙ ap (take (length s.names)) (sym (end-names s ls) ∙ names)
      ∙ take-map (word_at text) (length s.names) (take all starts)
      ∙ ap (map (word_at text)) (take-take (length s.names) all starts few-names)

-- ---- a label takes two tokens, and so two characters
labels-none-org : (o : Option (List Term)) → label_of (org_of none o) ≡ none
labels-none-org none = refl
labels-none-org (some ts) = refl

labels-none-code : (f : ℕ → Instruction) (o : Option (List Term)) → label_of (code_of none f o) ≡ none
labels-none-code f none = refl
labels-none-code f (some ts) = refl

labels-none-coded : (ts : List Token) (o : Option (ℕ → Instruction)) → label_of (coded none ts o) ≡ none
labels-none-coded ts none = refl
labels-none-coded ts (some f) = labels-none-code f (operand_for (operand_digits f) ts)

body-none : (ts : List Token) → label_of (body none ts) ≡ none
unfolding body
body-none ts = case (equals (letters (codes "ORG") ∷ []) (before ts)) (λ e. rw e (labels-none-org (operand_of (after ts))))
    (λ e. rw e (labels-none-coded (after ts) (form_in forms (before ts))))

two-tokens : (ts : List Token) → labelled ts ≡ true → 2 ≤ length ts
two-tokens [] e = absurd (differ e)
two-tokens (letters w ∷ []) e = absurd (differ e)
two-tokens (letters w ∷ letters v ∷ ts) e = omega arith
two-tokens (letters w ∷ mark c ∷ ts) e = omega arith
two-tokens (letters w ∷ operand n v ∷ ts) e = omega arith
two-tokens (mark c ∷ ts) e = absurd (differ e)
two-tokens (operand n v ∷ ts) e = absurd (differ e)

on-word-length : (c : ℕ) (ts : List Token) → length (on_word c ts) ≡ length ts
on-word-length c [] = refl
on-word-length c (letters w ∷ ts) = refl
on-word-length c (mark d ∷ ts) = refl
on-word-length c (operand n v ∷ ts) = refl

tokens-short : (s : List ℕ) → length (tokens s) ≤ length s
tokens-short [] = omega arith
tokens-short (c ∷ s) = case (eqb c 32) (λ e. rw e (omega (arith, tokens-short s)))
    (λ e. rw e (case (in_word c)
    (λ f. rw f (case (begins s) (λ g. rw g (omega (arith, on-word-length c (tokens s), tokens-short s))) (λ g. rw g (omega (arith, tokens-short s)))))
    (λ f. rw f (omega (arith, tokens-short s)))))

label-takes : (ts : List Token) (w : List ℕ) → label_of (statement ts) ≡ some w → 2 ≤ length ts
label-takes [] w e = absurd (no e)
  where
    no : {a : List ℕ} → none ≡ some a → ⊥
    no q = let z : ◌≡◌ {A = ℕ} 0 1 = cc in omega arith
label-takes (t ∷ ts) w e = case (labelled (t ∷ ts)) (λ l. two-tokens (t ∷ ts) l)
    (λ l. absurd (no (sym (body-none (t ∷ ts)) ∙ rw l at e)))
  where
    no : {a : List ℕ} → none ≡ some a → ⊥
    no q = let z : ◌≡◌ {A = ℕ} 0 1 = cc in omega arith

-- ---- what a line that is read says
named_in : (text : List ℕ) (present : Bool) (at : ℕ) → named (label_in text present at) ≡ pick present (word_at text at ∷ []) []
named_in text true at = refl
named_in text false at = refl

labelled-in : {A : Type 0} (text : List ℕ) (present : Bool) (at : ℕ) (a : A) → if_labelled (label_in text present at) a ≡ pick present (a ∷ []) []
labelled-in text true at a = refl
labelled-in text false at a = refl

again-in : (text : List ℕ) (names : List (List ℕ)) (present : Bool) (at : ℕ)
    → again names (label_in text present at) ≡ (present && among names (word_at text at))
again-in text names true at = refl
again-in text names false at = refl

module _ {text : List ℕ} {above all : List (List ℕ)} {addresses : List ℕ} {st : Statement} {r : Parts} where
  pub shows-unread : Shows text above all addresses st r → (s : Above) → unread s st ≡ not r.readable
  shows-unread (broken e b) s = rw (e, b) refl
  shows-unread (empty e b f l m) s = rw (e, b) refl
  shows-unread (origin ts e b f v p) s = rw (e, b) refl
  shows-unread (code ts e b f h v p) s = rw (e, b) refl

  pub shows-named : Shows text above all addresses st r → r.readable ≡ true → named (label_of st) ≡ pick r.labelled
      (word_at text r.label ∷ []) []
  shows-named (broken e b) h = absurd (differ (sym b ∙ h))
  shows-named (empty e b f l m) h = rw (e, l) refl
  shows-named (origin ts e b f v p) h = rw e (named_in text r.labelled r.label)
  shows-named (code ts e b f g v p) h = rw e (named_in text r.labelled r.label)

  pub shows-labelled : {A : Type 0} → Shows text above all addresses st r → r.readable ≡ true → (a : A) → if_labelled (label_of st) a ≡ pick
      r.labelled (a ∷ []) []
  shows-labelled (broken e b) h a = absurd (differ (sym b ∙ h))
  shows-labelled (empty e b f l m) h a = rw (e, l) refl
  shows-labelled (origin ts e b f v p) h a = rw e (labelled-in text r.labelled r.label a)
  shows-labelled (code ts e b f g v p) h a = rw e (labelled-in text r.labelled r.label a)

  pub shows-place : Shows text above all addresses st r → r.readable ≡ true → r.labelled ≡ true → (r.label ≤ length text) ×
      (label_of st ≡ some (word_at text r.label))
  shows-place (broken e b) h l = absurd (differ (sym b ∙ h))
  shows-place (empty e b f n m) h l = absurd (differ (sym n ∙ l))
  shows-place (origin ts e b f v p) h l = (p, rw (e, l) refl)
  shows-place (code ts e b f g v p) h l = (p, rw (e, l) refl)

  pub shows-mislabelled : Shows text above all addresses st r → r.readable ≡ true → (s : Above) → s.names ≡ above
      → mislabelled all s st ≡ (r.missing || (r.labelled && among above (word_at text r.label)))
  shows-mislabelled (broken e b) h s q = absurd (differ (sym b ∙ h))
  shows-mislabelled (empty e b f n m) h s q = rw (e, n, m) refl
  shows-mislabelled (origin ts e b f v p) h s q = rw (e, q, again-in text above r.labelled r.label, v.missed) refl
  shows-mislabelled (code ts e b f g v p) h s q = rw (e, q, again-in text above r.labelled r.label, v.missed) refl

-- a labelled line goes on for two characters
pub labelled-long : (text : List ℕ) (at : ℕ) (w : List ℕ) → label_of (statement (tokens_at text at)) ≡ some w → at + 2 ≤ line_end text at
labelled-long text at w e = omega (arith, label-takes (tokens_at text at) w e, tokens-short (up_to_lf (drop at text)))

-- ---- a walk over the lines, all of which can be read
pub record Walk (text : List ℕ) (at number count : ℕ) (s : Above) : Type 0 where
  pub within : at ≤ length text
  pub some_number : 0 < number
  pub few : number ≤ at + 1
  pub counted : length s.names ≡ count
  pub ends : end start (program text) ≡ end s (program_at text at)
  pub read : first unread s number (program_at text at) ≡ 0

pub walk-begin : (text : List ℕ) → first unread start 1 (program text) ≡ 0 → Walk text 0 1 0 start
walk-begin text r = record { within = omega arith; some_number = omega arith; few = omega arith; counted = refl; ends = refl; read = r }

module _ {text : List ℕ} {at number count : ℕ} {s : Above} (w : Walk text at number count s) where
  abbrev here : Statement
  here = statement (tokens_at text at)

  module _ {starts addresses : List ℕ} {all : ℕ} (settled : Settled text starts addresses all) where
    -- the labels above stand at the first places
    pub walk-few : count ≤ all
    walk-few = omega (
      arith,
      w.counted,
      few-names text starts all settled.held s (program_at text at)
          (ap (λ (a : Above). a.names) (sym w.ends) ∙ settled.names),
    )

    pub walk-names : s.names ≡ names_at text starts count
    walk-names =
        first-names text starts all settled.held s (program_at text at) (ap (λ (a : Above). a.names) (sym w.ends) ∙ settled.names)
        ∙ ap (names_at text starts) w.counted

    pub walk-held : count ≤ length starts
    walk-held = omega (arith, walk-few, settled.held)

  module _ {above all : List (List ℕ)} {addresses : List ℕ} {r : Parts} (x : Shows text above all addresses here r) where
    pub walk-readable : r.readable ≡ true
    walk-readable =
        let l = split text at w.within in
        let e = (first-clear unread s number here l.rest (ap (first unread s number) (sym l.is) ∙ w.read) w.some_number).0 in
        yes r.readable (sym (shows-unread x s) ∙ e)
      where
        yes : (b : Bool) → not b ≡ false → b ≡ true
        yes true e = refl
        yes false e = absurd (differ (sym e))

    pub next-count : (count' : ℕ) → count' ≡ pick r.labelled (count + 1) count → length (next s here).names ≡ count'
    unfolding next
    next-count count' e = length-append s.names (named (label_of here)) ∙ ap (λ (ns : List (List ℕ)). length s.names + length ns)
        (shows-named x walk-readable)
        ∙ case r.labelled (λ l. let f : count' ≡ count + 1 = e ∙ rw l refl in rw l (omega (arith, w.counted)))
        (λ l. let f : count' ≡ count = e ∙ rw l refl in rw l (omega (arith, w.counted)))

    -- there is a place for its label
    pub walk-next-few : {starts table : List ℕ} {most : ℕ} → Settled text starts table most → (count' : ℕ) → count' ≡ pick r.labelled
        (count + 1) count → count' ≤ most
    walk-next-few {starts} {table} {most} settled count' c =
        let l = split text at w.within in
        omega (
          arith,
          next-count count' c,
          few-names text starts most settled.held (next s here) l.rest
              (ap (λ (ls : List Statement). (end s ls).names) (sym l.is) ∙ ap (λ (a : Above). a.names) (sym w.ends) ∙ settled.names),
        )

    pub walk-on : (count' : ℕ) → count' ≡ pick r.labelled (count + 1) count → line_end text at < length text
        → Walk text (line_end text at + 1) (number + 1) count' (next s here)
    walk-on count' c h =
        let is = next-line text at w.within h in
        record {
          within = omega arith;
          some_number = omega arith;
          few = omega (arith, w.few);
          counted = next-count count' c;
          ends = w.ends ∙ ap (end s) is;
          read = ap (λ (k : ℕ). first unread (next s here) k (program_at text (line_end text at + 1))) (add-one number)
              ∙ (first-clear unread s number here (program_at text (line_end text at + 1)) (ap (first unread s number) (sym is) ∙ w.read) w.some_number).1;
        }

  -- a fault that is looked for on the way
  module _ (bad : Above → Statement → Bool) (found : first bad start 1 (program text) ≡ first bad s number (program_at text at)) where
    pub walk-found : bad s here ≡ true → number ≡ first bad start 1 (program text)
    walk-found e = let l = split text at w.within in sym (found ∙ ap (first bad s number) l.is ∙ first_found bad s number here l.rest e)

    pub walk-clear : bad s here ≡ false → line_end text at ≡ length text → 0 ≡ first bad start 1 (program text)
    walk-clear b h = sym (found ∙ ap (first bad s number) (last_line text at w.within h) ∙ first_on bad s number here [] b)

    pub walk-past : bad s here ≡ false → line_end text at < length text
        → first bad start 1 (program text) ≡ first bad (next s here) (number + 1) (program_at text (line_end text at + 1))
    walk-past b h =
        found ∙ ap (first bad s number) (next-line text at w.within h) ∙ first_on bad s number here (program_at text (line_end text at + 1)) b
        ∙ ap (λ (k : ℕ). first bad (next s here) k (program_at text (line_end text at + 1))) (sym (add-one number))

    -- one that no line has
    pub walk_none : first bad start 1 (program text) ≡ 0 → bad s here ≡ false
    walk_none z = let l = split text at w.within in
        (first-clear bad s number here l.rest (ap (first bad s number) (sym l.is) ∙ sym found ∙ z) w.some_number).0

-- all labels at once
pub shown-all : {text : List ℕ} (starts : List ℕ) {above : List (List ℕ)} {addresses : List ℕ} {st : Statement} {r : Parts}
    → Shows text above (names_of text starts) addresses st r → Shows text above (names_at text starts (length starts)) addresses st r
shown-all {text} starts {above} {addresses} {st} {r} x =
    subst (λ (l : List ℕ). Shows text above (names_of text l) addresses st r) (sym (take_all (length starts) starts (omega arith))) x
