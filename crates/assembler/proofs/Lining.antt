-- Laws of one line, on plain values: its label, the tokens before its operand, its operand, and what statement they make. Assumes nothing.
use Prim.Native.Nat.{ℕ, zero, suc, ◌+◌, ◌*◌, ◌<◌, ◌≤◌}
use mathlib.Core.Path.{◌≡◌, refl, sym, ap, ◌∙◌}
use mathlib.Core.Bool.{Bool, true, false, ◌&&◌, not}
use mathlib.Core.List.{List, [], ◌∷◌, map, reverse, reverse_aux}
use mathlib.Core.Option.{none, some}
use mathlib.Core.Option as Math
use native.Mathlib.Nat.{zero-add}
use native.Mathlib.Omega.{arith}
use borrow.Author.Tests.{eq-eqb, eqb-false, eqb-true, lt-ltb, ltb-true, ne_eqb}
use lib.Dec.{eqb, ltb}
use lib.ListN.{get_or, length}
use Rattle.std.specs.Prelude.{IfSome, MatchOption, None, Option, Some, is_some, unwrap_or}
use Rattle.isa.specs.Choice.{pick}
use Rattle.mnemonic.specs.Spelling.{Token, letters, mark, operand}
use Rattle.operand.specs.Text.{is_digit, is_letter}
use Rattle.operand.specs.Words.{first, is_fixed, is_label}
use Rattle.operand.specs.Operand.{Term, operand_of}
use Rattle.operand.specs.Read.{Lexed, Next, ended, kind_of, number_of_kind, operand_at, packed, place_of, sign, tokens_at, valued, word, word_at, word_kind}
use Rattle.operand.specs.declared.tokens.Kind.TheVariants.{End, Sign}
use Rattle.operand.specs.declared.tokens.Kind.TheVariants.{Label as LabelKind}
use Rattle.operand.specs.declared.operands.Value.{Value}
use Rattle.operand.specs.declared.tokens.Lexeme.{Lexeme}
use Rattle.operand.proofs.Places.{characters}
use Rattle.operand.proofs.Texts.{both, case, differ, not-letter}
use Rattle.operand.proofs.Scans.{none-some, some-is, some-of}
use Rattle.operand.proofs.TokenKinds.{as-end, as-label, as-sign}
use Rattle.operand.proofs.Whole.{short-read}
use Rattle.assembler.specs.Forms.{operand_digits}
use Rattle.assembler.specs.Statement.{after, after_two, before, blank, body, code_of, label_of, labelled, leads}
use Rattle.assembler.specs.Statement.{mnemonic, nothing, operand_for, org, statement}
use Rattle.assembler.specs.Shapes.{digits_in, form_at, form_keys, key_of, leading, shapes}
use Rattle.assembler.specs.Read.{Parts, Headed, Labelling, Operanded, Shows, bad, bodied, good, label_at, label_in, long, parts, whole}
use Rattle.assembler.specs.Read as L
use Rattle.assembler.specs.declared.lines.Head.{Head}
use Rattle.assembler.specs.declared.lines.Label.{Label}
use Rattle.assembler.proofs.Keys.{before-leads, fixed-kind, form-found, form-none, keys-most, kind-range, not-org, org-found, sign-leads}
use Rattle.assembler.proofs.Keys.{too_long}
use Rattle.assembler.proofs.Shaping.{shape_at}

-- ---- leading tokens, by their kind
word-leading : (w : List ℕ) → is_fixed w ≡ false → leading (word_kind w) ≡ None
unfolding word_kind
word-leading w f = case (is_digit (first w)) (λ d. rw d refl) (λ d. rw (d, f) refl)

pub record Leading (text : List ℕ) (ts : List Token) (r : Lexeme) (n : ℕ) : Type 0 where
  pub token : Token
  pub is : ts ≡ token ∷ tokens_at text r.next
  pub leads : leads token ≡ true
  pub kind : n ≡ kind_of token

module _ {text : List ℕ} {ts : List Token} {r : Lexeme} where
  pub as-lead : Next text ts r → (n : ℕ) → leading r.kind ≡ Some n → Leading text ts r n
  as-lead (ended e q g) n h = absurd (none-some (sym (ap leading q) ∙ h))
  as-lead (word e q k i w) n h = case (is_fixed (word_at text r.start))
      (λ f. record {
        token = letters (word_at text r.start);
        is = e;
        leads = f;
        kind = some-is (sym h ∙ ap leading (q ∙ fixed-kind (word_at text r.start) f))
            ∙ sym (ap number_of_kind (fixed-kind (word_at text r.start) f));
      })
      (λ f. absurd (none-some (sym (word-leading (word_at text r.start) f) ∙ sym (ap leading q) ∙ h)))
  as-lead (sign c e q) n h = case (leads (mark c))
      (λ f. let k : leading (Sign c) ≡ Some c = rw f refl in record {
        token = mark c;
        is = e;
        leads = f;
        kind = some-is (sym h ∙ ap leading q ∙ k) ∙ sym (sign-leads c f).0;
      })
      (λ f. let k : leading (Sign c) ≡ None = rw f refl in absurd (none-some (sym k ∙ sym (ap leading q) ∙ h)))

  pub as-tail : Next text ts r → leading r.kind ≡ None → (before ts ≡ []) × (after ts ≡ ts)
  as-tail (ended e q g) h = rw e (refl, refl)
  as-tail (word e q n i w) h = case (is_fixed (word_at text r.start))
      (λ f. absurd (none-some (sym h ∙ ap leading (q ∙ fixed-kind (word_at text r.start) f))))
      (λ f. rw (e, f) (refl, refl))
  as-tail (sign c e q) h = case (leads (mark c))
      (λ f. let k : leading (Sign c) ≡ Some c = rw f refl in absurd (none-some (sym h ∙ ap leading q ∙ k)))
      (λ f. rw (e, f) (refl, refl))

-- ---- the tokens before an operand
pub record Heading (text : List ℕ) (at key count i : ℕ) : Type 0 where
  pub done : List ℕ
  pub number : key ≡ packed done
  pub counted : count ≡ length done
  pub most : count ≤ 6
  pub within : i ≤ length text
  pub bytes : characters done ≡ true
  pub row : reverse (map kind_of (before (tokens_at text at))) ≡ reverse_aux (map kind_of (before (tokens_at text i))) done
  pub rest : after (tokens_at text at) ≡ after (tokens_at text i)
  pub many : length (before (tokens_at text at)) ≡ count + length (before (tokens_at text i))

under : (c : ℕ) (w : List ℕ) → characters (c ∷ w) ≡ true → c < 256
under c w e = ltb-true c 256 (both (ltb 0 c) (ltb c 256) (both (ltb 0 c && ltb c 256) (characters w) e).0).1

left : (c : ℕ) (w : List ℕ) → characters (c ∷ w) ≡ true → characters w ≡ true
left c w e = (both (ltb 0 c && ltb c 256) (characters w) e).1

packed-small : (ds : List ℕ) → characters ds ≡ true → length ds ≤ 5 → packed ds < 1099511627776
packed-small [] e h = omega arith
packed-small (a ∷ []) e h = omega (arith, under a [] e)
packed-small (a ∷ b ∷ []) e h = omega (arith, under a (b ∷ []) e, under b [] (left a (b ∷ []) e))
packed-small (a ∷ b ∷ c ∷ []) e h =
    let f = left a (b ∷ c ∷ []) e in omega (arith, under a (b ∷ c ∷ []) e, under b (c ∷ []) f, under c [] (left b (c ∷ []) f))
packed-small (a ∷ b ∷ c ∷ d ∷ []) e h =
    let f = left a (b ∷ c ∷ d ∷ []) e in
    let g = left b (c ∷ d ∷ []) f in
    omega (arith, under a (b ∷ c ∷ d ∷ []) e, under b (c ∷ d ∷ []) f, under c (d ∷ []) g, under d [] (left c (d ∷ []) g))
packed-small (a ∷ b ∷ c ∷ d ∷ x ∷ []) e h =
    let f = left a (b ∷ c ∷ d ∷ x ∷ []) e in
    let g = left b (c ∷ d ∷ x ∷ []) f in
    let i = left c (d ∷ x ∷ []) g in
    omega (
      arith,
      under a (b ∷ c ∷ d ∷ x ∷ []) e,
      under b (c ∷ d ∷ x ∷ []) f,
      under c (d ∷ x ∷ []) g,
      under d (x ∷ []) i,
      under x []
          (left d (x ∷ []) i),
    )
packed-small (a ∷ b ∷ c ∷ d ∷ x ∷ y ∷ ds) e h = absurd (omega arith)

pub heads : {text : List ℕ} {at : ℕ} → at ≤ length text → Heading text at 0 0 at
heads {text} {at} h = record {
  done = [];
  number = refl;
  counted = refl;
  most = omega arith;
  within = h;
  bytes = refl;
  row = refl;
  rest = refl;
  many = sym (zero-add (length (before (tokens_at text at))));
}

lead-on : {ts us : List Token} {t : Token} → ts ≡ t ∷ us → leads t ≡ true → (before ts ≡ t ∷ before us) × (after ts ≡ after us)
lead-on e l = rw (e, l) (refl, refl)

module _ {text : List ℕ} {at key count i : ℕ} where
  pub key-small : Heading text at key count i → count < 6 → key < 1099511627776
  key-small g h = rw g.number (packed-small g.done g.bytes (omega (arith, g.counted)))

  module _ {r : Lexeme} (g : Heading text at key count i) (x : Lexed text i r) where
    pub headed : leading r.kind ≡ None → Headed text (tokens_at text at) (record { key = Some key; next = i })
    headed h =
        let t = as-tail x.next h in
        whole (ap Some (g.number ∙ ap packed (sym (g.row ∙ ap (λ (us : List Token). reverse_aux (map kind_of us) g.done) t.0)))) (sym (g.rest ∙ t.1))
        g.within

    pub head-long : {n : ℕ} → leading r.kind ≡ Some n → count ≡ 6 → Headed text (tokens_at text at) (record { key = None; next = i })
    head-long {n} h c =
        let t = as-lead x.next n h in
        let on = lead-on t.is t.leads in
        let e = on.0 in
        long refl (omega (arith, g.many, ap length e)) g.within

    pub head-on : {n : ℕ} → leading r.kind ≡ Some n → count < 6 → Heading text at (n + 256 * key) (count + 1) r.next
    head-on {n} h c =
        let t = as-lead x.next n h in
        let on = lead-on t.is t.leads in
        let e = on.0 in
        let k = kind-range t.token t.leads in
        record {
          done = n ∷ g.done;
          number = ap (λ (m : ℕ). n + 256 * m) g.number;
          counted = omega (arith, g.counted);
          most = omega arith;
          within = x.within;
          bytes = rw (lt-ltb 0 n (omega (arith, t.kind, k.0)), lt-ltb n 256 (omega (arith, t.kind, k.1))) g.bytes;
          row = g.row ∙ ap (λ (us : List Token). reverse_aux (map kind_of us) g.done) e
              ∙ ap (λ (m : ℕ). reverse_aux (map kind_of (before (tokens_at text r.next))) (m ∷ g.done)) (sym t.kind);
          rest = g.rest ∙ on.1;
          many = omega (arith, g.many, ap length e);
        }

    pub head-moves : {n : ℕ} → leading r.kind ≡ Some n → i < r.next
    head-moves h = omega (arith, x.from, x.moves (λ q. none-some (sym (ap leading q) ∙ h)))

-- ---- the label
label-kind : (w : List ℕ) → is_label w ≡ true → word_kind w ≡ LabelKind
unfolding is_label word_kind
label-kind w e =
    let p = both (is_letter (first w)) (not (is_fixed w)) e in
    rw (letter-no-digit (first w) p.0, not-fixed (is_fixed w) p.1) refl
  where
    letter-no-digit : (c : ℕ) → is_letter c ≡ true → is_digit c ≡ false
    letter-no-digit c l = case (is_digit c) (λ d. absurd (differ (sym (not-letter c d) ∙ l))) (λ d. d)

    not-fixed : (b : Bool) → not b ≡ true → b ≡ false
    not-fixed true e = absurd (differ e)
    not-fixed false e = refl

no-label-word : (w : List ℕ) (us : List Token) → is_label w ≡ false → labelled (letters w ∷ us) ≡ false
no-label-word w [] e = refl
no-label-word w (letters v ∷ us) e = refl
no-label-word w (mark c ∷ us) e = rw e refl
no-label-word w (operand n v ∷ us) e = refl

module _ {text : List ℕ} {ts : List Token} {r : Lexeme} where
  -- no label where the first word is none
  pub no_label : Next text ts r → (r.kind ≡ LabelKind → ⊥) → labelled ts ≡ false
  no_label (ended e q g) h = rw e refl
  no_label (word e q n i w) h =
      rw e (no-label-word (word_at text r.start) (tokens_at text r.next)
      (case (is_label (word_at text r.start)) (λ l. absurd (h (q ∙ label-kind (word_at text r.start) l))) (λ l. l)))
  no_label (sign c e q) h = rw e refl

  -- nor where no colon follows
  pub no-colon : Next text ts r → (r.kind ≡ Sign 58 → ⊥) → (w : List ℕ) → labelled (letters w ∷ ts) ≡ false
  no-colon (ended e q g) h w = rw e refl
  no-colon (word e q n i v) h w = rw e refl
  no-colon (sign c e q) h w = rw (e, ne_eqb c 58 (λ x. h (q ∙ ap Sign x))) (never (is_label w))
    where
      never : (b : Bool) → (b && false) ≡ false
      never true = refl
      never false = refl

module _ (text : List ℕ) (at : ℕ) (within : at ≤ length text) where
  pub unlabelled : labelled (tokens_at text at) ≡ false → Labelling text (tokens_at text at) (record { start = None; next = at })
  unlabelled e = record { within = within; place = omega arith; present = sym e; label = rw e refl; rest = rw e refl }

  pub with-label : {w k : Lexeme} → Lexed text at w → w.kind ≡ LabelKind → Lexed text w.next k → k.kind ≡ Sign 58
      → Labelling text (tokens_at text at) (record { start = Some w.start; next = k.next })
  with-label {w} {k} x p y q =
      let l = as-label x.next p in
      let e : tokens_at text at ≡ letters (word_at text w.start) ∷ mark 58 ∷ tokens_at text k.next
      = l.0 ∙ ap (λ (us : List Token). letters (word_at text w.start) ∷ us) (as-sign y.next 58 q) in
      made l.1 y.within (omega (arith, x.starts, x.within)) (tokens_at text at) e
    where
      made : is_label (word_at text w.start) ≡ true → k.next ≤ length text → w.start ≤ length text → (ts : List Token)
          → ts ≡ letters (word_at text w.start) ∷ mark 58 ∷ tokens_at text k.next
          → Labelling text ts (record { start = Some w.start; next = k.next })
      made i a b ts e = rw e (record { within = a; place = b; present = sym (rw i refl); label = rw i refl; rest = rw i refl })

-- ---- the operand of a whole line
-- what is read is what the operand counts, if there is one
module _ (text : List ℕ) (names : List (List ℕ)) (addresses : List ℕ) (at form : ℕ) (name : Option ℕ) (short : length text ≤ 65535) where
  pub no_operand : None ≡ valued names addresses (operand_at text at) → Operanded names addresses (tokens_at text at) form name (parts None)
  no_operand e = go (operand_of (tokens_at text at)) refl
    where
      go : (o : Math.Option (List Term)) → operand_of (tokens_at text at) ≡ o → Operanded names addresses (tokens_at text at) form name (parts None)
      go none q = bad q refl
      go (some ts) q = absurd (none-some (e ∙ ap (valued names addresses) (short-read text at short ∙ q)))

  pub operand-whole : {v : Value} → Some v ≡ valued names addresses (operand_at text at)
      → Operanded names addresses (tokens_at text at) form name (parts (Some (record { form = Some form; label = name; value = v })))
  operand-whole {v} e = go (operand_of (tokens_at text at)) refl
    where
      go : (o : Math.Option (List Term)) → operand_of (tokens_at text at) ≡ o
          → Operanded names addresses (tokens_at text at) form name (parts (Some (record { form = Some form; label = name; value = v })))
      go none q = absurd (none-some (sym (e ∙ ap (valued names addresses) (short-read text at short ∙ q))))
      go (some ts) q =
          let u = some-of v (e ∙ ap (valued names addresses) (short-read text at short ∙ q)) in
          good ts q refl refl refl refl (record {
            added = ap (λ (x : Value). x.plus) u;
            taken = ap (λ (x : Value). x.minus) u;
            missed = ap (λ (x : Value). x.missing) u;
          })

-- ---- what follows the label
some-digits : (n : ℕ) (ts : List Token) → 0 < n → operand_for n ts ≡ operand_of ts
some-digits zero ts h = absurd (omega arith)
some-digits (suc n) ts h = refl

module _ (text : List ℕ) (above all : List (List ℕ)) (addresses : List ℕ) (name : Option ℕ) (ts : List Token) (place : unwrap_or name 0 ≤ length text) where
  abbrev own : Math.Option (List ℕ)
  own = label_at text name

  own_is : (r : Parts) → r.labelled ≡ is_some name → r.label ≡ unwrap_or name 0 → own ≡ label_in text r.labelled r.label
  own_is r p s = rw (p, s) refl

  pub none-shown : (form : ℕ) → form ≡ 97 → (r : Parts) → r.readable ≡ false → Shows text above all addresses (bodied form own ts) r
  none-shown form q r b = L.broken (rw (eq-eqb form 97 q) refl) b

  pub org-shown : (form : ℕ) → form ≡ 0 → (r : Parts) → Operanded above addresses ts form name r → Shows text above all addresses
      (bodied form own ts) r
  org-shown form q r (bad e b) = L.broken (rw (ne_eqb form 97 (λ z. omega arith), eq-eqb form 0 q, e) refl) b
  org-shown form q r (good terms e b f p s v) =
      L.origin terms (rw (ne_eqb form 97 (λ z. omega arith), eq-eqb form 0 q, e) (ap (λ (l : Math.Option (List ℕ)). org l terms) (own_is r p s)))
      b (f ∙ q) v (omega (arith, s))

  module _ (form : ℕ) (low : 0 < form) (high : form < 97) where
    body_is : bodied form own ts ≡ code_of own (form_at form) (operand_for (operand_digits (form_at form)) ts)
    body_is = rw (ne_eqb form 97 (λ q. omega arith), ne_eqb form 0 (λ q. omega arith)) refl

    digits_are : operand_digits (form_at form) ≡ digits_in (get_or shapes form 0)
    digits_are = (shape_at form low high).digit

    pub code-shown : (r : Parts) → 0 < digits_in (get_or shapes form 0) → Operanded all addresses ts form name r
        → Shows text above all addresses (bodied form own ts) r
    code-shown r d (bad e b) = L.broken (body_is ∙ rw (some-digits (operand_digits (form_at form)) ts (omega (arith, digits_are)), e) refl) b
    code-shown r d (good terms e b f p s v) =
        L.coded terms (body_is ∙ rw (some-digits (operand_digits (form_at form)) ts (omega (arith, digits_are)), e)
        (ap (λ (l : Math.Option (List ℕ)). mnemonic l (form_at form) terms) (own_is r p s) ∙ ap
        (λ (k : ℕ). mnemonic (label_in text r.labelled r.label) (form_at k) terms) (sym f)))
        b (omega (arith, f)) (omega (arith, f)) v (omega (arith, s))

    no-digits : (n : ℕ) → n ≡ 0 → operand_for n ts ≡ nothing ts
    no-digits n e = rw e refl

    pub plain-shown : digits_in (get_or shapes form 0) ≡ 0 → ts ≡ []
        → Shows text above all addresses (bodied form own ts)
        (parts (Some (record { form = Some form; label = name; value = record { missing = false; plus = 0; minus = 0 } })))
    plain-shown d e =
        L.coded [] (body_is ∙ rw (no-digits (operand_digits (form_at form)) (digits_are ∙ d), e) refl) refl low high
        (record { added = refl; taken = refl; missed = refl }) place

    pub plain-broken : digits_in (get_or shapes form 0) ≡ 0 → nothing ts ≡ none → (r : Parts) → r.readable ≡ false → Shows text above all addresses
        (bodied form own ts) r
    plain-broken d e r b = L.broken (body_is ∙ rw (no-digits (operand_digits (form_at form)) (digits_are ∙ d), e) refl) b

-- where a line has not ended something stands
pub not-nothing : {text : List ℕ} {ts : List Token} {r : Lexeme} → Next text ts r → (r.kind ≡ End → ⊥) → nothing ts ≡ none
not-nothing (ended e q g) h = absurd (h q)
not-nothing (word e q n i w) h = rw e refl
not-nothing (sign c e q) h = rw e refl

-- ---- the whole line
pub blank-line : (text : List ℕ) (at : ℕ) {k : Lexeme} → Lexed text at k → k.kind ≡ End → statement (tokens_at text at) ≡ blank
blank-line text at x h = rw (as-end x.next h).0 refl

statement-body : (ts : List Token) → nothing ts ≡ none → statement ts ≡ body (pick (labelled ts) (label_of ts) none)
    (pick (labelled ts) (after_two ts) ts)
statement-body [] e = absurd (no_none e)
  where
    no_none : {a : List Term} → some a ≡ none → ⊥
    no_none q = let z : ◌≡◌ {A = ℕ} 0 1 = cc in omega arith
statement-body (t ∷ ts) e = case (labelled (t ∷ ts)) (λ l. rw l refl) (λ l. rw l refl)

body-form : (l : Math.Option (List ℕ)) (ts : List Token) → body l ts ≡ bodied (place_of form_keys (key_of (before ts))) l (after ts)
unfolding body
body-form l ts =
    let n = place_of form_keys (key_of (before ts)) in
    let b = before-leads ts in
    let most = keys-most (key_of (before ts)) in
    case (eqb n 97)
    (λ e. let q = eqb-true n 97 e in
    rw (e, not-org (before ts) b (omega arith), form-none (before ts) b (omega arith)) refl)
    (λ e. case (eqb n 0)
    (λ f. rw (e, f, org-found (before ts) b (eqb-true n 0 f)) refl)
    (λ f. let low : 0 < n = omega (arith, eqb-false n 0 f) in
    let high : n < 97 = omega (arith, eqb-false n 97 e) in
    rw (e, f, not-org (before ts) b low, form-found (before ts) b low high) refl))

body-long : (l : Math.Option (List ℕ)) (ts us : List Token) → 6 < length (before ts) → body l ts ≡ bodied 97 l us
unfolding body
body-long l ts us h = let p = too_long (before ts) h in rw (p.0, p.1) refl

-- the number of a key's form, where there is a key
abbrev pub number_at : Option ℕ → ℕ
number_at None = 97
number_at (Some key) = place_of form_keys key

pub number-is : (form key : Option ℕ)
    → MatchOption key (form ≡ None) (λ k. (unwrap_or form 97 ≡ place_of form_keys k) × IfSome form (λ (n : ℕ). n < 97))
    → unwrap_or form 97 ≡ number_at key
number-is form None e = rw e refl
number-is form (Some key) e = e.0

-- a line that is not blank is what follows its label, by the number of its form
pub line-body : (text : List ℕ) (ts : List Token) (name : Label) (r : Head) → nothing ts ≡ none → Labelling text ts name
    → Headed text (tokens_at text name.next) r
    → statement ts ≡ bodied (number_at r.key) (label_at text name.start) (tokens_at text r.next)
line-body text ts name r e n (whole k a w) =
    statement-body ts e ∙ rw
    (sym n.label, sym n.rest, body-form (label_at text name.start) (tokens_at text name.next), k, sym a) refl
line-body text ts name r e n (long k a w) =
    statement-body ts e ∙ rw (
      sym n.label,
      sym n.rest,
      body-long (label_at text name.start) (tokens_at text name.next)
          (tokens_at text r.next) a,
      k,
    ) refl

pub headed-within : {text : List ℕ} {ts : List Token} {r : Head} → Headed text ts r → r.next ≤ length text
headed-within (whole k a w) = w
headed-within (long k a w) = w
