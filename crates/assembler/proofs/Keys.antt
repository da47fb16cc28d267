-- A form is told by the kinds of its words and signs in a row. Kinds tell the fixed words, commas and brackets apart, and a number of such kinds
-- tells them and their order. Assumes nothing.
use Prim.Native.Nat.{ℕ, zero, suc, ◌+◌, ◌<◌, ◌≤◌}
use mathlib.Core.Path.{◌≡◌, refl, sym, ap, subst, ◌∙◌}
use mathlib.Core.Bool.{Bool, true, false, ◌&&◌, not}
use mathlib.Core.List.{List, [], ◌∷◌, map, reverse, reverse_aux, reverse-reverse}
use mathlib.Core.Option.{none, some}
use native.Mathlib.Nat.{add-zero, zero-add}
use native.Mathlib.Omega.{arith}
use borrow.Author.Tests.{eq-eqb, eqb-true, leb-true, lt-ltb, ltb-true, ne_eqb}
use lib.Dec.{eqb, leb, ltb}
use lib.ListN.{get_or, length, length-map}
use Rattle.std.specs.Prelude.{IfSome, None, Option, Some, unwrap_or}
use Rattle.std.specs.List.{position_from}
use Rattle.isa.specs.declared.Instruction.{Instruction}
use Rattle.isa.specs.declared.Instruction.TheVariants as I
use Rattle.mnemonic.specs.Line.{line_of}
use Rattle.mnemonic.specs.Spelling.{Token, letters, mark, operand}
use Rattle.operand.specs.Text.{is_digit}
use Rattle.operand.specs.Words.{first, fixed_words, is_fixed, place, same}
use Rattle.operand.specs.Read.{kind_of, number_of_kind, packed, place_of, sign_kind, word_kind}
use Rattle.operand.specs.declared.tokens.Kind.TheVariants.{Fixed}
use Rattle.operand.proofs.Texts.{both, case, differ}
use Rattle.operand.proofs.Places.{characters, characters-are, same-packed, same_refl}
use Rattle.assembler.specs.Forms.{always, forms, lead}
use Rattle.assembler.specs.Statement.{before, equal, equals, form_in, leads}
use Rattle.assembler.specs.Shapes.{form_at, form_keys, key_of, lead_key, org_lead}
use Rattle.assembler.proofs.Shaping.{form-count}

-- ---- words
pub same-is : (v w : List ℕ) → same v w ≡ true → v ≡ w
same-is [] [] e = refl
same-is [] (d ∷ w) e = absurd (differ e)
same-is (c ∷ v) [] e = absurd (differ e)
same-is (c ∷ v) (d ∷ w) e =
    let p = both (eqb c d) (same v w) e in
    let h = eqb-true c d p.0 in
    let t = same-is v w p.1 in cc

at_place : (vs : List (List ℕ)) (w : List ℕ) → place vs w < length vs → get_or vs (place vs w) [] ≡ w
at_place [] w h = absurd (omega arith)
at_place (v ∷ vs) w h = case (same v w) (λ e. rw e (same-is v w e)) (λ e. rw e (at_place vs w (omega (arith, rw e at h))))

-- a test that each word of a list passes, its word at a place passes
abbrev every : (List ℕ → Bool) → List (List ℕ) → Bool
every p [] = true
every p (v ∷ vs) = p v && every p vs

passes : (p : List ℕ → Bool) (vs : List (List ℕ)) (k : ℕ) → every p vs ≡ true → k < length vs → p (get_or vs k []) ≡ true
passes p [] k e h = absurd (omega arith)
passes p (v ∷ vs) zero e h = (both (p v) (every p vs) e).0
passes p (v ∷ vs) (suc k) e h = passes p vs k (both (p v) (every p vs) e).1 (omega arith)

abbrev not_digit : List ℕ → Bool
not_digit w = not (is_digit (first w))

fixed-letters : every not_digit fixed_words ≡ true
unfolding fixed_words
fixed-letters = refl

fixed-many : length fixed_words ≡ 61
unfolding fixed_words
fixed-many = refl

module _ (w : List ℕ) (f : is_fixed w ≡ true) where
  fixed_in : place fixed_words w < length fixed_words
  unfolding is_fixed
  fixed_in = ltb-true (place fixed_words w) (length fixed_words) f

  fixed_word : get_or fixed_words (place fixed_words w) [] ≡ w
  fixed_word = at_place fixed_words w fixed_in

  pub fixed-kind : word_kind w ≡ Fixed (place fixed_words w)
  unfolding word_kind
  fixed-kind =
      let e : not_digit w ≡ true = subst (λ (v : List ℕ). not_digit v ≡ true) fixed_word
      (passes not_digit fixed_words (place fixed_words w) fixed-letters fixed_in) in
      rw (not-true-is (is_digit (first w)) e, f) refl
    where
      not-true-is : (b : Bool) → not b ≡ true → b ≡ false
      not-true-is true e = absurd (differ e)
      not-true-is false e = refl

-- ---- tokens that lead
printed : (c : ℕ) → 43 < c → c < 94 → (sign_kind c ≡ c) × (43 < c) × (c < 94)
unfolding sign_kind
printed c l u = (rw (lt-ltb 32 c (omega arith), lt-ltb c 128 (omega arith)) refl, l, u)

pub sign-leads : (c : ℕ) → leads (mark c) ≡ true → (sign_kind c ≡ c) × (43 < c) × (c < 94)
sign-leads c e = case (eqb c 44) (λ a. printed c (omega (arith, eqb-true c 44 a)) (omega (arith, eqb-true c 44 a)))
    (λ a. case (eqb c 91) (λ b. printed c (omega (arith, eqb-true c 91 b)) (omega (arith, eqb-true c 91 b)))
    (λ b. case (eqb c 93) (λ d. printed c (omega (arith, eqb-true c 93 d)) (omega (arith, eqb-true c 93 d)))
    (λ d. absurd (differ (sym (rw (a, b, d) refl) ∙ e)))))

-- a leading token's kind is a byte and not 0
pub kind-range : (t : Token) → leads t ≡ true → (0 < kind_of t) × (kind_of t < 256)
kind-range (letters w) e = let k = ap number_of_kind (fixed-kind w e) in (omega arith, omega (arith, fixed_in w e, fixed-many))
kind-range (mark c) e = let p = sign-leads c e in (omega (arith, p.0, p.1), omega (arith, p.0, p.2))
kind-range (operand n v) e = absurd (differ e)

-- and tells it
kind-tells : (t u : Token) → leads t ≡ true → leads u ≡ true → kind_of t ≡ kind_of u → equal t u ≡ true
kind-tells (letters v) (letters w) e f q =
    let same_place : place fixed_words v ≡ place fixed_words w = omega (arith, ap number_of_kind (fixed-kind v e), ap number_of_kind (fixed-kind w f)) in
    let alike : v ≡ w = sym (fixed_word v e) ∙ ap (λ (k : ℕ). get_or fixed_words k []) same_place ∙ fixed_word w f in
    subst (λ (x : List ℕ). same v x ≡ true) alike (same_refl v)
kind-tells (letters v) (mark d) e f q = absurd (omega (arith, ap number_of_kind (fixed-kind v e), (sign-leads d f).0, (sign-leads d f).2))
kind-tells (letters v) (operand n x) e f q = absurd (differ f)
kind-tells (mark c) (letters w) e f q = absurd (omega (arith, ap number_of_kind (fixed-kind w f), (sign-leads c e).0, (sign-leads c e).2))
kind-tells (mark c) (mark d) e f q = eq-eqb c d (omega (arith, (sign-leads c e).0, (sign-leads d f).0))
kind-tells (mark c) (operand n x) e f q = absurd (differ f)
kind-tells (operand n x) u e f q = absurd (differ e)

equal-kind : (t u : Token) → equal t u ≡ true → kind_of t ≡ kind_of u
equal-kind (letters v) (letters w) e = ap (λ (x : List ℕ). number_of_kind (word_kind x)) (same-is v w e)
equal-kind (letters v) (mark d) e = absurd (differ e)
equal-kind (letters v) (operand n x) e = absurd (differ e)
equal-kind (mark c) (letters w) e = absurd (differ e)
equal-kind (mark c) (mark d) e = ap sign_kind (eqb-true c d e)
equal-kind (mark c) (operand n x) e = absurd (differ e)
equal-kind (operand m x) (letters w) e = absurd (differ e)
equal-kind (operand m x) (mark d) e = absurd (differ e)
equal-kind (operand m x) (operand n y) e = absurd (differ e)

-- ---- lists of them
abbrev pub all_lead : List Token → Bool
all_lead [] = true
all_lead (t ∷ ts) = leads t && all_lead ts

pub before-leads : (ts : List Token) → all_lead (before ts) ≡ true
before-leads [] = refl
before-leads (t ∷ ts) = case (leads t) (λ e. rw e (rw e (before-leads ts))) (λ e. rw e refl)

kinds-tell : (g h : List Token) → all_lead g ≡ true → all_lead h ≡ true → map kind_of g ≡ map kind_of h → equals g h ≡ true
kinds-tell [] [] e f q = refl
kinds-tell [] (u ∷ h) e f q = absurd (nil-cons q)
  where
    nil-cons : {x : ℕ} {l : List ℕ} → [] ≡ x ∷ l → ⊥
    nil-cons q = let z : ◌≡◌ {A = ℕ} 0 1 = cc in omega arith
kinds-tell (t ∷ g) [] e f q = absurd (cons-nil q)
  where
    cons-nil : {x : ℕ} {l : List ℕ} → x ∷ l ≡ [] → ⊥
    cons-nil q = let z : ◌≡◌ {A = ℕ} 0 1 = cc in omega arith
kinds-tell (t ∷ g) (u ∷ h) e f q =
    let a = both (leads t) (all_lead g) e in
    let b = both (leads u) (all_lead h) f in
    let k : kind_of t ≡ kind_of u = cc in
    let ks : map kind_of g ≡ map kind_of h = cc in
    rw (kind-tells t u a.0 b.0 k) (kinds-tell g h a.1 b.1 ks)

equals-kinds : (g h : List Token) → equals g h ≡ true → map kind_of g ≡ map kind_of h
equals-kinds [] [] e = refl
equals-kinds [] (u ∷ h) e = absurd (differ e)
equals-kinds (t ∷ g) [] e = absurd (differ e)
equals-kinds (t ∷ g) (u ∷ h) e =
    let p = both (equal t u) (equals g h) e in
    let k = equal-kind t u p.0 in
    let ks = equals-kinds g h p.1 in cc

characters-reverse : (a b : List ℕ) → characters a ≡ true → characters b ≡ true → characters (reverse_aux a b) ≡ true
characters-reverse [] b e f = f
characters-reverse (c ∷ a) b e f =
    let p = both (ltb 0 c && ltb c 256) (characters a) e in characters-reverse a (c ∷ b) p.1 (rw p.0 f)

kinds-characters : (g : List Token) → all_lead g ≡ true → characters (map kind_of g) ≡ true
kinds-characters [] e = refl
kinds-characters (t ∷ g) e =
    let p = both (leads t) (all_lead g) e in
    let k = kind-range t p.0 in
    rw (lt-ltb 0 (kind_of t) k.0, lt-ltb (kind_of t) 256 k.1) (kinds-characters g p.1)

-- two rows are equal where their numbers are
pub key-tells : (g h : List Token) → all_lead g ≡ true → all_lead h ≡ true → equals g h ≡ eqb (key_of g) (key_of h)
key-tells g h e f =
    let v = reverse (map kind_of g) in
    let w = reverse (map kind_of h) in
    let same_key = same-packed v w (characters-are v (characters-reverse (map kind_of g) [] (kinds-characters g e) refl))
    (characters-are w (characters-reverse (map kind_of h) [] (kinds-characters h f) refl)) in
    case (equals g h)
    (λ a. a ∙ sym (eq-eqb (key_of g) (key_of h) (ap (λ (ks : List ℕ). packed (reverse ks)) (equals-kinds g h a))))
    (λ a. a ∙ sym (ne_eqb (key_of g) (key_of h) (λ q. differ (sym a ∙ kinds-tell g h e f
    (sym (reverse-reverse (map kind_of g)) ∙ ap reverse (same-is v w (same_key ∙ eq-eqb (key_of g) (key_of h) q)) ∙ reverse-reverse (map kind_of h))))))

-- ---- the forms
abbrev every_leads : List (ℕ → Instruction) → Bool
every_leads [] = true
every_leads (f ∷ fs) = all_lead (lead f) && every_leads fs

forms-lead : every_leads forms ≡ true
unfolding forms line_of is_fixed fixed_words
forms-lead = refl

-- the number found is the first of the forms that has these words and signs, or their count
found-form : (fs : List (ℕ → Instruction)) (h : List Token) → every_leads fs ≡ true → all_lead h ≡ true → place_of (map lead_key fs) (key_of h) < length fs
    → form_in fs h ≡ some (get_or fs (place_of (map lead_key fs) (key_of h)) (always I.Nop))
found-form [] h e l u = absurd (omega arith)
found-form (f ∷ fs) h e l u =
    let p = both (all_lead (lead f)) (every_leads fs) e in
    case (eqb (lead_key f) (key_of h))
    (λ q. rw (key-tells (lead f) h p.0 l, q) refl)
    (λ q. rw (key-tells (lead f) h p.0 l, q) (found-form fs h p.1 l (omega (arith, rw q at u))))

no-form : (fs : List (ℕ → Instruction)) (h : List Token) → every_leads fs ≡ true → all_lead h ≡ true → length fs ≤ place_of (map lead_key fs) (key_of h)
    → form_in fs h ≡ none
no-form [] h e l u = refl
no-form (f ∷ fs) h e l u =
    let p = both (all_lead (lead f)) (every_leads fs) e in
    case (eqb (lead_key f) (key_of h))
    (λ q. absurd (omega (arith, rw q at u)))
    (λ q. rw (key-tells (lead f) h p.0 l, q) (no-form fs h p.1 l (omega (arith, rw q at u))))

org-leads : all_lead org_lead ≡ true
unfolding is_fixed fixed_words
org-leads = refl

module _ (h : List Token) (l : all_lead h ≡ true) where
  pub org-found : place_of form_keys (key_of h) ≡ 0 → equals org_lead h ≡ true
  unfolding form_keys
  org-found e = case (eqb (key_of org_lead) (key_of h)) (λ q. key-tells org_lead h org-leads l ∙ q) (λ q. absurd (omega (arith, rw q at e)))

  other-found : (0 < place_of form_keys (key_of h)) → (equals org_lead h ≡ false) ×
      (place_of form_keys (key_of h) ≡ suc (place_of (map lead_key forms) (key_of h)))
  unfolding form_keys
  other-found e = case (eqb (key_of org_lead) (key_of h)) (λ q. absurd (omega (arith, rw q at e)))
      (λ q. (key-tells org_lead h org-leads l ∙ q, rw q refl))

  pub not-org : (0 < place_of form_keys (key_of h)) → equals org_lead h ≡ false
  not-org e = (other-found e).0

  pub form-found : (0 < place_of form_keys (key_of h)) → place_of form_keys (key_of h) < 97 → form_in forms h ≡ some (form_at (place_of form_keys (key_of h)))
  unfolding form_at
  form-found e u = let o = (other-found e).1 in
      found-form forms h forms-lead l (omega (arith, form-count)) ∙ ap (λ (k : ℕ). some (get_or (always I.Nop ∷ forms) k (always I.Nop))) (sym o)

  pub form-none : 97 ≤ place_of form_keys (key_of h) → form_in forms h ≡ none
  form-none u = let o = (other-found (omega arith)).1 in no-form forms h forms-lead l (omega (arith, form-count))

pub keys-most : (k : ℕ) → place_of form_keys k ≤ 97
unfolding form_keys
keys-most k = omega (arith, place-most (key_of org_lead ∷ map lead_key forms) k, length-map forms lead_key, form-count)
  where
    place-most : (l : List ℕ) (k : ℕ) → place_of l k ≤ length l
    place-most [] k = omega arith
    place-most (x ∷ l) k = case (eqb x k) (λ e. rw e (omega arith)) (λ e. rw e (omega (arith, place-most l k)))

-- every form has up to six words and signs, and none the number 0
abbrev every_short : List (ℕ → Instruction) → Bool
every_short [] = true
every_short (f ∷ fs) = leb (length (lead f)) 6 && every_short fs

forms-short : every_short forms ≡ true
unfolding forms line_of
forms-short = refl

unequal : (g h : List Token) → (length g ≡ length h → ⊥) → equals g h ≡ false
unequal [] [] f = absurd (f refl)
unequal [] (u ∷ h) f = refl
unequal (t ∷ g) [] f = refl
unequal (t ∷ g) (u ∷ h) f = case (equal t u) (λ e. rw e (unequal g h (λ q. f (ap suc q)))) (λ e. rw e refl)

long-none : (fs : List (ℕ → Instruction)) (h : List Token) → every_short fs ≡ true → 6 < length h → form_in fs h ≡ none
long-none [] h e l = refl
long-none (f ∷ fs) h e l =
    let p = both (leb (length (lead f)) 6) (every_short fs) e in
    rw (unequal (lead f) h (λ q. omega (arith, leb-true (length (lead f)) 6 p.0))) (long-none fs h p.1 l)

pub too_long : (h : List Token) → 6 < length h → (equals org_lead h ≡ false) × (form_in forms h ≡ none)
too_long h l = (unequal org_lead h (λ q. omega arith), long-none forms h forms-short l)

-- the number found is the key's place
place-from : (x i : ℕ) (l : List ℕ) → unwrap_or (position_from (λ (y : ℕ). eqb y x) i l) (i + length l) ≡ i + place_of l x
place-from x i [] = refl
place-from x i (y ∷ l) = case (eqb y x) (λ e. rw e (sym (add-zero i)))
    (λ e. rw e (ap (unwrap_or (position_from (λ (z : ℕ). eqb z x) (i + 1) l)) {x = i + suc (length l)} {y = i + 1 + length l} (omega arith)
    ∙ place-from x (i + 1) l ∙ omega arith))

pub place-is : (x : ℕ) (l : List ℕ) → unwrap_or (position_from (λ (y : ℕ). eqb y x) 0 l) (length l) ≡ place_of l x
place-is x l = ap (unwrap_or (position_from (λ (y : ℕ). eqb y x) 0 l)) (sym (zero-add (length l))) ∙ place-from x 0 l ∙ zero-add (place_of l x)

below-from : (x i : ℕ) (l : List ℕ) → IfSome (position_from (λ (y : ℕ). eqb y x) i l) (λ (k : ℕ). k < i + length l)
below-from x i [] = tt
below-from x i (y ∷ l) = case (eqb y x) (λ e. rw e (omega arith))
    (λ e. rw e (further (position_from (λ (z : ℕ). eqb z x) (i + 1) l) (below-from x (i + 1) l)))
  where
    further : (o : Option ℕ) → IfSome o (λ (k : ℕ). k < i + 1 + length l) → IfSome o (λ (k : ℕ). k < i + suc (length l))
    further None h = tt
    further (Some k) h = omega arith

pub place-below : (x : ℕ) (l : List ℕ) → IfSome (position_from (λ (y : ℕ). eqb y x) 0 l) (λ (k : ℕ). k < 0 + length l)
place-below x l = below-from x 0 l

pub keys-count : length form_keys ≡ 97
unfolding form_keys
keys-count = omega (arith, length-map forms lead_key, form-count)
