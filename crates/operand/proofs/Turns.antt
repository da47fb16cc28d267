-- The turns of the operand reader and the steps of the parenthesis reader, on plain values: what is wanted from the operand's start on is the
-- terms that are read, and then what is wanted, or follows, from here on. Assumes nothing.
use Prim.Native.Nat.{ℕ, ◌+◌, ◌*◌, ◌-◌, ◌<◌, ◌≤◌}
use mathlib.Core.Path.{◌≡◌, refl, sym, ap, subst, ◌∙◌}
use mathlib.Core.Bool.{Bool, false, ◌||◌, not}
use mathlib.Core.List.{List, [], ◌∷◌, ◌++◌}
use mathlib.Core.Option.{Option, none}
use native.Mathlib.Omega.{arith}
use borrow.Author.Tests.{le-ltb, lt-ltb}
use lib.Dec.{ltb}
use lib.ListN.{length}
use Rattle.std.specs.Prelude.{Some, None}
use Rattle.isa.specs.Choice.{pick}
use Rattle.mnemonic.specs.Spelling.{Token, mark}
use Rattle.operand.specs.Operand.{Term, deepest, followed, minus, missing, plus, wanted}
use Rattle.operand.specs.Read.{Lexed, OperandIs, OperandRead, PartIs, PartRead, befores, going_on, tokens_at}
use Rattle.operand.specs.declared.operands.Sum.{Sum}
use Rattle.operand.specs.declared.tokens.Kind.{Kind}
use Rattle.operand.specs.declared.tokens.Kind.TheVariants.{End, Sign}
use Rattle.operand.specs.declared.tokens.Lexeme.{Lexeme}
use Rattle.operand.proofs.Terms.{befores-append, befores-none, minus-append, missing-append, plus-append}
use Rattle.operand.proofs.TokenKinds.{apart, as-closing, as-sign, as-stop, going}

-- what is read so far, and how the operand goes on: from a place where a part is wanted, or one where it has ended
pub record So (text : List ℕ) (names : List (List ℕ)) (addresses : List ℕ) (at depth : ℕ) (all : Bool) (p l : ℕ) (m : Bool) (i : ℕ)
    (rest : List Bool → Option (List Term)) : Type 0 where
  pub terms : List Term
  pub from : at ≤ i
  pub within : i ≤ length text
  pub added : p ≡ plus names addresses terms
  pub lessened : l ≡ minus names addresses terms
  pub missed : m ≡ missing names terms
  pub low : p + 65535 * at ≤ 65535 * i
  pub less : l + 65535 * at ≤ 65535 * i
  pub reads : (outer : List Bool) → length outer + depth ≡ deepest → wanted (tokens_at text at) all all outer ≡ befores terms (rest outer)

module _ (text : List ℕ) (names : List (List ℕ)) (addresses : List ℕ) (at depth : ℕ) (all : Bool) where
  abbrev pub Wanting : ℕ → ℕ → Bool → Bool → ℕ → Type 0
  Wanting p l m taken i = So text names addresses at depth all p l m i (λ outer. wanted (tokens_at text i) taken all outer)

  abbrev pub Past : ℕ → ℕ → Bool → ℕ → Type 0
  Past p l m i = So text names addresses at depth all p l m i (λ outer. followed (tokens_at text i) all outer)

  pub starts : at ≤ length text → Wanting 0 0 false all at
  starts h = record {
    terms = [];
    from = omega arith;
    within = h;
    added = refl;
    lessened = refl;
    missed = refl;
    low = omega arith;
    less = omega arith;
    reads = λ outer e. refl;
  }

  pub part-broken : {p l : ℕ} {m : Bool} (taken : Bool) {i : ℕ} → Wanting p l m taken i → PartRead text names addresses i depth taken None
      → (outer : List Bool) → length outer + depth ≡ deepest → wanted (tokens_at text at) all all outer ≡ none
  part-broken taken s f outer e = s.reads outer e ∙ ap (befores s.terms) (f all outer e) ∙ befores-none s.terms

  pub part-read : {p l : ℕ} {m taken : Bool} {i : ℕ} {r : Sum} → Wanting p l m taken i → PartIs text names addresses i depth taken r
      → Past (p + r.value.plus) (l + r.value.minus) (m || r.value.missing) r.next
  part-read {p} {l} {m} {taken} {i} {r} s q = record {
    terms = s.terms ++ q.terms;
    from = omega (arith, s.from, q.from);
    within = q.within;
    added = sym (plus-append names addresses s.terms q.terms ∙ cc (s.added, q.counts.added));
    lessened = sym (minus-append names addresses s.terms q.terms ∙ cc (s.lessened, q.counts.taken));
    missed = sym (missing-append names s.terms q.terms ∙ cc (s.missed, q.counts.missed));
    low = omega (arith, s.low, q.counts.low);
    less = omega (arith, s.less, q.counts.less);
    reads = λ outer e. s.reads outer e ∙ ap (befores s.terms) (q.reads all outer e)
        ∙ sym (befores-append s.terms q.terms (followed (tokens_at text r.next) all outer));
  }

  pub past-as : {p l : ℕ} {m n : Bool} {i : ℕ} → Past p l m i → n ≡ m → Past p l n i
  past-as {p} {l} {m} {n} {i} s e = subst (λ (b : Bool). Past p l b i) (sym e) s

  -- a sign goes on with what is wanted next
  plus-on : (ts : List Token) (outer : List Bool) → followed (mark 43 ∷ ts) all outer ≡ wanted ts all all outer
  plus-on ts [] = refl
  plus-on ts (o ∷ os) = refl

  minus-on : (ts : List Token) (outer : List Bool) → followed (mark 45 ∷ ts) all outer ≡ wanted ts (not all) all outer
  minus-on ts [] = refl
  minus-on ts (o ∷ os) = refl

  pub goes_on : {p l : ℕ} {m taken : Bool} {i : ℕ} {k : Lexeme} → Past p l m i → Lexed text i k → going_on k.kind all ≡ Some taken
      → Wanting p l m taken k.next
  goes_on {p} {l} {m} {taken} {i} {k} s x h = record {
    terms = s.terms;
    from = omega (arith, s.from, x.from, x.starts);
    within = x.within;
    added = s.added;
    lessened = s.lessened;
    missed = s.missed;
    low = omega (arith, s.low, x.from, x.starts);
    less = omega (arith, s.less, x.from, x.starts);
    reads = λ outer e. s.reads outer e ∙ ap (befores s.terms) (sign outer);
  }
    where
      sign : (outer : List Bool) → followed (tokens_at text i) all outer ≡ wanted (tokens_at text k.next) taken all outer
      sign outer = going k.kind all taken h
          (λ q t. rw (as-sign x.next 43 q, t) (plus-on (tokens_at text k.next) outer))
          (λ q t. rw (as-sign x.next 45 q, t) (minus-on (tokens_at text k.next) outer))

  pub stops : {p l : ℕ} {m : Bool} {i : ℕ} {k : Lexeme} → Past p l m i → Lexed text i k → going_on k.kind all ≡ None
      → OperandIs text names addresses at depth all (record { value = record { missing = m; plus = p; minus = l }; next = i })
  stops s x h = record {
    terms = s.terms;
    counts = record { added = s.added; taken = s.lessened; missed = s.missed; low = s.low; less = s.less };
    from = s.from;
    within = s.within;
    stops = as-stop x.next all h;
    reads = s.reads;
  }

module _ (text : List ℕ) (names : List (List ℕ)) (addresses : List ℕ) (at depth : ℕ) (taken : Bool) (opening : Lexeme) (x : Lexed text at opening)
    (opened : opening.kind ≡ Sign 40) where
  opens : (here : Bool) (outer : List Bool)
      → wanted (tokens_at text at) taken here outer ≡ pick (ltb (length outer) deepest)
      (wanted (tokens_at text opening.next) taken taken (here ∷ outer)) none
  opens here outer = rw (as-sign x.next 40 opened) refl

  pub too-deep : depth ≡ 0 → (here : Bool) (outer : List Bool) → length outer + depth ≡ deepest → wanted (tokens_at text at) taken here outer ≡ none
  too-deep d here outer e = opens here outer ∙ rw (le-ltb (length outer) deepest (omega arith)) refl

  module _ (some_left : 0 < depth) where
    enters : (here : Bool) (outer : List Bool) → length outer + depth ≡ deepest
        → wanted (tokens_at text at) taken here outer ≡ wanted (tokens_at text opening.next) taken taken (here ∷ outer)
    enters here outer e = opens here outer ∙ rw (lt-ltb (length outer) deepest (omega arith)) refl

    pub inner-broken : OperandRead text names addresses opening.next (depth - 1) taken None
        → (here : Bool) (outer : List Bool) → length outer + depth ≡ deepest → wanted (tokens_at text at) taken here outer ≡ none
    inner-broken f here outer e = enters here outer e ∙ f (here ∷ outer) (omega arith)

    module _ {inner : Sum} (q : OperandIs text names addresses opening.next (depth - 1) taken inner) (close : Lexeme)
        (y : Lexed text inner.next close) where
      pub not-closed : (close.kind ≡ Sign 41 → ⊥)
          → (here : Bool) (outer : List Bool) → length outer + depth ≡ deepest → wanted (tokens_at text at) taken here outer ≡ none
      not-closed k here outer e =
          enters here outer e ∙ q.reads (here ∷ outer) (omega arith) ∙ ap (befores q.terms) (as-closing y.next q.stops k taken here outer)
          ∙ befores-none q.terms

      pub closes : close.kind ≡ Sign 41 → PartIs text names addresses at depth taken (record { value = inner.value; next = close.next })
      closes k = record {
        terms = q.terms;
        counts = record {
          added = q.counts.added;
          taken = q.counts.taken;
          missed = q.counts.missed;
          low = omega (arith, q.counts.low, x.from, x.starts, y.from, y.starts);
          less = omega (arith, q.counts.less, x.from, x.starts, y.from, y.starts);
        };
        from = omega (arith, x.from, x.starts, y.from, y.starts, q.from);
        within = y.within;
        reads = λ here outer e. enters here outer e ∙ q.reads (here ∷ outer) (omega arith)
            ∙ ap (befores q.terms) (rw (as-sign y.next 41 k) refl);
      }

-- a sign of a sum is not the end of the line
pub goes-past : (kind : Kind) (all taken : Bool) → going_on kind all ≡ Some taken → kind ≡ End → ⊥
goes-past kind all taken h e = going kind all taken h (λ q t. apart (λ z. omega arith) (sym e ∙ q)) (λ q t. apart (λ z. omega arith) (sym e ∙ q))
