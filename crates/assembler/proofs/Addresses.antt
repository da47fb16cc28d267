-- Addresses of labels: what an operand counts sees only as many addresses as there are labels; the addresses above a line are the first ones of
-- all; and what a line that is read says of addresses, sizes, places, values and bytes. Assumes nothing.
use Prim.Native.Nat.{ℕ, zero, suc, ◌+◌, ◌-◌, ◌%◌, ◌^◌, ◌<◌, ◌≤◌}
use mathlib.Core.Path.{◌≡◌, refl, sym, ap, subst, ◌∙◌}
use mathlib.Core.Bool.{Bool, true, false, ◌&&◌, ◌||◌, not}
use mathlib.Core.List.{List, [], ◌∷◌, ◌++◌, append_assoc, append-nil}
use mathlib.Core.Option.{Option, none, some}
use native.Mathlib.Omega.{arith}
use borrow.Author.Tests.{eqb-false, eqb-true, le-leb, le-ltb, leb-false, leb-true, lt-ltb, ltb-false, ltb-true, ne_eqb}
use lib.Dec.{eqb, leb, ltb}
use lib.ListN.{drop, get_or, length, replicate, set, take, length-append, length-set}
use lib.Seq.{drop-cons, get_or-set_other, get_or-set_same, get_or-take, sets, take-append_seam, take-take}
use Rattle.std.specs.List.{list_all}
use Rattle.isa.specs.Choice.{pick}
use Rattle.operand.specs.Words.{among, place}
use Rattle.operand.specs.Operand.{Part, Term, label, minus, number, plus, value_of}
use Rattle.operand.proofs.Texts.{both, case, differ, neither}
use Rattle.assembler.specs.Forms.{field, size, rom_size}
use Rattle.assembler.specs.Statement.{Statement}
use Rattle.assembler.specs.Program.{Above, address_of, bytes, end, fitting, if_labelled, is_in, label_of, meets, misfit, misplaced, named}
use Rattle.assembler.specs.Program.{next, size_of, span, within}
use Rattle.assembler.specs.Shapes.{bytes_in, digits_in, firsts, form_at, is_free, is_misfit, low_bytes, shapes, size_in}
use Rattle.assembler.specs.Read.{Parts, Shows, broken, coded, empty, origin}
use Rattle.assembler.proofs.Shaping.{shape_at}

-- ---- values
module _ (names : List (List ℕ)) (addresses : List ℕ) where
  value-take : (p : Part) → value_of names (take (length names) addresses) p ≡ value_of names addresses p
  value-take (number n) = refl
  value-take (label w) = case (among names w)
      (λ e. rw e (get_or-take (length names) addresses (place names w) 0 (ltb-true (place names w) (length names) e))) (λ e. rw e refl)

  pub plus-take : (ts : List Term) → plus names (take (length names) addresses) ts ≡ plus names addresses ts
  plus-take [] = refl
  plus-take (t ∷ ts) = rw (value-take t.part, plus-take ts) refl

  pub minus-take : (ts : List Term) → minus names (take (length names) addresses) ts ≡ minus names addresses ts
  minus-take [] = refl
  minus-take (t ∷ ts) = rw (value-take t.part, minus-take ts) refl

-- ---- the addresses of the lines above
abbrev gained : Above → List Statement → List ℕ
gained s [] = []
gained s (l ∷ ls) = if_labelled (label_of l) (address_of s l) ++ gained (next s l) ls

end-addresses : (s : Above) (ls : List Statement) → (end s ls).addresses ≡ s.addresses ++ gained s ls
unfolding next
end-addresses s [] = sym (append-nil s.addresses)
end-addresses s (l ∷ ls) = end-addresses (next s l) ls ∙ append_assoc s.addresses (if_labelled (label_of l) (address_of s l)) (gained (next s l) ls)

pub first-addresses : (s : Above) (ls : List Statement) (all : ℕ) (addresses : List ℕ) → (end s ls).addresses ≡ take all addresses → length
    s.addresses ≤ all
    → s.addresses ≡ take (length s.addresses) addresses
first-addresses s ls all addresses e h =
    sym (take-append_seam s.addresses (gained s ls)) ∙ ap (take (length s.addresses)) (sym (end-addresses s ls) ∙ e)
    ∙ take-take (length s.addresses) all addresses h

-- a label has a name and an address
same-many : (o : Option (List ℕ)) (a : ℕ) → length (if_labelled o a) ≡ length (named o)
same-many none a = refl
same-many (some w) a = refl

pub next-paired : (s : Above) (l : Statement) → length s.addresses ≡ length s.names → length (next s l).addresses ≡ length (next s l).names
unfolding next
next-paired s l e = length-append s.addresses (if_labelled (label_of l) (address_of s l))
    ∙ ap (λ (n : ℕ). n + length (if_labelled (label_of l) (address_of s l))) e ∙ ap (λ (n : ℕ). length s.names + n)
    (same-many (label_of l) (address_of s l))
    ∙ sym (length-append s.names (named (label_of l)))

-- ---- sizes
pub size-most : (s : ℕ) → size_in s ≤ 2
size-most s = case (eqb s 0)
    (λ a. rw a (omega arith))
    (λ a. rw a (case (eqb s 1) (λ b. rw b (omega arith)) (λ b. rw b (case (eqb s 3) (λ d. rw d (omega arith)) (λ d. rw d (omega arith))))))

some_size : (s : ℕ) → eqb s 0 ≡ false → 0 < size_in s
some_size s a = rw a (case (eqb s 1) (λ b. rw b (omega arith)) (λ b. rw b (case (eqb s 3) (λ d. rw d (omega arith)) (λ d. rw d (omega arith)))))

field-most : (s : ℕ) → 16 ^ digits_in s ≤ rom_size
field-most s = case (ltb s 3)
    (λ a. rw a (omega arith))
    (λ a. rw a (case (ltb s 5) (λ b. rw b (omega arith)) (λ b. rw b (case (ltb s 7) (λ d. rw d (omega arith)) (λ d. rw d (omega arith))))))

-- ---- flags say what is written
abbrev pub Flags : List ℕ → List Bool → Type 0
Flags written used = (a : ℕ) → a < rom_size → is_in written a ≡ get_or used a false

-- what is clear in a row is not written
clear-span : (written : List ℕ) (used : List Bool) → Flags written used → length used ≡ rom_size → (n at : ℕ) → at + n ≤ rom_size
    → meets written (span at n) ≡ not (list_all (λ (u : Bool). not u) (take n (drop at used)))
clear-span written used f l zero at h = refl
clear-span written used f l (suc n) at h =
    rw (drop-cons used at false (omega (arith, l)), f at (omega arith), clear-span written used f l n (suc at) (omega arith))
    (either (get_or used at false) (list_all (λ (u : Bool). not u) (take n (drop (suc at) used))))
  where
    either : (a b : Bool) → (a || not b) ≡ not (not a && b)
    either true b = refl
    either false b = refl

free-size : (written : List ℕ) (used : List Bool) → Flags written used → length used ≡ rom_size → (at n : ℕ)
    → (ltb rom_size (at + n) || meets written (span at n)) ≡ not (is_free used at n)
free-size written used f l at n = case (leb (at + n) rom_size)
    (λ e. let u = leb-true (at + n) rom_size e in rw (e, le-ltb rom_size (at + n) u) (clear-span written used f l n at u))
    (λ e. rw (e, lt-ltb rom_size (at + n) (leb-false (at + n) rom_size e)) refl)

-- ---- a line that is read
module _ {text : List ℕ} {above all : List (List ℕ)} {addresses : List ℕ} {st : Statement} {r : Parts} (x : Shows text above all addresses st r)
    (readable : r.readable ≡ true) where
  pub shows-size : size_of st ≡ size_in (get_or shapes r.form 0)
  shows-size = by x
    where
      by : Shows text above all addresses st r → size_of st ≡ size_in (get_or shapes r.form 0)
      by (broken e b) = absurd (differ (sym b ∙ readable))
      by (empty e b f l m) = rw (e, f) refl
      by (origin ts e b f v p) = rw (e, f) refl
      by (coded ts e b f h v p) = rw e (shape_at r.form f h).sized

  module _ (s : Above) (names : s.names ≡ above) (stored : s.addresses ≡ take (length above) addresses) where
    plus-here : (ts : List Term) → plus s.names s.addresses ts ≡ plus above addresses ts
    plus-here ts = rw (names, stored) (plus-take above addresses ts)

    minus-here : (ts : List Term) → minus s.names s.addresses ts ≡ minus above addresses ts
    minus-here ts = rw (names, stored) (minus-take above addresses ts)

    pub shows-address : address_of s st ≡ pick (eqb r.form 0) (r.plus - r.minus) s.at
    shows-address = by x
      where
        by : Shows text above all addresses st r → address_of s st ≡ pick (eqb r.form 0) (r.plus - r.minus) s.at
        by (broken e b) = absurd (differ (sym b ∙ readable))
        by (empty e b f l m) = rw (e, f) refl
        by (origin ts e b f v p) = rw (e, f) (rw (plus-here ts, minus-here ts, v.added, v.taken) refl)
        by (coded ts e b f h v p) = rw (e, ne_eqb r.form 0 (λ q. omega arith)) refl

    pub shows-stray : (eqb r.form 0 && not (within rom_size r.plus r.minus)) ≡ true → misplaced s st ≡ true
    shows-stray h = by x
      where
        by : Shows text above all addresses st r → misplaced s st ≡ true
        by (broken e b) = absurd (differ (sym b ∙ readable))
        by (empty e b f l m) = absurd (differ (sym (rw f refl) ∙ h))
        by (origin ts e b f v p) = rw e
            (rw (plus-here ts, minus-here ts, sym v.added, sym v.taken) (both (eqb r.form 0) (not (within rom_size r.plus r.minus)) h).1)
        by (coded ts e b f g v p) = absurd (differ (sym (rw (ne_eqb r.form 0 (λ q. omega arith)) refl) ∙ h))

    -- where no ORG strays, a line has its place exactly when its bytes are free
    pub shows-place-free : (used : List Bool) → Flags s.written used → length used ≡ rom_size → s.at ≤ rom_size → (eqb r.form 0 && not (within rom_size r.plus r.minus))
        ≡ false
        → misplaced s st ≡ not (is_free used (pick (eqb r.form 0) (r.plus - r.minus) s.at) (size_in (get_or shapes r.form 0)))
    shows-place-free used flags long most h = by x
      where
        by : Shows text above all addresses st r
            → misplaced s st ≡ not (is_free used (pick (eqb r.form 0) (r.plus - r.minus) s.at) (size_in (get_or shapes r.form 0)))
        by (broken e b) = absurd (differ (sym b ∙ readable))
        by (empty e b f l m) = rw (e, f) (rw (le-leb (s.at + 0) rom_size (omega arith)) refl)
        by (origin ts e b f v p) =
            let in-it : within rom_size r.plus r.minus ≡ true = yes (within rom_size r.plus r.minus) (rw f at h) in
            let low = ltb-true (r.plus - r.minus) rom_size (both (leb r.minus r.plus) (ltb (r.plus - r.minus) rom_size) in-it).1 in
            rw (e, f) (rw (
              plus-here ts,
              minus-here ts,
              sym v.added,
              sym v.taken,
              in-it,
              le-leb (r.plus - r.minus + 0) rom_size
                  (omega arith),
            ) refl)
          where
            yes : (b : Bool) → not b ≡ false → b ≡ true
            yes true q = refl
            yes false q = absurd (differ (sym q))
        by (coded ts e b f g v p) =
            rw (e, ne_eqb r.form 0 (λ q. omega arith), (shape_at r.form f g).sized)
            (free-size s.written used flags long s.at (size_in (get_or shapes r.form 0)))

    -- a line that has its place: its address, and its end
    pub shows-placed : misplaced s st ≡ false → s.at ≤ rom_size → (address_of s st + size_of st ≤ rom_size) × (address_of s st ≤ rom_size)
    shows-placed m most = by x
      where
        by : Shows text above all addresses st r → (address_of s st + size_of st ≤ rom_size) × (address_of s st ≤ rom_size)
        by (broken e b) = absurd (differ (sym b ∙ readable))
        by (empty e b f l n) = rw e (omega arith, omega arith)
        by (origin ts e b f v p) =
            let q : not (within rom_size (plus s.names s.addresses ts) (minus s.names s.addresses ts)) ≡ false = rw e at m in
            let low = ltb-true (plus s.names s.addresses ts - minus s.names s.addresses ts) rom_size
            (both (leb (minus s.names s.addresses ts) (plus s.names s.addresses ts))
            (ltb (plus s.names s.addresses ts - minus s.names s.addresses ts) rom_size) (yes _ q)).1 in
            rw e (omega arith, omega arith)
          where
            yes : (b : Bool) → not b ≡ false → b ≡ true
            yes true q = refl
            yes false q = absurd (differ (sym q))
        by (coded ts e b f g v p) =
            let q : (ltb rom_size (s.at + size (form_at r.form)) || meets s.written (span s.at (size (form_at r.form)))) ≡ false = rw e at m in
            let low = ltb-false rom_size (s.at + size (form_at r.form))
            (neither (ltb rom_size (s.at + size (form_at r.form))) (meets s.written (span s.at (size (form_at r.form)))) q).0 in
            rw e (low, most)

    -- ---- values, where these are all labels
    module _ (whole : Above) (whole-names : whole.names ≡ all) (whole-stored : whole.addresses ≡ take (length all) addresses) where
      plus-all : (ts : List Term) → plus whole.names whole.addresses ts ≡ plus all addresses ts
      plus-all ts = rw (whole-names, whole-stored) (plus-take all addresses ts)

      minus-all : (ts : List Term) → minus whole.names whole.addresses ts ≡ minus all addresses ts
      minus-all ts = rw (whole-names, whole-stored) (minus-take all addresses ts)

      pub shows-misfit : misfit whole s st
          ≡ is_misfit (size_in (get_or shapes r.form 0)) (get_or shapes r.form 0) (pick (eqb r.form 0) (r.plus - r.minus) s.at) r.plus
          r.minus
      shows-misfit = by x
        where
          by : Shows text above all addresses st r → misfit whole s st
              ≡ is_misfit (size_in (get_or shapes r.form 0)) (get_or shapes r.form 0) (pick (eqb r.form 0) (r.plus - r.minus) s.at) r.plus
              r.minus
          by (broken e b) = absurd (differ (sym b ∙ readable))
          by (empty e b f l m) = rw (e, f) refl
          by (origin ts e b f v p) = rw (e, f) refl
          by (coded ts e b f g v p) =
              let k = shape_at r.form f g in
              rw (
                e,
                ne_eqb r.form 0 (λ q. omega arith),
                lt-ltb 0 (size_in (get_or shapes r.form 0))
                    (some_size (get_or shapes r.form 0) k.solid),
              )
              (rw (
                plus-all ts,
                minus-all ts,
                sym v.added,
                sym v.taken,
                k.sized,
                k.digit,
                k.reach ((s.at + size_in (get_or shapes r.form 0)) % rom_size) (r.plus - r.minus),
              ) refl)

      pub shows-bytes : misfit whole s st ≡ false
          → bytes whole st ≡ low_bytes (bytes_in (get_or shapes r.form 0) (get_or firsts r.form 0) ((r.plus - r.minus) % 65536))
      shows-bytes m = by x
        where
          by : Shows text above all addresses st r
              → bytes whole st ≡ low_bytes (bytes_in (get_or shapes r.form 0) (get_or firsts r.form 0) ((r.plus - r.minus) % 65536))
          by (broken e b) = absurd (differ (sym b ∙ readable))
          by (empty e b f l n) = rw (e, f) refl
          by (origin ts e b f v p) = rw (e, f) refl
          by (coded ts e b f g v p) =
              let k = shape_at r.form f g in
              let sh = get_or shapes r.form 0 in
              let v0 = r.plus - r.minus in
              let q : not (fitting s.at (form_at r.form) (plus whole.names whole.addresses ts)
              (minus whole.names whole.addresses ts)) ≡ false = rw e at m in
              let fit = (both (within (field (form_at r.form)) (plus whole.names whole.addresses ts)
              (minus whole.names whole.addresses ts)) _ (yes _ q)).0 in
              let fit2 : within (field (form_at r.form)) r.plus r.minus ≡ true = rw
              (plus-all ts, minus-all ts, sym v.added, sym v.taken) at fit in
              let low = ltb-true v0 (field (form_at r.form)) (both (leb r.minus r.plus) (ltb v0 (field (form_at r.form))) fit2).1 in
              let low2 : v0 < 16 ^ digits_in sh = subst (λ (d : ℕ). v0 < 16 ^ d) k.digit low in
              let small : v0 % 65536 ≡ v0 = omega (arith, field-most sh) in
              rw e (rw (plus-all ts, minus-all ts, sym v.added, sym v.taken)
              (k.bytes v0 ∙ sym (k.low v0 low2) ∙ ap (λ (n : ℕ). low_bytes (bytes_in sh (get_or firsts r.form 0) n)) (sym small)))
            where
              yes : (b : Bool) → not b ≡ false → b ≡ true
              yes true q = refl
              yes false q = absurd (differ (sym q))

      -- an ORG puts nothing, and another line's address is the next one
      pub shows-put : (out : List ℕ) → sets out (pick (eqb r.form 0) (r.plus - r.minus) s.at) (bytes whole st) ≡ sets out s.at
          (bytes whole st)
      shows-put out = by x
        where
          by : Shows text above all addresses st r → sets out (pick (eqb r.form 0) (r.plus - r.minus) s.at) (bytes whole st) ≡ sets out
              s.at (bytes whole st)
          by (broken e b) = absurd (differ (sym b ∙ readable))
          by (empty e b f l n) = rw e refl
          by (origin ts e b f v p) = rw e refl
          by (coded ts e b f g v p) = rw (ne_eqb r.form 0 (λ q. omega arith)) refl

-- ---- flags and bytes that are stored
in-append : (w v : List ℕ) (a : ℕ) → is_in (w ++ v) a ≡ (is_in w a || is_in v a)
in-append [] v a = refl
in-append (b ∷ w) v a = rw (in-append w v a) (or_assoc (eqb b a) (is_in w a) (is_in v a))
  where
    or_assoc : (x y z : Bool) → (x || (y || z)) ≡ ((x || y) || z)
    or_assoc true y z = refl
    or_assoc false y z = refl

flag_one : (written : List ℕ) (used : List Bool) (at : ℕ) → Flags written used → at < length used → Flags (written ++ (at ∷ [])) (set used at true)
flag_one written used at f h a l = in-append written (at ∷ []) a ∙ case (eqb at a)
    (λ e. rw (e, sym (eqb-true at a e), get_or-set_same used at true false h) (or-true (is_in written at)))
    (λ e. rw (e, get_or-set_other used at a true false (λ q. eqb-false at a e (sym q)), f a l) (or-false (get_or used a false)))
  where
    or-true : (b : Bool) → (b || true) ≡ true
    or-true true = refl
    or-true false = refl

    or-false : (b : Bool) → (b || false) ≡ b
    or-false true = refl
    or-false false = refl

-- places from an address on are flagged
pub flag-span : (n : ℕ) (written : List ℕ) (used : List Bool) (at : ℕ) → Flags written used → length used ≡ rom_size → at + n ≤ rom_size
    → Flags (written ++ span at n) (sets used at (replicate n true))
flag-span zero written used at f l u = rw (append-nil written) f
flag-span (suc n) written used at f l u =
    rw (sym (append_assoc written (at ∷ []) (span (suc at) n)))
    (flag-span n (written ++ (at ∷ [])) (set used at true) (suc at) (flag_one written used at f (omega (arith, l))) (length-set used at true ∙ l) (omega arith))
