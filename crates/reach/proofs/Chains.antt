-- Chains over any successor function, and what they reach. The start is reached, and so is each successor of what is reached, since a chain
-- can be made longer at its end. What holds of the start and passes to successors holds of all that is reached, by induction along the
-- chain. Where elements have codes, chains of elements are chains of their codes. Assumes nothing.
use Prim.Native.Nat.{ℕ, suc}
use native.Mathlib.Omega.{arith}
use mathlib.Core.Path.{◌≡◌, refl, sym, ap, subst, ◌∙◌}
use mathlib.Core.List.{List, [], ◌∷◌, map}
use lib.ListN.{length}
use Rattle.reach.specs.Chains.{Member, here, there, Chain, one, more, Reaches, Shortest}
use Rattle.reach.specs.Walk.{All}

-- ---- members
module _ {A : Type 0} where
  pub all-member : (P : A → Type 0) {q : A} {ps : List A} → Member q ps → All P ps → P q
  all-member P here h = h.0
  all-member P (there m) h = all-member P m h.1

  pub all_of : (P : A → Type 0) (ps : List A) → ((q : A) → Member q ps → P q) → All P ps
  all_of P [] f = tt
  all_of P (p ∷ ps) f = (f p here, all_of P ps (λ q m. f q (there m)))

  pub all_map : (f : A → ℕ) (P : ℕ → Type 0) (ps : List A) → All (λ (q : A). P (f q)) ps → All P (map f ps)
  all_map f P [] h = tt
  all_map f P (p ∷ ps) h = (h.0, all_map f P ps h.1)

  pub to_map : (f : A → ℕ) {q : A} {ps : List A} → Member q ps → Member (f q) (map f ps)
  to_map f here = here
  to_map f (there m) = there (to_map f m)

  pub of_map : (f : A → ℕ) {k : ℕ} (ps : List A) → Member k (map f ps) → (q : A) × Member q ps × (k ≡ f q)
  of_map f {k = k} [] x' = elim x' [ ]
  of_map f {k = k} (p ∷ ps) m = go p k (λ n. of_map f ps n) m
    where
      go : (p : A) (k : ℕ) → (Member k (map f ps) → (q : A) × Member q ps × (k ≡ f q)) → Member k (f p ∷ map f ps) → (q : A) × Member q (p ∷ ps) × (k ≡ f q)
      go p k later here = (p, here, refl)
      go p k later (there m) = let r = later m in (r.0, there r.1, r.2)

  pub map-length : {B : Type 0} (f : A → B) (ps : List A) → length (map f ps) ≡ length ps
  map-length f [] = refl
  map-length f (p ∷ ps) = ap suc (map-length f ps)

-- ---- chains
module _ {A : Type 0} {next : A → List A} where
  pub reached-start : {start : A} → Reaches next start start
  reached-start {start} = record { chain = start ∷ []; links = one }

  longer : {p q r : A} {ps : List A} → Chain next p ps q → Member r (next q) → (rs : List A) × Chain next p rs r
  longer {r = r} (one {p = p}) m = (p ∷ r ∷ [], more m one)
  longer (more {p = p} n c) m = let l = longer c m in (p ∷ l.0, more n l.1)

  pub reached-next : {start p q : A} → Reaches next start p → Member q (next p) → Reaches next start q
  reached-next r m = let l = longer r.links m in record { chain = l.0; links = l.1 }

  -- what holds of a chain's first and passes to successors holds of its last
  along : (P : A → Type 0) → ((p q : A) → P p → Member q (next p) → P q) → {p q : A} {ps : List A} → Chain next p ps q → P p → P q
  along P keeps one h = h
  along P keeps (more {p = p} {q = q} m c) h = along P keeps c (keeps p q h m)

  pub reached-all : {start : A} (P : A → Type 0) → P start → ((p q : A) → P p → Member q (next p) → P q) → (p : A) → Reaches next start p → P p
  reached-all P begins keeps p r = along P keeps r.links begins

-- ---- codes: `at` takes the code of an element in range back to it
module _ {A : Type 0} (next : A → List A) (start : A) (code : A → ℕ) (at : ℕ → A) (In : A → Type 0) (begins : In start)
    (keeps : (p q : A) → In p → Member q (next p) → In q) (back : (p : A) → In p → at (code p) ≡ p) where
  abbrev Codes : ℕ → List ℕ
  Codes k = map code (next (at k))

  -- a chain of codes is a chain of what has them, and back
  pub chain-at : {k m : ℕ} {ks : List ℕ} → In (at k) → Chain Codes k ks m → Chain next (at k) (map at ks) (at m)
  chain-at i one = one
  chain-at {k} i (more {q = m} n c) =
      let q = of_map code (next (at k)) n in
      let j : In q.0 = keeps (at k) q.0 i q.1 in
      let e : at m ≡ q.0 = ap at q.2 ∙ back q.0 j in
      more (subst (λ (x : A). Member x (next (at k))) (sym e) q.1) (chain-at (subst In (sym e) j) c)

  pub chain-code : {p q : A} {ps : List A} → In p → Chain next p ps q → In q × Chain Codes (code p) (map code ps) (code q)
  chain-code i one = (i, one)
  chain-code {p} i (more {q = q} m c) =
      let r = chain-code (keeps p q i m) c in
      (r.0, more (subst (λ (x : A). Member (code q) (map code (next x))) (sym (back p i)) (to_map code m)) r.1)

  -- the start's code names the start
  pub chain-start : {k : ℕ} {ks : List ℕ} → Chain Codes (code start) ks k → Chain next start (map at ks) (at k)
  chain-start {k} {ks} c =
      subst (λ (s : A). Chain next s (map at ks) (at k)) (back start begins) (chain-at (subst In (sym (back start begins)) begins) c)

  pub of_code : (k : ℕ) → Reaches Codes (code start) k → Reaches next start (at k)
  of_code k r = record { chain = map at r.chain; links = chain-start r.links }

  pub to-code : (p : A) → Reaches next start p → In p × Reaches Codes (code start) (code p)
  to-code p r = let c = chain-code begins r.links in (c.0, record { chain = map code r.chain; links = c.1 })

  -- a shortest chain of codes is one of what has them, and back
  pub shortest-at : {p : A} {ks : List ℕ} → In p → Shortest Codes (code start) ks (code p) → Shortest next start (map at ks) p
  shortest-at {p} {ks} i s =
      record {
        links = subst (Chain next start (map at ks)) (back p i) (chain-start s.links);
        least = λ other d. omega (arith, map-length at ks, map-length code other, s.least (map code other) (chain-code begins d).1);
      }

  pub shortest-code : {p : A} {ps : List A} → In p → Shortest next start ps p → Shortest Codes (code start) (map code ps) (code p)
  shortest-code {p} {ps} i s =
      record {
        links = (chain-code begins s.links).1;
        least = λ other d. omega (arith, map-length code ps, map-length at other, s.least (map at other) (subst (Chain next start (map at other)) (back p i) (chain-start d)));
      }
