-- A pass over the places of a text: what holds before the line that is next, or past the last one. Assumes nothing.
use Prim.Native.Nat.{ℕ, ◌+◌, ◌<◌, ◌≤◌}
use mathlib.Core.Path.{◌≡◌, refl, sym, ap, ap₂, subst, ◌∙◌}
use mathlib.Core.Bool.{Bool, true, false}
use mathlib.Core.List.{List}
use native.Mathlib.Omega.{arith}
use borrow.Author.Tests.{ltb-false, ltb-true}
use lib.Dec.{ltb}
use lib.ListN.{length, set}
use Rattle.std.specs.Prelude.{Option, Some, None, IfSome, is_some, unwrap_or}
use Rattle.std.specs.Int.{from_bool}
use Rattle.std.specs.Option.{option_and}
use Rattle.isa.specs.Choice.{pick}
use Rattle.operand.proofs.Texts.{case}
use Rattle.assembler.specs.Passing.{line_end}
use Rattle.assembler.specs.Places.{after}
use Rattle.assembler.specs.declared.places.Place.{Place}
use Rattle.assembler.proofs.Splitting.{end-within}

pub record Turn (before : ℕ → ℕ → Type 0) (done : Type 0) (next : Option Place) : Type 0 where
  pub here : {p : Place} → Some p ≡ next → before p.at p.number
  pub past : None ≡ next → done

unlike : {p : Place} → Some p ≡ None → ⊥
unlike e = cc

same : {p q : Place} → Some p ≡ Some q → p ≡ q
same e = cc

-- a line that is next
pub turn : {before : ℕ → ℕ → Type 0} {done : Type 0} (p : Place) → before p.at p.number → Turn before done (Some p)
turn {before} p b = record { here = λ e. subst (λ (q : Place). before q.at q.number) (sym (same e)) b; past = λ e. absurd (unlike (sym e)) }

-- the line after one that a pass is given, or none
pub on : {before : ℕ → ℕ → Type 0} {done : Type 0} {s text : List ℕ} {p : Place} {next later : Option Place} → s ≡ text → Some p ≡ next
    → later ≡ after s next → p.at ≤ length text → (line_end text p.at ≡ length text → done)
    → (line_end text p.at < length text → before (line_end text p.at + 1) (p.number + 1)) → Turn before done later
on {before} {done} {s} {text} {p} e f g within last more =
    subst (Turn before done) (sym (g ∙ ap₂ after e (sym f)))
    (case (ltb (line_end text p.at) (length text))
    (λ l. rw l (turn (record { at = line_end text p.at + 1; number = p.number + 1 }) (more (ltb-true (line_end text p.at) (length text) l))))
    (λ l. let inside = end-within text p.at within in let past = ltb-false (line_end text p.at) (length text) l in
    rw l record { here = λ e. absurd (unlike e); past = λ e. last (omega arith) }))

-- a label that a line has
pub where_some : (P : ℕ → Type 0) (label : Option ℕ) → (is_some label ≡ true → P (unwrap_or label 0)) → IfSome label P
where_some P (Some at) h = h refl
where_some P None h = tt

-- its address, which is noted where there is one
module _ (here : ℕ) {v : Option ℕ} where
  pub same_some : (label : Option ℕ) → v ≡ option_and label (Some here) → is_some v ≡ is_some label
  same_some (Some at) e = rw e refl
  same_some None e = rw e refl

  pub where_and : (P : ℕ → Type 0) (label : Option ℕ) → v ≡ option_and label (Some here) → (is_some label ≡ true → P here) → IfSome v P
  where_and P (Some at) e h = rw e (h refl)
  where_and P None e h = rw e tt

  pub noting : (list : List ℕ) {list' : List ℕ} (count : ℕ) (label : Option ℕ) → v ≡ option_and label (Some here)
      → list' ≡ pick (is_some v) (set list count (unwrap_or v 0)) list → list' ≡ pick (is_some label) (set list count here) list
  noting list count (Some at) e f = f ∙ rw e refl
  noting list count None e f = f ∙ rw e refl

-- one more label, if it has one
pub counted : {b labelled : Bool} {n : ℕ} (count : ℕ) → n ≡ from_bool b → b ≡ labelled → count + n ≡ pick labelled (count + 1) count
counted count e f = ap (λ (k : ℕ). count + k) (e ∙ ap from_bool f) ∙ one count _
  where
    one : (count : ℕ) (labelled : Bool) → count + from_bool labelled ≡ pick labelled (count + 1) count
    one count true = refl
    one count false = omega arith

pub one-most : {n : ℕ} (b : Bool) → n ≡ from_bool b → n ≤ 1
one-most true e = omega arith
one-most false e = omega arith
