-- Refusal 9 does not occur where there is room for 65,535 records: a script that is not too long has fewer. So a program with a buffer of
-- its own never meets it. Assumes nothing.
use Prim.Native.Nat.{ℕ, ◌*◌, ◌≤◌}
use native.Mathlib.Omega.{arith}
use mathlib.Core.Path.{◌≡◌, refl, sym, ap, ◌∙◌}
use mathlib.Core.Bool.{Bool, true, false}
use mathlib.Core.List.{List, [], ◌∷◌}
use lib.Dec.{leb, eqb}
use lib.ListN.{length}
use borrow.Author.Tests.{leb-true}
use Rattle.std.specs.Prelude.{Some, None}
use Rattle.rom.specs.Fetching.{sized}
use Rattle.isa.specs.Choice.{pick}
use Rattle.cpu.specs.Range.{nibbles, options_ok}
use Rattle.machine.specs.Events.{Input, power, named, values_ok}
use Rattle.records.specs.Records.{kind_at, offsets}
use Rattle.script.specs.Format.{size_of, input_at}
use Rattle.script.specs.Check.{refused, unless, first_refused, first, format_at, value_of, choice_of, checked, value_at, choice_at, Checked}
use Rattle.script.proofs.Checks.{after1, after3, after4, after6, after7, after8, pass9}
use Rattle.records.proofs.Formats.{format-numbers}
use Rattle.records.proofs.Offsets.{few}

-- a number other than 9, and an answer with one
abbrev Other : ℕ → Type 0
Other n = n ≡ 9 → ⊥

either : (t : Bool) (x y : ℕ) → Other x → Other y → Other (pick t x y)
either true x y p q = p
either false x y p q = q

or_else : (a b : Checked) → Other a.number → Other b.number → Other (first_refused a b).number
or_else a b p q = go (eqb a.number 0)
  where
    go : (t : Bool) → Other (pick t b a).number
    go true = q
    go false = p

unless-other : (t : Bool) (n : ℕ) → Other n → Other (unless t n).number
unless-other true n p = λ e. omega arith
unless-other false n p = p

first-other : (rule : ℕ → ℕ) → ((at : ℕ) → Other (rule at)) → (l : List ℕ) → Other (first rule l).number
unfolding first
first-other rule p [] = λ e. omega arith
first-other rule p (at ∷ l) = go (eqb (rule at) 0) (first-other rule p l)
  where
    go : (t : Bool) → Other (first rule l).number → Other (pick t (first rule l) (refused (rule at) at)).number
    go true q = q
    go false q = p at

-- the three rules
format-other : (s : List ℕ) (at : ℕ) → Other (format_at s at)
unfolding format_at
format-other s at = format-numbers Other (λ e. omega arith) (λ e. omega arith) (λ e. omega arith) (size_of (input_at s at)) s at

value-other : (i : Input) → Other (value_of i)
unfolding value_of
value-other (power o image) = either (nibbles image) 0 3 (λ e. omega arith) (λ e. omega arith)
value-other (named (Some e)) = either (values_ok e) 0 3 (λ e. omega arith) (λ e. omega arith)
value-other (named None) = λ e. omega arith

choice-other : (i : Input) → Other (choice_of i)
unfolding choice_of
choice-other (power o image) = either (options_ok o) 0 4 (λ e. omega arith) (λ e. omega arith)
choice-other (named n) = λ e. omega arith

pub never-nine : (mask s : List ℕ) (room : ℕ) → 48 * 65535 ≤ room → (checked mask s room).number ≡ 9 → ⊥
unfolding checked
never-nine mask s room h =
    or_else (unless (sized mask) 1) (after1 mask s room) (unless-other (sized mask) 1 (λ e. omega arith))
    (go (leb (length s) 65535) refl)
  where
    last : leb (length s) 65535 ≡ true → Other (after4 mask s room).number
    last e n = omega (arith, sym (ap (λ (k : Checked). k.number) (pass9 mask s room (omega (arith, few s 0, leb-true (length s) 65535 e)))) ∙ n)

    go : (t : Bool) → leb (length s) 65535 ≡ t → Other (first_refused (unless t 6) (after6 mask s room)).number
    go false e = λ n. omega arith
    go true e =
        or_else (first (format_at s) (offsets s)) (after7 mask s room) (first-other (format_at s) (format-other s) (offsets s))
        (or_else (unless (eqb (kind_at s 0) 1) 8) (after8 mask s room) (unless-other (eqb (kind_at s 0) 1) 8 (λ e. omega arith))
        (or_else (first (value_at s) (offsets s)) (after3 mask s room) (first-other (value_at s) (λ at. value-other (input_at s at)) (offsets s))
        (or_else (first (choice_at s) (offsets s)) (after4 mask s room) (first-other (choice_at s) (λ at. choice-other (input_at s at)) (offsets s))
        (last e))))
