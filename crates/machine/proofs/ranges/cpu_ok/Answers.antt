-- `machine::ranges::cpu_ok` meets its contract: the groups' tests are the definition's, and a count has any value of its type. Assumes nothing.
use mathlib.Core.Path.{◌≡◌, refl, sym, ◌∙◌}
use mathlib.Core.Bool.{Bool, true, false, ◌&&◌}
use native.Mathlib.Omega.{arith}
use Rattle.machine.proofs.Grouped.{grouped}
use Rattle.machine.proofs.ranges.cpu_ok.Goals as goal
use Rattle.machine.proofs.ranges.cpu_ok.Goals.{then-nibbles_ok, else-nibbles_ok, then-flags_ok, else-flags_ok}

-- the last group's test, and a group's that fails
last : (n f p o : Bool) {N F P O : Bool} → n ≡ true → f ≡ true → p ≡ true → n ≡ N → f ≡ F → p ≡ P → o ≡ O → o ≡ N && (F && (P && O))
last n f p o a b d e g h i = i ∙ rw (sym e ∙ a, sym g ∙ b, sym h ∙ d) refl

first : (n : Bool) {N : Bool} (X : Bool) → n ≡ false → n ≡ N → false ≡ N && X
first n X a e = rw (sym e ∙ a) refl

second : (n f : Bool) {N F : Bool} (X : Bool) → n ≡ true → f ≡ false → n ≡ N → f ≡ F → false ≡ N && (F && X)
second n f X a b e g = rw (sym e ∙ a, sym g ∙ b) refl

third : (n f p : Bool) {N F P : Bool} (X : Bool) → n ≡ true → f ≡ true → p ≡ false → n ≡ N → f ≡ F → p ≡ P → false ≡ N && (F && (P && X))
third n f p X a b d e g h = rw (sym e ∙ a, sym g ∙ b, sym h ∙ d) refl

pub returns-then-addresses_ok : goal.returns-then-addresses_ok
returns-then-addresses_ok c =
    elim c.if-flags_ok.branch [
      | then-flags_ok v ↦ elim c.if-nibbles_ok.branch [
        | then-nibbles_ok w ↦
            last _ _ _ _ w.if-nibbles_ok.true (sym w.value-is ∙ v.if-flags_ok.true) (sym v.value-is ∙ c.if-addresses_ok.true)
            c.nibbles_ok.ensures w.flags_ok.ensures v.addresses_ok.ensures c.others_ok.ensures
            ∙ grouped c.args.c (omega arith) (omega arith)
        | else-nibbles_ok w ↦ absurd (contradicts v.if-flags_ok.true (w.value-is ∙ w.if-nibbles_ok.false))
      ]
      | else-flags_ok v ↦ absurd (contradicts c.if-addresses_ok.true (v.value-is ∙ v.if-flags_ok.false))
    ]
  where
    contradicts : {b : Bool} → b ≡ true → b ≡ false → ⊥
    contradicts p q = cc

pub returns-else-addresses_ok : goal.returns-else-addresses_ok
returns-else-addresses_ok c =
    c.if-addresses_ok.false
    ∙ elim c.if-nibbles_ok.branch [
      | then-nibbles_ok w ↦ elim c.if-flags_ok.branch [
        | then-flags_ok v ↦
            third _ _ _ _ w.if-nibbles_ok.true (sym w.value-is ∙ v.if-flags_ok.true) (sym v.value-is ∙ c.if-addresses_ok.false)
            c.nibbles_ok.ensures w.flags_ok.ensures v.addresses_ok.ensures
            ∙ grouped c.args.c (omega arith) (omega arith)
        | else-flags_ok v ↦
            second _ _ _ w.if-nibbles_ok.true (sym w.value-is ∙ v.if-flags_ok.false) c.nibbles_ok.ensures w.flags_ok.ensures
            ∙ grouped c.args.c (omega arith) (omega arith)
      ]
      | else-nibbles_ok w ↦ first _ _ w.if-nibbles_ok.false c.nibbles_ok.ensures ∙ grouped c.args.c (omega arith) (omega arith)
    ]
