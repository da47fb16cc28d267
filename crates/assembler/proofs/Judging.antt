-- The passes' findings as an answer, in their order. Assumes nothing.
use Prim.Native.Nat.{ℕ, zero, suc, ◌<◌, ◌≤◌}
use mathlib.Core.Path.{◌≡◌, refl, sym, subst, ap, ◌∙◌}
use mathlib.Core.List.{List, map}
use native.Mathlib.Omega.{arith}
use lib.ListN.{length, take}
use lib.Seq.{length-take-le, take_all}
use Rattle.std.specs.Prelude.{Result, Ok, Err}
use Rattle.refusals.specs.Numbers.{number_of}
use Rattle.refusals.specs.declared.Refusal.TheVariants as R
use Rattle.operand.specs.Read.{word_at}
use Rattle.assembler.specs.Statement.{Statement}
use Rattle.assembler.specs.Program as Program
use Rattle.assembler.specs.Program.{answer_to, end, first, image, judged, line, line_of, misfit, mislabelled, misplaced, refused}
use Rattle.assembler.specs.Program.{Answered, refusal, start, unread, written}
use Rattle.assembler.specs.Passing.{Collected, Refuses, Resolved, Settled, Unresolved, labels, places}
use Rattle.assembler.specs.declared.refused.Refused.{Refused}

found : (n k : ℕ) (o : Program.Answer) → 0 < k → judged n k o ≡ refused n k
found n zero o h = absurd (omega arith)
found n (suc k) o h = refl

none : (n k : ℕ) (o : Program.Answer) → k ≡ 0 → judged n k o ≡ o
none n zero o h = refl
none n (suc k) o h = absurd (omega arith)

module _ (answer : Program.Answer) (out : List ℕ) where
  pub refusing : (r : Refused) (n : ℕ) → number_of r.refusal ≡ n → answer ≡ refused n r.line → Answered answer out (Err r) out
  refusing r n h e = rw e (record { number = h; line = refl; bytes = refl })

module _ (ls : List Statement) (out : List ℕ) (r : Refused) (some_line : 0 < r.line) where
  pub first-12 : r.refusal ≡ R.Line → r.line ≡ first unread start 1 ls → Answered (answer_to ls) out (Err r) out
  first-12 w e = refusing (answer_to ls) out r 12 (ap number_of w) (rw (sym e) (found 12 r.line _ some_line))

  module _ (read : first unread start 1 ls ≡ 0) where
    pub then-14 : r.refusal ≡ R.Label → r.line ≡ first (mislabelled (end start ls).names) start 1 ls → Answered (answer_to ls) out (Err r) out
    then-14 w e = refusing (answer_to ls) out r 14 (ap number_of w) (none 12 _ _ read ∙ rw (sym e) (found 14 r.line _ some_line))

    module _ (labelled : first (mislabelled (end start ls).names) start 1 ls ≡ 0) where
      pub then-13 : r.refusal ≡ R.Operand → r.line ≡ first misplaced start 1 ls → Answered (answer_to ls) out (Err r) out
      then-13 w e = refusing (answer_to ls) out r 13 (ap number_of w)
          (none 12 _ _ read ∙ none 14 _ _ labelled ∙ rw (sym e) (found 13 r.line _ some_line))

      module _ (placed : first misplaced start 1 ls ≡ 0) where
        pub last-13 : r.refusal ≡ R.Operand → r.line ≡ first (misfit (end start ls)) start 1 ls → Answered (answer_to ls) out (Err r) out
        last-13 w e = refusing (answer_to ls) out r 13 (ap number_of w)
            (none 12 _ _ read ∙ none 14 _ _ labelled ∙ none 13 _ _ placed ∙ rw (sym e) (found 13 r.line _ some_line))

module _ (ls : List Statement) (out : List ℕ) (read : first unread start 1 ls ≡ 0) (labelled : first (mislabelled (end start ls).names) start 1 ls ≡ 0)
    (placed : first misplaced start 1 ls ≡ 0) where
  pub accepted : first (misfit (end start ls)) start 1 ls ≡ 0 → (after : List ℕ) → after ≡ image ls → Answered (answer_to ls) out (Ok tt) after
  accepted fits after e =
      let q : answer_to ls ≡ written (image ls) = none 12 _ _ read ∙ none 14 _ _ labelled ∙ none 13 _ _ placed ∙ none 13 _ _ fits in
      rw q (record { number = refl; line = refl; bytes = e })

-- the labels that the first pass notes, by themselves
pub settles : {text starts addresses : List ℕ} {n : ℕ} → Collected text starts (Ok n) → length text ≤ 65535 → length addresses ≡ 32768
    → Settled text (take n starts) addresses (length (take n starts))
settles {text} {starts} {addresses} {n} g short room =
    let m : length (take n starts) ≡ n = length-take-le n starts g.held in
    record {
      short = short;
      held = omega arith;
      room = omega (arith, m, g.held, g.room);
      most = omega arith;
      names = g.names refl ∙ ap (map (word_at text)) (sym (take_all (length (take n starts)) (take n starts) (omega arith)));
      read = sym g.line;
    }

pub answered-as : {a b : Program.Answer} {out after : List ℕ} {r : Result (Unit {0}) Refused} → a ≡ b → Answered b out r after → Answered a out r after
answered-as {a} {b} {out} {after} {r} e g = subst (λ (x : Program.Answer). Answered x out r after) (sym e) g

pub resolves : (ls : List Statement) (r : Result (Unit {0}) Refused) → first (mislabelled (end start ls).names) start 1 ls ≡ 0
    → line_of r ≡ first misplaced start 1 ls → Refuses R.Operand r → Resolved ls r
resolves ls (Ok x) l e h = l
resolves ls (Err r) l e h = places l h.0 h.1 e

pub unresolved : (ls : List Statement) (out : List ℕ) (r : Refused) → first unread start 1 ls ≡ 0 → Unresolved ls r
    → Answered (answer_to ls) out (Err r) out
unresolved ls out r read (labels w h e) = then-14 ls out r h read w e
unresolved ls out r read (places l w h e) = then-13 ls out r h read l w e
