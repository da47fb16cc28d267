-- A text from a position on as its first line and the rest. Assumes nothing.
use Prim.Native.Nat.{ℕ, suc, ◌+◌, ◌-◌, ◌<◌, ◌≤◌}
use mathlib.Core.Path.{◌≡◌, refl, sym, ap, ◌∙◌}
use mathlib.Core.Bool.{not}
use mathlib.Core.List.{List, [], ◌∷◌, map}
use native.Mathlib.Nat.{add-suc}
use native.Mathlib.Numerals.{add-one}
use native.Mathlib.Omega.{arith}
use lib.Dec.{eqb}
use lib.ListN.{length, drop, length-drop, take}
use lib.Seq.{drop-drop, take_all}
use Rattle.std.specs.List.{take_while}
use Rattle.std.proofs.lemmas.List.Sums.{take_while-cons}
use Rattle.operand.specs.Text.{LF, lines, tokens}
use Rattle.operand.specs.Read.{tokens_at, up_to_lf}
use Rattle.operand.proofs.Texts.{case}
use Rattle.assembler.specs.Statement.{Statement, statement}
use Rattle.assembler.specs.Passing.{line_end}

pub line-length : (s : List ℕ) → length (take_while (λ (c : ℕ). not (eqb c LF)) s) ≡ length (up_to_lf s)
line-length [] = refl
line-length (c ∷ s) = ap length (take_while-cons (λ (d : ℕ). not (eqb d LF)) c s)
    ∙ case (eqb c LF) (λ e. rw e refl) (λ e. rw e (ap suc (line-length s)))

pub line-stop : (at : ℕ) (text : List ℕ)
    → length (take_while (λ (c : ℕ). not (eqb c LF)) (take (length text - at) (drop at text))) ≡ length (up_to_lf (drop at text))
line-stop at text = rw (take_all (length text - at) (drop at text) (omega (arith, length-drop at text))) (line-length (drop at text))

up-to-short : (s : List ℕ) → length (up_to_lf s) ≤ length s
up-to-short [] = omega arith
up-to-short (c ∷ s) = case (eqb c LF) (λ e. rw e (omega arith)) (λ e. rw e (omega (arith, up-to-short s)))

lines-last : (s : List ℕ) → length (up_to_lf s) ≡ length s → lines s ≡ up_to_lf s ∷ []
lines-last [] h = refl
lines-last (c ∷ s) h = case (eqb c LF) (λ e. absurd (omega (arith, rw e at h))) (λ e. rw e (rw (lines-last s (omega (arith, rw e at h))) refl))

lines_more : (s : List ℕ) → length (up_to_lf s) < length s → lines s ≡ up_to_lf s ∷ lines (drop (suc (length (up_to_lf s))) s)
lines_more [] h = absurd (omega arith)
lines_more (c ∷ s) h = case (eqb c LF) (λ e. rw e refl) (λ e. rw e (rw (lines_more s (omega (arith, rw e at h))) refl))

abbrev pub program_at : List ℕ → ℕ → List Statement
program_at text at = map statement (map tokens (lines (drop at text)))

module _ (text : List ℕ) (at : ℕ) (within : at ≤ length text) where
  pub end-within : line_end text at ≤ length text
  end-within = omega (arith, up-to-short (drop at text), length-drop at text)

  pub last_line : line_end text at ≡ length text → program_at text at ≡ statement (tokens_at text at) ∷ []
  last_line e = ap (λ (ls : List (List ℕ)). map statement (map tokens ls)) (lines-last (drop at text) (omega (arith, length-drop at text)))

  pub next-line : line_end text at < length text → program_at text at ≡ statement (tokens_at text at) ∷ program_at text (line_end text at + 1)
  next-line h =
      let n = length (up_to_lf (drop at text)) in
      ap (λ (ls : List (List ℕ)). map statement (map tokens ls)) (lines_more (drop at text) (omega (arith, length-drop at text)))
      ∙ ap (λ (s : List ℕ). statement (tokens_at text at) ∷ map statement (map tokens (lines s)))
      (drop-drop (suc n) at text ∙ ap (λ (k : ℕ). drop k text) (add-suc at n ∙ sym (add-one (at + n))))
