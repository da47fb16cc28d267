-- A whole operand: what is read of it goes on to the end of the line, or it is none. Assumes nothing.
use Prim.Native.Nat.{ℕ, ◌<◌, ◌≤◌}
use mathlib.Core.Path.{◌≡◌, refl, sym, ap, ◌∙◌}
use mathlib.Core.Bool.{false}
use mathlib.Core.List.{List, [], ◌∷◌, ◌++◌, append-nil}
use mathlib.Core.Option.{none, some}
use borrow.Author.Tests.{le-leb, lt-leb}
use lib.ListN.{length}
use native.Mathlib.Omega.{arith}
use Rattle.std.specs.Prelude.{Some, None}
use Rattle.mnemonic.specs.Spelling.{Token}
use Rattle.operand.specs.Operand.{Term, followed, operand_of}
use Rattle.operand.specs.Read.{Lexed, OperandIs, OperandRead, befores, operand_at, tokens_at, valued}
use Rattle.operand.specs.declared.operands.Sum.{Sum}
use Rattle.operand.specs.declared.tokens.Kind.TheVariants.{End}
use Rattle.operand.specs.declared.tokens.Lexeme.{Lexeme}
use Rattle.operand.proofs.Terms.{befores-none}
use Rattle.operand.proofs.Texts.{at-end}
use Rattle.operand.proofs.TokenKinds.{as-end, as-over}

befores-some : (ts us : List Term) → befores ts (some us) ≡ some (ts ++ us)
befores-some [] us = refl
befores-some (t ∷ ts) us = rw (befores-some ts us) refl

pub short-read : (text : List ℕ) (at : ℕ) → length text ≤ 65535 → operand_at text at ≡ operand_of (tokens_at text at)
short-read text at h = rw (le-leb (length text) 65535 h) refl

module _ (text : List ℕ) (names : List (List ℕ)) (addresses : List ℕ) (at : ℕ) where
  nothing : operand_at text at ≡ none → None ≡ valued names addresses (operand_at text at)
  nothing q = sym (ap (valued names addresses) q)

  pub too_long : 65535 < length text → None ≡ valued names addresses (operand_at text at)
  too_long h = nothing (rw (lt-leb (length text) 65535 h) refl)

  module _ (short : length text ≤ 65535) where
    pub past-text : length text < at → None ≡ valued names addresses (operand_at text at)
    past-text h = nothing (short-read text at short ∙ ap operand_of (at-end text at (omega arith)))

    pub no_operand : OperandRead text names addresses at 16 false None → None ≡ valued names addresses (operand_at text at)
    no_operand f = nothing (short-read text at short ∙ f [] refl)

    module _ {r : Sum} (q : OperandIs text names addresses at 16 false r) {k : Lexeme} (x : Lexed text r.next k) where
      pub goes_further : (k.kind ≡ End → ⊥) → None ≡ valued names addresses (operand_at text at)
      goes_further g =
          nothing (short-read text at short ∙ q.reads [] refl ∙ ap (befores q.terms) (as-over x.next q.stops g false) ∙ befores-none q.terms)

      pub ends_there : k.kind ≡ End → Some r.value ≡ valued names addresses (operand_at text at)
      ends_there g =
          let whole : operand_at text at ≡ some q.terms = short-read text at short ∙ q.reads [] refl
          ∙ ap (λ (us : List Token). befores q.terms (followed us false [])) (as-end x.next g).0 ∙ befores-some q.terms []
          ∙ ap some (append-nil q.terms) in
          rw whole (rw (q.counts.missed, q.counts.added, q.counts.taken) refl)
