-- What the readers' answers say of a text at a position: for contracts inside operand and assembler. What `assemble` promises needs none of it.
-- Assumes nothing.
use Rattle.std.specs.Prelude.{ℕ, zero, suc, ◌+◌, ◌*◌, ◌≤◌, ◌<◌, ◌≡◌, Bool, true, false, ◌&&◌, not, List, [], ◌∷◌, map, eqb, ltb, leb, get_or, length, take, drop}
use Rattle.std.specs.Prelude.{Option, Some, None}
use Prim.Native.Char.{code}
use Rattle.std.proofs.Math.Option.{none, some}
use Rattle.std.proofs.Math.Option as Math
use Rattle.isa.specs.Choice.{pick}
use Rattle.mnemonic.specs.Spelling.{Token, letters, mark, operand}
use Rattle.operand.specs.Text.{LF, in_word, is_digit, tokens}
use Rattle.operand.specs.Words.{among, digit_value, first, fixed_words, is_fixed, place}
use Rattle.operand.specs.Operand.{Term, before, deepest, followed, minus, missing, operand_of, plus, wanted}
use Rattle.operand.specs.declared.tokens.Kind.{Kind}
use Rattle.operand.specs.declared.tokens.Kind.TheVariants.{End, Label, Number, Fixed, Sign}
use Rattle.operand.specs.declared.tokens.Lexeme.{Lexeme}
use Rattle.operand.specs.declared.operands.Sum.{Sum}
use Rattle.operand.specs.declared.operands.Value.{Value}

-- a line from a position on: up to its LF
abbrev pub up_to_lf : List ℕ → List ℕ
up_to_lf [] = []
up_to_lf (c ∷ s) = pick (eqb c LF) [] (c ∷ up_to_lf s)

abbrev pub tokens_at : List ℕ → ℕ → List Token
tokens_at text at = tokens (up_to_lf (drop at text))

-- the word that a text starts with
abbrev pub run : List ℕ → List ℕ
run [] = []
run (c ∷ s) = pick (in_word c) (c ∷ run s) []

abbrev pub word_at : List ℕ → ℕ → List ℕ
word_at text at = run (drop at text)

-- how many spaces a text starts with
abbrev pub spaces : List ℕ → ℕ
spaces [] = zero
spaces (c ∷ s) = pick (eqb c (code " ")) (suc (spaces s)) zero

abbrev pub past_spaces : List ℕ → ℕ → ℕ
past_spaces text at = at + spaces (drop at text)

-- a word as a number, its first character the lowest
abbrev pub packed : List ℕ → ℕ
packed [] = 0
packed (c ∷ s) = c + 256 * packed s

abbrev pub place_of : List ℕ → ℕ → ℕ
place_of [] x = zero
place_of (y ∷ ys) x = pick (eqb y x) zero (suc (place_of ys x))

-- where a word stands among others
abbrev pub found_in : List (List ℕ) → List ℕ → Option ℕ
found_in ws w = pick (among ws w) (Some (place ws w)) None

-- a word that starts with a digit, a fixed word, or another
unfoldable pub word_kind : List ℕ → Kind
word_kind w = pick (is_digit (first w)) Number (pick (is_fixed w) (Fixed (place fixed_words w)) Label)

-- a token by one number: 128 and its place for a fixed word, 2 for another that starts with a letter, 3 for one that starts with a digit; a sign's
-- character, 0 where it is none that is printed
unfoldable pub sign_kind : ℕ → ℕ
sign_kind c = pick (ltb (code " ") c && ltb c 128) c 0

abbrev pub number_of_kind : Kind → ℕ
number_of_kind End = 1
number_of_kind Label = 2
number_of_kind Number = 3
number_of_kind (Fixed k) = 128 + k
number_of_kind (Sign c) = sign_kind c

abbrev pub kind_of : Token → ℕ
kind_of (letters w) = number_of_kind (word_kind w)
kind_of (mark c) = sign_kind c
kind_of (operand n v) = 0

-- the next token: past the spaces stands the end of the line, which is also past the end of the text, a word or a sign
abbrev pub lexeme_from : List ℕ → ℕ → Lexeme
lexeme_from text at = pick (eqb (get_or text at LF) LF) (record { kind = End; start = at; next = at })
    (pick (in_word (get_or text at LF)) (record { kind = word_kind (word_at text at); start = at; next = at + length (word_at text at) })
    (record { kind = Sign (get_or text at LF); start = at; next = at + 1 }))

abbrev pub lexeme_at : List ℕ → ℕ → Lexeme
lexeme_at text at = lexeme_from text (past_spaces text at)

-- what the next token is, of these
pub data Next (text : List ℕ) (ts : List Token) (r : Lexeme) : Type 0 where
  ended : ts ≡ [] → r.kind ≡ End → get_or text r.next LF ≡ LF → Next text ts r
  word : ts ≡ letters (word_at text r.start) ∷ tokens_at text r.next → r.kind ≡ word_kind (word_at text r.start)
      → r.next ≡ r.start + length (word_at text r.start) → r.start < length text → in_word (get_or text r.start 0) ≡ true → Next text ts r
  sign : (c : ℕ) → ts ≡ mark c ∷ tokens_at text r.next → r.kind ≡ Sign c → Next text ts r

pub record Lexed (text : List ℕ) (at : ℕ) (r : Lexeme) : Type 0 where
  pub from : at ≤ r.start
  pub starts : r.start ≤ r.next
  pub within : r.next ≤ length text
  pub moves : (r.kind ≡ End → ⊥) → r.start < r.next
  pub next : Next text (tokens_at text at) r

-- what code gives, where a definition has or lacks a value
abbrev pub given : {A : Type 0} → Math.Option A → Option A
given none = None
given (some x) = Some x

abbrev pub digit_in : ℕ → ℕ → Option ℕ
digit_in base c = pick (ltb (digit_value c) base) (Some (digit_value c)) None

-- the labels' words, by the places where they start
abbrev pub names_of : List ℕ → List ℕ → List (List ℕ)
names_of text starts = map (word_at text) starts

abbrev pub names_at : List ℕ → List ℕ → ℕ → List (List ℕ)
names_at text starts count = names_of text (take count starts)

abbrev pub address_in : List (List ℕ) → List ℕ → List ℕ → Option ℕ
address_in names addresses w = pick (among names w) (Some (get_or addresses (place names w) 0)) None

abbrev pub befores : List Term → Math.Option (List Term) → Math.Option (List Term)
befores [] rest = rest
befores (t ∷ ts) rest = before t (befores ts rest)

-- no sum or difference goes on here
abbrev pub Stops : List Token → Type 0
Stops [] = Unit {0}
Stops (letters w ∷ ts) = Unit {0}
Stops (operand n v ∷ ts) = Unit {0}
Stops (mark c ∷ ts) = (eqb c (code "+") ≡ false) × (eqb c (code "-") ≡ false)

-- what is counted of terms read from one place to another
pub record Counts (names : List (List ℕ)) (addresses : List ℕ) (at : ℕ) (terms : List Term) (r : Sum) : Type 0 where
  pub added : r.value.plus ≡ plus names addresses terms
  pub taken : r.value.minus ≡ minus names addresses terms
  pub missed : r.value.missing ≡ missing names terms
  pub low : r.value.plus + 65535 * at ≤ 65535 * r.next
  pub less : r.value.minus + 65535 * at ≤ 65535 * r.next

-- a part of an operand that is wanted at a position, with so much depth left
pub record PartIs (text : List ℕ) (names : List (List ℕ)) (addresses : List ℕ) (at depth : ℕ) (taken : Bool) (r : Sum) : Type 0 where
  pub terms : List Term
  pub counts : Counts names addresses at terms r
  pub from : at ≤ r.next
  pub within : r.next ≤ length text
  pub reads : (here : Bool) (outer : List Bool) → length outer + depth ≡ deepest
      → wanted (tokens_at text at) taken here outer ≡ befores terms (followed (tokens_at text r.next) here outer)

abbrev pub PartRead : List ℕ → List (List ℕ) → List ℕ → ℕ → ℕ → Bool → Option Sum → Type 0
PartRead text names addresses at depth taken None =
    (here : Bool) (outer : List Bool) → length outer + depth ≡ deepest → wanted (tokens_at text at) taken here outer ≡ none
PartRead text names addresses at depth taken (Some r) = PartIs text names addresses at depth taken r

-- a whole operand there, in a parenthesis that is taken away or not
pub record OperandIs (text : List ℕ) (names : List (List ℕ)) (addresses : List ℕ) (at depth : ℕ) (taken : Bool) (r : Sum) : Type 0 where
  pub terms : List Term
  pub counts : Counts names addresses at terms r
  pub from : at ≤ r.next
  pub within : r.next ≤ length text
  pub stops : Stops (tokens_at text r.next)
  pub reads : (outer : List Bool) → length outer + depth ≡ deepest
      → wanted (tokens_at text at) taken taken outer ≡ befores terms (followed (tokens_at text r.next) taken outer)

abbrev pub OperandRead : List ℕ → List (List ℕ) → List ℕ → ℕ → ℕ → Bool → Option Sum → Type 0
OperandRead text names addresses at depth taken None =
    (outer : List Bool) → length outer + depth ≡ deepest → wanted (tokens_at text at) taken taken outer ≡ none
OperandRead text names addresses at depth taken (Some r) = OperandIs text names addresses at depth taken r

-- whether what follows a sign is taken away, if an operand goes on with it
abbrev pub going_on : Kind → Bool → Option Bool
going_on End all = None
going_on Label all = None
going_on Number all = None
going_on (Fixed k) all = None
going_on (Sign c) all = pick (eqb c (code "+")) (Some all) (pick (eqb c (code "-")) (Some (not all)) None)

-- the operand of a line from a position on; none is read of a text of more than 65,535 bytes
abbrev pub operand_at : List ℕ → ℕ → Math.Option (List Term)
operand_at text at = pick (leb (length text) 65535) (operand_of (tokens_at text at)) none

-- what it counts
abbrev pub valued : List (List ℕ) → List ℕ → Math.Option (List Term) → Option Value
valued names addresses none = None
valued names addresses (some terms) =
    Some (record { missing = missing names terms; plus = plus names addresses terms; minus = minus names addresses terms })

-- a term by itself, whose value a missing label lacks
abbrev pub single_of : Option ℕ → Bool → Value
single_of None taken = record { missing = true; plus = 0; minus = 0 }
single_of (Some v) taken = record { missing = false; plus = pick taken 0 v; minus = pick taken v 0 }
