-- What `assemble` promises: the answers to a text, in document 02's order, wish 4, and the bytes. A reader believes this file, Statement and Forms, and
-- operand's Text, Words and Operand. Assumes nothing.
use Rattle.std.specs.Prelude.{ℕ, zero, suc, ◌+◌, ◌-◌, ◌≡◌, Bool, true, false, ◌&&◌, ◌||◌, not, List, [], ◌∷◌, ◌++◌, map, eqb, leb, ltb, length, replicate}
use Rattle.std.specs.Prelude.{Result, Ok, Err}
use Rattle.std.proofs.Math.Option.{Option, none, some}
use Rattle.std.proofs.lemmas.List.Edits.{sets}
use Rattle.isa.specs.Choice.{pick}
use Rattle.isa.specs.Code.{bytes_of}
use Rattle.isa.specs.declared.Instruction.{Instruction}
use Rattle.rom.specs.Fetching.{moved_by}
use Rattle.operand.specs.Text.{lines, tokens}
use Rattle.operand.specs.Words.{among}
use Rattle.operand.specs.Operand.{Term, minus, missing, plus}
use Rattle.assembler.specs.Forms.{field, reaches, size, rom_size}
use Rattle.assembler.specs.Statement.{Statement, unreadable, blank, org, mnemonic, statement}
use Rattle.refusals.specs.Numbers.{number_of}
use Rattle.assembler.specs.declared.refused.Refused.{Refused}

abbrev pub program : List ℕ → List Statement
program text = map statement (map tokens (lines text))

-- What stands above a line: the symbol table (labels and their addresses), the location counter (the address that comes next), and the addresses that
-- are written.
pub record Above : Type 0 where
  pub names : List (List ℕ)
  pub addresses : List ℕ
  pub at : ℕ
  pub written : List ℕ

-- "The first address is 0"
abbrev pub start : Above
start = record { names = []; addresses = []; at = 0; written = [] }

abbrev pub label_of : Statement → Option (List ℕ)
label_of unreadable = none
label_of blank = none
label_of (org l ts) = l
label_of (mnemonic l f ts) = l

abbrev pub size_of : Statement → ℕ
size_of unreadable = 0
size_of blank = 0
size_of (org l ts) = 0
size_of (mnemonic l f ts) = size f

-- the line's address: "on an ORG line it has the new address"; an ORG below 0 is refused at that line, so what it gives there is never used
abbrev pub address_of : Above → Statement → ℕ
address_of s unreadable = s.at
address_of s blank = s.at
address_of s (org l ts) = plus s.names s.addresses ts - minus s.names s.addresses ts
address_of s (mnemonic l f ts) = s.at

-- one of these where there is a label
abbrev pub if_labelled : {A : Type 0} → Option (List ℕ) → A → List A
if_labelled none a = []
if_labelled (some w) a = a ∷ []

abbrev pub named : Option (List ℕ) → List (List ℕ)
named none = []
named (some w) = w ∷ []

-- so many addresses from one on
abbrev pub span : ℕ → ℕ → List ℕ
span a zero = []
span a (suc n) = a ∷ span (suc a) n

unfoldable pub next : Above → Statement → Above
next s l = record {
  names = s.names ++ named (label_of l);
  addresses = s.addresses ++ if_labelled (label_of l) (address_of s l);
  at = address_of s l + size_of l;
  written = s.written ++ span (address_of s l) (size_of l);
}

-- what stands above the end
abbrev pub end : Above → List Statement → Above
end s [] = s
end s (l ∷ ls) = end (next s l) ls

-- "the first such line (from 1)", 0 where there is none; this one has the number n
abbrev pub first : (Above → Statement → Bool) → Above → ℕ → List Statement → ℕ
first bad s n [] = 0
first bad s n (l ∷ ls) = pick (bad s l) n (first bad (next s l) (suc n) ls)

-- "12 a line that cannot be read"
abbrev pub unread : Above → Statement → Bool
unread s unreadable = true
unread s blank = false
unread s (org l ts) = false
unread s (mnemonic l f ts) = false

abbrev pub again : List (List ℕ) → Option (List ℕ) → Bool
again names none = false
again names (some w) = among names w

-- "14 a label missing, not above its ORG or defined again"
abbrev pub mislabelled : List (List ℕ) → Above → Statement → Bool
mislabelled all s unreadable = false
mislabelled all s blank = false
mislabelled all s (org l ts) = missing s.names ts || again s.names l
mislabelled all s (mnemonic l f ts) = missing all ts || again s.names l

-- whether what is added less what is taken away is a whole number from 0 to n - 1
abbrev pub within : ℕ → ℕ → ℕ → Bool
within n added taken = leb taken added && ltb (added - taken) n

abbrev pub is_in : List ℕ → ℕ → Bool
is_in [] a = false
is_in (b ∷ bs) a = eqb b a || is_in bs a

abbrev pub meets : List ℕ → List ℕ → Bool
meets written [] = false
meets written (a ∷ more) = is_in written a || meets written more

-- "13 an ORG outside 0 to 4,095, a byte past 4,095 or written twice"
abbrev pub misplaced : Above → Statement → Bool
misplaced s unreadable = false
misplaced s blank = false
misplaced s (org l ts) = not (within rom_size (plus s.names s.addresses ts) (minus s.names s.addresses ts))
misplaced s (mnemonic l f ts) = ltb rom_size (s.at + size f) || meets s.written (span s.at (size f))

-- a value in its field, and a branch that fits
abbrev pub fitting : ℕ → (ℕ → Instruction) → ℕ → ℕ → Bool
fitting at f added taken = within (field f) added taken && reaches f (moved_by (size f) at) (added - taken)

-- "13 any other value outside its field, or a branch that does not fit", where `whole` has all labels
abbrev pub misfit : Above → Above → Statement → Bool
misfit whole s unreadable = false
misfit whole s blank = false
misfit whole s (org l ts) = false
misfit whole s (mnemonic l f ts) = not (fitting s.at f (plus whole.names whole.addresses ts) (minus whole.names whole.addresses ts))

-- the line's instruction; `misfit` has refused a value below 0
abbrev pub instruction : Above → (ℕ → Instruction) → List Term → Instruction
instruction whole f ts = f (plus whole.names whole.addresses ts - minus whole.names whole.addresses ts)

abbrev pub bytes : Above → Statement → List ℕ
bytes whole unreadable = []
bytes whole blank = []
bytes whole (org l ts) = []
bytes whole (mnemonic l f ts) = bytes_of (instruction whole f ts)

-- each line's bytes at its address; an ORG, whose address is not the next one, has none
abbrev pub put : Above → Above → List Statement → List ℕ → List ℕ
put whole s [] out = out
put whole s (l ∷ ls) out = put whole (next s l) ls (sets out s.at (bytes whole l))

-- "Bytes not written are 3E. The result has 4,096 bytes"
abbrev pub image : List Statement → List ℕ
image ls = put (end start ls) start ls (replicate rom_size 0x3e)

-- refused with a number at a line, or the bytes
pub data Answer : Type 0 where
  refused : ℕ → ℕ → Answer
  written : List ℕ → Answer

-- refused at a line that is found, else as follows
abbrev pub judged : ℕ → ℕ → Answer → Answer
judged n zero otherwise = otherwise
judged n (suc line) otherwise = refused n (suc line)

-- "in this order over the whole text, each with the first such line (from 1)"
abbrev pub answer_to : List Statement → Answer
answer_to ls = judged 12 (first unread start 1 ls)
    (judged 14 (first (mislabelled (end start ls).names) start 1 ls)
    (judged 13 (first misplaced start 1 ls)
    (judged 13 (first (misfit (end start ls)) start 1 ls)
    (written (image ls)))))

-- "12 .. or the text too long (line 1)"
unfoldable pub assembled : List ℕ → Answer
assembled text = pick (ltb 65535 (length text)) (refused 12 1) (answer_to (program text))

-- "after 2 for a result buffer not 4,096"; it has no line, so 0
unfoldable pub answered : List ℕ → List ℕ → Answer
answered text out = pick (eqb (length out) rom_size) (assembled text) (refused 2 0)

-- the number, the line, and the lent bytes then: "Nothing is written" where it is refused (document 01)
abbrev pub refusal : Answer → ℕ
refusal (refused n line) = n
refusal (written out) = 0

abbrev pub line : Answer → ℕ
line (refused n k) = k
line (written out) = 0

abbrev pub left : Answer → List ℕ → List ℕ
left (refused n k) out = out
left (written bs) out = bs

-- the number of a refusal that is given, and its line; 0 where there is none
abbrev pub number_given : {A : Type 0} → Result A Refused → ℕ
number_given (Ok x) = 0
number_given (Err r) = number_of r.refusal

abbrev pub line_of : {A : Type 0} → Result A Refused → ℕ
line_of (Ok x) = 0
line_of (Err r) = r.line

-- what `assemble` promises: the refusal and the line that it gives, and the lent bytes as it leaves them
pub record Answered (answer : Answer) (out : List ℕ) (r : Result (Unit {0}) Refused) (after : List ℕ) : Type 0 where
  pub number : number_given r ≡ refusal answer
  pub line : line_of r ≡ line answer
  pub bytes : after ≡ left answer out
