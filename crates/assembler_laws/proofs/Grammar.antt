-- What is read is what the grammar has: every operand is read (Full), what is read is an operand (Sound), which has one tree (Tree), and its terms
-- are worth what its tree is (Worth). Assumes nothing.
use mathlib.Core.Path.{◌≡◌, ap, subst, ◌∙◌}
use mathlib.Core.Bool.{false}
use mathlib.Core.List.{List}
use mathlib.Core.Option.{some}
use Rattle.mnemonic.specs.Spelling.{Token}
use Rattle.operand.specs.Operand.{Term, operand_of, plus, minus}
use Rattle.assembler_laws.specs.Grammar.{Tree, Operand, terms_of, Grammatical, value_in, Counts, Worth}
use Rattle.assembler_laws.proofs.Full.{read}
use Rattle.assembler_laws.proofs.Sound.{has}
use Rattle.assembler_laws.proofs.Tree.{one-tree}
use Rattle.assembler_laws.proofs.Worth.{tree-counts}

-- terms that are read are the tree's
its-terms : (ts : List Token) (terms : List Term) (t : Tree) → Operand 16 ts t → operand_of ts ≡ some terms → terms_of false t ≡ terms
its-terms ts terms t p e = let q = read ts t p in cc

pub grammatical : Grammatical
grammatical = record {
  sound = has;
  full = λ ts terms h. read ts h.tree h.operand ∙ ap some h.its-terms;
  only = one-tree;
}

pub worth : Worth
worth names addresses ts terms t p e =
    subst (λ (xs : List Term). Counts (plus names addresses xs) (minus names addresses xs) (value_in names addresses t)) (its-terms ts terms t p e)
    (tree-counts names addresses t)
