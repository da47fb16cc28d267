-- The definition computed on examples: a letter first, two nibbles, and a bit's number in a word. Assumes nothing.
use mathlib.Core.Path.{◌≡◌, refl}
use Rattle.isa.specs.declared.Pointer.TheVariants.{R1R0}
use Rattle.isa.specs.declared.Condition.TheVariants.{Ja}
use Rattle.isa.specs.declared.Instruction.TheVariants as I
use Rattle.mnemonic.specs.Line.{line_of, text_of}
use Rattle.mnemonic.specs.Spelling.{codes}

add : text_of (I.AddAX 10) ≡ codes "ADD A,0AH"
unfolding line_of text_of
add = refl

pair : text_of (I.MovPairXX R1R0 5 10) ≡ codes "MOV R1R0,0A5H"
unfolding line_of text_of
pair = refl

bit : text_of (I.Branch (record { 0 = 0x1f0 }) (Ja 2)) ≡ codes "JA2 1F0H"
unfolding line_of text_of
bit = refl
