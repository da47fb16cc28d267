-- A reading as a person writes it: `dark`, 12.34, -0.50. Assumes nothing.
use Rattle.std.specs.Prelude.{ℕ, ◌+◌, ◌*◌, cond, List, [], ◌∷◌, ◌++◌, nat_abs}
use Prim.Native.Char.{code}
use Rattle.glass.specs.Pictures.{Digit}
use Rattle.glass.specs.Drawing.{fewest, digits_of, is_negative, fitting}
use Rattle.glass.specs.declared.Reading.{Reading}
use Rattle.glass.specs.declared.Reading.TheVariants.{Dark, Number}

-- the characters of digits, a point behind the one that has it lit
abbrev pub spelt : List Digit → List ℕ
spelt [] = []
spelt (d ∷ ds) = (code "0" + d.numeral) ∷ (cond d.pointed (code "." ∷ []) [] ++ spelt ds)

-- the digits that are drawn, and the minus
abbrev pub written : Reading → List ℕ
written Dark = code "d" ∷ code "a" ∷ code "r" ∷ code "k" ∷ []
written (Number value count) =
    cond (is_negative value) (code "-" ∷ []) [] ++ spelt (digits_of (fewest (nat_abs value) count) (nat_abs value) count)

-- the text of a reading. One that does not fit the glass has none: so a text has at most five characters, and eight bytes hold it
unfoldable pub text_of : Reading → List ℕ
text_of r = cond (fitting r) (written r) []

-- characters as the bytes of a number, the first lowest
abbrev pub packed : List ℕ → ℕ
packed [] = 0
packed (x ∷ xs) = x + 256 * packed xs
