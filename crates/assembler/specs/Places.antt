-- The lines of a text as the passes take them, each by its place. For contracts inside this crate. Assumes nothing.
use Rattle.std.specs.Prelude.{ℕ, suc, ◌-◌, ◌≡◌, List, length, Option, Some, None}
use Rattle.assembler.specs.Passing.{following}
use Rattle.assembler.specs.declared.places.Place.{Place}
use Rattle.assembler.specs.declared.places.Places.{Places}

abbrev pub after : List ℕ → Option Place → Option Place
after text None = None
after text (Some p) = following text p

-- the line that comes after the last one given: the first line, before any
abbrev pub coming : List ℕ → Option Place → Option Place
coming text None = Some (record { at = 0; number = 1 })
coming text (Some p) = following text p

-- the line that comes, and then the one after it
abbrev pub Steps : Places → Option Place → Places → Type 0
Steps s r t =
    (r ≡ coming s.text.now s.last) × (t.text.now ≡ s.text.now) × (coming t.text.now t.last ≡ after s.text.now (coming s.text.now s.last))

-- no more lines than characters, and one
abbrev pub left : List ℕ → Option Place → ℕ
left text None = 0
left text (Some p) = suc (length text - p.at)
