-- Inputs and their lines, computed.
use mathlib.Core.Path.{◌≡◌, refl}
use mathlib.Core.List.{[], ◌∷◌}
use Rattle.text_cut.specs.Pieces.{pieces, ahead}
use Rattle.text_cut.specs.Lines.{whole, broken, ended, left, lines_in, lines_of}

-- no input, no lines; a last line without its newline is broken, and so is one longer than the limit; an empty line is a line
no_lines : lines_of 255 [] ≡ []
unfolding lines_of lines_in left pieces
no_lines = refl

two_lines : lines_of 2 (53 ∷ 53 ∷ 10 ∷ 53 ∷ 53 ∷ 53 ∷ 10 ∷ 10 ∷ 53 ∷ []) ≡ whole (53 ∷ 53 ∷ []) ∷ broken ∷ whole [] ∷ broken ∷ []
unfolding lines_of lines_in left ended pieces ahead
two_lines = refl
