-- Numbers, lines and refusals of the rule book, written.
use mathlib.Core.Path.{◌≡◌, refl}
use mathlib.Core.List.{[], ◌∷◌}
use Rattle.text_put.specs.Print.{digits_of, number_text, join, list_text, line_text, refused_text}

-- "65519", "0" and "refused 12" with its newline
number_sample : number_text 65519 ≡ 54 ∷ 53 ∷ 53 ∷ 49 ∷ 57 ∷ []
unfolding number_text digits_of
number_sample = refl

zero_sample : number_text 0 ≡ 48 ∷ []
unfolding number_text digits_of
zero_sample = refl

refused_sample : refused_text 12 ≡ 114 ∷ 101 ∷ 102 ∷ 117 ∷ 115 ∷ 101 ∷ 100 ∷ 32 ∷ 49 ∷ 50 ∷ 10 ∷ []
unfolding refused_text number_text digits_of
refused_sample = refl

-- 5;4,0,0,1;1
line_sample : line_text 5 (4 ∷ 0 ∷ 0 ∷ 1 ∷ []) (1 ∷ []) ≡ 53 ∷ 59 ∷ 52 ∷ 44 ∷ 48 ∷ 44 ∷ 48 ∷ 44 ∷ 49 ∷ 59 ∷ 49 ∷ []
unfolding line_text list_text join number_text digits_of
line_sample = refl
