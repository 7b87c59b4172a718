-- Two outcomes of asking for an entry that meet the contract are equal: start, length, and the five numbers.
use mathlib.Core.Path.{◌≡◌, ◌∙◌, sym}
use mathlib.Core.List.{List}
use Prim.Native.Nat.{ℕ}
use Rattle.book_check.proofs.One.{ask_unique}
use Rattle.book_numbers.proofs.Same.{same_numbers}
use Rattle.book_place.specs.Place.{Place, found, none, AskSays}

place_unique : {s : List ℕ} {i a a' l l' : ℕ} → Place s i a l → Place s i a' l' → (a ≡ a') × (l ≡ l')
place_unique (found _ _ a l) (found _ _ a' l') = (a ∙ sym a', l ∙ sym l')
place_unique (none _ a l) (none _ a' l') = (a ∙ sym a', l ∙ sym l')
place_unique (found w h _ _) (none f _ _) = absurd (f w h)
place_unique (none f _ _) (found w h _ _) = absurd (f w h)

pub ask_says_unique : {s : List ℕ} {i a a' l l' : ℕ} {o o' : List ℕ} → AskSays s i a l o → AskSays s i a' l' o' → (a ≡ a') × (l ≡ l') × (o ≡ o')
ask_says_unique {s} t u =
    let w = place_unique t.place u.place in
    (w.0, w.1, same_numbers (ask_unique s t.tells u.tells) t.written u.written)
