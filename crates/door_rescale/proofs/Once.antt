-- One outcome for each input.
--   rescales_unique   two outcomes that meet `Rescales` are equal
use mathlib.Core.Path.{◌≡◌, sym, ◌∙◌, subst}
use mathlib.Core.List.{List}
use Prim.Native.Nat.{ℕ}
use Rattle.base_answers.proofs.Limits.{six_unique}
use Rattle.field_open.specs.Refusal.{Accepted}
use Rattle.field_open.proofs.Door.{door_unique}
use Rattle.math_chain.proofs.Scaling.{number_unique}
use Rattle.unit_scale.specs.Scale.{Turned}
use Rattle.unit_scale.proofs.Turned.{turned_unique}
use Rattle.door_rescale.specs.Rescale.{Refused, Goes, unfit, turned, Rescales}

refused_unique : {rows : List ℕ} {n n' : ℕ} {r r' : List ℕ} (k : ℕ) → Refused rows n r k → Refused rows n' r' k → (n ≡ n') × (r ≡ r')
refused_unique k x y = (x.number ∙ sym y.number, x.kept ∙ sym y.kept)

module _ (p : ℕ) (G H : List ℕ) (i j : ℕ) (rows : List ℕ) (n n' : ℕ) (r r' : List ℕ) where
  goes_unique : Accepted p G H → Goes p G H i j rows n r → Goes p G H i j rows n' r' → (n ≡ n') × (r ≡ r')
  goes_unique A (unfit a x) (unfit b y) = refused_unique 14 x y
  goes_unique A (unfit a x) (turned k k' c e e' s z t) = absurd (a k k' c e e' s)
  goes_unique A (turned k k' c e e' s z t) (unfit b y) = absurd (b k k' c e e' s)
  goes_unique A (turned k k' c e e' s z t) (turned l l' d f f' s₂ z₂ t₂) =
      let way = number_unique l' k' (f' ∙ sym e') in
      let size = six_unique s₂.the_six_rows s.the_six_rows in
      (z ∙ sym z₂, turned_unique A s.holds t (subst (λ m. Turned m p G H c rows r') way (subst (λ m. Turned l' p G H m rows r') size t₂)))

  pub rescales_unique : Rescales p G H i j rows n r → Rescales p G H i j rows n' r' → (n ≡ n') × (r ≡ r')
  rescales_unique = door_unique refused_unique goes_unique
