-- To agree is an equivalence on lists of coefficients; `agree_sym` is in Lists.
--   monic_unique   a list is made monic in one way
--   agree_refl, agree_trans
use mathlib.Core.Path.{◌≡◌, refl, sym, ◌∙◌, subst}
use mathlib.Core.List.{List}
use Prim.Native.Nat.{ℕ}
use lib.ListN.{get_or}
use lib.Seq.{ext_get_or}
use Rattle.base_lists.specs.Coefficients.{Coefficients}
use Rattle.math_fp.specs.Fp.{Prime}
use Rattle.math_valued.proofs.Degree.{k_cancel}
use Rattle.math_rows.specs.Reading.{Reading}
use Rattle.math_rows.specs.Made.{reading}
use Rattle.math_rows.proofs.Unique.{cast_inj, same_cast}
use Rattle.pair_laws.specs.OneField.{leading, Monic, Agree}
use Rattle.pair_laws.proofs.Lists.{leading_not, agree_of}

module _ (p : ℕ) (pr : Prime p) where
  abbrev ρ : Reading p
  ρ = reading p pr

  open ρ use {𝓥, cast}

  pub monic_unique : {l m m' : List ℕ} {n most : ℕ} → Coefficients most p l n → Monic p l m → Monic p l m' → m ≡ m'
  monic_unique {l} {m} {m'} h a b = ext_get_or 0 m m' (a.long ∙ sym b.long) (λ i k. cast_inj ρ (get_or m i 0) (get_or m' i 0) (a.below i) (b.below i)
      (k_cancel 𝓥 (cast (leading l)) (cast (get_or m i 0)) (cast (get_or m' i 0)) (leading_not p pr h)
      (sym (ρ.cast_mul (leading l) (get_or m i 0)) ∙ same_cast ρ _ _ (a.times i ∙ sym (b.times i)) ∙ ρ.cast_mul (leading l) (get_or m' i 0))))

  pub agree_trans : {l l' l'' : List ℕ} {n most : ℕ} → Coefficients most p l' n → Agree p l l' → Agree p l' l'' → Agree p l l''
  agree_trans {l'' = l''} h (m, a, b) (m', c, d) = (m, a, subst (λ z. Monic p l'' z) (sym (monic_unique h b c)) d)

  pub agree_refl : {l : List ℕ} {n most : ℕ} → Coefficients most p l n → Agree p l l
  agree_refl {l} h = agree_of p pr h l (record { long = refl; cross = λ i. refl })
