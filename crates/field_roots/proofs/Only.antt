-- `SeriesOf` says the numbers: they are the first coefficients of the field's two series.
--   series_of_begins   r and w begin with the numbers of the lists
--   series_of_unique     two pairs of lists of one length that meet it are equal
--   series_of_reads    32 numbers of each are what the code's polynomial parts are made from
use mathlib.Core.Path.{◌≡◌, sym, ap, ap₂, ◌∙◌, subst}
use mathlib.Core.List.{List}
use Prim.Native.Nat.{ℕ, suc, ◌-◌, ◌<◌, ◌≤◌}
use Prim.Native.Nat as N
use native.Mathlib.Omega.{arith}
use lib.ListN.{length, get_or}
use lib.Seq.{ext_get_or}
use Rattle.base_lists.specs.Sums.{entry}
use Rattle.math_ring.specs.Ring.{CRing}
use Rattle.math_fp.specs.Fp.{Prime}
use Rattle.math_rows.specs.Reading.{Reading}
use Rattle.math_rows.specs.Made.{reading}
use Rattle.math_rows.specs.Row.{fall_at, Reads}
use Rattle.math_rows.proofs.Unique.{cast_inj, same_cast}
use Rattle.math_rows.proofs.Numbers.{cast_cube}
use Rattle.field_open.specs.Refusal.{Degree, Accepted}
use Rattle.field_roots.specs.First.{Begins}
use Rattle.field_roots.specs.SeriesOf.{top, SeriesOf}
use Rattle.field_roots.proofs.First.{convᵏ}
use Rattle.field_roots.proofs.Begin.{begins_row, begins_unique, begins_floor, cast_conv}
use Rattle.field_roots.proofs.Near.{pair_begins}
use Rattle.math_rows.proofs.Constants.{three≢, cube_inj}
use Rattle.field_roots.specs.Pair.{deg_r, deg_w}
use Rattle.field_roots.proofs.Root.{sizes, lead_r, lead_r_cube, lead_r_not, H_has, root_r_lem, root_w_lem, root_pair}

-- a list of coefficients, read from its leading one
pub top_is : {p d : ℕ} {l : List ℕ} → Degree p l d → (i : ℕ) → fall_at l d i ≡ top l i
top_is {p} {d} {l} h i = ap (λ m. fall_at l m i) (let w : length l ≡ suc d = h.whole in let e : d ≡ length l - 1 = omega arith in e)

pub top_lead : {p d : ℕ} {l : List ℕ} → Degree p l d → top l 0 ≡ get_or l d 0
unfolding fall_at
top_lead {p} {d} {l} h = sym (top_is h 0)

module _ {p : ℕ} {G H : List ℕ} (A : Accepted p G H) (pr : Prime p) where
  abbrev ρ : Reading p
  ρ = reading p pr

  open ρ use {𝓥, cast}
  open 𝓥 use {K}
  open K.ops use {add as ◌+ᵏ◌, mul as ◌*ᵏ◌}

  infixl 60 ◌+ᵏ◌
  infixl 70 ◌*ᵏ◌
  pub series_of_begins : {r w : List ℕ} → SeriesOf p G H r w
      → Begins (reading p pr) (length r) (λ i. (reading p pr).cast (entry r i)) (deg_r A.deg_g A.deg_h) (root_r_lem A pr)
      × Begins (reading p pr) (length r) (λ i. (reading p pr).cast (entry w i)) (deg_w A.deg_g A.deg_h) (root_w_lem A pr)
  series_of_begins {r} {w} s =
      pair_begins ρ (sizes A pr) (lead_r_not A pr) (three≢ ρ pr A.kind) (H_has A pr) (root_pair A pr) (length r) g h (λ i. cast (entry r i)) (λ i. cast (entry w i))
      (begins_row ρ (length r) A.deg_g G A.list_g.whole) (begins_row ρ (length r) A.deg_h H A.list_h.whole) first
      (λ i l. sym (cast_conv ρ i (entry r) (entry r)) ∙ same_cast ρ _ _ (s.square i l) ∙ cast_conv ρ i (top H) (entry w) ∙ ap (λ f. convᵏ ρ f (λ j. cast (entry w j)) i) (sym h_is))
      (λ i l. sym (cast_conv ρ i (entry r) (entry w)) ∙ same_cast ρ _ _ (s.product i l) ∙ cast_conv ρ i (top G) (top H) ∙ ap₂ (λ f k. convᵏ ρ f k i) (sym g_is) (sym h_is))
    where
      g : ℕ → K.El
      g i = cast (fall_at G A.deg_g i)

      h : ℕ → K.El
      h i = cast (fall_at H A.deg_h i)

      g_is : g ≡ (λ i. cast (top G i))
      g_is = ap (λ m. λ i. cast (fall_at G m i)) (let w : length G ≡ suc A.deg_g = A.list_g.whole in let e : A.deg_g ≡ length G - 1 = omega arith in e)

      h_is : h ≡ (λ i. cast (top H i))
      h_is = ap (λ m. λ i. cast (fall_at H m i)) (let w : length H ≡ suc A.deg_h = A.list_h.whole in let e : A.deg_h ≡ length H - 1 = omega arith in e)

      first : 0 < length r → cast (entry r 0) ≡ lead_r A pr
      first l =
          cube_inj ρ pr A.kind (cast (entry r 0)) (lead_r A pr)
          (sym (cast_cube ρ (entry r 0)) ∙ same_cast ρ _ _ (s.first l) ∙ ap₂ (λ x y. cast (N.◌*◌ x (N.◌*◌ y y))) (top_lead A.list_g) (top_lead A.list_h) ∙ sym (lead_r_cube A pr))

pub small_degrees : {p : ℕ} {G H : List ℕ} (A : Accepted p G H) → (deg_r A.deg_g A.deg_h ≤ 9) × (deg_w A.deg_g A.deg_h ≤ 9)
small_degrees A =
    let s : N.◌+◌ A.deg_g A.deg_h ≤ 16 = A.sum in
    let g : A.deg_g ≤ 12 = (let w = A.list_g.whole in let l = A.list_g.short in omega (arith, w, l)) in
    let h : A.deg_h ≤ 12 = (let w = A.list_h.whole in let l = A.list_h.short in omega (arith, w, l)) in
    (omega arith, omega arith)

pub series_of_reads : {p : ℕ} {G H r w : List ℕ} (A : Accepted p G H) (pr : Prime p) → SeriesOf p G H r w → length r ≡ 32
    → Reads (reading p pr) r (deg_r A.deg_g A.deg_h) (root_r_lem A pr) × Reads (reading p pr) w (deg_w A.deg_g A.deg_h) (root_w_lem A pr)
series_of_reads {p} {G} {H} {r} {w} A pr s e =
    let (a, b) = series_of_begins A pr s in
    (λ k l. begins_floor (reading p pr) (length r) k r (omega arith) l a, λ k l. begins_floor (reading p pr) (length r) k w (omega arith) l b)

pub series_of_unique : {p : ℕ} {G H : List ℕ} (r w r' w' : List ℕ) → Accepted p G H → SeriesOf p G H r w → SeriesOf p G H r' w' → length r ≡ length r' → (r ≡ r') × (w ≡ w')
series_of_unique {p} {G} {H} r w r' w' A s s' e =
    let pr : Prime p = A.prime in
    let (a, b) = series_of_begins A pr s in
    let (a', b') = series_of_begins A pr s' in (
      ext_get_or 0 r r' e (λ i l. cast_inj (reading p pr) (entry r i) (entry r' i) (s.r_below i l) (s'.r_below i (omega arith))
          (begins_unique (reading p pr) (length r) _ _ a (subst (λ n. Begins (reading p pr) n (λ i. (reading p pr).cast (entry r' i)) (deg_r A.deg_g A.deg_h) (root_r_lem A pr)) (sym e) a') i l)),
      (let u : length w ≡ length r = s.even in let u' : length w' ≡ length r' = s'.even in
          ext_get_or 0 w w' (u ∙ e ∙ sym u') (λ i l. cast_inj (reading p pr) (entry w i) (entry w' i) (s.w_below i (omega arith)) (s'.w_below i (omega arith))
          (begins_unique (reading p pr) (length r) _ _ b (subst (λ n. Begins (reading p pr) n (λ i. (reading p pr).cast (entry w' i)) (deg_w A.deg_g A.deg_h) (root_w_lem A pr)) (sym e) b') i (omega arith)))),
    )
