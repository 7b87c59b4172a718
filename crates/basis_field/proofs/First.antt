-- The record of the order, in an opened field.
--   order_by, based_by   what is prepared of p in place of p
--   first_in      an opened field meets what `basis_scale::order` asks
--   is_first      what it hands out is the record of the order
--   first_unique     the order has one record
use mathlib.Core.Path.{◌≡◌, sym, subst}
use mathlib.Core.List.{List}
use Prim.Native.Nat.{ℕ, ◌+◌, ◌≤◌}
use native.Mathlib.Omega.{arith}
use Rattle.field_open.specs.Refusal.{Accepted}
use Rattle.math_ideals.specs.Next.{Start}
use Rattle.math_chain.proofs.Closing.{start_unique}
use Rattle.basis_record.specs.Record.{setting, basis_of, IsRecord}
use Rattle.basis_record.proofs.Unique.{basis_unique}
use Rattle.num_mod.specs.Prepared.{PreparedOf, ready}
use Rattle.num_mod.specs.declared.Modulus.{Modulus}
use Rattle.basis_parts.specs.Frame.{frame}
use Rattle.basis_finish.specs.Based.{Based}
use Rattle.basis_scale.specs.First.{OrderAsks, units, unit, nothing}
use Rattle.basis_scale.proofs.Start.{order_start}
use Rattle.field_series.specs.Keeps.{Keeps}
use Rattle.basis_field.specs.First.{IsFirst}
use Rattle.basis_field.proofs.Keeps.{dr_is, dw_is, odd, room, r_series, w_series}
use Rattle.basis_field.proofs.Ground.{frame_by, frame_is, fine, meaning_of}

-- what is prepared of p in place of p
module _ {p : ℕ} {q : Modulus} (e : PreparedOf p q) {r w : List ℕ} {dr dw : ℕ} where
  pub order_by : {top : ℕ} → OrderAsks (frame (ready p) r w dr dw) top → OrderAsks (frame q r w dr dw) top
  order_by {top} i = subst (λ F. OrderAsks F top) (frame_by e r w dr dw) i

  pub based_by : {B : List ℕ} → Based (frame q r w dr dw) units unit nothing nothing B → Based (frame (ready p) r w dr dw) units unit nothing nothing B
  based_by {B} b = subst (λ F. Based F units unit nothing nothing B) (sym (frame_by e r w dr dw)) b

module _ {p : ℕ} {G H g h gh : List ℕ} {dr dw : ℕ} {r w : List ℕ} (k : Keeps p G H g h gh dr dw r w) where
  abbrev A₀ : Accepted p G H
  A₀ = k.accepted

  pub first_in : OrderAsks (frame (ready p) r w dr dw) (dr + dw + 1)
  first_in =
      let s : dr + dw ≤ 16 = room k in
      let er : dr ≡ (setting A₀).roots.dr = dr_is k A₀ in
      let ew : dw ≡ (setting A₀).roots.dw = dw_is k A₀ in
      subst (λ F. OrderAsks F (dr + dw + 1)) (frame_is k A₀)
      (record { fine = fine k A₀; small = A₀.high; odd = odd k; top_is = omega arith; fits = omega arith; some = meaning_of k A₀ })

  pub is_first : {B : List ℕ} → Based (frame (ready p) r w dr dw) units unit nothing nothing B → IsFirst p G H B
  is_first {B} b =
      let st : (A : Accepted p G H) → Start (setting A) (basis_of A B) =
      λ A. order_start A r w (r_series k A) (w_series k A) B (subst (λ F. Based F units unit nothing nothing B) (sym (frame_is k A)) b) in
      record { is_a_record = record { size = b.size; each = b.each; good = λ A. (st A).good }; start = st }

pub first_unique : {p : ℕ} {G H : List ℕ} (A : Accepted p G H) (B B' : List ℕ) → IsFirst p G H B → IsFirst p G H B' → B ≡ B'
first_unique A B B' h h' = basis_unique A B B' h.is_a_record h'.is_a_record (start_unique (setting A) (basis_of A B) (basis_of A B') (h.start A) (h'.start A))
