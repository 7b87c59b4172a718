-- Rows that fit 16 bits, and the element of the order that three rows hold.
--   storable, row_stored, stored_g, stored_h, stored_gh   the rows of G, H, G H of an opened field fit 16 bits
--   list_top                                              the last number of a trimmed list is not 0
--   six_path                                              an element by its three rows
use mathlib.Core.Path.{◌≡◌, ap, ◌∙◌}
use mathlib.Core.Logic.{◌≢◌}
use mathlib.Core.List.{List}
use Prim.Native.Nat.{ℕ, suc, ◌+◌, ◌-◌, ◌<◌, ◌≤◌}
use native.Mathlib.Omega.{arith}
use lib.ListN.{get_or}
use Rattle.math_rows.specs.Reading.{Reading}
use Rattle.math_rows.specs.Made.{reading}
use Rattle.math_rows.specs.Row.{Row, Size, row}
use Rattle.field_open.specs.Refusal.{Accepted}
use Rattle.math_ideals.specs.Element.{O}
use Rattle.math_ideals.proofs.Sizes.{O_path}
use Rattle.math_valued.proofs.Polynomial.{P_path}
use Rattle.basis_record.specs.Record.{setting}
use Rattle.field_series.specs.Keeps.{Keeps}
use Rattle.basis_field.proofs.Keeps.{g_row, h_row, gh_row}
use Rattle.poly_long.specs.Long.{Storable, Stored}
use Rattle.unit_rows.specs.Six.{cut}
use Rattle.unit_finish.specs.Rows.{six}

pub storable : {p : ℕ} {G H : List ℕ} → Accepted p G H → Storable p
storable {p} A = let u : p ≤ 65535 = A.high in record { prime = A.prime; small = omega arith }

pub row_stored : {p : ℕ} {x : List ℕ} → Storable p → Row p x → Stored x
row_stored {p} {x} s h = record { size = h.size; each = λ i. let l : get_or x i 0 < p = h.each i in let u : p < 65536 = s.small in omega arith }

-- the rows that an opened field keeps
module _ {p : ℕ} {G H g h gh : List ℕ} {dr dw : ℕ} {r w : List ℕ} (k : Keeps p G H g h gh dr dw r w) where
  pub stored_g : Stored g
  stored_g = row_stored (storable k.accepted) (g_row k)

  pub stored_h : Stored h
  stored_h = row_stored (storable k.accepted) (h_row k)

  pub stored_gh : Stored gh
  stored_gh = row_stored (storable k.accepted) (gh_row k)

-- ---- leading coefficients of lists
module _ {p : ℕ} (ρ : Reading p) (l : List ℕ) (each : (i : ℕ) → get_or l i 0 < p) where
  open ρ use {𝓥, cast}

  pub list_top : (m : ℕ) → Size l (suc m) → cast (get_or l m 0) ≢ 𝓥.K.ops.𝟎
  list_top m s e = s.top (omega arith) (ap (λ k. get_or l k 0) (let o : suc m - 1 ≡ m = omega arith in o) ∙ ρ.cast_small (get_or l m 0) (each m) e)

-- an element of the order, by its three rows
module _ {p : ℕ} {G H : List ℕ} (A : Accepted p G H) where
  pub six_path : (c at : ℕ) (l : List ℕ) (v : (O (setting A)).El) → let ρ = reading p A.prime in row ρ (cut at c l) ≡ v.a.0 → row ρ (cut (at + c) c l) ≡ v.b.0 → row ρ (cut (at + c + c) c l) ≡ v.c.0 → six A c at l ≡ v
  six_path c at l v x y z = O_path (setting A) (P_path (setting A).𝓥 x) (P_path (setting A).𝓥 y) (P_path (setting A).𝓥 z)
