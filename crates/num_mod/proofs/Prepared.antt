-- What a prepared modulus gives, and how one is made.
--   bare                     its number is a modulus
--   made_low, made_high      what `prepare` makes of p below 2^16, and above
--   ready_prepared           so `ready p` is prepared
use mathlib.Core.Path.{◌≡◌, refl, sym, subst}
use Prim.Native.Nat.{ℕ, ◌*◌, ◌<◌, ◌≤◌}
use native.Mathlib.Decide.{dec_lt}
use native.Mathlib.Omega.{arith}
use Rattle.num_mod.specs.Residue.{IsModulus}
use Rattle.num_mod.specs.Prepared.{Scale, Prepared, PreparedOf, limit, ready}
use Rattle.num_mod.specs.declared.Modulus.{Modulus}

pub bare : {q : Modulus} → Prepared q → IsModulus q.p
bare h = record { big = h.big; small = h.small }

limit_low : (p : ℕ) (d : Dec (p < 65536)) → p < 65536 → limit p d ≡ 64 * (p * p)
limit_low p (yes k) l = refl
limit_low p (no k) l = absurd (omega arith)

limit_high : (p : ℕ) (d : Dec (p < 65536)) → 65536 ≤ p → limit p d ≡ 0
limit_high p (yes k) l = absurd (omega arith)
limit_high p (no k) l = refl

pub made_low : {p m : ℕ} → IsModulus p → p < 65536 → Scale p m → PreparedOf p (record { p = p; m = m; lim = 64 * (p * p) })
made_low {p} {m} h l e =
    let b : 1 < p = h.big in record {
      is = refl;
      same = λ i. record { p = p; m = e i; lim = sym (limit_low p (dec_lt p 65536) l) i };
      prepared = record { big = h.big; small = h.small; quick = λ x k. record { pos = omega arith; small = omega arith; scale = e; below = k } };
    }

pub made_high : {p m : ℕ} → IsModulus p → 65536 ≤ p → Scale p m → PreparedOf p (record { p = p; m = m; lim = 0 })
made_high {p} {m} h l e = record {
  is = refl;
  same = λ i. record { p = p; m = e i; lim = sym (limit_high p (dec_lt p 65536) l) i };
  prepared = record { big = h.big; small = h.small; quick = λ x k. absurd (omega arith) };
}

pub ready_prepared : (p : ℕ) → IsModulus p → Prepared (ready p)
ready_prepared p h = elim (dec_lt p 65536) [
  | yes l ↦ let e = made_low h l refl in subst Prepared e.same e.prepared
  | no l ↦ let e = made_high h (omega arith) refl in subst Prepared e.same e.prepared
]
