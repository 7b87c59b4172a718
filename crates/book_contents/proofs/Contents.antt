-- What the contents name: where the bodies end, and that each part lies within the file.
use mathlib.Core.Path.{◌≡◌, refl, sym, ap, ◌∙◌}
use mathlib.Core.List.{List}
use Prim.Native.Nat.{ℕ, zero, suc, ◌+◌, ◌-◌, ◌*◌, ◌<◌, ◌≤◌}
use native.Mathlib.Numerals.{add-one}
use native.Mathlib.Omega.{arith}
use lib.ListN.{length}
use Rattle.book_contents.specs.Contents.{Marked, Listed, count, start_at, length_at, ends}

-- ---- the contents
pub ends_more : (s : List ℕ) (i : ℕ) → ends s (i + 1) ≡ ends s i + length_at s i
unfolding ends
ends_more s i = rw add-one refl

pub ends_zero : (s : List ℕ) → ends s 0 ≡ 6 + 8 * count s
unfolding ends
ends_zero s = refl

ends_mono : (s : List ℕ) (i d : ℕ) → ends s i ≤ ends s (i + d)
ends_mono s i zero = let e : i + 0 ≡ i = omega arith in rw e (omega arith)
ends_mono s i (suc d) =
    let h : ends s i ≤ ends s (i + d) = ends_mono s i d in
    let e : i + suc d ≡ (i + d) + 1 = omega arith in
    let m : ends s ((i + d) + 1) ≡ ends s (i + d) + length_at s (i + d) = ends_more s (i + d) in
    rw e (omega arith)

pub inside : (s : List ℕ) (i : ℕ) → Listed s → i < count s → start_at s i + length_at s i ≤ length s
inside s i l h =
    let a : start_at s i ≡ ends s i = l.starts i h in
    let m : ends s (i + 1) ≡ ends s i + length_at s i = ends_more s i in
    let e : (i + 1) + (count s - (i + 1)) ≡ count s = omega arith in
    let b : ends s (i + 1) ≤ ends s ((i + 1) + (count s - (i + 1))) = ends_mono s (i + 1) (count s - (i + 1)) in
    let c : ends s ((i + 1) + (count s - (i + 1))) ≡ ends s (count s) = ap (ends s) e in
    let w : ends s (count s) ≡ length s = l.whole in
    omega arith

pub ends_first : (s : List ℕ) (n : ℕ) → n ≡ count s → 6 + 8 * n ≡ ends s 0
ends_first s n e = ap (λ (x : ℕ). 6 + 8 * x) e ∙ sym (ends_zero s)

-- ---- how many entries there may be
pub few_of : (s : List ℕ) → Marked s → Listed s → count s < 8192
few_of s m l =
    let z : ends s 0 ≡ 6 + 8 * count s = ends_zero s in
    let g : ends s 0 ≤ ends s (0 + count s) = ends_mono s 0 (count s) in
    let e : ends s (0 + count s) ≡ ends s (count s) = ap (ends s) (let q : 0 + count s ≡ count s = omega arith in q) in
    let w : ends s (count s) ≡ length s = l.whole in
    let h : length s ≤ 65536 = m.high in
    omega arith
