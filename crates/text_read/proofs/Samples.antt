-- Lines and numbers of the rule book and its edges, read.
use mathlib.Core.Path.{refl}
use mathlib.Core.List.{List, [], ◌∷◌}
use Prim.Native.Nat.{ℕ, zero, suc, ◌≤◌}
use native.Mathlib.Omega.{arith}
use lib.Dec.{lit≤, lit<}
use lib.ListN.{length}
use Rattle.text_put.specs.Print.{digits_of, number_text, join, list_text, line_text}
use Rattle.text_number.specs.Grammar.{Numeral}
use Rattle.text_read.specs.Grammar.{Reads}
use Rattle.text_number.proofs.Inverse.{text_numeral}
use Rattle.text_read.proofs.Writings.{Small, text_reads}

small_G : Small (4 ∷ 0 ∷ 0 ∷ 1 ∷ [])
small_G zero h = lit< tt
small_G (suc zero) h = lit< tt
small_G (suc (suc zero)) h = lit< tt
small_G (suc (suc (suc zero))) h = lit< tt
small_G (suc (suc (suc (suc k)))) h = absurd (omega arith)

small_H : Small (1 ∷ [])
small_H zero h = lit< tt
small_H (suc k) h = absurd (omega arith)

reads_sample : Reads (53 ∷ 59 ∷ 52 ∷ 44 ∷ 48 ∷ 44 ∷ 48 ∷ 44 ∷ 49 ∷ 59 ∷ 49 ∷ []) 5 (4 ∷ 0 ∷ 0 ∷ 1 ∷ []) (1 ∷ [])
unfolding line_text list_text join number_text digits_of
reads_sample = text_reads 5 4 (0 ∷ 0 ∷ 1 ∷ []) 1 [] (lit< tt) small_G small_H (lit≤ tt)

-- "0" is a number; "00", "05", "" and six digits are none
zero_is : Numeral (48 ∷ [])
unfolding number_text digits_of
zero_is = text_numeral 0 (lit< tt)

not_00 : Numeral (48 ∷ 48 ∷ []) → ⊥
not_00 a = a.plain (lit< tt) refl

not_05 : Numeral (48 ∷ 53 ∷ []) → ⊥
not_05 a = a.plain (lit< tt) refl

not_empty : Numeral [] → ⊥
not_empty a = let h : 1 ≤ 0 = a.some in omega arith

not_six : (a b c d e f : ℕ) (s : List ℕ) → Numeral (a ∷ b ∷ c ∷ d ∷ e ∷ f ∷ s) → ⊥
not_six a b c d e f s n = let h : suc (suc (suc (suc (suc (suc (length s)))))) ≤ 5 = n.few in omega arith
