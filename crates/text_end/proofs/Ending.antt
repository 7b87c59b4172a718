-- What is printed at the input's end: end_none, end_some.
use mathlib.Core.Path.{◌≡◌, refl, sym, subst}
use mathlib.Core.Logic.{◌≢◌}
use mathlib.Core.List.{List}
use Prim.Native.Nat.{ℕ, zero, suc}
use lib.ListN.{length}
use Rattle.base_lists.specs.Pieces.{Put}
use Rattle.base_lists.proofs.Puts.{placed_none}
use Rattle.text_put.specs.Print.{refused_text}
use Rattle.text_cut.specs.Feed.{end_text}

pub end_none : (d : List ℕ) (n : ℕ) → n ≡ 0 → Put d 0 (end_text n) 0 d
unfolding end_text
end_none d n e = subst (λ z. Put d 0 (end_text z) 0 d) (sym e) (placed_none (length d) d 0)

pub end_some : {d : List ℕ} (n : ℕ) {r : ℕ} {d' : List ℕ} → n ≢ 0 → Put d 0 (refused_text 12) r d' → Put d 0 (end_text n) r d'
unfolding end_text
end_some zero h p = absurd (h refl)
end_some (suc n) h p = p
