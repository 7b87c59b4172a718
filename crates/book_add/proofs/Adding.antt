-- From the verdict on the body, and the room, to the answer of adding.
use mathlib.Core.Path.{◌≡◌, refl, ap, ◌∙◌}
use mathlib.Core.Logic.{◌⊎◌, inl, inr}
use mathlib.Core.List.{List, ◌++◌}
use Prim.Native.Nat.{ℕ, ◌<◌, ◌≤◌}
use lib.ListN.{length, take, drop}
use Rattle.book_bytes.specs.Bytes.{Bytes}
use Rattle.base_answers.specs.Said.{passed, refused}
use Rattle.book_add.specs.Add.{AddTells, book, body, known, short, added}
use Rattle.book_may.specs.May.{VerdictTells}
use Rattle.book_put.specs.Code.{new_length, new_bytes, Place}
use Rattle.std.specs.declared.result.Result.TheVariants.{Ok, Err}
use Rattle.base_answers.specs.Faults.{fault_number}
use Rattle.book_judge.specs.Reasons.{refusal_says}
use Rattle.book_judge.specs.declared.BookRefusal.{BookRefusal}
use Rattle.book_judge.specs.declared.BookRefusal.TheVariants.{Malformed, Other}
use Rattle.book_add.proofs.Front.{place_of, new_of}

module _ (d : List ℕ) (n : ℕ) (b : List ℕ) (h : n ≤ length d) where
  pub no_of : (r : BookRefusal) → VerdictTells (take n d) b (Err r) → AddTells d n b (refusal_says r) d
  no_of (Malformed why) (inl w) = book h w.0 w.1 refl
  no_of (Malformed why) (inr w) = body h w.0 w.1 refl
  no_of (Other k) w = known h w.1 w.2 w.3.0 w.3.1 w.3.2 (ap (λ z. refused (fault_number z)) w.0) refl

  module _ (c : ℕ) (w : VerdictTells (take n d) b (Ok c)) where
    pub short_of : (length d < new_length n b) ⊎ (65536 < new_length n b) → AddTells d n b (refused 11) d
    short_of r = short h w.1 w.2 w.3 r refl refl

    pub room_of : Bytes d → Bytes b → new_length n b ≤ length d → new_length n b ≤ 65536 → Place d n c b
    room_of bd bb r m = place_of d n b c bd bb h w.1 w.2.formed w.0 r m

    pub added_of : Bytes d → Bytes b → new_length n b ≤ length d → new_length n b ≤ 65536 → (r : ℕ) (d' : List ℕ) → r ≡ new_length n b
        → d' ≡ new_bytes d n c b ++ drop (new_length n b) d → AddTells d n b (passed r) d'
    added_of bd bb r m k d' q g =
        added h w.1 w.2 w.3 r m (ap passed q) (g ∙ ap (λ (z : List ℕ). z ++ drop (new_length n b) d) (new_of d n b c bd bb h w.1 w.2.formed w.0))
