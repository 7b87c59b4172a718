-- Writing a body into a lent slice.
--   body_from p G H t a b c    the body of these values
--   wrote_says r               what the answer says in document 01's numbers: the length, or the refusal
--   WriteTells b d x d'       writing b into the slice d, which is d' then, says x: refusals 1 to 8; 13 (body rule, entry 0); 11 when
--                             the slice is shorter; else the length, with the body at the front and the rest of the slice as it was
-- That x and d', and the answer itself, are settled by b and d is `write_unique` and `wrote_unique`, in proofs/One.antt.
use Rattle.std.specs.Prelude.{◌≡◌, ◌≢◌, List, ◌++◌, ℕ, ◌<◌, ◌≤◌, length, drop, Result}
use Rattle.base_answers.specs.Said.{Said, passed, refused, malformed}
use Rattle.book_body.specs.Body.{Body, Rule, FieldSays, body_bytes}
use Rattle.book_judge.specs.Reasons.{length_says}
use Rattle.book_judge.specs.declared.BookRefusal.{BookRefusal}

abbrev pub body_from : ℕ → List ℕ → List ℕ → ℕ → List ℕ → List ℕ → List ℕ → Body
body_from p G H t a b c = record { p = p; G = G; H = H; period = t; E0 = a; E1 = b; E2 = c }

abbrev pub wrote_says : Result ℕ BookRefusal → Said
wrote_says = length_says

pub data WriteTells (b : Body) (d : List ℕ) (x : Said) (d' : List ℕ) : Type 0 where
  field : (n : ℕ) → n ≢ 0 → FieldSays b n → x ≡ refused n → d' ≡ d → WriteTells b d x d'
  rule : FieldSays b 0 → (Rule b → ⊥) → x ≡ malformed 3 0 0 → d' ≡ d → WriteTells b d x d'
  short : FieldSays b 0 → Rule b → length d < length (body_bytes b) → x ≡ refused 11 → d' ≡ d → WriteTells b d x d'
  done : FieldSays b 0 → Rule b → length (body_bytes b) ≤ length d → x ≡ passed (length (body_bytes b))
      → d' ≡ body_bytes b ++ drop (length (body_bytes b)) d → WriteTells b d x d'
