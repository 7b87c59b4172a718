-- A line's fields, and a line read by them.
--   three_of   a list of three
--   not_one, not_two, not_four, three_parts   how many pieces a line has, as they are taken one after the other
--   reads_of   a line that is three given fields reads as they do
use mathlib.Core.Path.{◌≡◌, refl, sym, ap, ◌∙◌, subst}
use mathlib.Core.Logic.{◌≢◌}
use mathlib.Core.List.{List, [], ◌∷◌}
use Prim.Native.Nat.{ℕ, ◌≤◌}
use native.Mathlib.Omega.{arith}
use lib.ListN.{length, get_or}
use Rattle.text_put.specs.Print.{semicolon}
use Rattle.text_cut.specs.Pieces.{pieces}
use Rattle.text_number.proofs.Taken.{Left, left_piece, left_none}
use Rattle.std.specs.Prelude.{Option, Some, None}
use Rattle.std.specs.Option.{is_some}
use mathlib.Core.Bool.{true, false}
use denote.Ref.{Bor}
use Rattle.text_number.specs.Grammar.{Number, Listed}
use Rattle.text_read.specs.Grammar.{field, Reads}

pub three_of : (ps : List (List ℕ)) → length ps ≡ 3 → ps ≡ get_or ps 0 [] ∷ get_or ps 1 [] ∷ get_or ps 2 [] ∷ []
three_of [] h = absurd (omega arith)
three_of (a ∷ []) h = absurd (omega arith)
three_of (a ∷ b ∷ []) h = absurd (omega arith)
three_of (a ∷ b ∷ c ∷ []) h = refl
three_of (a ∷ b ∷ c ∷ d ∷ ps) h = absurd (omega arith)

-- ---- the pieces of a line, taken one after the other
module _ {S : Type 0} {steps : S → Option (Bor (List ℕ)) → S → Type 0} {i₀ : S} (i₁ : S) (s : List ℕ) (l₀ : Left steps i₀ semicolon s 0) (p : Bor (List ℕ)) (t₁ : steps i₀ (Some p) i₁) (i₂ : S) where
  pub not_one : steps i₁ None i₂ → length (pieces semicolon s) ≢ 3
  not_one t e =
      let (h₁, x, l₁) = left_piece i₁ l₀ p t₁ in
      let n = left_none i₂ l₁ t in
      omega arith

  module _ (g : Bor (List ℕ)) (t₂ : steps i₁ (Some g) i₂) (i₃ : S) where
    pub not_two : steps i₂ None i₃ → length (pieces semicolon s) ≢ 3
    not_two t e =
        let (h₁, x, l₁) = left_piece i₁ l₀ p t₁ in
        let (h₂, y, l₂) = left_piece i₂ l₁ g t₂ in
        let n = left_none i₃ l₂ t in
        omega arith

    module _ (h : Bor (List ℕ)) (t₃ : steps i₂ (Some h) i₃) (i₄ : S) (r : Option (Bor (List ℕ))) (t₄ : steps i₃ r i₄) where
      pub not_four : true ≡ is_some r → length (pieces semicolon s) ≢ 3
      not_four u e = go r t₄ u
        where
          go : (r : Option (Bor (List ℕ))) → steps i₃ r i₄ → true ≡ is_some r → ⊥
          go (Some x) t u =
              let (h₁, x₁, l₁) = left_piece i₁ l₀ p t₁ in
              let (h₂, x₂, l₂) = left_piece i₂ l₁ g t₂ in
              let (h₃, x₃, l₃) = left_piece i₃ l₂ h t₃ in
              let k = (left_piece i₄ l₃ x t).0 in
              omega arith
          go None t u = absurd (cc)

      pub three_parts : false ≡ is_some r → pieces semicolon s ≡ p.now ∷ g.now ∷ h.now ∷ []
      three_parts u = go r t₄ u
        where
          go : (r : Option (Bor (List ℕ))) → steps i₃ r i₄ → false ≡ is_some r → pieces semicolon s ≡ p.now ∷ g.now ∷ h.now ∷ []
          go (Some x) t u = absurd (cc)
          go None t u =
              let (h₁, x₁, l₁) = left_piece i₁ l₀ p t₁ in
              let (h₂, x₂, l₂) = left_piece i₂ l₁ g t₂ in
              let (h₃, x₃, l₃) = left_piece i₃ l₂ h t₃ in
              three_of (pieces semicolon s) (sym (left_none i₄ l₃ t))
              ∙ ap (λ z. z ∷ get_or (pieces semicolon s) 1 [] ∷ get_or (pieces semicolon s) 2 [] ∷ []) x₁
              ∙ ap (λ z. p.now ∷ z ∷ get_or (pieces semicolon s) 2 [] ∷ []) x₂
              ∙ ap (λ z. p.now ∷ g.now ∷ z ∷ []) x₃

-- ---- a line that is the three fields A, B, C
module _ (s : List ℕ) {A B C : List ℕ} (e : pieces semicolon s ≡ A ∷ B ∷ C ∷ []) where
  field_0 : field s 0 ≡ A
  field_0 = ap (λ (z : List (List ℕ)). get_or z 0 []) e

  field_1 : field s 1 ≡ B
  field_1 = ap (λ (z : List (List ℕ)). get_or z 1 []) e

  field_2 : field s 2 ≡ C
  field_2 = ap (λ (z : List (List ℕ)). get_or z 2 []) e

  pub reads_of : {p : ℕ} {G H : List ℕ} → length s ≤ 255 → Number A p → Listed B G → Listed C H → Reads s p G H
  reads_of {p} {G} {H} h a b c =
      record {
        short = h;
        three = ap length e;
        first = subst (λ (z : List ℕ). Number z p) (sym field_0) a;
        second = subst (λ (z : List ℕ). Listed z G) (sym field_1) b;
        third = subst (λ (z : List ℕ). Listed z H) (sym field_2) c;
      }
