-- One outcome for each input.
--   lists_unique    two answers to a line are equal; read_unique: so are two to one field
--   answer_unique   of `answer`: the place after the answer, and what the slice holds
--   steps_unique, passes_unique   of a step, and of `pass`
--   output_unique   two outputs to an input are equal
use mathlib.Core.Path.{◌≡◌, refl, sym, ap, ap₂, ◌∙◌, subst}
use mathlib.Core.List.{List, [], ◌∷◌, ◌++◌}
use mathlib.Core.Logic.{◌⊎◌, inl, inr}
use Prim.Native.Nat.{ℕ, zero, suc, ◌+◌, ◌≤◌, ◌<◌}
use native.Mathlib.Omega.{arith}
use native.Mathlib.Decide.{ℕ_discrete, dec_lt}
use lib.ListN.{length, take}
use Rattle.base_lists.specs.Pieces.{Put, cut}
use Rattle.text_put.specs.Print.{line_text, refused_text}
use Rattle.base_lists.proofs.Puts.{placed_unique}
use Rattle.text_cut.specs.Lines.{Line, whole, broken}
use Rattle.text_cut.specs.Feed.{Answered, no_line, whole_line, broken_line}
use Rattle.text_cut.specs.declared.Step.{Step}
use Rattle.text_cut.specs.declared.Step.TheVariants.{Whole, Broken, Pending}
use Rattle.text_cut.proofs.Steps.{cut_unique}
use Rattle.text_read.proofs.Writings.{reads_unique}
use Rattle.field_open.specs.Padding.{unpad}
use Rattle.door_unit.specs.Unit.{UnitAnswer, Makes}
use Rattle.door_unit.proofs.Once.{makes_unique, Same}
use Rattle.base_lists.specs.Coefficients.{trim}
use Rattle.lister_print.specs.Text.{unit_text, told, made_text}
use Rattle.lister.specs.Listing.{budget, blank, room, Lists, malformed, read, Answer, Does, Steps, Way, here, more, Passes}
use Rattle.lister.specs.declared.Going.{Going}
use Rattle.lister.proofs.Paces.{going_same}

made_same : (s : List ℕ) {m m' : UnitAnswer} {rows rows' scratch scratch' : List ℕ} → Same m m' rows rows' scratch scratch' → made_text s m rows ≡ made_text s m' rows'
unfolding made_text
made_same s {m} {m'} {rows} {rows'} e =
    ap (λ n. told n (unit_text s m.period.0 m.regulator.0 (trim (cut 0 1024 rows)) (trim (cut 1024 1024 rows)) (trim (cut 2048 1024 rows)))) e.number
    ∙ ap (λ l. told m'.refusal (unit_text s l m.regulator.0 (trim (cut 0 1024 rows)) (trim (cut 1024 1024 rows)) (trim (cut 2048 1024 rows)))) e.period
    ∙ ap (λ R. told m'.refusal (unit_text s m'.period.0 R (trim (cut 0 1024 rows)) (trim (cut 1024 1024 rows)) (trim (cut 2048 1024 rows)))) e.regulator
    ∙ ap (λ z. told m'.refusal (unit_text s m'.period.0 m'.regulator.0 (trim (cut 0 1024 z)) (trim (cut 1024 1024 z)) (trim (cut 2048 1024 z)))) e.rows_same

pub read_unique : (p : ℕ) (G H : List ℕ) (p' : ℕ) (G' H' : List ℕ) (m m' : UnitAnswer) (r s r' s' : List ℕ) → p ≡ p' → G ≡ G' → H ≡ H'
    → Makes 1 p G H budget blank blank m r s → Makes 1 p' G' H' budget blank blank m' r' s' → made_text (line_text p G H) m r ≡ made_text (line_text p' G' H') m' r'
read_unique p G H p' G' H' m m' r s r' s' a b c x y =
    let y₁ = subst (λ z. Makes 1 z G' H' budget blank blank m' r' s') (sym a) y in
    let y₂ = subst (λ z. Makes 1 p z H' budget blank blank m' r' s') (sym b) y₁ in
    let y₃ = subst (λ z. Makes 1 p G z budget blank blank m' r' s') (sym c) y₂ in
    made_same (line_text p G H) (makes_unique 1 p G H budget blank blank m m' r r' s s' x y₃)
    ∙ ap (λ z. made_text (line_text z G H) m' r') a ∙ ap (λ z. made_text (line_text p' z H) m' r') b ∙ ap (λ z. made_text (line_text p' G' z) m' r') c

pub lists_unique : {line t t' : List ℕ} → Lists line t → Lists line t' → t ≡ t'
lists_unique (malformed h) (malformed k) = refl
lists_unique (malformed h) (read p G H m rows scratch r x) = absurd (h p G H r)
lists_unique (read p G H m rows scratch r x) (malformed k) = absurd (k p G H r)
lists_unique (read p G H m rows scratch r x) (read p' G' H' m' rows' scratch' r' x') =
    let (a, b, c) = reads_unique r r' in
    read_unique p (unpad G) (unpad H) p' (unpad G') (unpad H') m m' rows scratch rows' scratch' a (ap unpad b) (ap unpad c) x x'

pub answer_unique : (line d : List ℕ) (at r r' : ℕ) (d' d₂ : List ℕ) → Answer line d at r d' → Answer line d at r' d₂ → (r ≡ r') × (d' ≡ d₂)
answer_unique line d at r r' d' d₂ x y = placed_unique x.put (subst (λ t. Put d at t r' d₂) (lists_unique y.lists x.lists) y.put)

pub output_unique : (lines : List Line) (t u : List ℕ) → Answered Lists lines t → Answered Lists lines u → t ≡ u
output_unique [] t u no_line no_line = refl
output_unique (whole s ∷ lines) _ _ (whole_line {t = t} {u = v} x a) (whole_line {t = t'} {u = v'} y b) = ap₂ ◌++◌ (lists_unique x y) (output_unique lines v v' a b)
output_unique (broken ∷ lines) _ _ (broken_line {u = v} a) (broken_line {u = v'} b) = ap (λ z. refused_text 12 ++ z) (output_unique lines v v' a b)

-- ---- the steps through a piece
does_unique : (s d : List ℕ) (g : Going) (c : Step) (k' : List ℕ) (r q : Going) (d' d₂ : List ℕ) → Does s d g c k' r d' → Does s d g c k' q d₂ → (r ≡ q) × (d' ≡ d₂)
does_unique s d g (Whole m next) k' r q d' d₂ (a, b, x) (a₂, b₂, y) =
    let (e, f) = answer_unique (take m k') d g.to r.to q.to d' d₂ x y in (going_same (a ∙ sym a₂) (b ∙ sym b₂) e, f)
does_unique s d g (Broken next) k' r q d' d₂ (a, b, x) (a₂, b₂, y) = let (e, f) = placed_unique x y in (going_same (a ∙ sym a₂) (b ∙ sym b₂) e, f)
does_unique s d g (Pending m) k' r q d' d₂ (a, b, x, y) (a₂, b₂, x₂, y₂) = (going_same (a ∙ sym a₂) (b ∙ sym b₂) (x ∙ sym x₂), y ∙ sym y₂)

abbrev Alike : Going → Going → List ℕ → List ℕ → List ℕ → List ℕ → Type 0
Alike r q k' k₂ d' d₂ = (r ≡ q) × (k' ≡ k₂) × (d' ≡ d₂)

pub steps_unique : (k s d : List ℕ) (g r q : Going) (k' k₂ d' d₂ : List ℕ) → Steps k s d g r k' d' → Steps k s d g q k₂ d₂ → (r ≡ q) × (k' ≡ k₂) × (d' ≡ d₂)
steps_unique k s d g r q k' k₂ d' d₂ x y =
    let (e, f) = cut_unique k g.n s g.at x.c y.c k' k₂ x.cuts y.cuts in
    let y₁ = subst (λ z. Does s d g z k₂ q d₂) (sym e) y.does in
    let (a, b) = does_unique s d g x.c k' r q d' d₂ x.does (subst (λ z. Does s d g x.c z q d₂) (sym f) y₁) in
    (a, f, b)

module _ (k s d : List ℕ) (g : Going) where
  way_unique : (i : ℕ) (r q : Going) (k' k₂ d' d₂ : List ℕ) → Way k s d g i r k' d' → Way k s d g i q k₂ d₂ → Alike r q k' k₂ d' d₂
  way_unique zero r q k' k₂ d' d₂ here here = (refl, refl, refl)
  way_unique (suc i) r q k' k₂ d' d₂ (more {r = r₁} {k' = k₁} {d' = d₁} w h l x) (more {r = q₁} {k' = l₁} {d' = e₁} v h' l' y) =
      let (a, b, c) = way_unique i r₁ q₁ k₁ l₁ d₁ e₁ w v in
      let y₁ = subst (λ z. Steps l₁ s e₁ z q k₂ d₂) (sym a) y in
      let y₂ = subst (λ z. Steps z s e₁ r₁ q k₂ d₂) (sym b) y₁ in
      steps_unique k₁ s d₁ r₁ r q k' k₂ d' d₂ x (subst (λ z. Steps k₁ s z r₁ q k₂ d₂) (sym c) y₂)

  -- a way does not go on from where another has stopped
  way_stops : (i j : ℕ) (r q : Going) (k' k₂ d' d₂ : List ℕ) → i < j → Way k s d g i r k' d' → (length s ≤ r.at) ⊎ (length d < r.to + room) → Way k s d g j q k₂ d₂ → ⊥
  way_stops i zero r q k' k₂ d' d₂ u w e v = omega arith
  way_stops i (suc j) r q k' k₂ d' d₂ u w e (more {r = q₁} {k' = l₁} {d' = e₁} v h l y) = go (ℕ_discrete i j) (λ o. way_stops i j r q₁ k' l₁ d' e₁ o w e v)
    where
      stuck : r ≡ q₁ → (length s ≤ r.at) ⊎ (length d < r.to + room) → ⊥
      stuck f (inl a) = let o : r.at ≡ q₁.at = ap (λ z. z.at) f in omega arith
      stuck f (inr a) = let o : r.to ≡ q₁.to = ap (λ z. z.to) f in omega arith

      go : Dec (i ≡ j) → (i < j → ⊥) → ⊥
      go (yes f) n = stuck (way_unique i r q₁ k' l₁ d' e₁ w (subst (λ z. Way k s d g z q₁ l₁ e₁) (sym f) v)).0 e
      go (no f) n = n (omega arith)

  pub passes_unique : (r q : Going) (k' k₂ d' d₂ : List ℕ) → Passes k s d g r k' d' → Passes k s d g q k₂ d₂ → (r ≡ q) × (k' ≡ k₂) × (d' ≡ d₂)
  passes_unique r q k' k₂ d' d₂ x y = elim (dec_lt x.steps y.steps) [
    | yes a ↦ absurd (way_stops x.steps y.steps r q k' k₂ d' d₂ a x.way x.stops y.way)
    | no a ↦ elim (dec_lt y.steps x.steps) [
      | yes b ↦ absurd (way_stops y.steps x.steps q r k₂ k' d₂ d' b y.way y.stops x.way)
      | no b ↦ let e : y.steps ≡ x.steps = omega arith in way_unique x.steps r q k' k₂ d' d₂ x.way (subst (λ z. Way k s d g z q k₂ d₂) e y.way)
    ]
  ]
