-- Changes of basis, for every map that keeps the operations.
--   changed_start _swap _mix _scale   nothing done; m and n exchanged; m to s m + e n for a unit s; m and n times units
--   changed_then _back                one after the other; undone
--   changed_det                       the determinant b c' − c b' is multiplied by αδ − βγ
use mathlib.Core.Path.{◌≡◌, sym, ap, ap₂, ◌∙◌}
use mathlib.Core.List.{[], ◌∷◌}
use Rattle.math_ring.specs.Ring.{CRing, Hom}
use Rattle.math_ring.proofs.Solve.{var, hyp, one, zer, minus, ◌:+◌, ◌:*◌, solve, solve_by}
use Rattle.math_ring.proofs.Hom.{hom_eval}
use Rattle.math_triple.specs.Pairs.{Pt, Changed}

module _ (R L : CRing) (f : R.El → L.El) (hom : Hom R.ops L.ops f) where
  open R.ops use {add as ◌⊞◌, mul as ◌⊠◌, neg as ⊟◌, 𝟎 as 0ᵣ, 𝟏 as 1ᵣ}
  open L.ops use {add as ◌+◌, mul as ◌*◌, neg as -◌, 𝟎, 𝟏}

  infixl 60 ◌+◌ ◌⊞◌
  infixl 70 ◌*◌ ◌⊠◌
  infix 80 -◌ ⊟◌
  first : (x y : L.El) → x ≡ f 1ᵣ * x + f 0ᵣ * y
  first x y = solve L (var 0) (one :* var 0 :+ zer :* var 1) tt (x ∷ y ∷ []) ∙ sym (ap₂ (λ u v. u * x + v * y) hom.𝟏 hom.𝟎)

  second : (x y : L.El) → y ≡ f 0ᵣ * x + f 1ᵣ * y
  second x y = solve L (var 1) (zer :* var 0 :+ one :* var 1) tt (x ∷ y ∷ []) ∙ sym (ap₂ (λ u v. u * x + v * y) hom.𝟎 hom.𝟏)

  pub changed_start : (p q : Pt L.El) → Changed R L f p q p q
  changed_start p q = record {
    α = 1ᵣ;
    β = 0ᵣ;
    γ = 0ᵣ;
    δ = 1ᵣ;
    unit = (1ᵣ, solve R one ((one :* one :+ minus (zer :* zer)) :* one) tt []);
    m_b = first p.b q.b;
    m_c = first p.c q.c;
    n_b = second p.b q.b;
    n_c = second p.c q.c;
  }

  pub changed_swap : {p q m n : Pt L.El} → Changed R L f p q m n → Changed R L f p q n m
  changed_swap t = record {
    α = t.γ;
    β = t.δ;
    γ = t.α;
    δ = t.β;
    unit = (
      ⊟ t.unit.0,
      t.unit.1 ∙ solve R ((var 0 :* var 3 :+ minus (var 1 :* var 2)) :* var 4) ((var 2 :* var 1 :+ minus (var 3 :* var 0)) :* minus (var 4)) tt (t.α ∷ t.β ∷ t.γ ∷ t.δ ∷ t.unit.0 ∷ []),
    );
    m_b = t.n_b;
    m_c = t.n_c;
    n_b = t.m_b;
    n_c = t.m_c;
  }

  -- a turn of the first
  pub changed_mix : (s e : R.El) → (j : R.El) × (1ᵣ ≡ s ⊠ j) → {m n m' : Pt L.El}
      → m'.b ≡ f s * m.b + f e * n.b → m'.c ≡ f s * m.c + f e * n.c → Changed R L f m n m' n
  changed_mix s e (j, u) {m} {n} eb ec = record {
    α = s;
    β = e;
    γ = 0ᵣ;
    δ = 1ᵣ;
    unit = (j, u ∙ solve R (var 0 :* var 1) ((var 0 :* one :+ minus (var 2 :* zer)) :* var 1) tt (s ∷ j ∷ e ∷ []));
    m_b = eb;
    m_c = ec;
    n_b = second m.b n.b;
    n_c = second m.c n.c;
  }

  abbrev pub times : R.El → Pt L.El → Pt L.El
  times s m = record { b = f s * m.b; c = f s * m.c }

  pub changed_scale : (s r : R.El) → (j : R.El) × (1ᵣ ≡ s ⊠ j) → (j : R.El) × (1ᵣ ≡ r ⊠ j) → (m n : Pt L.El) → Changed R L f m n (times s m) (times r n)
  changed_scale s r (s', e) (r', e') m n = record {
    α = s;
    β = 0ᵣ;
    γ = 0ᵣ;
    δ = r;
    unit = (s' ⊠ r', solve_by R one ((var 0 :* var 1 :+ minus (zer :* zer)) :* (var 2 :* var 3)) (hyp one one (var 0 :* var 2) ∷ hyp (var 0 :* var 2) one (var 1 :* var 3) ∷ []) tt (s ∷ r ∷ s' ∷ r' ∷ []) (e, (e', tt)));
    m_b = left m.b n.b;
    m_c = left m.c n.c;
    n_b = right m.b n.b;
    n_c = right m.c n.c;
  }
    where
      left : (x y : L.El) → f s * x ≡ f s * x + f 0ᵣ * y
      left x y = solve L (var 0) (var 0 :+ zer :* var 1) tt (f s * x ∷ y ∷ []) ∙ ap (λ z. f s * x + z * y) (sym hom.𝟎)

      right : (x y : L.El) → f r * y ≡ f 0ᵣ * x + f r * y
      right x y = solve L (var 0) (zer :* var 1 :+ var 0) tt (f r * y ∷ x ∷ []) ∙ ap (λ z. z * x + f r * y) (sym hom.𝟎)

  pub changed_then : {p q m n m' n' : Pt L.El} → Changed R L f p q m n → Changed R L f m n m' n' → Changed R L f p q m' n'
  changed_then {p} {q} t s = record {
    α = s.α ⊠ t.α ⊞ s.β ⊠ t.γ;
    β = s.α ⊠ t.β ⊞ s.β ⊠ t.δ;
    γ = s.γ ⊠ t.α ⊞ s.δ ⊠ t.γ;
    δ = s.γ ⊠ t.β ⊞ s.δ ⊠ t.δ;
    unit = (
      s.unit.0 ⊠ t.unit.0,
      solve_by R one (((var 4 :* var 0 :+ var 5 :* var 2) :* (var 6 :* var 1 :+ var 7 :* var 3) :+ minus ((var 4 :* var 1 :+ var 5 :* var 3) :* (var 6 :* var 0 :+ var 7 :* var 2))) :* (var 9 :* var 8))
          (hyp one one ((var 4 :* var 7 :+ minus (var 5 :* var 6)) :* var 9) ∷ hyp ((var 4 :* var 7 :+ minus (var 5 :* var 6)) :* var 9) one ((var 0 :* var 3 :+ minus (var 1 :* var 2)) :* var 8) ∷ []) tt
          (t.α ∷ t.β ∷ t.γ ∷ t.δ ∷ s.α ∷ s.β ∷ s.γ ∷ s.δ ∷ t.unit.0 ∷ s.unit.0 ∷ []) (s.unit.1, (t.unit.1, tt)),
    );
    m_b = s.m_b ∙ mixed s.α s.β t.m_b t.n_b;
    m_c = s.m_c ∙ mixed s.α s.β t.m_c t.n_c;
    n_b = s.n_b ∙ mixed s.γ s.δ t.m_b t.n_b;
    n_c = s.n_c ∙ mixed s.γ s.δ t.m_c t.n_c;
  }
    where
      two : (u v x y : R.El) → f (u ⊠ x ⊞ v ⊠ y) ≡ f u * f x + f v * f y
      two u v x y = hom_eval f hom (var 0 :* var 1 :+ var 2 :* var 3) (u ∷ x ∷ v ∷ y ∷ [])

      mixed : (u v : R.El) {x y m n : L.El} → m ≡ f t.α * x + f t.β * y → n ≡ f t.γ * x + f t.δ * y → f u * m + f v * n ≡ f (u ⊠ t.α ⊞ v ⊠ t.γ) * x + f (u ⊠ t.β ⊞ v ⊠ t.δ) * y
      mixed u v {x} {y} em en =
          ap₂ (λ m n. f u * m + f v * n) em en
          ∙ solve L (var 4 :* (var 0 :* var 6 :+ var 1 :* var 7) :+ var 5 :* (var 2 :* var 6 :+ var 3 :* var 7)) ((var 4 :* var 0 :+ var 5 :* var 2) :* var 6 :+ (var 4 :* var 1 :+ var 5 :* var 3) :* var 7) tt
          (f t.α ∷ f t.β ∷ f t.γ ∷ f t.δ ∷ f u ∷ f v ∷ x ∷ y ∷ [])
          ∙ sym (ap₂ (λ a b. a * x + b * y) (two u v t.α t.γ) (two u v t.β t.δ))

  -- the determinant of the change, in the ring of the coordinates
  det_is : {p q m n : Pt L.El} (t : Changed R L f p q m n) → f (t.α ⊠ t.δ ⊞ ⊟ (t.β ⊠ t.γ)) ≡ f t.α * f t.δ + - (f t.β * f t.γ)
  det_is t = hom_eval f hom (var 0 :* var 3 :+ minus (var 1 :* var 2)) (t.α ∷ t.β ∷ t.γ ∷ t.δ ∷ [])

  pub changed_back : {p q m n : Pt L.El} → Changed R L f p q m n → Changed R L f m n p q
  changed_back {p} {q} {m} {n} t = record {
    α = j ⊠ t.δ;
    β = ⊟ (j ⊠ t.β);
    γ = ⊟ (j ⊠ t.γ);
    δ = j ⊠ t.α;
    unit = (
      t.α ⊠ t.δ ⊞ ⊟ (t.β ⊠ t.γ),
      solve_by R one ((var 4 :* var 3 :* (var 4 :* var 0) :+ minus (minus (var 4 :* var 1) :* minus (var 4 :* var 2))) :* (var 0 :* var 3 :+ minus (var 1 :* var 2)))
          (hyp (one :+ var 4 :* (var 0 :* var 3 :+ minus (var 1 :* var 2))) one ((var 0 :* var 3 :+ minus (var 1 :* var 2)) :* var 4) ∷ []) tt (t.α ∷ t.β ∷ t.γ ∷ t.δ ∷ j ∷ []) (t.unit.1, tt),
    );
    m_b = upper t.m_b t.n_b;
    m_c = upper t.m_c t.n_c;
    n_b = lower t.m_b t.n_b;
    n_c = lower t.m_c t.n_c;
  }
    where
      j : R.El
      j = t.unit.0

      unit_is : 𝟏 ≡ (f t.α * f t.δ + - (f t.β * f t.γ)) * f j
      unit_is = sym hom.𝟏 ∙ ap f t.unit.1 ∙ hom.mul _ j ∙ ap (λ z. z * f j) (det_is t)

      times_j : (a : R.El) → f (j ⊠ a) ≡ f j * f a
      times_j a = hom.mul j a

      minus_j : (a : R.El) → f (⊟ (j ⊠ a)) ≡ - (f j * f a)
      minus_j a = hom_eval f hom (minus (var 0 :* var 1)) (j ∷ a ∷ [])

      upper : {x y m n : L.El} → m ≡ f t.α * x + f t.β * y → n ≡ f t.γ * x + f t.δ * y → x ≡ f (j ⊠ t.δ) * m + f (⊟ (j ⊠ t.β)) * n
      upper {x} {y} {m} {n} em en =
          solve_by L (var 5) (var 4 :* var 3 :* var 7 :+ minus (var 4 :* var 1) :* var 8)
          (hyp (var 5) one ((var 0 :* var 3 :+ minus (var 1 :* var 2)) :* var 4) ∷ hyp (minus (var 4 :* var 3)) (var 7) (var 0 :* var 5 :+ var 1 :* var 6)
          ∷ hyp (var 4 :* var 1) (var 8) (var 2 :* var 5 :+ var 3 :* var 6) ∷ []) tt (f t.α ∷ f t.β ∷ f t.γ ∷ f t.δ ∷ f j ∷ x ∷ y ∷ m ∷ n ∷ []) (unit_is, (em, (en, tt)))
          ∙ sym (ap₂ (λ a b. a * m + b * n) (times_j t.δ) (minus_j t.β))

      lower : {x y m n : L.El} → m ≡ f t.α * x + f t.β * y → n ≡ f t.γ * x + f t.δ * y → y ≡ f (⊟ (j ⊠ t.γ)) * m + f (j ⊠ t.α) * n
      lower {x} {y} {m} {n} em en =
          solve_by L (var 6) (minus (var 4 :* var 2) :* var 7 :+ var 4 :* var 0 :* var 8)
          (hyp (var 6) one ((var 0 :* var 3 :+ minus (var 1 :* var 2)) :* var 4) ∷ hyp (var 4 :* var 2) (var 7) (var 0 :* var 5 :+ var 1 :* var 6)
          ∷ hyp (minus (var 4 :* var 0)) (var 8) (var 2 :* var 5 :+ var 3 :* var 6) ∷ []) tt (f t.α ∷ f t.β ∷ f t.γ ∷ f t.δ ∷ f j ∷ x ∷ y ∷ m ∷ n ∷ []) (unit_is, (em, (en, tt)))
          ∙ sym (ap₂ (λ a b. a * m + b * n) (minus_j t.γ) (times_j t.α))

  pub changed_det : {p q m n : Pt L.El} (t : Changed R L f p q m n) → m.b * n.c + - (m.c * n.b) ≡ f (t.α ⊠ t.δ ⊞ ⊟ (t.β ⊠ t.γ)) * (p.b * q.c + - (p.c * q.b))
  changed_det {p} {q} {m} {n} t =
      ap₂ (λ x y. x * n.c + - (y * n.b)) t.m_b t.m_c
      ∙ ap₂ (λ x y. (f t.α * p.b + f t.β * q.b) * x + - ((f t.α * p.c + f t.β * q.c) * y)) t.n_c t.n_b
      ∙ solve L ((var 0 :* var 4 :+ var 1 :* var 6) :* (var 2 :* var 5 :+ var 3 :* var 7) :+ minus ((var 0 :* var 5 :+ var 1 :* var 7) :* (var 2 :* var 4 :+ var 3 :* var 6)))
      ((var 0 :* var 3 :+ minus (var 1 :* var 2)) :* (var 4 :* var 7 :+ minus (var 5 :* var 6))) tt (f t.α ∷ f t.β ∷ f t.γ ∷ f t.δ ∷ p.b ∷ p.c ∷ q.b ∷ q.c ∷ [])
      ∙ ap (λ z. z * (p.b * q.c + - (p.c * q.b))) (sym (det_is t))
