-- Products of lists that are read as sums of powers, coefficient by coefficient.
--   entry l i    the entry i of a list; 0 past its end
--   conv f g n   f 0 · g n + f 1 · g (n − 1) + .. + f n · g 0, over any sum and product: at numbers, and at the elements of a field
--   prod f g n   the same at numbers: the coefficient n of a product of two series
use Rattle.std.specs.Prelude.{List, ℕ, zero, suc, ◌+◌, ◌*◌, get_or}

abbrev pub entry : List ℕ → ℕ → ℕ
entry l i = get_or l i 0

unfoldable pub conv : {A : Type 0} (add mul : A → A → A) → (ℕ → A) → (ℕ → A) → ℕ → A
conv add mul f g zero = mul (f 0) (g 0)
conv add mul f g (suc n) = add (mul (f 0) (g (suc n))) (conv add mul (λ i. f (suc i)) g n)

abbrev pub prod : (ℕ → ℕ) → (ℕ → ℕ) → ℕ → ℕ
prod = conv ◌+◌ ◌*◌
