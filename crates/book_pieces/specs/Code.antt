-- The numbers and the lists of a body as bytes: what `put_head` and `put_lists` ask and write.
--   head_bytes p g h a b c t   the numbers of a body: p, the lengths of its lists, the period
--   Head d p .. t             they fit, and d has room for them
--   list_bytes g h a b c       the five lists of a body, and list_long their length in bytes
--   Lists d at g h a b c      they fit 2 bytes each, and d has room for them from `at` on
use Rattle.std.specs.Prelude.{List, ◌++◌, ℕ, ◌+◌, ◌*◌, ◌<◌, ◌≤◌, length}
use Rattle.book_bytes.specs.Bytes.{le, words, Small}

unfoldable pub head_bytes : ℕ → ℕ → ℕ → ℕ → ℕ → ℕ → ℕ → List ℕ
head_bytes p g h a b c t = (((((le 2 p ++ le 2 g) ++ le 2 h) ++ le 2 a) ++ le 2 b) ++ le 2 c) ++ le 4 t

pub record Head (d : List ℕ) (p g h a b c t : ℕ) : Type 0 where
  pub room : 16 ≤ length d
  pub p_fits : p < 65536
  pub g_fits : g < 65536
  pub h_fits : h < 65536
  pub a_fits : a < 65536
  pub b_fits : b < 65536
  pub c_fits : c < 65536
  pub t_fits : t < 4294967296

unfoldable pub list_bytes : List ℕ → List ℕ → List ℕ → List ℕ → List ℕ → List ℕ
list_bytes g h a b c = (((words g ++ words h) ++ words a) ++ words b) ++ words c

abbrev pub list_long : List ℕ → List ℕ → List ℕ → List ℕ → List ℕ → ℕ
list_long g h a b c = (((2 * length g + 2 * length h) + 2 * length a) + 2 * length b) + 2 * length c

pub record Lists (d : List ℕ) (at : ℕ) (g h a b c : List ℕ) : Type 0 where
  pub room : at + list_long g h a b c ≤ length d
  pub g_small : Small g
  pub h_small : Small h
  pub a_small : Small a
  pub b_small : Small b
  pub c_small : Small c
