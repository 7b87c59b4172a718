-- What an answer says in document 01's numbers.
--   Said            the refusal's number, 0 for none; for 13 the inner reason with its two numbers; the result, 0 with a refusal
--   passed n        no refusal, with the result n
--   refused k       refusal k
--   malformed w i j refusal 13 with the inner reason w: 1 mark, 2 contents, 3 body rule (entry i), 4 field refused (entry i, number j),
--                   5 twice (entry i, earlier entry j)
use Rattle.std.specs.Prelude.{ℕ}

pub record Said : Type 0 where
  pub number : ℕ
  pub reason : ℕ
  pub entry : ℕ
  pub other : ℕ
  pub result : ℕ

abbrev pub passed : ℕ → Said
passed n = record { number = 0; reason = 0; entry = 0; other = 0; result = n }

abbrev pub refused : ℕ → Said
refused k = record { number = k; reason = 0; entry = 0; other = 0; result = 0 }

abbrev pub malformed : ℕ → ℕ → ℕ → Said
malformed w i j = record { number = 13; reason = w; entry = i; other = j; result = 0 }
