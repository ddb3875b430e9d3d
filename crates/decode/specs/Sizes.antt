-- How large the polynomials are that a letter is read with: Q, of degree gone_size, for the numbers gone, and R, of
-- degree come_size, for the numbers come. Assumes nothing: these are definitions.
--
--   far many count            how far the counts of the letter and of the list are apart
--   gone_size, come_size      the largest sizes that fit the counts with at most d numbers together
use Rattle.std.specs.Prelude.{ℕ, ◌+◌, ◌-◌, ◌/◌}

abbrev pub far : ℕ → ℕ → ℕ
far many count = (many - count) + (count - many)

abbrev pub gone_size : ℕ → ℕ → ℕ → ℕ
gone_size many count d = (d - far many count) / 2 + (count - many)

abbrev pub come_size : ℕ → ℕ → ℕ → ℕ
come_size many count d = (d - far many count) / 2 + (many - count)
