-- What is asked as one number: 512 * level + 16 * queries open + strength asked.
use Rattle.std.specs.Prelude.{ℕ, ◌/◌, ◌%◌}

unfoldable pub queries_in : ℕ → ℕ
queries_in code = code % 512 / 16

unfoldable pub strength_in : ℕ → ℕ
strength_in code = code % 16
