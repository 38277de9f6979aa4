-- A digest of numbers, one after the other.
use Rattle.std.specs.Prelude.{ℕ, ◌+◌, ◌*◌, ◌%◌, List, [], ◌∷◌}

-- a digest with a number more
abbrev pub mixed_of : ℕ → ℕ → ℕ
mixed_of d n = (d % 4294967296 * 1000003 + n % 4294967296) % 4294967296

-- a digest with each number of a list more
abbrev pub digest_of : ℕ → List ℕ → ℕ
digest_of d [] = d
digest_of d (n ∷ ns) = digest_of (mixed_of d n) ns
