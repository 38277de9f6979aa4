-- Tables of 4,096 places.
use Rattle.std.specs.Prelude.{ℕ, cond, List, ltb, set}

-- the table with a number at a place, where it has the place
abbrev pub placed : List ℕ → ℕ → ℕ → List ℕ
placed list at n = cond (ltb at 4096) (set list at n) list
