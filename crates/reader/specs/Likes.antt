-- The text numbers of LIKE_KW.
use Rattle.std.specs.Prelude.{List, [], ◌∷◌, ℕ, max, eqb, cond}

-- the greatest text number of a LIKE_KW, 0 where there is none
abbrev pub greatest_like : List ℕ → List ℕ → ℕ
greatest_like [] ts = 0
greatest_like (k ∷ ks) [] = 0
greatest_like (k ∷ ks) (t ∷ ts) = cond (eqb k 40) (max t (greatest_like ks ts)) (greatest_like ks ts)
