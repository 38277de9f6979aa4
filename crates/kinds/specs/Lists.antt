-- How a kind is looked up in a list of kinds, and in a table whose lines each give a number to a list of kinds.
-- The other files of specs/ hold the lists and tables.
use Rattle.std.specs.Prelude.{Bool, false, ◌||◌, cond, List, [], ◌∷◌, ℕ, eqb}

infix 40 ◌for◌
-- whether a kind stands in a list
abbrev pub among : ℕ → List ℕ → Bool
among k [] = false
among k (a ∷ others) = eqb k a || among k others

-- one line of a table: a number, and the kinds that have it
pub data Line : Type 0 where
  ◌for◌ : ℕ → List ℕ → Line

-- the number of the first line that names the kind; 0 where none does
abbrev pub number_of : ℕ → List Line → ℕ
number_of k [] = 0
number_of k ((n for ks) ∷ lines) = cond (among k ks) n (number_of k lines)
