-- Records that are put into a table one after the other, as the reader puts them. Definitions only.
use mathlib.Core.List.{List, [], ◌∷◌}
use mathlib.Core.Path.{◌≡◌}
use Prim.Native.Nat.{ℕ, ◌+◌, ◌*◌, ◌≤◌}
use lib.ListN.{length, set}
use Rattle.grammar.specs.Sizes.{WIDTH}
use Rattle.grammar.specs.Nodes.{Rec, rec}

-- a record's four numbers, where the record numbered `made` stands
abbrev pub put : List ℕ → ℕ → ℕ → ℕ → ℕ → ℕ → List ℕ
put N made c d n s = set (set (set (set N (made * WIDTH) c) (made * WIDTH + 1) d) (made * WIDTH + 2) n) (made * WIDTH + 3) s

unfoldable pub fill : List ℕ → ℕ → List Rec → List ℕ
fill N made [] = N
fill N made (rec c d n s ∷ rs) = fill (put N made c d n s) (made + 1) rs

-- from the table N to the table N' these records came after the first `made`, and are `more` with them; where there is no room for them
-- nothing is said of N', for the first walk is lent no table
pub record Filled (N N' : List ℕ) (made more : ℕ) (rs : List Rec) : Type 0 where
  pub counted : more ≡ made + length rs
  pub stand : more * WIDTH ≤ length N → N' ≡ fill N made rs
