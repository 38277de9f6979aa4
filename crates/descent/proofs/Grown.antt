-- The table as records are stored in it one after the other, each if it fits whole: what the reader does to it. Definitions only.
use mathlib.Core.List.{List, [], ◌∷◌}
use mathlib.Core.Path.{◌≡◌}
use Prim.Native.Nat.{ℕ, ◌+◌, ◌*◌}
use lib.Dec.{leb}
use lib.ListN.{length, set}
use Rattle.grammar.specs.Nodes.{Rec, rec, records}
use Rattle.grammar.specs.Reading.{Val, side, choose}
use Rattle.grammar.specs.Sizes.{WIDTH}

-- the record numbered `made` is stored if it fits whole
unfoldable pub put : List ℕ → ℕ → Rec → List ℕ
put N made (rec c d n s) = choose (leb (made * WIDTH + WIDTH) (length N))
    (set (set (set (set N (made * WIDTH) c) (made * WIDTH + 1) d) (made * WIDTH + 2) n) (made * WIDTH + 3) s) N

-- these records, from the one numbered `made` on
unfoldable pub fill : List ℕ → ℕ → List Rec → List ℕ
fill N made [] = N
fill N made (r ∷ rs) = fill (put N made r) (made + 1) rs

-- from m records and the table N to m' and N', by these
pub record Grown (m : ℕ) (N : List ℕ) (m' : ℕ) (N' : List ℕ) (rs : List Rec) : Type 0 where
  pub many : m' ≡ m + length rs
  pub table : N' ≡ fill N m rs

-- the records of values side by side
abbrev pub recs_all : List Val → List Rec
recs_all vs = records (side vs)

abbrev pub recs : Val → List Rec
recs v = records v.nodes
