-- Where a node's records stand in a table, and tokens that are written from the last to the first. Definitions only.
use mathlib.Core.List.{List, [], ◌∷◌, ◌++◌, map}
use mathlib.Core.Path.{◌≡◌}
use Prim.Native.Nat.{ℕ, ◌+◌, ◌*◌, ◌≤◌}
use lib.Dec.{eqb}
use lib.ListN.{length, set}
use Rattle.theory.specs.Trees.{Tok}
use Rattle.grammar.specs.Sizes.{WIDTH}
use Rattle.grammar.specs.Nodes.{Nodes, records, numbers}
use Rattle.grammar.specs.Reading.{choose}

-- the records of these nodes end at record i of the table
pub record Stands (N : List ℕ) (i : ℕ) (ns : Nodes) : Type 0 where
  pub fore : List ℕ
  pub aft : List ℕ
  pub parted : N ≡ fore ++ (numbers (records ns) ++ aft)
  pub upto : length fore + WIDTH * length (records ns) ≡ WIDTH * i

-- one of a token's two numbers: its kind, or its text number
abbrev pub lane_of : ℕ → Tok → ℕ
lane_of lane t = choose (eqb lane 0) t.kind t.text

abbrev pub lanes : ℕ → List Tok → List ℕ
lanes lane ts = map (lane_of lane) ts

-- numbers put into a list from a place on, the last first
unfoldable pub written : List ℕ → ℕ → List ℕ → List ℕ
written A at [] = A
written A at (x ∷ xs) = set (written A (at + 1) xs) at x

-- these tokens were written: they end at `to` and begin at `from`
pub record Wrote (lane : ℕ) (A A' : List ℕ) (from to : ℕ) (ts : List Tok) : Type 0 where
  pub counted : from + length ts ≡ to
  pub stand : A' ≡ written A from (lanes lane ts)

-- .. where there are as many places before `to`
pub record Puts (lane : ℕ) (A A' : List ℕ) (from to : ℕ) (ts : List Tok) : Type 0 where
  pub puts : length ts ≤ to → Wrote lane A A' from to ts
