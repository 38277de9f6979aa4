-- "The reading": 01's nodes, and the records that hold them. Definitions only.
use Rattle.std.specs.Prelude.{List, [], ◌∷◌, ◌++◌, ℕ, ◌+◌, ◌*◌, length, drop}
use Rattle.grammar.specs.Sizes.{WIDTH}

-- nodes side by side: the code, detail and children of the first; then those after it
pub data Nodes : Type 0 where
  end : Nodes
  mk : ℕ → ℕ → Nodes → Nodes → Nodes

-- how many stand side by side
unfoldable pub count : Nodes → ℕ
count end = 0
count (mk c d ks ns) = count ns + 1

-- one forest, and another after it
unfoldable pub beside : Nodes → Nodes → Nodes
beside end ms = ms
beside (mk c d ks ns) ms = mk c d ks (beside ns ms)

-- "Records of four u32: code, detail, children, size (records in the subtree, itself too)."
pub data Rec : Type 0 where
  rec : ℕ → ℕ → ℕ → ℕ → Rec

-- "Children stand before their parent, left to right."
unfoldable pub records : Nodes → List Rec
records end = []
records (mk c d ks ns) = records ks ++ (rec c d (count ks) (length (records ks) + 1) ∷ records ns)

-- the four numbers of each record
unfoldable pub numbers : List Rec → List ℕ
numbers [] = []
numbers (rec c d n s ∷ rs) = c ∷ d ∷ n ∷ s ∷ numbers rs

-- the table once it holds these records: "The table beyond the reading .. keep their numbers."
unfoldable pub laid : List ℕ → List Rec → List ℕ
laid N rs = numbers rs ++ drop (WIDTH * length rs) N
