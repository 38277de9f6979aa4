-- What is clear in a node table, and what is not.
use Rattle.std.specs.Prelude.{ℕ, ◌≤◌, ◌<◌, ◌≡◌, List, Option, IfSome, length, get_or, unwrap_or}

-- the table with its first `count` numbers clear, and the others as they were
pub record Cleared (nodes : List ℕ) (count : ℕ) (after : List ℕ) : Type 0 where
  pub long : length after ≡ length nodes
  pub clear : (k : ℕ) → k < count → get_or after k 0 ≡ 0
  pub kept : (k : ℕ) → count ≤ k → get_or after k 0 ≡ get_or nodes k 0

-- each number below `to`, from `from` on, is 0
abbrev pub ClearBelow : List ℕ → ℕ → ℕ → Type 0
ClearBelow nodes from to = (k : ℕ) → k < to → from ≤ k → get_or nodes k 0 ≡ 0

-- the first number from `from` on that is not 0, or the table's length where there is none
pub record FirstChanged (nodes : List ℕ) (from r : ℕ) : Type 0 where
  pub within : r ≤ length nodes
  pub clear : ClearBelow nodes from r
  pub changed : r < length nodes → (from ≤ r) × (get_or nodes r 0 ≡ 0 → ⊥)

-- what a search of the numbers from `from` on found: the first that is not 0, or that there is none
pub record Changed (nodes : List ℕ) (from : ℕ) (r : Option ℕ) : Type 0 where
  pub first : FirstChanged nodes from (unwrap_or r (length nodes))
  pub within : IfSome r (λ i. i < length nodes)
