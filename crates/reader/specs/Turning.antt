-- Records that are turned round where they stand: what swap, reverse and rotate promise. Definitions only.
use Rattle.std.specs.Prelude.{List, ◌++◌, reverse, ◌≡◌, ℕ, ◌+◌, ◌*◌, length, set, get_or}
use Rattle.grammar.specs.Sizes.{WIDTH}
use Rattle.grammar.specs.Nodes.{Rec, numbers}

-- two numbers, each in the place of the other
unfoldable pub swapped_at : List ℕ → ℕ → ℕ → List ℕ
swapped_at N a b = set (set N a (get_or N b 0)) b (get_or N a 0)

-- the numbers of N from the place a up to b are those of records, and E is N with these records last first
pub record Turned (N : List ℕ) (a b : ℕ) (E : List ℕ) : Type 0 where
  pub fore : List ℕ
  pub turning : List Rec
  pub aft : List ℕ
  pub now_is : N ≡ fore ++ (numbers turning ++ aft)
  pub fore_long : length fore ≡ a
  pub turning_long : b ≡ a + length turning * WIDTH
  pub then_is : E ≡ fore ++ (numbers (reverse turning) ++ aft)
