-- A node of a class that ends at a record of the table, all of it: what the writer's functions are given. Definitions only.
use mathlib.Core.List.{List}
use Prim.Native.Nat.{ℕ, ◌+◌, ◌-◌, ◌*◌}
use lib.ListN.{get_or}
use Rattle.grammar.specs.Sizes.{WIDTH}
use Rattle.grammar.specs.Nodes.{Nodes, end, mk, beside}
use Rattle.grammar.specs.Writing.{Piece}
use Rattle.shapes.specs.Shape.{Class, Shape, Node, Shaped}
use Rattle.scribe.proofs.Standing.{Stands}
use Rattle.scribe.proofs.Spelling.{piece_of}

pub record Whole (C : Class) (N : List ℕ) (i : ℕ) : Type 0 where
  -- the nodes before it, among the same parent's
  pub elder : Nodes
  pub code : ℕ
  pub detail : ℕ
  pub kids : Nodes
  pub shape : Shape
  pub stands : Stands N i (beside elder (mk code detail kids end))
  pub node : Node C code detail shape
  pub shaped : Shaped shape kids

-- what is written for it
abbrev pub piece_at : {C : Class} {N : List ℕ} {i : ℕ} → Whole C N i → Piece
piece_at w = piece_of w.code w.detail w.kids

-- where the node before the one that ends at i ends, by its size in the table
unfoldable pub before_of : List ℕ → ℕ → ℕ
before_of N i = i - get_or N (WIDTH * (i - 1) + 3) 0
