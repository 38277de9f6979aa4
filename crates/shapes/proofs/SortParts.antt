-- The way of a sort term. Assumes nothing.
use mathlib.Core.List.{List, []}
use mathlib.Core.Path.{refl}
use Prim.Native.Nat.{ℕ, ◌+◌, ◌≤◌}
use lib.Dec.{eqb}
use native.Mathlib.Omega.{arith}
use Rattle.kinds.specs.Kinds.{ASC, DESC, NULLS, FIRST, LAST}
use Rattle.descent.proofs.Walk.{κ, nulls_w, way_w}
use Rattle.shapes.specs.Shape.{an_expr, a_sort, fin, ◌▸◌, Node, sort_node}
use Rattle.shapes.proofs.Gives.{Gives, gives_choose, gives_done, gives_stop}

module _ (K T : List ℕ) where
  gives_nulls : (at way : ℕ) → way ≤ 2 → Gives (nulls_w K T at way) (λ a d n rs. Node a_sort 14 d (an_expr ▸ fin))
  unfolding nulls_w
  gives_nulls at way h = gives_choose (eqb (κ K T at) NULLS) _ _
      (λ z. gives_choose (eqb (κ K T (at + 1)) FIRST) _ _ (λ y. gives_done (at + 2) (way + 4) 0 [] (sort_node way 1 refl (omega arith) h (omega arith)))
      (λ y. gives_choose (eqb (κ K T (at + 1)) LAST) _ _ (λ x. gives_done (at + 2) (way + 8) 0 [] (sort_node way 2 refl (omega arith) h (omega arith))) (λ x. gives_stop)))
      (λ z. gives_done at way 0 [] (sort_node way 0 refl (omega arith) h (omega arith)))

  pub gives_way : (at : ℕ) → Gives (way_w K T at) (λ a d n rs. Node a_sort 14 d (an_expr ▸ fin))
  unfolding way_w
  gives_way at = gives_choose (eqb (κ K T at) ASC) _ _ (λ z. gives_nulls (at + 1) 1 (omega arith))
      (λ z. gives_choose (eqb (κ K T at) DESC) _ _ (λ y. gives_nulls (at + 1) 2 (omega arith)) (λ y. gives_nulls at 0 (omega arith)))
