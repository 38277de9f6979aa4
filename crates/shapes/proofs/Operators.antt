-- An operator after an operand makes one expression with it. Assumes nothing.
use mathlib.Core.Bool.{true}
use mathlib.Core.List.{List, [], ◌∷◌, ◌++◌, append_assoc, append-nil}
use mathlib.Core.Logic.{inl, inr}
use mathlib.Core.Path.{◌≡◌, refl, sym}
use Prim.Native.Nat.{ℕ, ◌+◌, ◌≤◌, ◌<◌, min, zero, suc}
use borrow.Author.Tests.{lt-ltb, ltb-false, eqb-false}
use lib.Dec.{ltb, eqb, leb}
use lib.ListN.{length, get_or, length-append}
use native.Mathlib.Omega.{arith}
use Rattle.theory.specs.Table.{both}
use Rattle.theory.proofs.Cases.{both_i}
use Rattle.kinds.specs.Kinds.{RP, LP, AND, NOT, IS, IN, BETWEEN, LIKE_KW, COLLATE, NOTNULL, NULL, SELECT, VALUES}
use Rattle.kinds.specs.Strength.{strength_of}
use Rattle.grammar.specs.Limits.{Around}
use Rattle.grammar.specs.Nodes.{Rec, rec}
use Rattle.descent.proofs.Walk.{Walked, done, deeper, κ, τ, expr_w, ops_w, op_w, negated_w, binary_w, range_w, after_w, among_w, ended_w, query_w, list_w}
use Rattle.shapes.specs.Shape.{Class, an_expr, Shape, fin, ◌▸◌, Operator, kind_op, is_op, is_not_op, like_op, not_like_op, Node, NullTest, not_null, binary_node, null_node, between_node, in_query_node, in_list_node, any_node}
use Rattle.shapes.proofs.Records.{Read, One, read_is, read_none, read_each, ◌&◌, read_node, read_over, read_after}
use Rattle.shapes.proofs.Gives.{Gives, gives_bind, gives_onto, gives_choose, gives_done, gives_stop, gives_spent, gives_map}
use Rattle.shapes.proofs.KindCodes.{binary_kind, null_test}
use Rattle.shapes.proofs.Loops.{Several}
use Rattle.shapes.proofs.NameParts.{Exprd, gives_collate}
use Rattle.shapes.proofs.Statements.{Extends, GivesOne, GivesExpr, All}

-- asked at a strength, an expression is one
pub expr_one : {w : Walked} (s : ℕ) → 1 ≤ s → Gives w (λ a said n rs. Exprd s said rs) → GivesOne an_expr w
expr_one {w} s h g = gives_map w g (λ a said n rs r. one said rs r)
  where
    one : (said : ℕ) (rs : List Rec) → Exprd s said rs → One an_expr rs
    one said rs (inl r) = r.1
    one said rs (inr r) = absurd (omega (arith, h, r.1))

pub expr_told : {w : Walked} (s : ℕ) → 1 ≤ s → Gives w (λ a said n rs. Exprd s said rs) → GivesExpr w
expr_told {w} s h g = gives_map w g (λ a said n rs r. one said rs r)
  where
    one : (said : ℕ) (rs : List Rec) → Exprd s said rs → (0 < said) × One an_expr rs
    one said rs (inl r) = r
    one said rs (inr r) = absurd (omega (arith, h, r.1))

-- a count that has none before it
pub from_none : {S : Shape} {n : ℕ} {rs : List Rec} → Several S 0 n rs → Read S n rs
from_none s = read_is s.read (omega (arith, s.counts)) refl

-- a null test over the operand
tested : (ls : List Rec) (d pre : ℕ) → NullTest d → One an_expr ls → length ls ≡ pre → One an_expr (ls ++ (rec 40 d 1 (pre + 1) ∷ []))
tested ls d pre t l len = read_node (null_node refl t) l (omega (arith, len))

module _ (K T : List ℕ) (bound : (n : ℕ) → get_or K n 0 < 72) where
  -- RP of IN, after what stands in its parentheses
  ended_in : {X : Class} (at code not pre : ℕ) (rs : List Rec) → Node an_expr code not (an_expr ▸ X ▸ fin) → One X rs → Extends pre (ended_w K T at code not pre rs)
  unfolding ended_w
  ended_in at code not pre rs N r ls l len = gives_choose (eqb (κ K T at) RP) _ _ (λ z. gives_done (at + 1) 12 0 _ (omega arith, read_after ls rs N (l & r) len)) (λ z. gives_stop)

  module _ (f : ℕ) (all : All K T f) where
    pub after_gives : (at word : ℕ) (c : Around) (s : ℕ) → 1 ≤ s → GivesExpr (after_w K T (suc f) at word c s)
    unfolding expr_w
    after_gives at word c s h = gives_choose (eqb (κ K T at) word) _ _ (λ z. expr_told s h (all.expr (at + 1) c s)) (λ z. gives_stop)

    pub binary_gives : (at : ℕ) (c : Around) (s d pre : ℕ) → 1 ≤ s → Operator d → Extends pre (binary_w K T (suc f) at c s d pre)
    unfolding expr_w
    binary_gives at c s d pre h o ls l len = gives_bind (expr_w K T f at c s) _ (expr_told s h (all.expr at c s))
        (λ a x n rs r. gives_done a x 0 _ (r.0, read_after ls rs (binary_node refl o) (l & r.1) len))

    pub between_gives : (at : ℕ) (c : Around) (s not pre : ℕ) → 1 ≤ s → not ≤ 1 → Extends pre (range_w K T (suc f) at c s not pre)
    unfolding expr_w
    between_gives at c s not pre h b ls l len = gives_bind (expr_w K T f at c s) _ (expr_one s h (all.expr at c s))
        (λ a x n rs r. gives_bind (after_w K T f a AND c s) _ (all.after a AND c s h)
        (λ d y n qs q. gives_done d y 0 _ (q.0, read_after ls (rs ++ qs) (between_node refl b) (l & r & q.1) len)))

    pub inside_gives : (at : ℕ) (c : Around) (not pre : ℕ) → not ≤ 1 → Extends pre (among_w K T (suc f) at c not pre)
    unfolding expr_w
    inside_gives at c not pre b ls l len = gives_choose (eqb (κ K T at) LP) _ _
        (λ z. gives_choose (both (leb SELECT (κ K T (at + 1))) (leb (κ K T (at + 1)) VALUES)) _ _
        (λ y. gives_bind (query_w K T f (at + 1) c) _ (all.query (at + 1) c) (λ a x n rs r. ended_in a 42 not pre rs (in_query_node refl b) r ls l len))
        (λ y. gives_choose (eqb (κ K T (at + 1)) RP) _ _
        (λ x. ended_in (at + 1) 41 not pre _ (in_list_node refl b) (read_node (any_node refl refl) read_none refl) ls l len)
        (λ x. gives_bind (list_w K T f (at + 1) c 0) _ (all.list (at + 1) c 0)
        (λ a x n rs r. ended_in a 41 not pre _ (in_list_node refl b) (read_over (any_node refl refl) (read_each (from_none r))) ls l len))))
        (λ z. gives_stop)

    pub negated_gives : (at : ℕ) (c : Around) (s pre : ℕ) → 1 ≤ s → Extends pre (negated_w K T (suc f) at c s pre)
    unfolding expr_w
    negated_gives at c s pre h ls l len = gives_choose (eqb (κ K T at) IN) _ _ (λ z. all.inside (at + 1) c 1 pre (omega arith) ls l len)
        (λ z. gives_choose (eqb (κ K T at) BETWEEN) _ _ (λ y. all.between (at + 1) c s 1 pre h (omega arith) ls l len)
        (λ y. gives_choose (eqb (κ K T at) LIKE_KW) _ _ (λ x. all.binary (at + 1) c s (300 + τ K T at) pre h (not_like_op (τ K T at) refl) ls l len)
        (λ x. gives_choose (eqb (κ K T at) NULL) _ _ (λ w. gives_done (at + 1) 12 0 _ (omega arith, tested ls NOTNULL pre (not_null refl) l len)) (λ w. gives_stop))))

    pub op_gives : (at : ℕ) (c : Around) (s pre : ℕ) → 1 ≤ s → 0 < strength_of (κ K T at) → Extends pre (op_w K T (suc f) at c s pre)
    unfolding expr_w
    op_gives at c s pre h p ls l len = gives_choose (ltb (κ K T at) NOT) _ _
        (λ z. all.binary (at + 1) c s (κ K T at) pre h (kind_op p (binary_kind (κ K T at) (bound at) (both_i (ltb 0 (strength_of (κ K T at))) (ltb (κ K T at) NOT) some z))) ls l len)
        (λ a1. gives_choose (eqb (κ K T at) NOT) _ _ (λ z. all.negated (at + 1) c s pre h ls l len)
        (λ a2. gives_choose (eqb (κ K T at) IN) _ _ (λ z. all.inside (at + 1) c 0 pre (omega arith) ls l len)
        (λ a3. gives_choose (eqb (κ K T at) BETWEEN) _ _ (λ z. all.between (at + 1) c s 0 pre h (omega arith) ls l len)
        (λ a4. gives_choose (eqb (κ K T at) LIKE_KW) _ _ (λ z. all.binary (at + 1) c s (200 + τ K T at) pre h (like_op (τ K T at) refl) ls l len)
        (λ a5. gives_choose (eqb (κ K T at) IS) _ _
        (λ z. gives_choose (eqb (κ K T (at + 1)) NOT) _ _ (λ y. all.binary (at + 2) c s 137 pre h (is_not_op refl) ls l len) (λ y. all.binary (at + 1) c s 37 pre h (is_op refl) ls l len))
        (λ a6. gives_choose (eqb (κ K T at) COLLATE) _ _ (λ z. gives_collate K T bound (at + 1) pre ls l len)
        (λ a7. gives_done (at + 1) 12 0 _ (omega arith, tested ls (κ K T at) pre (null_test (κ K T at) (bound at) some a1 a2 a3 a4 a5 a6 a7) l len))))))))
      where
        some : ltb 0 (strength_of (κ K T at)) ≡ true
        some = lt-ltb 0 (strength_of (κ K T at)) p

    -- those that go on from an operand
    pub ops_gives : (at : ℕ) (c : Around) (s left pre : ℕ) → 0 < left → (ls : List Rec) → One an_expr ls → length ls ≡ pre
        → Gives (ops_w K T (suc f) at c s left pre) (λ a said n rs. (0 < said) × One an_expr (ls ++ rs))
    unfolding expr_w
    ops_gives at c s left pre p ls l len = gives_choose (eqb (strength_of (κ K T at)) 0) _ _ (λ z. here)
        (λ a. gives_choose (ltb (strength_of (κ K T at)) s) _ _ (λ z. here)
        (λ b. gives_choose (ltb left (strength_of (κ K T at))) _ _ (λ z. here)
        (λ d. let q : 0 < strength_of (κ K T at) = not_zero (strength_of (κ K T at)) (eqb-false (strength_of (κ K T at)) 0 a) in
        gives_bind (op_w K T f at (deeper c) (strength_of (κ K T at) + 1) pre) _ (all.op at (deeper c) (strength_of (κ K T at) + 1) pre (omega arith) q ls l len)
        (λ e x n rs r. gives_onto rs (ops_w K T f e c s (min (strength_of (κ K T at)) x) (pre + length rs)) (all.ops e c s (min (strength_of (κ K T at)) x) (pre + length rs) (omega (arith, q, r.0)) (ls ++ rs) r.1 (omega (arith, length-append ls rs, len)))
        (λ g y m qs t. (t.0, read_is t.1 refl (sym (append_assoc ls rs qs))))))))
      where
        here : Gives (done at left 0 []) (λ a said n rs. (0 < said) × One an_expr (ls ++ rs))
        here = gives_done at left 0 [] (p, read_is l refl (append-nil ls))

        not_zero : (k : ℕ) → (k ≡ 0 → ⊥) → 0 < k
        not_zero k h = omega (arith, h)

-- of strength 0, which is name DOT STAR, nothing goes on
pub ops_star : (K T : List ℕ) (f at : ℕ) (c : Around) (s pre : ℕ) → Gives (ops_w K T f at c s 0 pre) (λ a said n rs. (said ≡ 0) × (rs ≡ []))
unfolding expr_w
ops_star K T zero at c s pre = gives_spent
ops_star K T (suc f) at c s pre = gives_choose (eqb (strength_of (κ K T at)) 0) _ _ (λ z. gives_done at 0 0 [] (refl, refl))
    (λ a. gives_choose (ltb (strength_of (κ K T at)) s) _ _ (λ z. gives_done at 0 0 [] (refl, refl))
    (λ b. gives_choose (ltb 0 (strength_of (κ K T at))) _ _ (λ z. gives_done at 0 0 [] (refl, refl))
    (λ d. absurd (eqb-false (strength_of (κ K T at)) 0 a (none (strength_of (κ K T at)) (ltb-false 0 (strength_of (κ K T at)) d))))))
  where
    none : (k : ℕ) → k ≤ 0 → k ≡ 0
    none k h = omega (arith, h)
