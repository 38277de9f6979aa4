-- The operators that go on from an operand, one after the other, each with what was read as its left operand. Assumes nothing.
use mathlib.Core.List.{List, ◌++◌, append_assoc}
use mathlib.Core.Logic.{inl}
use mathlib.Core.Option.{some}
use mathlib.Core.Path.{◌≡◌, refl, sym, ap, ◌∙◌, subst}
use Prim.Native.Nat.{ℕ, ◌+◌, ◌≤◌, ◌<◌, min}
use lib.ListN.{length, length-append}
use native.Mathlib.Omega.{arith}
use Rattle.theory.specs.Trees.{Nt, Tree, nil, node, cap_of}
use Rattle.theory.specs.Outcome.{refused}
use Rattle.kinds.specs.Strength.{strength_of}
use Rattle.grammar.specs.Rows.{operator}
use Rattle.grammar.specs.Limits.{Around}
use Rattle.grammar.specs.Reading.{value}
use Rattle.descent.proofs.Places.{kind_at, tok_at, OpenRow, rests, again}
use Rattle.descent.proofs.Named.{op_row}
use Rattle.descent.proofs.Walk.{bind, onto, deeper, ops_w, op_w}
use Rattle.descent.proofs.Grown.{recs}
use Rattle.descent.proofs.TableFacts.{op_str, cont_op}
use Rattle.descent.proofs.Steps.{row_on}
use Rattle.descent.proofs.Means.{str_of, ExprTree, Exprd, Takes, Told, Good, Stops, OpsOK, OperatorOK}
use Rattle.descent.proofs.Common.{told_bind, told_onto, goes_no_word}
use Rattle.descent.proofs.Strong.{below_strong, strength_most, op_no_query, op_plain, op_expression}

module _ (K T : List ℕ) (good : Good K T) where
  -- at an operator that is asked and that y is tight enough for
  again_on : (at : ℕ) (c : Around) (s : ℕ) (A : Nt) → Takes A s → (y : Tree) (left : ℕ) → ExprTree y left → 0 < strength_of (kind_at K at) → s ≤ strength_of (kind_at K at) → strength_of (kind_at K at) ≤ left
      → again K T c A y at ≡ rests K T (record { c = c; A = A; r = op_row (kind_at K at); l = y; t = tok_at K T at }) (op_row (kind_at K at)).items nil (at + 1)
  unfolding again
  again_on at c s A t y left e p a b = let k = kind_at K at in
      subst (λ z. again K T c A z at ≡ rests K T (record { c = c; A = A; r = op_row k; l = z; t = tok_at K T at }) (op_row k).items nil (at + 1)) (sym e.is)
      (row_on K T good.sound (record { c = c; A = A; r = e.r; l = e.l; t = e.t }) e.k at (op_row k)
      (cont_op A t.among k (good.bound at) p e.r (cap_of e.k) (t.enough (strength_of k) p a) (omega (arith, b, e.leaves)))
      (goes_no_word c (op_row k) e.r e.l e.t (tok_at K T at) e.k))

  module _ (f : ℕ) (operator : OperatorOK K T f) (ops : OpsOK K T f) where
    -- where an operator goes on
    pub goes : (at : ℕ) (c : Around) (s left pre : ℕ) (A : Nt) → Takes A s → (y : Tree) → ExprTree y left → length (recs (value y)) ≡ pre
        → 0 < strength_of (kind_at K at) → s ≤ strength_of (kind_at K at) → strength_of (kind_at K at) ≤ left
        → Told (bind (op_w K T f at (deeper c) (strength_of (kind_at K at) + 1) pre) (λ a x n rs. onto rs (ops_w K T f a c s (min (strength_of (kind_at K at)) x) (pre + length rs))))
        (λ a said n rs. (z : Tree) × (again K T c A y at ≡ again K T c A z a) × Exprd z said s × Stops K T s said a × (recs (value z) ≡ recs (value y) ++ rs))
        (λ m p. again K T c A y at ≡ refused m p)
    unfolding again str_of
    goes at c s left pre A t y e len p a b = told_bind (op_w K T f at (deeper c) (strength_of (kind_at K at) + 1) pre) _
        (operator at (deeper c) (strength_of (kind_at K at) + 1) pre F p refl refl refl (below_strong (op_row (kind_at K at)) c (op_expression (kind_at K at) (good.bound at) p) (op_no_query (kind_at K at) (good.bound at))) e.single len)
        (λ d x n rs q. let z = node (op_row (kind_at K at)) y (tok_at K T at) q.0 in
        told_onto rs (ops_w K T f d c s (min (strength_of (kind_at K at)) x) (pre + length rs))
        (ops d c s (min (strength_of (kind_at K at)) x) (pre + length rs) A t z
        (inl (record { r = op_row (kind_at K at); l = y; t = tok_at K T at; k = q.0; is = refl; leaves = left_by (op_row (kind_at K at)).str (strength_of (kind_at K at)) (op_row (kind_at K at)).cap x (cap_of q.0) st.0 st.2 (strength_most (kind_at K at) (good.bound at)) q.2.1; some = omega (arith, p, q.2.0); plain = op_plain (kind_at K at) (good.bound at); silent = q.3; single = q.4 }, omega (arith, st.0, a)))
        (ap length q.5 ∙ length-append (recs (value y)) rs ∙ ap (λ i. i + length rs) len))
        (λ i said j qs w. (w.0, on ∙ q.1 ∙ w.1, w.2, w.3, w.4 ∙ ap (λ u. u ++ qs) q.5 ∙ append_assoc (recs (value y)) rs qs))
        (λ m i w. on ∙ q.1 ∙ w))
        (λ m i w. on ∙ w)
      where
        left_by : (r k cap x m : ℕ) → r ≡ k → cap ≡ 99 → k ≤ 10 → min r x ≡ min r m → min r (min cap m) ≡ min k x
        left_by r k cap x m a b d e = omega (arith, a, b, d, e)

        F : OpenRow
        F = record { c = c; A = A; r = op_row (kind_at K at); l = y; t = tok_at K T at }

        st : ((op_row (kind_at K at)).str ≡ strength_of (kind_at K at)) × ((op_row (kind_at K at)).left ≡ strength_of (kind_at K at)) × ((op_row (kind_at K at)).cap ≡ 99)
        st = op_str (kind_at K at) (good.bound at) p

        on : again K T c A y at ≡ rests K T F (op_row (kind_at K at)).items nil (at + 1)
        on = again_on at c s A t y left e p a b
