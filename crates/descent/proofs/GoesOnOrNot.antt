-- The operators that go on from an operand: where none does, and where one does (GoingOn.antt). Assumes nothing.
use mathlib.Core.List.{List, [], ◌++◌, append-nil}
use mathlib.Core.Logic.{inl, inr}
use mathlib.Core.Path.{◌≡◌, refl, sym}
use Prim.Native.Nat.{ℕ, ◌+◌, ◌≤◌, ◌<◌, min, suc}
use borrow.Author.Tests.{ltb-true, ltb-false, eqb-false}
use lib.Dec.{ltb, eqb}
use lib.ListN.{length}
use native.Mathlib.Omega.{arith}
use Rattle.theory.specs.Trees.{Tree}
use Rattle.theory.specs.Outcome.{refused}
use Rattle.theory.proofs.Cases.{eqb_eq}
use Rattle.kinds.specs.Strength.{strength_of}
use Rattle.grammar.specs.Reading.{value}
use Rattle.descent.proofs.Places.{kind_at, again}
use Rattle.descent.proofs.Walk.{done, bind, onto, deeper, expr_w, ops_w, op_w}
use Rattle.descent.proofs.Grown.{recs}
use Rattle.descent.proofs.GoingOn.{goes}
use Rattle.descent.proofs.Means.{Exprd, Told, Good, Stops, OpsOK, OperatorOK}
use Rattle.descent.proofs.Common.{told_choose, told_done}

module _ (K T : List ℕ) (good : Good K T) where
  module _ (f : ℕ) (operator : OperatorOK K T f) (ops : OpsOK K T f) where
    pub ops_ok : OpsOK K T (suc f)
    unfolding expr_w
    ops_ok at c s left pre A t y ex len = told_choose (eqb (strength_of (kind_at K at)) 0) (done at left 0 []) _
        (λ z. here (inl (eqb_eq (strength_of (kind_at K at)) 0 z)))
        (λ z. told_choose (ltb (strength_of (kind_at K at)) s) (done at left 0 []) _
        (λ w. here (inr (inl (ltb-true (strength_of (kind_at K at)) s w))))
        (λ w. told_choose (ltb left (strength_of (kind_at K at))) (done at left 0 []) _
        (λ v. here (inr (inr (ltb-true left (strength_of (kind_at K at)) v))))
        (λ v. going ex (has (strength_of (kind_at K at)) (eqb-false (strength_of (kind_at K at)) 0 z)) (ltb-false (strength_of (kind_at K at)) s w) (ltb-false left (strength_of (kind_at K at)) v))))
      where
        here : Stops K T s left at → Told (done at left 0 [])
            (λ a said n rs. (z : Tree) × (again K T c A y at ≡ again K T c A z a) × Exprd z said s × Stops K T s said a × (recs (value z) ≡ recs (value y) ++ rs))
            (λ m p. again K T c A y at ≡ refused m p)
        here st = told_done at left 0 [] (y, refl, ex, st, sym (append-nil (recs (value y))))

        has : (i : ℕ) → (i ≡ 0 → ⊥) → 0 < i
        has i o = omega (arith, o)

        going : Exprd y left s → 0 < strength_of (kind_at K at) → s ≤ strength_of (kind_at K at) → strength_of (kind_at K at) ≤ left
            → Told (bind (op_w K T f at (deeper c) (strength_of (kind_at K at) + 1) pre) (λ a x n rs. onto rs (ops_w K T f a c s (min (strength_of (kind_at K at)) x) (pre + length rs))))
            (λ a said n rs. (z : Tree) × (again K T c A y at ≡ again K T c A z a) × Exprd z said s × Stops K T s said a × (recs (value z) ≡ recs (value y) ++ rs))
            (λ m p. again K T c A y at ≡ refused m p)
        going (inl e) p a b = goes K T good f operator ops at c s left pre A t y e.0 len p a b
        going (inr e) p a b = absurd (omega (arith, e.0, p, b))
