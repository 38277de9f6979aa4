-- The row of an operand: what is shown of the row by name holds of any row that is said to be it (row_ok); RP, which ends many (close_told).
-- Assumes nothing.
use mathlib.Core.List.{List, [], ◌∷◌, ◌++◌}
use mathlib.Core.Path.{◌≡◌, refl, sym, ap, subst}
use Prim.Native.Nat.{ℕ, ◌+◌}
use borrow.Author.Tests.{eqb-false}
use lib.Dec.{eqb}
use lib.ListN.{length}
use native.Mathlib.Omega.{arith}
use Rattle.theory.specs.Trees.{Tok, Nt, Row, nil}
use Rattle.theory.proofs.Cases.{eqb_eq}
use Rattle.kinds.specs.Kinds.{RP}
use Rattle.grammar.specs.Limits.{Around, below}
use Rattle.grammar.specs.Nodes.{Rec, rec}
use Rattle.descent.proofs.Places.{kind_at, wrong, OpenRow}
use Rattle.descent.proofs.Walk.{Walked, onto, over, close_w}
use Rattle.descent.proofs.Means.{Told, Operand, RowOK}
use Rattle.descent.proofs.Common.{told_onto, told_choose, told_done, told_stop}

module _ (K T : List ℕ) where
  pub row_ok : (r : Row) (w : ℕ → Around → Walked)
      → ((at : ℕ) (c : Around) (d : Around) (A : Nt) (t : Tok) → below r d ≡ c → Operand K T (record { c = d; A = A; r = r; l = nil; t = t }) at (w at c)) → RowOK K T r w
  row_ok r w h at c F er el e = subst (λ z. Operand K T z at (w at c)) (sym (same er el)) (h at c F.c F.A F.t (rw er at e))
    where
      same : F.r ≡ r → F.l ≡ nil → ◌≡◌ {A = OpenRow} (record { c = F.c; A = F.A; r = F.r; l = F.l; t = F.t }) (record { c = F.c; A = F.A; r = r; l = nil; t = F.t })
      same er el = rw (er, el)

  -- RP after a part of these records
  pub close_told : {P : ℕ → ℕ → ℕ → List Rec → Type 0} {Q : ℕ → ℕ → Type 0} (at code detail n : ℕ) (rs : List Rec)
      → (kind_at K at ≡ RP → P (at + 1) 12 0 (over code detail n 0 rs)) → ((kind_at K at ≡ RP → ⊥) → Q (wrong (kind_at K at)) at) → Told (onto rs (close_w K T at code detail n (length rs))) P Q
  unfolding close_w
  close_told {Q = Q} at code detail n rs a b = told_onto rs _ (told_choose {P = λ a s m qs. (kind_at K at ≡ RP) × (a ≡ at + 1) × (s ≡ 12) × (m ≡ 0) × (rs ++ qs ≡ over code detail n 0 rs)} {Q = Q} (eqb (kind_at K at) RP) _ _
      (λ z. told_done (at + 1) 12 0 _ (eqb_eq (kind_at K at) RP z, refl, refl, refl, ap (λ z. rs ++ (rec code detail n z ∷ [])) (omega arith)))
      (λ z. told_stop (wrong (kind_at K at)) at (b (eqb-false (kind_at K at) RP z))))
      (λ c s m qs p. rw (p.4, p.1, p.2, p.3) (a p.0)) (λ m p q. q)
