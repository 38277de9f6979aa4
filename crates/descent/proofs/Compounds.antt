-- Operands that begin with no name or literal: ( ), CASE, CAST, EXISTS, a prefix operator; or none. Assumes nothing.
use mathlib.Core.Bool.{true, false, Bool}
use mathlib.Core.List.{List}
use mathlib.Core.Logic.{inl}
use mathlib.Core.Option.{some, none}
use mathlib.Core.Path.{◌≡◌, refl, ◌∙◌}
use Prim.Native.Nat.{ℕ, ◌+◌, ◌≤◌, ◌<◌, suc}
use borrow.Author.Tests.{ltb-true}
use lib.Dec.{ltb, eqb, leb}
use native.Mathlib.Omega.{arith}
use Rattle.theory.specs.Trees.{Nt, Row, Tree, nil, node}
use Rattle.theory.specs.Table.{pick, both, mem}
use Rattle.theory.specs.Outcome.{refused}
use Rattle.theory.proofs.Cases.{pick_inv, both_l, both_r, eqb_eq, leb_le}
use Rattle.kinds.specs.Kinds.{ID, NULL, LP, CASE, CAST, EXISTS}
use Rattle.kinds.specs.Strength.{prefix_of}
use Rattle.kinds.specs.Classes.{is_name, literal_code}
use Rattle.grammar.specs.Sizes.{LEVELS}
use Rattle.grammar.specs.Limits.{Around, is_query, is_expression}
use Rattle.grammar.specs.Reading.{value}
use Rattle.descent.proofs.Places.{kind_at, tok_at, wrong, OpenRow, calls, rests, again}
use Rattle.descent.proofs.Named.{parens_row, exists_row, case_row, cast_row, head_row, own}
use Rattle.descent.proofs.Walk.{Walked, deeper, not_b, κ, wrong_at, expr_w, sign_w, paren_w, exists_w, case_w, cast_w}
use Rattle.descent.proofs.Grown.{recs}
use Rattle.descent.proofs.SameRow.{below?, throughout}
use Rattle.descent.proofs.TableFacts.{BOUND}
use Rattle.descent.proofs.Means.{plain_code, str_of, Exprd, Takes, Told, Good, CompoundOK, PrefixOK, RowOK, ParenOK, ExistsOK, CaseOK, CastOK}
use Rattle.descent.proofs.Common.{told_map, told_choose, told_stop}
use Rattle.descent.proofs.Strong.{below_strong, not-true}
use Rattle.descent.proofs.Heads.{head_on, head_none}

-- outside the kinds of names and literals, that is none of these and no prefix: nothing begins
none_test : ℕ → Bool
none_test k = pick (both (leb ID k) (leb k NULL)) true (λ w. both (eqb (literal_code k) 0) (not_b (is_name k)))

none_right : below? BOUND none_test ≡ true
unfolding none_test below? literal_code is_name not_b both pick
none_right = refl

outside : (k : ℕ) → k < BOUND → ((ID ≤ k) × (k ≤ NULL) → ⊥) → (literal_code k ≡ 0) × (is_name k ≡ false)
unfolding none_test
outside k h o = pick_inv (both (leb ID k) (leb k NULL)) true _ true (throughout BOUND none_test none_right k h)
    (λ z x. absurd (o (leb_le ID k (both_l (leb ID k) (leb k NULL) z), leb_le k NULL (both_r (leb ID k) (leb k NULL) z))))
    (λ z x. (eqb_eq (literal_code k) 0 (both_l (eqb (literal_code k) 0) (not_b (is_name k)) x), not-true (is_name k) (both_r (eqb (literal_code k) 0) (not_b (is_name k)) x)))

pub compound_none : (C k : ℕ) → k < BOUND → ((ID ≤ k) × (k ≤ NULL) → ⊥) → eqb k LP ≡ false → eqb k CASE ≡ false → eqb k CAST ≡ false → eqb k EXISTS ≡ false → ltb 0 (prefix_of k) ≡ false
    → head_row C k ≡ none
unfolding head_row pick
compound_none C k h o a b d e p = let z = outside k h o in rw (p, z.0, z.1, a, b, d, e)

-- the rows of these tokens, in every class
pub token_rows : (C : ℕ) → (head_row C LP ≡ some parens_row) × (head_row C CASE ≡ some case_row) × (head_row C CAST ≡ some cast_row) × (head_row C EXISTS ≡ some exists_row)
unfolding head_row prefix_of literal_code is_name pick
token_rows C = (refl, refl, refl, refl)

module _ (K T : List ℕ) (good : Good K T) where
  -- an operand by a row of strength 12
  pub operand_by : (r : Row) (w : ℕ → Around → Walked) → r.str ≡ 12 → r.cap ≡ 99 → is_expression r ≡ true → is_query r.code ≡ false → plain_code r.code ≡ true → RowOK K T r w
      → (at : ℕ) (c : Around) (s : ℕ) (A : Nt) → Takes A s → mem (κ K T at) (own A.of) ≡ false → head_row A.of (κ K T at) ≡ some r → c.level ≤ LEVELS
      → Told (w (at + 1) (deeper c))
      (λ a said n rs. (y : Tree) × (calls K T c A at ≡ again K T c A y a) × Exprd y said s × (rs ≡ recs (value y)))
      (λ m p. calls K T c A at ≡ refused m p)
  unfolding again str_of
  operand_by r w str cap ex nq pl ok at c s A t o h l = told_map (w (at + 1) (deeper c)) (ok (at + 1) (deeper c) F refl refl (below_strong r c ex nq))
      (λ a said n rs q. let k = q.0 in (
        node r nil (tok_at K T at) k,
        on ∙ q.1,
        inl (
          record {
            r = r;
            l = nil;
            t = tok_at K T at;
            k = k;
            is = refl;
            leaves = omega (arith, str, cap, q.2, q.3);
            some = omega (arith, q.2);
            plain = pl;
            silent = q.4;
            single = q.5;
          },
          omega (arith, str, t.most),
        ),
        q.6,
      ))
      (λ m p e. on ∙ e)
    where
      F : OpenRow
      F = record { c = c; A = A; r = r; l = nil; t = tok_at K T at }

      has : 1 ≤ r.str
      has = omega (arith, str)

      on : calls K T c A at ≡ rests K T F r.items nil (at + 1)
      on = head_on K T good at c s A t o r h has (omega (arith, str, t.most)) nq l

  pub compound_ok : (f : ℕ) → ParenOK K T f → CaseOK K T f → CastOK K T f → ExistsOK K T f → PrefixOK K T f → CompoundOK K T (suc f)
  unfolding expr_w is_query pick plain_code mem not_b
  compound_ok f paren case cast exists prefix at c s A t o n l x =
      told_choose (eqb (kind_at K at) LP) (paren_w K T f (at + 1) (deeper c)) _
      (λ z. operand_by parens_row (paren_w K T f) refl refl refl refl refl paren at c s A t o (head LP (token_rows A.of).0 z) l)
      (λ a. told_choose (eqb (kind_at K at) CASE) (case_w K T f (at + 1) (deeper c)) _
      (λ z. operand_by case_row (case_w K T f) refl refl refl refl refl case at c s A t o (head CASE (token_rows A.of).1 z) l)
      (λ b. told_choose (eqb (kind_at K at) CAST) (cast_w K T f (at + 1) (deeper c)) _
      (λ z. operand_by cast_row (cast_w K T f) refl refl refl refl refl cast at c s A t o (head CAST (token_rows A.of).2 z) l)
      (λ d. told_choose (eqb (kind_at K at) EXISTS) (exists_w K T f (at + 1) (deeper c)) _
      (λ z. operand_by exists_row (exists_w K T f) refl refl refl refl refl exists at c s A t o (head EXISTS (token_rows A.of).3 z) l)
      (λ e. told_choose (ltb 0 (prefix_of (kind_at K at))) (sign_w K T f at c s) (wrong_at K T at)
      (λ z. prefix at c s A t o n l (ltb-true 0 (prefix_of (kind_at K at)) z))
      (λ z. told_stop (wrong (kind_at K at)) at (head_none K T good at c s A t o (compound_none A.of (kind_at K at) (good.bound at) x a b d e z) n))))))
    where
      head : (d : ℕ) {r : Row} → head_row A.of d ≡ some r → eqb (kind_at K at) d ≡ true → head_row A.of (kind_at K at) ≡ some r
      head d h z = rw (eqb_eq (kind_at K at) d z) h
