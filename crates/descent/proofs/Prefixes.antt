-- A prefix operator and its operand mean what the grammar says. Assumes nothing.
use mathlib.Core.Bool.{true, false, Bool}
use mathlib.Core.List.{List, [], ◌∷◌}
use mathlib.Core.Logic.{inl}
use mathlib.Core.Option.{some}
use mathlib.Core.Path.{◌≡◌, refl, sym, ap, ◌∙◌}
use Prim.Native.Nat.{ℕ, ◌+◌, ◌≤◌, ◌<◌, min, suc}
use borrow.Author.Tests.{ne_eqb, ltb-true, ltb-false, lt-ltb}
use lib.Dec.{ltb, eqb, leb}
use native.Mathlib.Omega.{arith}
use Rattle.theory.specs.Trees.{Tok, nt, Row, Tree, nil, add, node, cap_of}
use Rattle.theory.specs.Table.{pick, both, mem}
use Rattle.theory.proofs.Cases.{by_bool, both_l, both_r, eqb_eq, leb_le, le-leb}
use Rattle.kinds.specs.Kinds.{NOT}
use Rattle.kinds.specs.Strength.{prefix_of}
use Rattle.grammar.specs.Classes.{E}
use Rattle.grammar.specs.RowNames.{row_prefix}
use Rattle.grammar.specs.NodeNames.{node_prefix}
use Rattle.grammar.specs.Limits.{is_query, is_expression, below}
use Rattle.grammar.specs.Reading.{side, rules, ruled, value_of, value}
use Rattle.descent.proofs.Places.{kind_at, tok_at, wrong, OpenRow, rests, again}
use Rattle.descent.proofs.Named.{prefix_row, head_row}
use Rattle.descent.proofs.Walk.{deeper, not_b, over, wrong_at, expr_w}
use Rattle.descent.proofs.Grown.{recs}
use Rattle.descent.proofs.SameRow.{eq_nt, eq_item, eq_items, eq_row, same_row, below?, throughout}
use Rattle.descent.proofs.TableFacts.{BOUND}
use Rattle.descent.proofs.Steps.{nt_got, nt_refused}
use Rattle.descent.proofs.Means.{plain_code, str_of, ExprTree, Good, ExprOK, PrefixOK}
use Rattle.descent.proofs.Common.{told_bind, told_choose, told_done, told_stop, expr_got}
use Rattle.descent.proofs.Sides.{single_count, beside_end, recs_of, one_single}
use Rattle.descent.proofs.Strong.{below_strong, prefix_most, expr_cap}
use Rattle.descent.proofs.Heads.{head_on, head_weak}

prefix_head : (C k : ℕ) → 0 < prefix_of k → head_row C k ≡ some (prefix_row k)
unfolding head_row pick
prefix_head C k h = rw (lt-ltb 0 (prefix_of k) h)

-- of a prefix's row: it stands where 10 is asked (NOT) or 11, asks the prefix's strength of its operand, and leaves as much
prefix_test : ℕ → Bool
prefix_test k = pick (eqb (prefix_of k) 0) true (λ w. both (eq_row (prefix_row k) (record { code = row_prefix; str = pick (eqb k NOT) 10 (λ w. 11); left = (prefix_row k).left; cap = (prefix_row k).cap; items = nt (E (prefix_of k)) ∷ [] }))
    (both (leb (prefix_of k) (prefix_row k).str) (eqb (min (prefix_row k).str (prefix_row k).cap) (prefix_of k))))

prefixes_right : below? BOUND prefix_test ≡ true
unfolding prefix_test below? eq_row eq_items eq_item eq_nt prefix_row prefix_of pick both
prefixes_right = refl

pub record Prefix (k : ℕ) : Type 0 where
  pub code : (prefix_row k).code ≡ row_prefix
  pub str : (prefix_row k).str ≡ pick (eqb k NOT) 10 (λ w. 11)
  pub items : (prefix_row k).items ≡ nt (E (prefix_of k)) ∷ []
  pub tight : prefix_of k ≤ (prefix_row k).str
  pub leaves : min (prefix_row k).str (prefix_row k).cap ≡ prefix_of k

is_prefix : (k : ℕ) → k < BOUND → 0 < prefix_of k → Prefix k
unfolding prefix_test pick
is_prefix k h p =
    let t = rw (ne_eqb (prefix_of k) 0 (λ e. omega (arith, e, p))) at (throughout BOUND prefix_test prefixes_right k h) in
    let e = same_row (prefix_row k) _ (both_l _ _ t) in
    record {
      code = ap (λ r. r.code) e;
      str = ap (λ r. r.str) e;
      items = ap (λ r. r.items) e;
      tight = leb_le (prefix_of k) (prefix_row k).str (both_l _ _ (both_r (eq_row (prefix_row k) _) _ t));
      leaves = eqb_eq (min (prefix_row k).str (prefix_row k).cap) (prefix_of k) (both_r (leb (prefix_of k) (prefix_row k).str) _ (both_r (eq_row (prefix_row k) _) _ t));
    }

-- the node of a prefix operator before x
module _ (k : ℕ) (P : Prefix k) (t : Tok) (x : Tree) (i : ℕ) (e : ExprTree x i) (h : prefix_of k ≤ str_of x) (some : 1 ≤ prefix_of k) where
  prefix_tree : ExprTree (node (prefix_row k) nil t (add nil x)) (min (prefix_of k) i)
  unfolding value value_of ruled rules pick plain_code not_b mem cap_of
  prefix_tree = record {
    r = prefix_row k;
    l = nil;
    t = t;
    k = add nil x;
    is = refl;
    leaves = left_by (prefix_row k).str (prefix_row k).cap (prefix_of k) i (cap_of x) P.leaves (expr_cap x i (prefix_of k) (prefix_of k) e h (omega arith));
    some = omega (arith, some, e.some);
    plain = rw P.code;
    silent = rw P.code;
    single = rw P.code (one_single node_prefix t.kind (value x ∷ []));
  }
    where
      left_by : (r cap p u m : ℕ) → min r cap ≡ p → min p u ≡ min p m → min r (min cap m) ≡ min p u
      left_by r cap p u m a b = omega (arith, a, b)

  prefix_recs : recs (value (node (prefix_row k) nil t (add nil x))) ≡ over node_prefix t.kind 1 0 (recs (value x))
  unfolding value value_of ruled rules pick side
  prefix_recs = rw P.code (recs_of node_prefix t.kind 1 (value x ∷ []) (value x).nodes (beside_end (value x).nodes) (single_count (value x).nodes e.single))

module _ (K T : List ℕ) (good : Good K T) (f : ℕ) where
  pub prefix_ok : ExprOK K T f → PrefixOK K T (suc f)
  unfolding expr_w again is_query str_of pick both
  prefix_ok ok at c s A t o n l p = told_choose (both (eqb (kind_at K at) NOT) (ltb 10 s)) (wrong_at K T at) _
      (λ z. told_stop (wrong (kind_at K at)) at (head_weak K T good at c s A t o r h has (weak z)))
      (λ z. let on = head_on K T good at c s A t o r h has (enough z) (rw P.code) l in
      told_bind (expr_w K T f (at + 1) (deeper c) (prefix_of (kind_at K at))) _
      (expr_got K T good f ok (at + 1) (deeper c) (prefix_of (kind_at K at)) p (prefix_most (kind_at K at) (good.bound at)))
      (λ a u m rs q. told_done a (min (prefix_of (kind_at K at)) u) 0 (over 38 (kind_at K at) 1 0 rs) (
        node r nil (tok_at K T at) (add nil q.0),
        on ∙ items ∙ nt_got K T good.sound F (E (prefix_of (kind_at K at))) [] nil (at + 1) (rw b q.1),
        inl (prefix_tree (kind_at K at) P (tok_at K T at) q.0 u q.2 q.4 p, enough z),
        rw q.3 (sym (prefix_recs (kind_at K at) P (tok_at K T at) q.0 u q.2 q.4 p)),
      ))
      (λ m p e. on ∙ items ∙ nt_refused K T good.sound F (E (prefix_of (kind_at K at))) [] nil (at + 1) (rw b e)))
    where
      r : Row
      r = prefix_row (kind_at K at)

      P : Prefix (kind_at K at)
      P = is_prefix (kind_at K at) (good.bound at) p

      F : OpenRow
      F = record { c = c; A = A; r = r; l = nil; t = tok_at K T at }

      h : head_row A.of (kind_at K at) ≡ some r
      h = prefix_head A.of (kind_at K at) p

      has : 1 ≤ r.str
      has = omega (arith, p, P.tight)

      items : rests K T F r.items nil (at + 1) ≡ rests K T F (nt (E (prefix_of (kind_at K at))) ∷ []) nil (at + 1)
      items = ap (λ i. rests K T F i nil (at + 1)) P.items

      weak : both (eqb (kind_at K at) NOT) (ltb 10 s) ≡ true → r.str < s
      weak z = let a = ltb-true 10 s (both_r (eqb (kind_at K at) NOT) (ltb 10 s) z) in let b : r.str ≡ 10 = rw (both_l (eqb (kind_at K at) NOT) (ltb 10 s) z) at P.str in omega (arith, a, b)

      enough : both (eqb (kind_at K at) NOT) (ltb 10 s) ≡ false → s ≤ r.str
      enough z = by_bool (eqb (kind_at K at) NOT)
          (λ w. let a = ltb-false 10 s (rw w at z) in let b : r.str ≡ 10 = rw w at P.str in omega (arith, a, b))
          (λ w. let b : r.str ≡ 11 = rw w at P.str in omega (arith, b, t.most))

      expression : is_expression r ≡ true
      expression = rw P.code (le-leb 1 r.str has)

      b : below r c ≡ deeper c
      b = below_strong r c expression (rw P.code)
