-- Before RP of ( ), IN ( ) and a call: an expression, or several parted by COMMA, mean what the grammar says (host_ok). Assumes nothing.
use mathlib.Core.Bool.{true, false, Bool}
use mathlib.Core.List.{List, [], ◌∷◌, ◌++◌}
use mathlib.Core.Option.{some}
use mathlib.Core.Path.{◌≡◌, refl, sym, ap, ◌∙◌}
use Prim.Native.Nat.{ℕ, ◌+◌, min, suc}
use borrow.Author.Tests.{eqb-false}
use lib.Dec.{eqb}
use native.Mathlib.Omega.{arith}
use Rattle.theory.specs.Trees.{Tok, lit, nt, Row, Tree, nil, add, node, cap_of}
use Rattle.theory.specs.Table.{pick, both, mem, lookup, cont_of, null_of}
use Rattle.theory.specs.Outcome.{refused}
use Rattle.theory.proofs.Cases.{by_bool, 0≢1, both_l, both_r, eqb_eq, eqb-true, le-leb}
use Rattle.theory.proofs.Tested.{allb, all_mem, cont_some}
use Rattle.kinds.specs.Kinds.{RP, COMMA}
use Rattle.kinds.specs.Classes.{begins_expr}
use Rattle.grammar.specs.Classes.{Paren, Column, Exprs?, Inside?, Args?, E, any}
use Rattle.grammar.specs.RowNames.{row_more_exprs}
use Rattle.grammar.specs.Rows.{once, but_column, exprs, select_items, values_items, lines, heads_of, tails_of}
use Rattle.grammar.specs.Grammar.{sql}
use Rattle.grammar.specs.Limits.{Around, is_query, below}
use Rattle.grammar.specs.Nodes.{count, beside, records}
use Rattle.grammar.specs.Reading.{side, is_end, value_of, value, values}
use Rattle.descent.proofs.Places.{kind_at, tok_at, OpenRow, rests}
use Rattle.descent.proofs.Named.{own}
use Rattle.descent.proofs.Walk.{Walked, not_b, expr_w, list_w}
use Rattle.descent.proofs.Grown.{recs}
use Rattle.descent.proofs.SameRow.{eq_nt, eq_item, eq_items, eq_row, eq_found, same_found}
use Rattle.descent.proofs.Steps.{nt_got, nt_refused, lit_wrong, row_stop}
use Rattle.descent.proofs.ClassFacts.{none_of_1}
use Rattle.descent.proofs.Rules.{value_more_exprs}
use Rattle.descent.proofs.Means.{Single, plain_code, ExprTree, Told, Good, ExprOK, ListOK, HostOK}
use Rattle.descent.proofs.Common.{told_bind, told_onto, told_choose, told_done}
use Rattle.descent.proofs.Sides.{single_count, single_there}
use Rattle.descent.proofs.Strong.{below_part, not-true}
use Rattle.descent.proofs.Tails.{shut_tail, others}
use Rattle.descent.proofs.Values.{recs_all_3, count_3, plain_tree}
use Rattle.descent.proofs.ExprIn.{takes_any, again_on, expr_ends, absent_in, expr_in, expr_absent}

abbrev pub more_row : Row
more_row = once row_more_exprs (nt (E 1) ∷ nt (any Exprs?) ∷ [])

-- the classes that take an expression, or several
pub record Host (C : ℕ) : Type 0 where
  pub among : mem C exprs ≡ true
  pub no_column : C ≡ Column → ⊥
  pub more : lookup C COMMA sql.tails ≡ some more_row
  pub alone : others C ≡ COMMA ∷ []

host_test : ℕ → Bool
host_test C = both (mem C exprs) (both (not_b (eqb C Column)) (eq_found (lookup C COMMA sql.tails) (some more_row)))

hosts_right : allb host_test (Paren ∷ Inside? ∷ Args? ∷ []) ≡ true
unfolding host_test not_b eq_found eq_row eq_items eq_item eq_nt sql lines but_column exprs select_items values_items heads_of tails_of pick both allb mem lookup
hosts_right = refl

pub is_host : (C : ℕ) → mem C (Paren ∷ Inside? ∷ Args? ∷ []) ≡ true → Host C
unfolding host_test others pick
is_host C m = record { among = both_l _ _ tested; no_column = λ e. 0≢1 (sym no_column ∙ eqb-true C Column e); more = same_found _ _ (both_r _ _ (both_r _ _ tested)); alone = rw (no_column, m) }
  where
    tested : both (mem C exprs) (both (not_b (eqb C Column)) (eq_found (lookup C COMMA sql.tails) (some more_row))) ≡ true
    tested = all_mem host_test (Paren ∷ Inside? ∷ Args? ∷ []) C hosts_right m

    no_column : eqb C Column ≡ false
    no_column = not-true (eqb C Column) (both_l _ _ (both_r _ _ tested))

pub paren_host : Host Paren
unfolding mem pick
paren_host = is_host Paren refl

pub args_host : Host Args?
unfolding mem pick
args_host = is_host Args? refl

more_inside : (c : Around) → below more_row c ≡ c
unfolding is_query pick
more_inside c = below_part more_row c refl refl

-- several: the first is the left operand
module _ (y : Tree) (u : Tok) (x l : Tree) where
  abbrev several : Tree
  several = node more_row y u (add (add nil x) l)

  nodes_several : (value several).nodes ≡ side (value y ∷ value x ∷ value l ∷ [])
  unfolding value
  nodes_several = ap (λ z. z.nodes) (value_more_exprs (value y) u (values (add (add nil x) l)))

  plain_several : plain_code (value several).row ≡ true
  unfolding value value_of plain_code not_b mem pick
  plain_several = refl

  recs_several : recs (value several) ≡ recs (value y) ++ (recs (value x) ++ recs (value l))
  recs_several = ap records nodes_several ∙ recs_all_3 (value y) (value x) (value l)

  count_several : Single (value y).nodes → Single (value x).nodes → count (value several).nodes ≡ 2 + count (value l).nodes
  count_several s t = ap count nodes_several ∙ count_3 (value y) (value x) (value l) ∙ rw (single_count (value y).nodes s, single_count (value x).nodes t)

  there_several : Single (value y).nodes → is_end (value several).nodes ≡ false
  unfolding side beside is_end
  there_several (c, d, ks, e) = rw (nodes_several, e)

module _ (K T : List ℕ) (good : Good K T) (f : ℕ) (ok : ExprOK K T f) (at : ℕ) (c : Around) (C : ℕ) (h : Host C) (F : OpenRow) (k : Tree)
    (o : mem (kind_at K at) (own C) ≡ false) (e : below F.r F.c ≡ c) where
  -- what is said of such a walk
  abbrev Hosted : Walked → Type 0
  Hosted w = Told w
      (λ a s m rs. (y : Tree) × (rests K T F (nt (any C) ∷ lit RP ∷ []) k at ≡ rests K T F (lit RP ∷ []) (add k y) a)
      × (plain_code (value y).row ≡ true) × (m ≡ count (value y).nodes) × (is_end (value y).nodes ≡ false) × (rs ≡ recs (value y)))
      (λ m p. rests K T F (nt (any C) ∷ lit RP ∷ []) k at ≡ refused m p)

  -- no expression begins here: the class is absent, and the token is not its RP
  absent : begins_expr (kind_at K at) ≡ false → null_of sql (any C) ≡ true → (kind_at K at ≡ RP → ⊥) → Hosted (list_w K T (suc f) at c 0)
  unfolding expr_w
  absent b z n = told_bind (expr_w K T f at c 1) _ (expr_absent K T good f ok at c b) (λ a said i rs p. absurd p)
      (λ m p q. nt_got K T good.sound F (any C) (lit RP ∷ []) k at (absent_in K T good (below F.r F.c) C at h.among o z b)
      ∙ lit_wrong K T good.sound F RP [] (add k nil) at (omega arith) n ∙ rw (q.0, q.1))

  -- an expression, and at COMMA the rest of a list
  there : ListOK K T f → (null_of sql (any C) ≡ true → begins_expr (kind_at K at) ≡ true) → Hosted (list_w K T (suc f) at c 0)
  unfolding expr_w
  there list b = told_bind (expr_w K T f at c 1) _ (expr_in K T good f ok at c C (takes_any C h.among h.no_column) o b)
      (λ a said i rs p. told_choose (eqb (kind_at K a) COMMA) _ _
      (λ z. let on = p.1 ∙ again_on K T good c (any C) p.0 said a more_row p.2 (on_at a (eqb_eq (kind_at K a) COMMA z) p.2) in
      told_onto rs (list_w K T f (a + 1) c 1) (list (a + 1) c 1 (record { c = c; A = any C; r = more_row; l = p.0; t = tok_at K T a }) [] nil (more_inside c))
      (λ b s m qs q. let counted = count_several p.0 (tok_at K T a) q.0 q.1 p.2.single q.3.1.single in (
        several p.0 (tok_at K T a) q.0 q.1,
        nt_got K T good.sound F (any C) (lit RP ∷ []) k at (rw e (on ∙ q.2 ∙ row_stop K T good.sound (record { c = c; A = any C; r = more_row; l = p.0; t = tok_at K T a }) _ b
            (shut_tail (any C) h.among more_row _ (kind_at K b) (omega arith)))),
        plain_several p.0 (tok_at K T a) q.0 q.1,
        omega (arith, q.4, q.5, counted),
        there_several p.0 (tok_at K T a) q.0 q.1 p.2.single,
        rw (p.4, q.6) (sym (recs_several p.0 (tok_at K T a) q.0 q.1)),
      ))
      (λ m p q. nt_refused K T good.sound F (any C) (lit RP ∷ []) k at (rw e (on ∙ q))))
      (λ z. told_done a 0 1 rs (
        p.0,
        nt_got K T good.sound F (any C) (lit RP ∷ []) k at (rw e (p.1 ∙ expr_ends K T good c (any C) p.0 1 said a h.among (omega arith) p.2 p.3
            (rw h.alone (none_of_1 (eqb-false (kind_at K a) COMMA z))))),
        plain_tree p.0 said p.2,
        sym (single_count (value p.0).nodes p.2.single),
        single_there (value p.0).nodes p.2.single,
        p.4,
      )))
      (λ m p q. nt_refused K T good.sound F (any C) (lit RP ∷ []) k at (rw e q))
    where
      on_at : {y : Tree} {said : ℕ} (n : ℕ) → kind_at K n ≡ COMMA → (e : ExprTree y said) → cont_of sql (any C) e.r (cap_of e.k) (kind_at K n) ≡ some more_row
      on_at n z e = cont_some sql (any C) e.r (cap_of e.k) (kind_at K n) more_row (rw z h.more) (le-leb 0 0 (omega arith))
          (le-leb 1 e.r.str (omega (arith, e.leaves, e.some))) (le-leb 1 (min e.r.cap (cap_of e.k)) (omega (arith, e.leaves, e.some)))

module _ (K T : List ℕ) (good : Good K T) (f : ℕ) where
  pub host_ok : ExprOK K T f → ListOK K T f → HostOK K T (suc f)
  host_ok ok list at c C F k m o n e j = by_bool (begins_expr (kind_at K at)) (λ b. there K T good f ok at c C (is_host C m) F k o e list (λ z. b))
      (λ b. by_bool (null_of sql (any C)) (λ z. absent K T good f ok at c C (is_host C m) F k o e b z (n z)) (λ z. there K T good f ok at c C (is_host C m) F k o e list (λ z'. 0≢1 (sym z ∙ z'))))
