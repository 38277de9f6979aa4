-- With fuel for all its tokens the walk of a whole list ends (walk_ends). Assumes nothing.
use mathlib.Core.List.{List}
use Prim.Native.Nat.{ℕ, ◌+◌, ◌*◌, ◌<◌, zero, suc}
use lib.Dec.{eqb}
use lib.ListN.{length}
use native.Mathlib.Omega.{arith}
use Rattle.kinds.specs.Kinds.{SEMI}
use Rattle.grammar.specs.Limits.{outer}
use Rattle.descent.proofs.Walk.{κ, query_w, command_w}
use Rattle.shapes.proofs.Ends.{Ends, ends_bind, ends_choose, ends_done, ends_stop}
use Rattle.shapes.proofs.Ending.{Ending}
use Rattle.shapes.proofs.EndExprs.{expr_ends, leaf_ends, operand_ends, prefix_ends, after_ends, binary_ends, between_ends, inside_ends, negated_ends, op_ends, ops_end, list_ends, call_ends, paren_ends, sub_ends, exists_ends, cased_ends, cases_end, case_ends, cast_ends}
use Rattle.shapes.proofs.EndQueries.{query_ends, body_ends, tail_ends, rows_end, row_ends, select_ends, selected_ends, parts_end, clause_ends, group_ends, cols_end, col_ends, from_ends, joins_end, on_ends, source_ends, order_ends, terms_end, limit_ends}

module _ (K T : List ℕ) where
  -- no fuel is never enough
  none : Ending K T zero
  none = record {
    expr = λ a b c h. absurd (omega (arith, h));
    leaf = λ a b c h. absurd (omega (arith, h));
    operand = λ a b c h. absurd (omega (arith, h));
    ops = λ a b c d e h. absurd (omega (arith, h));
    op = λ a b c d e h. absurd (omega (arith, h));
    negated = λ a b c d h. absurd (omega (arith, h));
    binary = λ a b c d e h. absurd (omega (arith, h));
    between = λ a b c d e h. absurd (omega (arith, h));
    after = λ a b c d e h. absurd (omega (arith, h));
    inside = λ a b c d h. absurd (omega (arith, h));
    list = λ a b c h. absurd (omega (arith, h));
    prefix = λ a b c d h. absurd (omega (arith, h));
    call = λ a b h. absurd (omega (arith, h));
    paren = λ a b h. absurd (omega (arith, h));
    sub = λ a b c h. absurd (omega (arith, h));
    exists = λ a b h. absurd (omega (arith, h));
    case = λ a b h. absurd (omega (arith, h));
    cased = λ a b h. absurd (omega (arith, h));
    cases = λ a b c h. absurd (omega (arith, h));
    cast = λ a b h. absurd (omega (arith, h));
    query = λ a b h. absurd (omega (arith, h));
    body = λ a b h. absurd (omega (arith, h));
    tail = λ a b h. absurd (omega (arith, h));
    rows = λ a b c d h. absurd (omega (arith, h));
    row = λ a b c h. absurd (omega (arith, h));
    select = λ a b h. absurd (omega (arith, h));
    selected = λ a b c h. absurd (omega (arith, h));
    parts = λ a b h. absurd (omega (arith, h));
    clause = λ a b c d h. absurd (omega (arith, h));
    group = λ a b h. absurd (omega (arith, h));
    cols = λ a b c h. absurd (omega (arith, h));
    col = λ a b h. absurd (omega (arith, h));
    from = λ a b h. absurd (omega (arith, h));
    joins = λ a b c h. absurd (omega (arith, h));
    on = λ a b h. absurd (omega (arith, h));
    source = λ a b h. absurd (omega (arith, h));
    order = λ a b h. absurd (omega (arith, h));
    terms = λ a b c h. absurd (omega (arith, h));
    limit = λ a b h. absurd (omega (arith, h));
  }

  -- each part from the parts that it calls
  next : (f : ℕ) → Ending K T f → Ending K T (suc f)
  next f a = record {
    expr = expr_ends K T f a;
    leaf = leaf_ends K T f a;
    operand = operand_ends K T f a;
    ops = ops_end K T f a;
    op = op_ends K T f a;
    negated = negated_ends K T f a;
    binary = binary_ends K T f a;
    between = between_ends K T f a;
    after = after_ends K T f a;
    inside = inside_ends K T f a;
    list = list_ends K T f a;
    prefix = prefix_ends K T f a;
    call = call_ends K T f a;
    paren = paren_ends K T f a;
    sub = sub_ends K T f a;
    exists = exists_ends K T f a;
    case = case_ends K T f a;
    cased = cased_ends K T f a;
    cases = cases_end K T f a;
    cast = cast_ends K T f a;
    query = query_ends K T f a;
    body = body_ends K T f a;
    tail = tail_ends K T f a;
    rows = rows_end K T f a;
    row = row_ends K T f a;
    select = select_ends K T f a;
    selected = selected_ends K T f a;
    parts = parts_end K T f a;
    clause = clause_ends K T f a;
    group = group_ends K T f a;
    cols = cols_end K T f a;
    col = col_ends K T f a;
    from = from_ends K T f a;
    joins = joins_end K T f a;
    on = on_ends K T f a;
    source = source_ends K T f a;
    order = order_ends K T f a;
    terms = terms_end K T f a;
    limit = limit_ends K T f a;
  }

  ending : (f : ℕ) → Ending K T f
  ending zero = none
  ending (suc f) = next f (ending f)

  pub walk_ends : (f : ℕ) → 10 * length K + 2 < f → Ends 0 (command_w K T f)
  unfolding command_w
  walk_ends f h = ends_bind (query_w K T f 0 outer) _ ((ending f).query 0 outer (omega (arith, h)))
      (λ a x n rs g. ends_choose (eqb (κ K T a) 0) _ _ (λ z. ends_done a x n rs g)
      (λ z. ends_choose (eqb (κ K T a) SEMI) _ _
      (λ y. ends_choose (eqb (κ K T (a + 1)) 0) _ _ (λ w. ends_done a x n rs g) (λ w. ends_stop))
      (λ y. ends_stop)))
