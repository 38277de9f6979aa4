-- Every part of the walk gives nodes of its shape, for every fuel (all). Assumes nothing.
use mathlib.Core.List.{List}
use Prim.Native.Nat.{ℕ, ◌<◌, zero, suc}
use lib.ListN.{get_or}
use Rattle.descent.proofs.Walk.{expr_w}
use Rattle.shapes.proofs.Gives.{gives_spent}
use Rattle.shapes.proofs.Statements.{All}
use Rattle.shapes.proofs.Operators.{after_gives, binary_gives, between_gives, inside_gives, negated_gives, op_gives, ops_gives}
use Rattle.shapes.proofs.Operands.{expr_gives, leaf_gives, operand_gives, prefix_gives, list_gives, call_gives, paren_gives, sub_gives, exists_gives, cased_gives, cases_gives, case_gives, cast_gives}
use Rattle.shapes.proofs.Froms.{source_gives, on_gives, joins_gives, from_gives}
use Rattle.shapes.proofs.Queries.{col_gives, cols_gives, clause_gives, group_gives, parts_gives, selected_gives, select_gives, row_gives, rows_gives, terms_gives, order_gives, limit_gives, tail_gives, body_gives, query_gives}

module _ (K T : List ℕ) where
  -- without fuel every walk is spent, of which nothing is said
  none : All K T zero
  unfolding expr_w
  none = record {
    expr = λ a b c. gives_spent;
    leaf = λ a b c d e. gives_spent;
    operand = λ a b c. gives_spent;
    ops = λ a b c d e g h i j. gives_spent;
    op = λ a b c d e g h i j. gives_spent;
    negated = λ a b c d e g h i. gives_spent;
    binary = λ a b c d e g h i j k. gives_spent;
    between = λ a b c d e g h i j k. gives_spent;
    after = λ a b c d e. gives_spent;
    inside = λ a b c d e g h i. gives_spent;
    list = λ a b c. gives_spent;
    prefix = λ a b c d. gives_spent;
    call = λ a b c d e. gives_spent;
    paren = λ a b. gives_spent;
    sub = λ a b c d. gives_spent;
    exists = λ a b. gives_spent;
    case = λ a b. gives_spent;
    cased = λ a b. gives_spent;
    cases = λ a b c. gives_spent;
    cast = λ a b. gives_spent;
    query = λ a b. gives_spent;
    body = λ a b. gives_spent;
    tail = λ a b. gives_spent;
    rows = λ a b c d. gives_spent;
    row = λ a b c. gives_spent;
    select = λ a b. gives_spent;
    selected = λ a b c d. gives_spent;
    parts = λ a b. gives_spent;
    clause = λ a b c. gives_spent;
    group = λ a b. gives_spent;
    cols = λ a b c. gives_spent;
    col = λ a b. gives_spent;
    from = λ a b. gives_spent;
    joins = λ a b c. gives_spent;
    on = λ a b. gives_spent;
    source = λ a b. gives_spent;
    order = λ a b. gives_spent;
    terms = λ a b c. gives_spent;
    limit = λ a b. gives_spent;
  }

module _ (K T : List ℕ) (bound : (n : ℕ) → get_or K n 0 < 72) where
  -- each part from the parts that it calls
  next : (f : ℕ) → All K T f → All K T (suc f)
  next f a = record {
    expr = expr_gives K T bound f a;
    leaf = leaf_gives K T bound f a;
    operand = operand_gives K T bound f a;
    ops = ops_gives K T bound f a;
    op = op_gives K T bound f a;
    negated = negated_gives K T bound f a;
    binary = binary_gives K T bound f a;
    between = between_gives K T bound f a;
    after = after_gives K T bound f a;
    inside = inside_gives K T bound f a;
    list = list_gives K T bound f a;
    prefix = prefix_gives K T bound f a;
    call = call_gives K T bound f a;
    paren = paren_gives K T bound f a;
    sub = sub_gives K T bound f a;
    exists = exists_gives K T bound f a;
    case = case_gives K T bound f a;
    cased = cased_gives K T bound f a;
    cases = cases_gives K T bound f a;
    cast = cast_gives K T bound f a;
    query = query_gives K T bound f a;
    body = body_gives K T bound f a;
    tail = tail_gives K T bound f a;
    rows = rows_gives K T bound f a;
    row = row_gives K T bound f a;
    select = select_gives K T bound f a;
    selected = selected_gives K T bound f a;
    parts = parts_gives K T bound f a;
    clause = clause_gives K T bound f a;
    group = group_gives K T bound f a;
    cols = cols_gives K T bound f a;
    col = col_gives K T bound f a;
    from = from_gives K T bound f a;
    joins = joins_gives K T bound f a;
    on = on_gives K T bound f a;
    source = source_gives K T bound f a;
    order = order_gives K T bound f a;
    terms = terms_gives K T bound f a;
    limit = limit_gives K T bound f a;
  }

  pub all : (f : ℕ) → All K T f
  all zero = none K T
  all (suc f) = next f (all f)
