-- Every part of the walk means what the grammar says, for every fuel (all). Assumes nothing.
use mathlib.Core.List.{List}
use Prim.Native.Nat.{ℕ, zero, suc}
use Rattle.descent.proofs.Walk.{expr_w}
use Rattle.descent.proofs.Means.{Good, All}
use Rattle.descent.proofs.Common.{told_spent}
use Rattle.descent.proofs.Names.{names_ok}
use Rattle.descent.proofs.Exprs.{exprs_ok, list_ok}
use Rattle.descent.proofs.Hosts.{host_ok}
use Rattle.descent.proofs.Parens.{bracketed_ok, paren_ok, exists_ok}
use Rattle.descent.proofs.Clauses.{clause_ok}
use Rattle.descent.proofs.Whens.{word_ok, further_whens_ok, whens_ok}
use Rattle.descent.proofs.CaseExpr.{base_ok, case_ok}
use Rattle.descent.proofs.CastExpr.{cast_ok}
use Rattle.descent.proofs.Calls.{call_ok}
use Rattle.descent.proofs.Prefixes.{prefix_ok}
use Rattle.descent.proofs.Compounds.{compound_ok}
use Rattle.descent.proofs.Leaves.{leaf_ok}
use Rattle.descent.proofs.Expression.{expr_ok}
use Rattle.descent.proofs.GoesOnOrNot.{ops_ok}
use Rattle.descent.proofs.Binary.{binary_ok, after_ok, between_ok}
use Rattle.descent.proofs.Inside.{inside_ok}
use Rattle.descent.proofs.Negated.{negated_ok}
use Rattle.descent.proofs.Operators.{operator_ok}
use Rattle.descent.proofs.Columns.{column_ok, further_columns_ok, columns_ok}
use Rattle.descent.proofs.OneSource.{source_ok}
use Rattle.descent.proofs.OnUsing.{on_ok}
use Rattle.descent.proofs.Joins.{joins_ok}
use Rattle.descent.proofs.FromClause.{from_ok}
use Rattle.descent.proofs.SelectClauses.{group_ok, clauses_ok}
use Rattle.descent.proofs.Select.{selected_ok, select_ok}
use Rattle.descent.proofs.RowsOfValues.{first_row_ok, next_row_ok, values_ok, rows_ok}
use Rattle.descent.proofs.Sorting.{further_terms_ok, terms_ok, order_ok}
use Rattle.descent.proofs.Limiting.{limit_ok, tail_ok}
use Rattle.descent.proofs.Query.{body_ok, query_ok}

module _ (K T : List ℕ) where
  -- without fuel every walk is spent, of which nothing is told
  none : All K T zero
  unfolding expr_w
  none = record {
    expr = λ a b c d e g h. told_spent;
    leaf = λ a b c d e g h i j. told_spent;
    compound = λ a b c d e g h i j. told_spent;
    ops = λ a b c d e g h i j k. told_spent;
    operator = λ a b c d e g h i j k l m. told_spent;
    negated = λ a b c d e g h i. told_spent;
    binary = λ a b c d e g h i. told_spent;
    between = λ a b c d e g h i. told_spent;
    after = λ a b c d e g h i j k l m. told_spent;
    word = λ a b c d e g h. told_spent;
    inside = λ a b c d e g h i. told_spent;
    prefix = λ a b c d e g h i j. told_spent;
    list = λ a b c d e g h. told_spent;
    exprs = λ a b c d e. told_spent;
    host = λ a b c d e g h i j k. told_spent;
    bracketed = λ a b c d e g h i j. told_spent;
    paren = λ a b c d e g. told_spent;
    exists = λ a b c d e g. told_spent;
    case = λ a b c d e g. told_spent;
    cast = λ a b c d e g. told_spent;
    call = λ a b c d e g h i. told_spent;
    base = λ a b c d e g h. told_spent;
    whens = λ a b c d e g h i. told_spent;
    further_whens = λ a b c d e. told_spent;
    clause = λ a b c d e g. told_spent;
    query = λ a b c d e g h. told_spent;
    body = λ a b c d e g h. told_spent;
    select = λ a b c d e. told_spent;
    selected = λ a b c d e g h. told_spent;
    columns = λ a b c d e g h. told_spent;
    further_columns = λ a b c d e. told_spent;
    column = λ a b. told_spent;
    clauses = λ a b c d e g. told_spent;
    group = λ a b c d e g. told_spent;
    from = λ a b. told_spent;
    source = λ a b. told_spent;
    joins = λ a b c d e. told_spent;
    on = λ a b. told_spent;
    values = λ a b. told_spent;
    first_row_lem = λ a b. told_spent;
    next_row_lem = λ a b c d e g h. told_spent;
    rows = λ a b c d e g h i j. told_spent;
    tail = λ a b c d e g. told_spent;
    order = λ a b c. told_spent;
    terms = λ a b c d e g h. told_spent;
    further_terms = λ a b c d e. told_spent;
    limit = λ a b. told_spent;
  }

module _ (K T : List ℕ) (good : Good K T) where
  -- each part from the parts that it calls
  next : (f : ℕ) → All K T f → All K T (suc f)
  next f a = record {
    expr = expr_ok K T good f a.leaf a.compound a.ops;
    leaf = leaf_ok K T good f a.call;
    compound = compound_ok K T good f a.paren a.case a.cast a.exists a.prefix;
    ops = ops_ok K T good f a.operator a.ops;
    operator = operator_ok K T good f a.binary a.negated a.inside a.between;
    negated = negated_ok K T good f a.inside a.between a.binary;
    binary = binary_ok K T good f a.expr;
    between = between_ok K T good f a.expr a.after;
    after = after_ok K T good f a.expr;
    word = word_ok K T good f a.expr;
    inside = inside_ok K T good f a.query a.host;
    prefix = prefix_ok K T good f a.expr;
    list = list_ok K T good f a.expr a.exprs;
    exprs = exprs_ok K T good f a.expr a.exprs;
    host = host_ok K T good f a.expr a.list;
    bracketed = bracketed_ok K T good f a.query;
    paren = paren_ok K T good f a.bracketed a.host;
    exists = exists_ok K T good f a.bracketed;
    case = case_ok K T good f a.base a.whens a.clause;
    cast = cast_ok K T good f a.after;
    call = call_ok K T good f a.list a.host;
    base = base_ok K T good f a.expr;
    whens = whens_ok K T good f a.after a.further_whens;
    further_whens = further_whens_ok K T good f a.word a.after a.further_whens;
    clause = clause_ok K T good f a.expr;
    query = query_ok K T good f a.body a.tail;
    body = body_ok K T good f a.select a.values;
    select = select_ok K T good f a.selected;
    selected = selected_ok K T good f a.columns a.clauses;
    columns = columns_ok K T good f a.column a.further_columns;
    further_columns = further_columns_ok K T good f a.column a.further_columns;
    column = column_ok K T good f a.expr;
    clauses = clauses_ok K T good f a.from a.clause a.group;
    group = group_ok K T good f a.expr a.list a.clause;
    from = from_ok K T good f a.source a.joins;
    source = source_ok K T good f a.query;
    joins = joins_ok K T good f a.source a.on a.joins;
    on = on_ok K T good f a.expr (names_ok K T good f);
    values = values_ok K T good f a.first_row_lem a.rows;
    first_row_lem = first_row_ok K T good f a.list;
    next_row_lem = next_row_ok K T good f a.list;
    rows = rows_ok K T good f a.next_row_lem a.rows;
    tail = tail_ok K T good f a.order a.limit;
    order = order_ok K T good f a.terms;
    terms = terms_ok K T good f a.expr a.further_terms;
    further_terms = further_terms_ok K T good f a.expr a.further_terms;
    limit = limit_ok K T good f a.expr;
  }

  pub all : (f : ℕ) → All K T f
  all zero = none K T
  all (suc f) = next f (all f)
