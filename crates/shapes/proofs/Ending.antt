-- With enough fuel each function of the walk ends: ten units for each token from its place on, and as many more as calls may follow each
-- other at one place. Each is proved from those of the calls that it makes, at one unit of fuel less. Definitions only.
use mathlib.Core.List.{List}
use Prim.Native.Nat.{ℕ, ◌+◌, ◌<◌}
use lib.ListN.{length}
use Rattle.grammar.specs.Limits.{Around}
use Rattle.descent.proofs.Walk.{expr_w, leaf_w, operand_w, ops_w, op_w, negated_w, binary_w, range_w, after_w, among_w, list_w, sign_w, call_w, paren_w, sub_w, exists_w, case_w, cased_w, when_w, cast_w, query_w, body_w, tail_w, rows_w, row_w, select_w, selected_w, parts_w, clause_w, group_w, cols_w, col_w, from_w, joins_w, on_w, source_w, sort_w, terms_w, limit_w}
use Rattle.shapes.proofs.Ends.{Ends}
use Rattle.shapes.proofs.EndParts.{Enough}

module _ (K T : List ℕ) where
  pub record Ending (f : ℕ) : Type 0 where
    -- expressions
    pub expr : (at : ℕ) (c : Around) (s : ℕ) → Enough K f at 2 → Ends at (expr_w K T f at c s)
    pub leaf : (at : ℕ) (c : Around) (s : ℕ) → Enough K f at 0 → Ends at (leaf_w K T f at c s)
    pub operand : (at : ℕ) (c : Around) (s : ℕ) → Enough K f at 1 → Ends at (operand_w K T f at c s)
    pub ops : (at : ℕ) (c : Around) (s left pre : ℕ) → Enough K f at 1 → Ends at (ops_w K T f at c s left pre)
    pub op : (at : ℕ) (c : Around) (s pre : ℕ) → at < length K → Enough K f at 0 → Ends (at + 1) (op_w K T f at c s pre)
    pub negated : (at : ℕ) (c : Around) (s pre : ℕ) → Enough K f at 0 → Ends at (negated_w K T f at c s pre)
    pub binary : (at : ℕ) (c : Around) (s d pre : ℕ) → Enough K f at 3 → Ends at (binary_w K T f at c s d pre)
    pub between : (at : ℕ) (c : Around) (s not pre : ℕ) → Enough K f at 3 → Ends at (range_w K T f at c s not pre)
    pub after : (at word : ℕ) (c : Around) (s : ℕ) → 0 < word → Enough K f at 0 → Ends (at + 1) (after_w K T f at word c s)
    pub inside : (at : ℕ) (c : Around) (not pre : ℕ) → Enough K f at 0 → Ends at (among_w K T f at c not pre)
    pub list : (at : ℕ) (c : Around) (n : ℕ) → Enough K f at 3 → Ends at (list_w K T f at c n)
    pub prefix : (at : ℕ) (c : Around) (s : ℕ) → at < length K → Enough K f at 0 → Ends at (sign_w K T f at c s)
    pub call : (at : ℕ) (c : Around) → Enough K f at 4 → Ends at (call_w K T f at c)
    pub paren : (at : ℕ) (c : Around) → Enough K f at 4 → Ends at (paren_w K T f at c)
    pub sub : (at : ℕ) (c : Around) (code : ℕ) → Enough K f at 3 → Ends at (sub_w K T f at c code)
    pub exists : (at : ℕ) (c : Around) → Enough K f at 0 → Ends at (exists_w K T f at c)
    pub case : (at : ℕ) (c : Around) → Enough K f at 4 → Ends at (case_w K T f at c)
    pub cased : (at : ℕ) (c : Around) → Enough K f at 3 → Ends at (cased_w K T f at c)
    pub cases : (at : ℕ) (c : Around) (n : ℕ) → Enough K f at 1 → Ends at (when_w K T f at c n)
    pub cast : (at : ℕ) (c : Around) → Enough K f at 1 → Ends at (cast_w K T f at c)
    -- queries
    pub query : (at : ℕ) (c : Around) → Enough K f at 2 → Ends at (query_w K T f at c)
    pub body : (at : ℕ) (c : Around) → Enough K f at 0 → Ends at (body_w K T f at c)
    pub tail : (at : ℕ) (c : Around) → Enough K f at 1 → Ends at (tail_w K T f at c)
    pub rows : (at : ℕ) (c : Around) (n width : ℕ) → Enough K f at 1 → Ends at (rows_w K T f at c n width)
    pub row : (at : ℕ) (c : Around) (width : ℕ) → Enough K f at 0 → Ends at (row_w K T f at c width)
    pub select : (at : ℕ) (c : Around) → Enough K f at 6 → Ends at (select_w K T f at c)
    pub selected : (at : ℕ) (c : Around) (d : ℕ) → Enough K f at 5 → Ends at (selected_w K T f at c d)
    pub parts : (at : ℕ) (c : Around) → Enough K f at 1 → Ends at (parts_w K T f at c)
    pub clause : (at word : ℕ) (c : Around) → 0 < word → Enough K f at 0 → Ends at (clause_w K T f at word c)
    pub group : (at : ℕ) (c : Around) → Enough K f at 0 → Ends at (group_w K T f at c)
    pub cols : (at : ℕ) (c : Around) (n : ℕ) → Enough K f at 4 → Ends at (cols_w K T f at c n)
    pub col : (at : ℕ) (c : Around) → Enough K f at 3 → Ends at (col_w K T f at c)
    pub from : (at : ℕ) (c : Around) → Enough K f at 0 → Ends at (from_w K T f at c)
    pub joins : (at : ℕ) (c : Around) (n : ℕ) → Enough K f at 1 → Ends at (joins_w K T f at c n)
    pub on : (at : ℕ) (c : Around) → Enough K f at 0 → Ends at (on_w K T f at c)
    pub source : (at : ℕ) (c : Around) → Enough K f at 0 → Ends at (source_w K T f at c)
    pub order : (at : ℕ) (c : Around) → Enough K f at 0 → Ends at (sort_w K T f at c)
    pub terms : (at : ℕ) (c : Around) (n : ℕ) → Enough K f at 3 → Ends at (terms_w K T f at c n)
    pub limit : (at : ℕ) (c : Around) → Enough K f at 0 → Ends at (limit_w K T f at c)
