-- What each function of the walk gives where it is done, with fuel f: records of nodes of its class. Each is proved from those of the
-- calls that it makes, at one unit of fuel less. ls: the records of a left operand, which stand before, `pre` of them. Definitions only.
use mathlib.Core.List.{List, ◌++◌}
use mathlib.Core.Path.{◌≡◌}
use Prim.Native.Nat.{ℕ, ◌+◌, ◌≤◌, ◌<◌}
use lib.ListN.{length}
use Rattle.kinds.specs.Kinds.{ID, NULL}
use Rattle.kinds.specs.Strength.{strength_of, prefix_of}
use Rattle.grammar.specs.Limits.{Around}
use Rattle.grammar.specs.Nodes.{Rec}
use Rattle.descent.proofs.Walk.{Walked, κ, expr_w, leaf_w, operand_w, ops_w, op_w, negated_w, binary_w, range_w, after_w, among_w, list_w, sign_w, call_w, paren_w, sub_w, exists_w, case_w, cased_w, when_w, cast_w, query_w, body_w, tail_w, rows_w, row_w, select_w, selected_w, parts_w, clause_w, group_w, cols_w, col_w, from_w, joins_w, on_w, source_w, sort_w, terms_w, limit_w}
use Rattle.shapes.specs.Shape.{Class, a_query, a_body, a_column, a_from, a_source, a_join, a_constraint, a_sort, an_expr, a_name, list_of, any_of, fin, ◌▸◌, ◌▸?◌, many_of, when_thens, some_of, Operator, Node}
use Rattle.shapes.proofs.Records.{Read, One, May}
use Rattle.shapes.proofs.Gives.{Gives}
use Rattle.shapes.proofs.Loops.{Several}
use Rattle.shapes.proofs.NameParts.{Exprd}

-- one node, or one that may be absent
abbrev pub GivesOne : Class → Walked → Type 0
GivesOne C w = Gives w (λ a s n rs. One C rs)

abbrev pub GivesMay : Class → Walked → Type 0
GivesMay C w = Gives w (λ a s n rs. May C rs)

-- an operand, which has a strength
abbrev pub GivesExpr : Walked → Type 0
GivesExpr w = Gives w (λ a said n rs. (0 < said) × One an_expr rs)

-- an operator and what is right of it, which make one expression with the operand before them
abbrev pub Extends : ℕ → Walked → Type 0
Extends pre w = (ls : List Rec) → One an_expr ls → length ls ≡ pre → Gives w (λ a s n rs. (0 < s) × One an_expr (ls ++ rs))

-- each WHEN with its THEN, n before them: then whatever stands for ELSE
pub record Cases (n m : ℕ) (rs : List Rec) : Type 0 where
  pub more : ℕ
  pub counts : m ≡ n + more
  pub ends : (ps : List Rec) → May an_expr ps → Read (an_expr ▸ an_expr ▸ when_thens) (more + 1) (rs ++ ps)

module _ (K T : List ℕ) where
  pub record All (f : ℕ) : Type 0 where
    -- expressions
    pub expr : (at : ℕ) (c : Around) (s : ℕ) → Gives (expr_w K T f at c s) (λ a said n rs. Exprd s said rs)
    pub leaf : (at : ℕ) (c : Around) (s : ℕ) → ID ≤ κ K T at → κ K T at ≤ NULL → Gives (leaf_w K T f at c s) (λ a said n rs. Exprd s said rs)
    pub operand : (at : ℕ) (c : Around) (s : ℕ) → GivesExpr (operand_w K T f at c s)
    pub ops : (at : ℕ) (c : Around) (s left pre : ℕ) → 0 < left → (ls : List Rec) → One an_expr ls → length ls ≡ pre
        → Gives (ops_w K T f at c s left pre) (λ a said n rs. (0 < said) × One an_expr (ls ++ rs))
    pub op : (at : ℕ) (c : Around) (s pre : ℕ) → 1 ≤ s → 0 < strength_of (κ K T at) → Extends pre (op_w K T f at c s pre)
    pub negated : (at : ℕ) (c : Around) (s pre : ℕ) → 1 ≤ s → Extends pre (negated_w K T f at c s pre)
    pub binary : (at : ℕ) (c : Around) (s d pre : ℕ) → 1 ≤ s → Operator d → Extends pre (binary_w K T f at c s d pre)
    pub between : (at : ℕ) (c : Around) (s not pre : ℕ) → 1 ≤ s → not ≤ 1 → Extends pre (range_w K T f at c s not pre)
    pub after : (at word : ℕ) (c : Around) (s : ℕ) → 1 ≤ s → GivesExpr (after_w K T f at word c s)
    pub inside : (at : ℕ) (c : Around) (not pre : ℕ) → not ≤ 1 → Extends pre (among_w K T f at c not pre)
    pub list : (at : ℕ) (c : Around) (n : ℕ) → Gives (list_w K T f at c n) (λ a s m rs. Several (some_of an_expr) n m rs)
    pub prefix : (at : ℕ) (c : Around) (s : ℕ) → 0 < prefix_of (κ K T at) → GivesExpr (sign_w K T f at c s)
    pub call : (at : ℕ) (c : Around) (ls : List Rec) → One a_name ls → length ls ≡ 1 → Gives (call_w K T f at c) (λ a said n rs. (0 < said) × One an_expr (ls ++ rs))
    pub paren : (at : ℕ) (c : Around) → GivesExpr (paren_w K T f at c)
    pub sub : (at : ℕ) (c : Around) (code : ℕ) → Node an_expr code 0 (a_query ▸ fin) → GivesExpr (sub_w K T f at c code)
    pub exists : (at : ℕ) (c : Around) → GivesExpr (exists_w K T f at c)
    pub case : (at : ℕ) (c : Around) → GivesExpr (case_w K T f at c)
    pub cased : (at : ℕ) (c : Around) → GivesMay an_expr (cased_w K T f at c)
    pub cases : (at : ℕ) (c : Around) (n : ℕ) → Gives (when_w K T f at c n) (λ a s m rs. Cases n m rs)
    pub cast : (at : ℕ) (c : Around) → GivesExpr (cast_w K T f at c)
    -- queries
    pub query : (at : ℕ) (c : Around) → GivesOne a_query (query_w K T f at c)
    pub body : (at : ℕ) (c : Around) → GivesOne a_body (body_w K T f at c)
    pub tail : (at : ℕ) (c : Around) → Gives (tail_w K T f at c) (λ a s n rs. Read (list_of a_sort ▸? an_expr ▸? an_expr ▸? fin) 3 rs)
    pub rows : (at : ℕ) (c : Around) (n width : ℕ) → Gives (rows_w K T f at c n width) (λ a s m rs. Several (some_of (list_of an_expr)) n m rs)
    pub row : (at : ℕ) (c : Around) (width : ℕ) → GivesOne (list_of an_expr) (row_w K T f at c width)
    pub select : (at : ℕ) (c : Around) → GivesOne a_body (select_w K T f at c)
    pub selected : (at : ℕ) (c : Around) (d : ℕ) → d ≤ 2 → GivesOne a_body (selected_w K T f at c d)
    pub parts : (at : ℕ) (c : Around) → Gives (parts_w K T f at c) (λ a s n rs. Read (a_from ▸? an_expr ▸? any_of an_expr ▸? an_expr ▸? fin) 4 rs)
    pub clause : (at word : ℕ) (c : Around) → GivesMay an_expr (clause_w K T f at word c)
    pub group : (at : ℕ) (c : Around) → Gives (group_w K T f at c) (λ a s n rs. Read (any_of an_expr ▸? an_expr ▸? fin) 2 rs)
    pub cols : (at : ℕ) (c : Around) (n : ℕ) → Gives (cols_w K T f at c n) (λ a s m rs. Several (some_of a_column) n m rs)
    pub col : (at : ℕ) (c : Around) → GivesOne a_column (col_w K T f at c)
    pub from : (at : ℕ) (c : Around) → GivesMay a_from (from_w K T f at c)
    pub joins : (at : ℕ) (c : Around) (n : ℕ) → Gives (joins_w K T f at c n) (λ a s m rs. Several (many_of a_join) n m rs)
    pub on : (at : ℕ) (c : Around) → GivesMay a_constraint (on_w K T f at c)
    pub source : (at : ℕ) (c : Around) → GivesOne a_source (source_w K T f at c)
    pub order : (at : ℕ) (c : Around) → GivesOne (list_of a_sort) (sort_w K T f at c)
    pub terms : (at : ℕ) (c : Around) (n : ℕ) → Gives (terms_w K T f at c n) (λ a s m rs. Several (some_of a_sort) n m rs)
    pub limit : (at : ℕ) (c : Around) → Gives (limit_w K T f at c) (λ a s n rs. Read (an_expr ▸? an_expr ▸? fin) 2 rs)
