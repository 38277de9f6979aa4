-- What a node's code alone says of its detail and of its children's shape, whatever its class (by_code): how a walk of the table meets it.
-- Assumes nothing.
use mathlib.Core.Bool.{true, false, Bool}
use mathlib.Core.Path.{◌≡◌, refl, subst}
use Prim.Native.Nat.{ℕ, ◌+◌, ◌*◌, ◌≤◌, ◌<◌}
use lib.Dec.{eqb, leb}
use native.Mathlib.Omega.{arith}
use Rattle.theory.specs.Table.{both}
use Rattle.theory.proofs.Cases.{leb_le, le-leb}
use Rattle.kinds.specs.Strength.{prefix_of}
use Rattle.grammar.specs.NodeNames.{node_absent, node_query, node_select, node_values, node_list, node_star, node_name_star, node_column, node_from, node_join, node_on, node_using, node_table, node_query_source, node_sort, node_id, node_join_name, node_integer, node_null, node_names, node_call, node_parens, node_subquery, node_exists, node_case, node_cast, node_prefix, node_binary, node_null_test, node_in_list, node_in_query, node_between, node_collate}
use Rattle.grammar.proofs.Promised.{not-true}
use Rattle.shapes.specs.Shape.{Class, a_query, a_body, a_column, a_from, a_source, a_join, a_constraint, a_sort, an_expr, a_name, list_of, any_of, empty_list, Shape, fin, ◌▸◌, ◌▸?◌, many_of, when_thens, some_of, aliased, indexed, Operator, Joining, NullTest, Node, absent_node, query_node, select_node, values_node, list_node, any_node, empty_node, star_node, name_star_node, column_node, from_node, join_node, on_node, using_node, table_node, source_node, sort_node, name_node, literal_node, names_node, call_node, star_call_node, parens_node, subquery_node, exists_node, case_node, cast_node, prefix_node, binary_node, null_node, in_list_node, in_query_node, between_node, collate_node}

-- a list has members of one class, or none
pub data ListLine (S : Shape) : Type 0 where
  with_members : (C : Class) → S ≡ some_of C → ListLine S
  any_members : (C : Class) → S ≡ many_of C → ListLine S
  no_members : S ≡ fin → ListLine S

pub data TableLine (d : ℕ) (S : Shape) : Type 0 where
  is_table : (mode by : ℕ) → d ≡ mode + 4 * by → mode ≤ 2 → by ≤ 2 → S ≡ a_name ▸? a_name ▸ aliased mode ▸ indexed by ▸ fin → TableLine d S

pub data SortLine (d : ℕ) (S : Shape) : Type 0 where
  is_sorting : (way nulls : ℕ) → d ≡ way + 4 * nulls → way ≤ 2 → nulls ≤ 2 → S ≡ an_expr ▸ fin → SortLine d S

pub data CallLine (d : ℕ) (S : Shape) : Type 0 where
  with_list : d ≤ 1 → S ≡ a_name ▸ any_of an_expr ▸ fin → CallLine d S
  with_star : d ≡ 2 → S ≡ a_name ▸ empty_list ▸ fin → CallLine d S

-- one claim or another, by a test
unfoldable pub if_so : Bool → Type 0 → Type 0 → Type 0
if_so true p q = p
if_so false p q = q

-- what a code says, one line a code, names and literals first; a number that is no code is no node's
unfoldable pub code_says : ℕ → ℕ → Shape → Type 0
code_says c d S =
    if_so (both (leb node_id c) (leb c node_join_name)) (S ≡ fin)
    (if_so (both (leb node_integer c) (leb c node_null)) ((c ≡ node_null → d ≡ 0) × (S ≡ fin))
    (if_so (eqb c node_absent) ((d ≡ 0) × (S ≡ fin))
    (if_so (eqb c node_query) ((d ≡ 0) × (S ≡ a_body ▸ list_of a_sort ▸? an_expr ▸? an_expr ▸? fin))
    (if_so (eqb c node_select) ((d ≤ 2) × (S ≡ list_of a_column ▸ a_from ▸? an_expr ▸? any_of an_expr ▸? an_expr ▸? fin))
    (if_so (eqb c node_values) ((d ≡ 0) × (S ≡ some_of (list_of an_expr)))
    (if_so (eqb c node_list) ((d ≡ 0) × ListLine S)
    (if_so (eqb c node_star) ((d ≡ 0) × (S ≡ fin))
    (if_so (eqb c node_name_star) ((d ≡ 0) × (S ≡ a_name ▸ fin))
    (if_so (eqb c node_column) ((d ≤ 2) × (S ≡ an_expr ▸ aliased d ▸ fin))
    (if_so (eqb c node_from) ((d ≡ 0) × (S ≡ a_source ▸ many_of a_join))
    (if_so (eqb c node_join) (Joining d × (S ≡ a_source ▸ a_constraint ▸? fin))
    (if_so (eqb c node_on) ((d ≡ 0) × (S ≡ an_expr ▸ fin))
    (if_so (eqb c node_using) ((d ≡ 0) × (S ≡ some_of a_name))
    (if_so (eqb c node_table) (TableLine d S)
    (if_so (eqb c node_query_source) ((d ≤ 2) × (S ≡ a_query ▸ aliased d ▸ fin))
    (if_so (eqb c node_sort) (SortLine d S)
    (if_so (eqb c node_names) ((d ≡ 0) × (S ≡ some_of a_name))
    (if_so (eqb c node_call) (CallLine d S)
    (if_so (eqb c node_parens) ((d ≡ 0) × (S ≡ some_of an_expr))
    (if_so (eqb c node_subquery) ((d ≡ 0) × (S ≡ a_query ▸ fin))
    (if_so (eqb c node_exists) ((d ≡ 0) × (S ≡ a_query ▸ fin))
    (if_so (eqb c node_case) ((d ≡ 0) × (S ≡ an_expr ▸? an_expr ▸ an_expr ▸ when_thens))
    (if_so (eqb c node_cast) ((d ≡ 0) × (S ≡ an_expr ▸ a_name ▸ fin))
    (if_so (eqb c node_prefix) ((0 < prefix_of d) × (S ≡ an_expr ▸ fin))
    (if_so (eqb c node_binary) (Operator d × (S ≡ an_expr ▸ an_expr ▸ fin))
    (if_so (eqb c node_null_test) (NullTest d × (S ≡ an_expr ▸ fin))
    (if_so (eqb c node_in_list) ((d ≤ 1) × (S ≡ an_expr ▸ any_of an_expr ▸ fin))
    (if_so (eqb c node_in_query) ((d ≤ 1) × (S ≡ an_expr ▸ a_query ▸ fin))
    (if_so (eqb c node_between) ((d ≤ 1) × (S ≡ an_expr ▸ an_expr ▸ an_expr ▸ fin))
    (if_so (eqb c node_collate) ((d ≡ 0) × (S ≡ an_expr ▸ a_name ▸ fin)) ⊥))))))))))))))))))))))))))))))

pub by_code : {C : Class} {c d : ℕ} {S : Shape} → Node C c d S → code_says c d S
unfolding code_says if_so both
by_code (absent_node e h) = rw e (h, refl)
by_code (query_node e h) = rw e (h, refl)
by_code (select_node e h) = rw e (h, refl)
by_code (values_node e h) = rw e (h, refl)
by_code (list_node {C = C} e h) = rw e (h, with_members C refl)
by_code (any_node {C = C} e h) = rw e (h, any_members C refl)
by_code (empty_node e h) = rw e (h, no_members refl)
by_code (star_node e h) = rw e (h, refl)
by_code (name_star_node e h) = rw e (h, refl)
by_code (column_node e h) = rw e (h, refl)
by_code (from_node e h) = rw e (h, refl)
by_code (join_node e h) = rw e (h, refl)
by_code (on_node e h) = rw e (h, refl)
by_code (using_node e h) = rw e (h, refl)
by_code (table_node m b e h i j) = rw e (is_table m b h i j refl)
by_code (source_node e h) = rw e (h, refl)
by_code (sort_node w n e h i j) = rw e (is_sorting w n h i j refl)
by_code (name_node {c = c} lo hi) = rw (le-leb 20 c lo, le-leb c 23 hi) refl
by_code (literal_node {c = c} lo hi z) = rw (le-leb 20 c (omega (arith, lo)), not-true (leb c 23) (λ e. absurd (omega (arith, lo, leb_le c 23 e))), le-leb 24 c lo, le-leb c 30 hi) (z, refl)
by_code (names_node e h) = rw e (h, refl)
by_code (call_node e h) = rw e (with_list h refl)
by_code (star_call_node e h) = rw e (with_star h refl)
by_code (parens_node e h) = rw e (h, refl)
by_code (subquery_node e h) = rw e (h, refl)
by_code (exists_node e h) = rw e (h, refl)
by_code (case_node e h) = rw e (h, refl)
by_code (cast_node e h) = rw e (h, refl)
by_code (prefix_node e h) = rw e (h, refl)
by_code (binary_node e h) = rw e (h, refl)
by_code (null_node e h) = rw e (h, refl)
by_code (in_list_node e h) = rw e (h, refl)
by_code (in_query_node e h) = rw e (h, refl)
by_code (between_node e h) = rw e (h, refl)
by_code (collate_node e h) = rw e (h, refl)

-- .. where the code is known: with `unfolding code_says if_so both` what it says is its line
pub at_code : {C : Class} {c d : ℕ} {S : Shape} (k : ℕ) → Node C c d S → c ≡ k → code_says k d S
at_code {d = d} {S = S} k N e = subst (λ z. code_says z d S) e (by_code N)

at_binary : {C : Class} {c d : ℕ} {S : Shape} → Node C c d S → c ≡ node_binary → Operator d × (S ≡ an_expr ▸ an_expr ▸ fin)
unfolding code_says if_so both
at_binary N e = at_code node_binary N e
