-- "The reading" as 01's record table says it: for each class of nodes its codes, and for each code its details and its children. Definitions only.
use Rattle.std.specs.Prelude.{true, ◌≡◌, ℕ, ◌+◌, ◌*◌, ◌≤◌, ◌<◌, eqb}
use Rattle.kinds.specs.Kinds.{IS, ISNULL, NOTNULL}
use Rattle.kinds.specs.Strength.{strength_of, prefix_of}
use Rattle.kinds.specs.Classes.{is_binary}
use Rattle.words.specs.Flags.{legal}
use Rattle.grammar.specs.NodeNames.{node_absent, node_query, node_select, node_values, node_list, node_star, node_name_star, node_column, node_from, node_join, node_on, node_using, node_table, node_query_source, node_sort, node_id, node_join_name, node_integer, node_null, node_names, node_call, node_parens, node_subquery, node_exists, node_case, node_cast, node_prefix, node_binary, node_null_test, node_in_list, node_in_query, node_between, node_collate}
use Rattle.grammar.specs.Nodes.{Nodes, end, mk}
use Rattle.grammar.specs.Reading.{choose}

-- what a node may be
pub data Class : Type 0 where
  a_query : Class
  a_body : Class
  a_column : Class
  a_from : Class
  a_source : Class
  a_join : Class
  a_constraint : Class
  a_sort : Class
  an_expr : Class
  a_name : Class
  absence : Class
  -- a list of one or more; of any number; of none
  list_of : Class → Class
  any_of : Class → Class
  empty_list : Class

infixr 60 ◌▸◌
infixr 60 ◌▸?◌
-- nodes side by side: none; one, then others; one that may be absent, then others; any number; each WHEN then its THEN, and ELSE
pub data Shape : Type 0 where
  fin : Shape
  ◌▸◌ : Class → Shape → Shape
  ◌▸?◌ : Class → Shape → Shape
  many_of : Class → Shape
  when_thens : Shape

-- one or more
abbrev pub some_of : Class → Shape
some_of C = C ▸ many_of C

-- "alias 0 none, 1 AS, 2 bare"; "0, 1 INDEXED BY, 2 NOT INDEXED": by its number, what stands there
abbrev pub aliased : ℕ → Class
aliased mode = choose (eqb mode 0) absence a_name

abbrev pub indexed : ℕ → Class
indexed by = choose (eqb by 1) a_name absence

-- "39 | binary kind, IS NOT 137, LIKE_KW 200 + text, NOT LIKE_KW 300 + text"
pub data Operator (d : ℕ) : Type 0 where
  kind_op : 0 < strength_of d → is_binary d ≡ true → Operator d
  is_op : d ≡ IS → Operator d
  is_not_op : d ≡ 137 → Operator d
  like_op : (text : ℕ) → d ≡ 200 + text → Operator d
  not_like_op : (text : ℕ) → d ≡ 300 + text → Operator d

-- "9 join | COMMA 0, else 64 + flags"
pub data Joining (d : ℕ) : Type 0 where
  by_comma : d ≡ 0 → Joining d
  by_words : (flags : ℕ) → legal flags ≡ true → d ≡ 64 + flags → Joining d

-- "40 | ISNULL 41, NOTNULL or NOT NULL 42"
pub data NullTest (d : ℕ) : Type 0 where
  is_null : d ≡ ISNULL → NullTest d
  not_null : d ≡ NOTNULL → NullTest d

-- 01's table: of a class, a node with this code and this detail has children of this shape
pub data Node : Class → ℕ → ℕ → Shape → Type 0 where
  -- "0 | absent"
  absent_node : {c d : ℕ} → c ≡ node_absent → d ≡ 0 → Node absence c d fin
  -- "1 query | body, order list, limit, offset"
  query_node : {c d : ℕ} → c ≡ node_query → d ≡ 0 → Node a_query c d (a_body ▸ list_of a_sort ▸? an_expr ▸? an_expr ▸? fin)
  -- "2 select | 0, 1 DISTINCT, 2 ALL; column list, FROM, WHERE, group list, HAVING"
  select_node : {c d : ℕ} → c ≡ node_select → d ≤ 2 → Node a_body c d (list_of a_column ▸ a_from ▸? an_expr ▸? any_of an_expr ▸? an_expr ▸? fin)
  -- "3 values | rows as lists"
  values_node : {c d : ℕ} → c ≡ node_values → d ≡ 0 → Node a_body c d (some_of (list_of an_expr))
  -- "4 list | members"; "An empty list between parentheses, and the arguments of a STAR call, are (4,0,0,1)."
  list_node : {C : Class} {c d : ℕ} → c ≡ node_list → d ≡ 0 → Node (list_of C) c d (some_of C)
  any_node : {C : Class} {c d : ℕ} → c ≡ node_list → d ≡ 0 → Node (any_of C) c d (many_of C)
  empty_node : {c d : ℕ} → c ≡ node_list → d ≡ 0 → Node empty_list c d fin
  -- "5, 6 | STAR; name STAR: name"
  star_node : {c d : ℕ} → c ≡ node_star → d ≡ 0 → Node a_column c d fin
  name_star_node : {c d : ℕ} → c ≡ node_name_star → d ≡ 0 → Node a_column c d (a_name ▸ fin)
  -- "7 column | alias 0 none, 1 AS, 2 bare; expression, alias"
  column_node : {c d : ℕ} → c ≡ node_column → d ≤ 2 → Node a_column c d (an_expr ▸ aliased d ▸ fin)
  -- "8 FROM | source, joins"
  from_node : {c d : ℕ} → c ≡ node_from → d ≡ 0 → Node a_from c d (a_source ▸ many_of a_join)
  -- "9 join | COMMA 0, else 64 + flags; source, constraint"
  join_node : {c d : ℕ} → c ≡ node_join → Joining d → Node a_join c d (a_source ▸ a_constraint ▸? fin)
  -- "10, 11 | ON: expression; USING: names"
  on_node : {c d : ℕ} → c ≡ node_on → d ≡ 0 → Node a_constraint c d (an_expr ▸ fin)
  using_node : {c d : ℕ} → c ≡ node_using → d ≡ 0 → Node a_constraint c d (some_of a_name)
  -- "12 table | alias mode + 4 × (0, 1 INDEXED BY, 2 NOT INDEXED); schema, name, alias, index"
  table_node : {c d : ℕ} (mode by : ℕ) → c ≡ node_table → d ≡ mode + 4 * by → mode ≤ 2 → by ≤ 2 → Node a_source c d (a_name ▸? a_name ▸ aliased mode ▸ indexed by ▸ fin)
  -- "13 | alias mode; query, alias"
  source_node : {c d : ℕ} → c ≡ node_query_source → d ≤ 2 → Node a_source c d (a_query ▸ aliased d ▸ fin)
  -- "14 sort | 0, 1 ASC, 2 DESC, + 4 × (0, 1 FIRST, 2 LAST); expression"
  sort_node : {c d : ℕ} (way nulls : ℕ) → c ≡ node_sort → d ≡ way + 4 * nulls → way ≤ 2 → nulls ≤ 2 → Node a_sort c d (an_expr ▸ fin)
  -- "20 to 23 | name from ID, STRING, INDEXED, JOIN_KW: text number"
  name_node : {c d : ℕ} → node_id ≤ c → c ≤ node_join_name → Node a_name c d fin
  -- "24 to 30 | INTEGER, FLOAT, STRING, BLOB, VARIABLE, CTIME_KW (text number), NULL"
  literal_node : {c d : ℕ} → node_integer ≤ c → c ≤ node_null → (c ≡ node_null → d ≡ 0) → Node an_expr c d fin
  -- "31 | names of a column"
  names_node : {c d : ℕ} → c ≡ node_names → d ≡ 0 → Node an_expr c d (some_of a_name)
  -- "32 call | 0, 1 DISTINCT, 2 STAR; name, arguments"
  call_node : {c d : ℕ} → c ≡ node_call → d ≤ 1 → Node an_expr c d (a_name ▸ any_of an_expr ▸ fin)
  star_call_node : {c d : ℕ} → c ≡ node_call → d ≡ 2 → Node an_expr c d (a_name ▸ empty_list ▸ fin)
  -- "33, 34, 35 | parentheses; subquery; EXISTS"
  parens_node : {c d : ℕ} → c ≡ node_parens → d ≡ 0 → Node an_expr c d (some_of an_expr)
  subquery_node : {c d : ℕ} → c ≡ node_subquery → d ≡ 0 → Node an_expr c d (a_query ▸ fin)
  exists_node : {c d : ℕ} → c ≡ node_exists → d ≡ 0 → Node an_expr c d (a_query ▸ fin)
  -- "36 | CASE: base, each WHEN then its THEN, ELSE"
  case_node : {c d : ℕ} → c ≡ node_case → d ≡ 0 → Node an_expr c d (an_expr ▸? an_expr ▸ an_expr ▸ when_thens)
  -- "37 | CAST: expression, name"
  cast_node : {c d : ℕ} → c ≡ node_cast → d ≡ 0 → Node an_expr c d (an_expr ▸ a_name ▸ fin)
  -- "38 | prefix kind; operand"
  prefix_node : {c d : ℕ} → c ≡ node_prefix → 0 < prefix_of d → Node an_expr c d (an_expr ▸ fin)
  -- "39 | binary kind, IS NOT 137, LIKE_KW 200 + text, NOT LIKE_KW 300 + text; two operands"
  binary_node : {c d : ℕ} → c ≡ node_binary → Operator d → Node an_expr c d (an_expr ▸ an_expr ▸ fin)
  -- "40 | ISNULL 41, NOTNULL or NOT NULL 42; operand"
  null_node : {c d : ℕ} → c ≡ node_null_test → NullTest d → Node an_expr c d (an_expr ▸ fin)
  -- "41, 42 | 1 if NOT; operand and list; operand and query"
  in_list_node : {c d : ℕ} → c ≡ node_in_list → d ≤ 1 → Node an_expr c d (an_expr ▸ any_of an_expr ▸ fin)
  in_query_node : {c d : ℕ} → c ≡ node_in_query → d ≤ 1 → Node an_expr c d (an_expr ▸ a_query ▸ fin)
  -- "43 | 1 if NOT; operand, two bounds"
  between_node : {c d : ℕ} → c ≡ node_between → d ≤ 1 → Node an_expr c d (an_expr ▸ an_expr ▸ an_expr ▸ fin)
  -- "44 | operand, name"
  collate_node : {c d : ℕ} → c ≡ node_collate → d ≡ 0 → Node an_expr c d (an_expr ▸ a_name ▸ fin)

-- nodes side by side are of this shape, and so is all that is under them
pub data Shaped : Shape → Nodes → Type 0 where
  shaped_end : Shaped fin end
  shaped_next : {C : Class} {c d : ℕ} {S R : Shape} {ks ns : Nodes} → Node C c d S → Shaped S ks → Shaped R ns → Shaped (C ▸ R) (mk c d ks ns)
  -- "Missing optional children are code 0."
  shaped_gone : {C : Class} {R : Shape} {ns : Nodes} → Shaped (absence ▸ R) ns → Shaped (C ▸? R) ns
  shaped_here : {C : Class} {R : Shape} {ns : Nodes} → Shaped (C ▸ R) ns → Shaped (C ▸? R) ns
  shaped_none : {C : Class} → Shaped (many_of C) end
  shaped_more : {C : Class} {ns : Nodes} → Shaped (C ▸ many_of C) ns → Shaped (many_of C) ns
  shaped_else : {ns : Nodes} → Shaped (an_expr ▸? fin) ns → Shaped when_thens ns
  shaped_when : {ns : Nodes} → Shaped (an_expr ▸ an_expr ▸ when_thens) ns → Shaped when_thens ns

-- one node, of this class
abbrev pub IsOne : Class → Nodes → Type 0
IsOne C ns = Shaped (C ▸ fin) ns
