-- What each function of the walk means by the grammar: `XOK f` says that, with fuel f, where the walk is done the grammar's recursive
-- descent has read the same tokens, as trees whose reading is the walk's records; and where it stops the descent is refused by the same
-- number at the same place. Each is proved from those of the calls it makes, at one unit of fuel less. Definitions only.
use mathlib.Core.Bool.{true, false, Bool}
use mathlib.Core.List.{List, [], ◌∷◌, ◌++◌}
use mathlib.Core.Logic.{◌⊎◌}
use mathlib.Core.Option.{some, none}
use mathlib.Core.Path.{◌≡◌}
use Prim.Native.Nat.{ℕ, ◌+◌, ◌≤◌, ◌<◌, ◌*◌, min}
use lib.ListN.{length, get_or}
use Rattle.theory.specs.Trees.{Tok, Nt, Item, lit, nt, Row, Tree, nil, add, leaf, node, cap_of}
use Rattle.theory.specs.Table.{mem, enter_of, cont_of, null_of}
use Rattle.theory.specs.Outcome.{Ans, got, refused}
use Rattle.kinds.specs.Kinds.{ID, NULL, LP, RP, AND, WHEN, THEN, SELECT, VALUES, BY}
use Rattle.kinds.specs.Strength.{strength_of, prefix_of}
use Rattle.kinds.specs.Classes.{begins_expr, name_code}
use Rattle.grammar.specs.Classes.{Name, Query, Paren, Rows, Column, Source, Not, Names?, Exprs?, Inside?, Order?, Terms?, Way?, Nulls?, Limit?, Distinct?, Columns?, From?, Where?, Group?, Having?, Joins?, On?, Base?, Args?, Whens?, E, any}
use Rattle.grammar.specs.RowNames.{row_next_expr, row_next_column, row_next_when, row_next_term, row_select, row_values, row_order, row_first_row, row_next_row, row_star, row_as, row_bare, row_word_join, row_call, row_star_args, row_distinct_args}
use Rattle.grammar.specs.NodeNames.{node_query, node_select, node_list, node_sort, node_in_list, node_in_query}
use Rattle.grammar.specs.Rows.{part, binary, exprs, operator, select_items, values_items}
use Rattle.grammar.specs.Grammar.{sql, G}
use Rattle.grammar.specs.Sizes.{LEVELS}
use Rattle.grammar.specs.Limits.{Around, is_query, below, under, members, width, width_of, judge}
use Rattle.grammar.specs.Nodes.{Nodes, end, mk, count, Rec, rec, records}
use Rattle.grammar.specs.Reading.{Val, one, says, choose, is_end, opt, name, is_query_val, NAME_STAR, column, limit_and_offset, group, inside, value_of, value, values}
use Rattle.theory.proofs.Lists.{Begun, more}
use Rattle.descent.proofs.Places.{tok_at, from, Sound, OpenRow, calls, rests, again}
use Rattle.descent.proofs.Named.{not_row, op_row, parens_row, exists_row, case_row, cast_row, names_row, own}
use Rattle.descent.proofs.Walk.{Walked, done, stop, spent, opening, not_b, over, κ, names_w, expr_w, leaf_w, operand_w, ops_w, op_w, negated_w, binary_w, range_w, after_w, among_w, list_w, sign_w, call_w, paren_w, sub_w, exists_w, case_w, cased_w, when_w, cast_w, query_w, body_w, tail_w, rows_w, row_w, select_w, selected_w, parts_w, clause_w, group_w, cols_w, col_w, from_w, joins_w, on_w, source_w, sort_w, terms_w, limit_w}
use Rattle.descent.proofs.Grown.{recs}

-- ── trees ──
-- one node
abbrev pub Single : Nodes → Type 0
Single ns = (c : ℕ) × (d : ℕ) × (ks : Nodes) × (ns ≡ mk c d ks end)

-- no row by which a reading tells something else from an expression
unfoldable pub plain_code : ℕ → Bool
plain_code c = not_b (mem c (row_star ∷ row_as ∷ row_bare ∷ row_select ∷ row_values ∷ row_star_args ∷ row_distinct_args ∷ []))

-- the strength of a tree's row
unfoldable pub str_of : Tree → ℕ
str_of nil = 0
str_of (add f x) = 0
str_of (leaf t) = 0
str_of (node r l t k) = r.str

-- y is an expression's tree, that leaves `said` to an operator that goes on from it
pub record ExprTree (y : Tree) (said : ℕ) : Type 0 where
  pub r : Row
  pub l : Tree
  pub t : Tok
  pub k : Tree
  pub is : y ≡ node r l t k
  pub leaves : min r.str (min r.cap (cap_of k)) ≡ said
  pub some : 1 ≤ said
  pub plain : plain_code r.code ≡ true
  pub silent : (value y).num ≡ 0
  pub single : Single (value y).nodes

-- y is name DOT STAR, from which nothing goes on
pub record StarTree (y : Tree) : Type 0 where
  pub r : Row
  pub l : Tree
  pub t : Tok
  pub k : Tree
  pub is : y ≡ node r l t k
  pub shut : cap_of k ≡ 0
  pub plain : plain_code r.code ≡ true
  pub says : (value y).num ≡ NAME_STAR
  pub single : Single (value y).nodes

-- what an expression that is asked at strength s comes to: an expression, or, in a column (s is 0), name DOT STAR, which says 0
abbrev pub Exprd : Tree → ℕ → ℕ → Type 0
Exprd y said s = (ExprTree y said × (s ≤ str_of y)) ⊎ ((said ≡ 0) × (s ≡ 0) × StarTree y)

-- A takes an expression of strength s: 0 for a column, 1 for the other classes that take one, any for the class of expressions
pub record Takes (A : Nt) (s : ℕ) : Type 0 where
  pub among : mem A.of exprs ≡ true
  pub enough : (k : ℕ) → 1 ≤ k → s ≤ k → A.least ≤ k
  pub loose : (k : ℕ) → 1 ≤ k → k < s → k < A.least
  pub column : s ≡ 0 → A.of ≡ Column
  pub other : 1 ≤ s → A.of ≡ Column → ⊥
  pub most : s ≤ 11

-- it takes it and nothing besides, and must stand: a right operand
pub record Right (A : Nt) (s : ℕ) : Type 0 where
  pub takes : Takes A s
  pub alone : (q : Row) (m k : ℕ) → k < 72 → strength_of k ≡ 0 → cont_of sql A q m k ≡ none
  pub must : null_of sql A ≡ false
  pub some : 1 ≤ s

-- ── results ──
abbrev pub ToldCase : Walked → (ℕ → ℕ → ℕ → List Rec → Type 0) → (ℕ → ℕ → Type 0) → Type 0
ToldCase (done a s n rs) P Q = P a s n rs
ToldCase (stop m p) P Q = Q m p
ToldCase spent P Q = Unit {0}

-- where the walk is done, P; where it stops, Q. (A record, so that P and Q are inferred)
pub record Told (w : Walked) (P : ℕ → ℕ → ℕ → List Rec → Type 0) (Q : ℕ → ℕ → Type 0) : Type 0 where
  pub it : ToldCase w P Q

-- lists that were found lent and fit
pub record Good (K T : List ℕ) : Type 0 where
  pub sound : Sound K T
  pub bound : (n : ℕ) → get_or K n 0 < 72

-- an optional part C of a word and an expression, by the row r: Where?, Having?, Else?
pub record Clause (C word : ℕ) (r : Row) : Type 0 where
  pub here : enter_of sql (any C) word ≡ some r
  pub only : (k : ℕ) → (k ≡ word → ⊥) → enter_of sql (any C) k ≡ none
  pub may : null_of sql (any C) ≡ true
  pub no_more : (q : Row) (m k : ℕ) → cont_of sql (any C) q m k ≡ none
  pub items : r.items ≡ nt (E 1) ∷ []
  pub level : (c : Around) → below r c ≡ c
  pub weak : r.str ≡ 0
  pub no_query : is_query r.code ≡ false
  pub through : (l : Val) (t : Tok) (v : Val) → (value_of r.code l t (v ∷ [])).nodes ≡ v.nodes

-- a query's node up to its body, whose records these are; and as it will be with ORDER BY and LIMIT, and with SEMI after them
pub record Body (r : Row) (t : Tok) (k : Tree) (rs : List Rec) : Type 0 where
  pub body : Val
  pub records : rs ≡ recs body
  pub single : Single body.nodes
  pub whole : (o l : Tree) → (value (node r nil t (add (add k o) l))).nodes ≡ (one node_query 0 (body ∷ opt (value o) ∷ limit_and_offset (value l) ∷ [])).nodes
  pub ended : (o l x : Tree) → (value (node r nil t (add (add (add k o) l) x))).nodes ≡ (one node_query 0 (body ∷ opt (value o) ∷ limit_and_offset (value l) ∷ [])).nodes

-- a query's node, with these records
pub record QueryNode (r : Row) (t : Tok) (k : Tree) (rs : List Rec) : Type 0 where
  pub records : recs (value (node r nil t k)) ≡ rs
  pub single : Single (value (node r nil t k)).nodes

-- a further member of a list
abbrev pub next_expr : Row
next_expr = part row_next_expr (nt (E 1) ∷ [])

abbrev pub next_column : Row
next_column = part row_next_column (nt (any Column) ∷ [])

abbrev pub next_when : Row
next_when = part row_next_when (nt (E 1) ∷ lit THEN ∷ nt (E 1) ∷ [])

abbrev pub next_term : Row
next_term = part row_next_term (nt (E 1) ∷ nt (any Way?) ∷ nt (any Nulls?) ∷ [])

module _ (K T : List ℕ) where
  -- what goes on from x, of a list class
  abbrev pub goes_on : Around → Nt → Tree → ℕ → Ans
  goes_on c A x n = more G Around under judge c A x n (from K T n)

  -- the next token's operator does not go on from an expression of strength `said` that was asked at s
  abbrev pub Stops : ℕ → ℕ → ℕ → Type 0
  Stops s said n = (strength_of (κ K T n) ≡ 0) ⊎ ((strength_of (κ K T n) < s) ⊎ (said < strength_of (κ K T n)))

  -- a nonterminal A, read in context c from place n: w is the walk over it, P what holds of its tree
  abbrev pub Reads : Around → Nt → ℕ → Walked → (Tree → ℕ → ℕ → List Rec → Type 0) → Type 0
  Reads c A n w P = Told w (λ a s m rs. (y : Tree) × (calls K T c A n ≡ got y a (from K T a)) × P y s m rs) (λ m p. calls K T c A n ≡ refused m p)

  -- ── expressions ──
  abbrev pub ExprOK : ℕ → Type 0
  ExprOK f = (at : ℕ) (c : Around) (s : ℕ) (A : Nt) → Takes A s → mem (κ K T at) (own A.of) ≡ false → (null_of sql A ≡ true → begins_expr (κ K T at) ≡ true)
      → Told (expr_w K T f at c s)
      (λ a said n rs. (y : Tree) × (calls K T c A at ≡ again K T c A y a) × Exprd y said s × Stops s said a × (rs ≡ recs (value y)))
      (λ m p. calls K T c A at ≡ refused m p)

  -- an operand, with the kinds at which each of the two functions is called
  abbrev pub OperandOK : (ℕ → Around → ℕ → Walked) → (ℕ → Type 0) → Type 0
  OperandOK w At = (at : ℕ) (c : Around) (s : ℕ) (A : Nt) → Takes A s → mem (κ K T at) (own A.of) ≡ false → (null_of sql A ≡ true → begins_expr (κ K T at) ≡ true) → c.level ≤ LEVELS → At (κ K T at)
      → Told (w at c s)
      (λ a said n rs. (y : Tree) × (calls K T c A at ≡ again K T c A y a) × Exprd y said s × (rs ≡ recs (value y)))
      (λ m p. calls K T c A at ≡ refused m p)

  abbrev pub LeafOK : ℕ → Type 0
  LeafOK f = OperandOK (leaf_w K T f) (λ k. (ID ≤ k) × (k ≤ NULL))

  abbrev pub CompoundOK : ℕ → Type 0
  CompoundOK f = OperandOK (operand_w K T f) (λ k. (ID ≤ k) × (k ≤ NULL) → ⊥)

  abbrev pub OpsOK : ℕ → Type 0
  OpsOK f = (at : ℕ) (c : Around) (s left pre : ℕ) (A : Nt) → Takes A s → (y : Tree) → Exprd y left s → length (recs (value y)) ≡ pre
      → Told (ops_w K T f at c s left pre)
      (λ a said n rs. (z : Tree) × (again K T c A y at ≡ again K T c A z a) × Exprd z said s × Stops s said a × (recs (value z) ≡ recs (value y) ++ rs))
      (λ m p. again K T c A y at ≡ refused m p)

  -- the rest of an operator's row, after its left operand of `pre` records: with the children k it makes one node more
  abbrev pub Goes : OpenRow → List Item → Tree → ℕ → ℕ → Walked → Type 0
  Goes F is k0 n pre w = Single (value F.l).nodes → length (recs (value F.l)) ≡ pre
      → Told w
      (λ a s m rs. (k : Tree) × (rests K T F is k0 n ≡ rests K T F [] k a) × ((1 ≤ s) × (min F.r.str s ≡ min F.r.str (cap_of k)))
      × ((value (node F.r F.l F.t k)).num ≡ 0) × Single (value (node F.r F.l F.t k)).nodes
      × (recs (value (node F.r F.l F.t k)) ≡ recs (value F.l) ++ rs))
      (λ m p. rests K T F is k0 n ≡ refused m p)

  -- at an operator's token; c is one deeper than the operator
  abbrev pub OperatorOK : ℕ → Type 0
  OperatorOK f = (at : ℕ) (c : Around) (s pre : ℕ) (F : OpenRow) → 0 < strength_of (κ K T at) → s ≡ strength_of (κ K T at) + 1 → F.r ≡ op_row (κ K T at) → F.t ≡ tok_at K T at
      → below F.r F.c ≡ c → Goes F F.r.items nil (at + 1) pre (op_w K T f at c s pre)

  -- after NOT
  abbrev pub NegatedOK : ℕ → Type 0
  NegatedOK f = (at : ℕ) (c : Around) (pre : ℕ) (F : OpenRow) → F.r ≡ not_row → below F.r F.c ≡ c
      → Goes F (nt (any Not) ∷ []) nil at pre (negated_w K T f at c 5 pre)

  -- a right operand, and the record of a binary operator over both
  abbrev pub BinaryOK : ℕ → Type 0
  BinaryOK f = (at : ℕ) (c : Around) (s detail pre : ℕ) (A : Nt) → Right A s → mem (κ K T at) (own A.of) ≡ false
      → Reads c A at (binary_w K T f at c s detail pre) (λ x said n rs. ExprTree x said × (s ≤ str_of x) × (rs ≡ over 39 detail 2 pre (recs (value x))))

  -- BETWEEN's two bounds, of any row with these items
  abbrev pub BetweenOK : ℕ → Type 0
  BetweenOK f = (at : ℕ) (c : Around) (not pre : ℕ) (F : OpenRow) → F.r.items ≡ nt (E 5) ∷ lit AND ∷ nt (E 5) ∷ [] → below F.r F.c ≡ c
      → mem F.r.code (row_word_join ∷ row_next_row ∷ []) ≡ false
      → Told (range_w K T f at c 5 not pre)
      (λ a s m rs. (x : Tree) × (u : Tok) × (z : Tree) × (rests K T F F.r.items nil at ≡ rests K T F [] (add (add (add nil x) (leaf u)) z) a)
      × ((i : ℕ) × ExprTree x i) × ExprTree z s × (rs ≡ over 43 not 3 pre (recs (value x) ++ recs (value z))) × (5 ≤ str_of z))
      (λ m p. rests K T F F.r.items nil at ≡ refused m p)

  -- a word of a row, and an expression
  abbrev pub AfterOK : ℕ → Type 0
  AfterOK f = (at word : ℕ) (c : Around) (s : ℕ) (F : OpenRow) (is : List Item) (k : Tree) → 0 < word → 1 ≤ s → s ≤ 11 → below F.r F.c ≡ c
      → mem F.r.code (row_word_join ∷ row_next_row ∷ []) ≡ false
      → Told (after_w K T f at word c s)
      (λ a said m rs. (x : Tree) × (rests K T F (lit word ∷ nt (E s) ∷ is) k at ≡ rests K T F is (add (add k (leaf (tok_at K T at))) x) a) × ExprTree x said × (rs ≡ recs (value x)) × (s ≤ str_of x))
      (λ m p. rests K T F (lit word ∷ nt (E s) ∷ is) k at ≡ refused m p)

  -- the same, where the token is that word
  abbrev pub WordOK : ℕ → Type 0
  WordOK f = (at word : ℕ) (c : Around) (s : ℕ) → 1 ≤ s → s ≤ 11 → κ K T at ≡ word
      → Told (after_w K T f at word c s)
      (λ a said m rs. (x : Tree) × (calls K T c (E s) (at + 1) ≡ got x a (from K T a)) × ExprTree x said × (rs ≡ recs (value x)))
      (λ m p. calls K T c (E s) (at + 1) ≡ refused m p)

  -- IN's parentheses, of any row with these items
  abbrev pub InsideOK : ℕ → Type 0
  InsideOK f = (at : ℕ) (c : Around) (not pre : ℕ) (F : OpenRow) → F.r.items ≡ lit LP ∷ nt (any Inside?) ∷ lit RP ∷ [] → below F.r F.c ≡ c
      → mem F.r.code (row_word_join ∷ row_next_row ∷ []) ≡ false
      → Told (among_w K T f at c not pre)
      (λ a s m rs. (u : Tok) × (x : Tree) × (w : Tok) × (rests K T F F.r.items nil at ≡ rests K T F [] (add (add (add nil (leaf u)) x) (leaf w)) a)
      × (rs ≡ over (choose (is_query_val (value x)) node_in_query node_in_list) not 2 pre (recs (inside (value x)))) × Single (inside (value x)).nodes × (s ≡ 12))
      (λ m p. rests K T F F.r.items nil at ≡ refused m p)

  abbrev pub PrefixOK : ℕ → Type 0
  PrefixOK f = OperandOK (sign_w K T f) (λ k. 0 < prefix_of k)

  -- ── lists ──
  -- the members of a list after a separator u, where those before it are x (nil: none yet): r is the row of the list's class C
  abbrev pub Further : ℕ → Row → Around → Tree → Tok → ℕ → ℕ → Walked → Type 0
  Further C r c x u at n w = Told w
      (λ a s m rs. (y : Tree) × (rests K T (record { c = c; A = any C; r = r; l = x; t = u }) r.items nil at ≡ got y a (from K T a))
      × (m + count (value x).nodes ≡ n + count (value y).nodes) × (members y + count (value x).nodes ≡ members x + count (value y).nodes) × (recs (value y) ≡ recs (value x) ++ rs))
      (λ m p. rests K T (record { c = c; A = any C; r = r; l = x; t = u }) r.items nil at ≡ refused m p)

  abbrev pub ExprsOK : ℕ → Type 0
  ExprsOK f = (at : ℕ) (c : Around) (n : ℕ) (x : Tree) (u : Tok) → Further Exprs? next_expr c x u at n (list_w K T f at c n)

  abbrev pub FurtherColumnsOK : ℕ → Type 0
  FurtherColumnsOK f = (at : ℕ) (c : Around) (n : ℕ) (x : Tree) (u : Tok) → Further Columns? next_column c x u at n (cols_w K T f at c n)

  -- at a further WHEN, after the pairs x
  abbrev pub FurtherWhensOK : ℕ → Type 0
  FurtherWhensOK f = (at : ℕ) (c : Around) (n : ℕ) (x : Tree) → κ K T at ≡ WHEN
      → Told (when_w K T f at c n)
      (λ a s m rs. (y : Tree) × (rests K T (record { c = c; A = any Whens?; r = next_when; l = x; t = tok_at K T at }) next_when.items nil (at + 1) ≡ got y a (from K T a))
      × (m + count (value x).nodes ≡ n + count (value y).nodes) × (recs (value y) ≡ recs (value x) ++ rs))
      (λ m p. rests K T (record { c = c; A = any Whens?; r = next_when; l = x; t = tok_at K T at }) next_when.items nil (at + 1) ≡ refused m p)

  -- a further sort term after COMMA, which is u, after the terms x
  abbrev pub FurtherTermsOK : ℕ → Type 0
  FurtherTermsOK f = (at : ℕ) (c : Around) (n : ℕ) (x : Tree) (u : Tok)
      → Told (terms_w K T f at c n)
      (λ a s m rs. (z : Tree) × (rests K T (record { c = c; A = any Terms?; r = next_term; l = x; t = u }) next_term.items nil at ≡ got z a (from K T a))
      × (m + count (value x).nodes ≡ n + count (value z).nodes) × (recs (value z) ≡ recs (value x) ++ rs))
      (λ m p. rests K T (record { c = c; A = any Terms?; r = next_term; l = x; t = u }) next_term.items nil at ≡ refused m p)

  -- ── lists of expressions ──
  -- the first and those after it: two items of a row
  abbrev pub ListOK : ℕ → Type 0
  ListOK f = (at : ℕ) (c : Around) (n : ℕ) (F : OpenRow) (is : List Item) (k : Tree) → below F.r F.c ≡ c
      → Told (list_w K T f at c n)
      (λ a s m rs. (x : Tree) × (l : Tree) × (rests K T F (nt (E 1) ∷ nt (any Exprs?) ∷ is) k at ≡ rests K T F is (add (add k x) l) a)
      × ((i : ℕ) × ExprTree x i) × (m ≡ n + 1 + members l) × (members l ≡ count (value l).nodes) × (rs ≡ recs (value x) ++ recs (value l)))
      (λ m p. rests K T F (nt (E 1) ∷ nt (any Exprs?) ∷ is) k at ≡ refused m p)

  -- in ( ), IN ( ) and a call, before RP, where it is no query, STAR or DISTINCT: an expression, or several
  abbrev pub HostOK : ℕ → Type 0
  HostOK f = (at : ℕ) (c : Around) (C : ℕ) (F : OpenRow) (k : Tree) → mem C (Paren ∷ Inside? ∷ Args? ∷ []) ≡ true → mem (κ K T at) (own C) ≡ false → (null_of sql (any C) ≡ true → κ K T at ≡ RP → ⊥)
      → below F.r F.c ≡ c → mem F.r.code (row_word_join ∷ row_next_row ∷ []) ≡ false
      → Told (list_w K T f at c 0)
      (λ a s m rs. (y : Tree) × (rests K T F (nt (any C) ∷ lit RP ∷ []) k at ≡ rests K T F (lit RP ∷ []) (add k y) a)
      × (plain_code (value y).row ≡ true) × (m ≡ count (value y).nodes) × (is_end (value y).nodes ≡ false) × (rs ≡ recs (value y)))
      (λ m p. rests K T F (nt (any C) ∷ lit RP ∷ []) k at ≡ refused m p)

  -- ── operands: the rest of a row after its token ──
  -- F is the row, which is an expression's; its node is one node with these records
  abbrev pub Operand : OpenRow → ℕ → Walked → Type 0
  Operand F n w = Told w
      (λ a said m rs. (k : Tree) × (rests K T F F.r.items nil n ≡ rests K T F [] k a) × (said ≡ 12) × (99 ≤ cap_of k)
      × ((value (node F.r nil F.t k)).num ≡ 0) × Single (value (node F.r nil F.t k)).nodes × (rs ≡ recs (value (node F.r nil F.t k))))
      (λ m p. rests K T F F.r.items nil n ≡ refused m p)

  -- c is one deeper than the operand; F is its row with no left operand
  abbrev pub RowOK : Row → (ℕ → Around → Walked) → Type 0
  RowOK r w = (at : ℕ) (c : Around) (F : OpenRow) → F.r ≡ r → F.l ≡ nil → below F.r F.c ≡ c → Operand F at (w at c)

  abbrev pub ParenOK : ℕ → Type 0
  ParenOK f = RowOK parens_row (paren_w K T f)

  abbrev pub ExistsOK : ℕ → Type 0
  ExistsOK f = RowOK exists_row (exists_w K T f)

  abbrev pub CaseOK : ℕ → Type 0
  CaseOK f = RowOK case_row (case_w K T f)

  abbrev pub CastOK : ℕ → Type 0
  CastOK f = RowOK cast_row (cast_w K T f)

  -- a query and RP: two items, of ( query ), EXISTS ( query )
  abbrev pub BracketedOK : ℕ → Type 0
  BracketedOK f = (at : ℕ) (c : Around) (code C : ℕ) (F : OpenRow) (k : Tree) → (C ≡ Query) ⊎ ((C ≡ Paren) × ((κ K T at ≡ SELECT) ⊎ (κ K T at ≡ VALUES)))
      → below F.r F.c ≡ c → mem F.r.code (row_word_join ∷ row_next_row ∷ []) ≡ false
      → Told (sub_w K T f at c code)
      (λ a said m rs. (q : Tree) × (w : Tok) × (rests K T F (nt (any C) ∷ lit RP ∷ []) k at ≡ rests K T F [] (add (add k q) (leaf w)) a)
      × (is_query_val (value q) ≡ true) × Single (value q).nodes × (said ≡ 12) × (rs ≡ over code 0 1 0 (recs (value q))))
      (λ m p. rests K T F (nt (any C) ∷ lit RP ∷ []) k at ≡ refused m p)

  -- a call, after its LP: the rest of the call's row, which is the one part after the first name
  abbrev pub call_row : Row
  call_row = part row_call (nt (any Args?) ∷ lit RP ∷ [])

  abbrev pub CallOK : ℕ → Type 0
  CallOK f = (at : ℕ) (c : Around) (F : OpenRow) (name : Tok) → F.r ≡ call_row → F.l ≡ nil → F.c ≡ c → ((q : Row) (m k : ℕ) → cont_of sql F.A q m k ≡ none)
      → Told (call_w K T f at c)
      (λ a said m rs. (k : Tree) × (rests K T F F.r.items nil at ≡ got (node F.r nil F.t k) a (from K T a)) × (said ≡ 12) × (99 ≤ cap_of k)
      × ((n : ℕ) → recs (value (node (names_row n) nil name (add nil (node F.r nil F.t k)))) ≡ rec (name_code name.kind) name.text 0 1 ∷ rs)
      × ((n : ℕ) → Single (value (node (names_row n) nil name (add nil (node F.r nil F.t k)))).nodes) × ((n : ℕ) → (value (node (names_row n) nil name (add nil (node F.r nil F.t k)))).num ≡ 0))
      (λ m p. rests K T F F.r.items nil at ≡ refused m p)

  -- ── parts of CASE ──
  abbrev pub BaseOK : ℕ → Type 0
  BaseOK f = (at : ℕ) (c : Around) (F : OpenRow) (is : List Item) (k : Tree) → below F.r F.c ≡ c → mem F.r.code (row_word_join ∷ row_next_row ∷ []) ≡ false
      → Told (cased_w K T f at c)
      (λ a s m rs. (y : Tree) × (rests K T F (nt (any Base?) ∷ lit WHEN ∷ is) k at ≡ rests K T F (lit WHEN ∷ is) (add k y) a)
      × (rs ≡ recs (opt (value y))) × Single (opt (value y)).nodes)
      (λ m p. rests K T F (nt (any Base?) ∷ lit WHEN ∷ is) k at ≡ refused m p)

  -- WHEN expression THEN expression and those after it: five items of a row
  abbrev pub WhensOK : ℕ → Type 0
  WhensOK f = (at : ℕ) (c : Around) (n : ℕ) (F : OpenRow) (is : List Item) (k : Tree) → below F.r F.c ≡ c → mem F.r.code (row_word_join ∷ row_next_row ∷ []) ≡ false
      → Told (when_w K T f at c n)
      (λ a s m rs. (u : Tok) × (x : Tree) × (v : Tok) × (z : Tree) × (l : Tree)
      × (rests K T F (lit WHEN ∷ nt (E 1) ∷ lit THEN ∷ nt (E 1) ∷ nt (any Whens?) ∷ is) k at ≡ rests K T F is (add (add (add (add (add k (leaf u)) x) (leaf v)) z) l) a)
      × (m ≡ n + 2 + count (value l).nodes) × Single (value x).nodes × Single (value z).nodes × (rs ≡ recs (value x) ++ (recs (value z) ++ recs (value l))))
      (λ m p. rests K T F (lit WHEN ∷ nt (E 1) ∷ lit THEN ∷ nt (E 1) ∷ nt (any Whens?) ∷ is) k at ≡ refused m p)

  abbrev pub ClauseOK : ℕ → Type 0
  ClauseOK f = (at : ℕ) (c : Around) (C word : ℕ) (r : Row) → Clause C word r
      → Reads c (any C) at (clause_w K T f at word c) (λ y s m rs. (rs ≡ recs (opt (value y))) × Single (opt (value y)).nodes)

  -- ── queries ──
  -- a query in A, whose rows have `is` after a query's items: those are left to read, and what they come to adds nothing
  abbrev pub QueryOK : ℕ → Type 0
  QueryOK f = (at : ℕ) (c : Around) (A : Nt) (is : List Item)
      → enter_of sql A SELECT ≡ some (part row_select (select_items ++ is)) → enter_of sql A VALUES ≡ some (part row_values (values_items ++ is))
      → ((κ K T at ≡ SELECT → ⊥) → (κ K T at ≡ VALUES → ⊥) → (enter_of sql A (κ K T at) ≡ none) × (null_of sql A ≡ false))
      → Told (query_w K T f at c)
      (λ a s m rs. (r : Row) × (k : Tree) × (calls K T c A at ≡ rests K T (record { c = c; A = A; r = r; l = nil; t = tok_at K T at }) is k a)
      × (is_query r.code ≡ true) × (r.str ≡ 0) × (r.left ≡ 0) × (r.cap ≡ 99)
      × QueryNode r (tok_at K T at) k rs × ((x : Tree) → QueryNode r (tok_at K T at) (add k x) rs))
      (λ m p. calls K T c A at ≡ refused m p)

  -- the same up to ORDER BY
  abbrev pub BodyOK : ℕ → Type 0
  BodyOK f = (at : ℕ) (c : Around) (A : Nt) (is : List Item)
      → enter_of sql A SELECT ≡ some (part row_select (select_items ++ is)) → enter_of sql A VALUES ≡ some (part row_values (values_items ++ is))
      → ((κ K T at ≡ SELECT → ⊥) → (κ K T at ≡ VALUES → ⊥) → (enter_of sql A (κ K T at) ≡ none) × (null_of sql A ≡ false))
      → Told (body_w K T f at c)
      (λ a s m rs. (r : Row) × (k : Tree) × (calls K T c A at ≡ rests K T (record { c = c; A = A; r = r; l = nil; t = tok_at K T at }) (nt (any Order?) ∷ nt (any Limit?) ∷ is) k a)
      × (is_query r.code ≡ true) × (r.str ≡ 0) × (r.left ≡ 0) × (r.cap ≡ 99) × (below r c ≡ opening c) × Body r (tok_at K T at) k rs)
      (λ m p. calls K T c A at ≡ refused m p)

  -- SELECT's items up to HAVING, after its token; c is inside the query
  abbrev pub SelectOK : ℕ → Type 0
  SelectOK f = (at : ℕ) (c : Around) (F : OpenRow) (is : List Item) → below F.r F.c ≡ c
      → Told (select_w K T f at c)
      (λ a s m rs. (d : Tree) × (x : Tree) × (l : Tree) × (from : Tree) × (where' : Tree) × (g : Tree) × (h : Tree)
      × (rests K T F (nt (any Distinct?) ∷ nt (any Column) ∷ nt (any Columns?) ∷ nt (any From?) ∷ nt (any Where?) ∷ nt (any Group?) ∷ nt (any Having?) ∷ is) nil at
      ≡ rests K T F is (add (add (add (add (add (add (add nil d) x) l) from) where') g) h) a)
      × (rs ≡ recs (one node_select (value d).num (one node_list 0 (column (value x) ∷ value l ∷ []) ∷ opt (value from) ∷ opt (value where') ∷ group (value g) (value h) ∷ opt (value h) ∷ []))))
      (λ m p. rests K T F (nt (any Distinct?) ∷ nt (any Column) ∷ nt (any Columns?) ∷ nt (any From?) ∷ nt (any Where?) ∷ nt (any Group?) ∷ nt (any Having?) ∷ is) nil at ≡ refused m p)

  -- the same from the columns on; detail is what DISTINCT or ALL said
  abbrev pub SelectedOK : ℕ → Type 0
  SelectedOK f = (at : ℕ) (c : Around) (detail : ℕ) (F : OpenRow) (is : List Item) (k : Tree) → below F.r F.c ≡ c
      → Told (selected_w K T f at c detail)
      (λ a s m rs. (x : Tree) × (l : Tree) × (from : Tree) × (where' : Tree) × (g : Tree) × (h : Tree)
      × (rests K T F (nt (any Column) ∷ nt (any Columns?) ∷ nt (any From?) ∷ nt (any Where?) ∷ nt (any Group?) ∷ nt (any Having?) ∷ is) k at
      ≡ rests K T F is (add (add (add (add (add (add k x) l) from) where') g) h) a)
      × (rs ≡ recs (one node_select detail (one node_list 0 (column (value x) ∷ value l ∷ []) ∷ opt (value from) ∷ opt (value where') ∷ group (value g) (value h) ∷ opt (value h) ∷ []))))
      (λ m p. rests K T F (nt (any Column) ∷ nt (any Columns?) ∷ nt (any From?) ∷ nt (any Where?) ∷ nt (any Group?) ∷ nt (any Having?) ∷ is) k at ≡ refused m p)

  abbrev pub ColumnsOK : ℕ → Type 0
  ColumnsOK f = (at : ℕ) (c : Around) (n : ℕ) (F : OpenRow) (is : List Item) (k : Tree) → below F.r F.c ≡ c
      → Told (cols_w K T f at c n)
      (λ a s m rs. (x : Tree) × (l : Tree) × (rests K T F (nt (any Column) ∷ nt (any Columns?) ∷ is) k at ≡ rests K T F is (add (add k x) l) a)
      × (m ≡ n + 1 + count (value l).nodes) × Single (column (value x)).nodes × (rs ≡ recs (column (value x)) ++ recs (value l)))
      (λ m p. rests K T F (nt (any Column) ∷ nt (any Columns?) ∷ is) k at ≡ refused m p)

  abbrev pub ColumnOK : ℕ → Type 0
  ColumnOK f = (at : ℕ) (c : Around)
      → Reads c (any Column) at (col_w K T f at c) (λ y s m rs. Single (column (value y)).nodes × (rs ≡ recs (column (value y))))

  -- FROM, WHERE, GROUP BY, HAVING: four items
  abbrev pub ClausesOK : ℕ → Type 0
  ClausesOK f = (at : ℕ) (c : Around) (F : OpenRow) (is : List Item) (k : Tree) → below F.r F.c ≡ c
      → Told (parts_w K T f at c)
      (λ a s m rs. (from : Tree) × (where' : Tree) × (g : Tree) × (h : Tree)
      × (rests K T F (nt (any From?) ∷ nt (any Where?) ∷ nt (any Group?) ∷ nt (any Having?) ∷ is) k at ≡ rests K T F is (add (add (add (add k from) where') g) h) a)
      × Single (opt (value from)).nodes × Single (opt (value where')).nodes × Single (group (value g) (value h)).nodes × Single (opt (value h)).nodes
      × (rs ≡ recs (opt (value from)) ++ (recs (opt (value where')) ++ (recs (group (value g) (value h)) ++ recs (opt (value h))))))
      (λ m p. rests K T F (nt (any From?) ∷ nt (any Where?) ∷ nt (any Group?) ∷ nt (any Having?) ∷ is) k at ≡ refused m p)

  abbrev pub GroupOK : ℕ → Type 0
  GroupOK f = (at : ℕ) (c : Around) (F : OpenRow) (is : List Item) (k : Tree) → below F.r F.c ≡ c
      → Told (group_w K T f at c)
      (λ a s m rs. (g : Tree) × (h : Tree) × (rests K T F (nt (any Group?) ∷ nt (any Having?) ∷ is) k at ≡ rests K T F is (add (add k g) h) a)
      × Single (group (value g) (value h)).nodes × Single (opt (value h)).nodes × (rs ≡ recs (group (value g) (value h)) ++ recs (opt (value h))))
      (λ m p. rests K T F (nt (any Group?) ∷ nt (any Having?) ∷ is) k at ≡ refused m p)

  abbrev pub FromOK : ℕ → Type 0
  FromOK f = (at : ℕ) (c : Around)
      → Reads c (any From?) at (from_w K T f at c) (λ y s m rs. (rs ≡ recs (opt (value y))) × Single (opt (value y)).nodes)

  abbrev pub SourceOK : ℕ → Type 0
  SourceOK f = (at : ℕ) (c : Around)
      → Reads c (any Source) at (source_w K T f at c) (λ y s m rs. (rs ≡ recs (value y)) × Single (value y).nodes)

  -- the joins so far are x (nil: none yet)
  abbrev pub JoinsOK : ℕ → Type 0
  JoinsOK f = (at : ℕ) (c : Around) (n : ℕ) (x : Tree) → Begun x
      → Told (joins_w K T f at c n)
      (λ a s m rs. (y : Tree) × (goes_on c (any Joins?) x at ≡ got y a (from K T a)) × (n + count (value y).nodes ≡ m + count (value x).nodes) × (recs (value y) ≡ recs (value x) ++ rs))
      (λ m p. goes_on c (any Joins?) x at ≡ refused m p)

  abbrev pub OnOK : ℕ → Type 0
  OnOK f = (at : ℕ) (c : Around)
      → Reads c (any On?) at (on_w K T f at c) (λ y s m rs. (rs ≡ recs (opt (value y))) × Single (opt (value y)).nodes)

  -- the first row of VALUES and those after it; after COMMA, where the rows before are y, all of this width
  abbrev pub ValuesOK : ℕ → Type 0
  ValuesOK f = (at : ℕ) (c : Around)
      → Reads c (any Rows) at (rows_w K T f at c 0 0) (λ y s m rs. (m ≡ count (value y).nodes) × (rs ≡ recs (value y)))

  abbrev pub next_row : Row
  next_row = part row_next_row (lit LP ∷ nt (E 1) ∷ nt (any Exprs?) ∷ lit RP ∷ [])

  -- a row: the first, in the class of rows; a further one, after COMMA and the rows y before it
  abbrev pub first_row : Row
  first_row = part row_first_row (nt (E 1) ∷ nt (any Exprs?) ∷ lit RP ∷ [])

  abbrev pub FirstRowOK : ℕ → Type 0
  FirstRowOK f = (at : ℕ) (c : Around)
      → Told (row_w K T f at c 0)
      (λ a s m rs. (k : Tree) × (calls K T c (any Rows) at ≡ rests K T (record { c = c; A = any Rows; r = first_row; l = nil; t = tok_at K T at }) [] k a)
      × (0 < m) × (m ≡ width k) × (rs ≡ recs (value (node first_row nil (tok_at K T at) k))) × Single (value (node first_row nil (tok_at K T at) k)).nodes)
      (λ m p. calls K T c (any Rows) at ≡ refused m p)

  abbrev pub NextRowOK : ℕ → Type 0
  NextRowOK f = (at : ℕ) (c : Around) (w : ℕ) (y : Tree) (u : Tok) → 0 < w → width_of y ≡ w
      → Told (row_w K T f at c w)
      (λ a s m rs. (k : Tree) × (rests K T (record { c = c; A = any Rows; r = next_row; l = y; t = u }) next_row.items nil at
      ≡ rests K T (record { c = c; A = any Rows; r = next_row; l = y; t = u }) [] k a)
      × (m ≡ w) × (m ≡ width k) × (count (value (node next_row y u k)).nodes ≡ count (value y).nodes + 1) × (recs (value (node next_row y u k)) ≡ recs (value y) ++ rs))
      (λ m p. rests K T (record { c = c; A = any Rows; r = next_row; l = y; t = u }) next_row.items nil at ≡ refused m p)

  abbrev pub RowsOK : ℕ → Type 0
  RowsOK f = (at : ℕ) (c : Around) (n width : ℕ) (y : Tree) (u : Tok) → 0 < width → width_of y ≡ width → n ≡ count (value y).nodes
      → Told (rows_w K T f at c n width)
      (λ a s m rs. (z : Tree) × (rests K T (record { c = c; A = any Rows; r = next_row; l = y; t = u }) next_row.items nil at ≡ got z a (from K T a))
      × (m ≡ count (value z).nodes) × (recs (value z) ≡ recs (value y) ++ rs))
      (λ m p. rests K T (record { c = c; A = any Rows; r = next_row; l = y; t = u }) next_row.items nil at ≡ refused m p)

  -- ORDER BY and LIMIT: two items
  abbrev pub TailOK : ℕ → Type 0
  TailOK f = (at : ℕ) (c : Around) (F : OpenRow) (is : List Item) (k : Tree) → below F.r F.c ≡ c
      → Told (tail_w K T f at c)
      (λ a s m rs. (o : Tree) × (l : Tree) × (rests K T F (nt (any Order?) ∷ nt (any Limit?) ∷ is) k at ≡ rests K T F is (add (add k o) l) a)
      × Single (opt (value o)).nodes × (count (limit_and_offset (value l)).nodes ≡ 2) × (rs ≡ recs (opt (value o)) ++ recs (limit_and_offset (value l))))
      (λ m p. rests K T F (nt (any Order?) ∷ nt (any Limit?) ∷ is) k at ≡ refused m p)

  -- after ORDER: the rest of its row
  abbrev pub order_row : Row
  order_row = part row_order (lit BY ∷ nt (E 1) ∷ nt (any Way?) ∷ nt (any Nulls?) ∷ nt (any Terms?) ∷ [])

  abbrev pub OrderOK : ℕ → Type 0
  OrderOK f = (at : ℕ) (c : Around) (u : Tok)
      → Told (sort_w K T f at c)
      (λ a s m rs. (y : Tree) × (rests K T (record { c = c; A = any Order?; r = order_row; l = nil; t = u }) order_row.items nil at ≡ got y a (from K T a))
      × (rs ≡ recs (value y)) × Single (value y).nodes)
      (λ m p. rests K T (record { c = c; A = any Order?; r = order_row; l = nil; t = u }) order_row.items nil at ≡ refused m p)

  -- a sort term and those after it: four items
  abbrev pub TermsOK : ℕ → Type 0
  TermsOK f = (at : ℕ) (c : Around) (n : ℕ) (F : OpenRow) (is : List Item) (k : Tree) → below F.r F.c ≡ c
      → Told (terms_w K T f at c n)
      (λ a s m rs. (x : Tree) × (w : Tree) × (v : Tree) × (l : Tree)
      × (rests K T F (nt (E 1) ∷ nt (any Way?) ∷ nt (any Nulls?) ∷ nt (any Terms?) ∷ is) k at ≡ rests K T F is (add (add (add (add k x) w) v) l) a)
      × (m ≡ n + 1 + count (value l).nodes) × (rs ≡ recs (one node_sort ((value w).num + 4 * (value v).num) (value x ∷ [])) ++ recs (value l)))
      (λ m p. rests K T F (nt (E 1) ∷ nt (any Way?) ∷ nt (any Nulls?) ∷ nt (any Terms?) ∷ is) k at ≡ refused m p)

  abbrev pub LimitOK : ℕ → Type 0
  LimitOK f = (at : ℕ) (c : Around)
      → Reads c (any Limit?) at (limit_w K T f at c) (λ y s m rs. (rs ≡ recs (limit_and_offset (value y))) × (count (limit_and_offset (value y)).nodes ≡ 2))

  -- names of USING: the first and those after it (a loop of its own)
  abbrev pub NamesOK : ℕ → Type 0
  NamesOK f = (at n : ℕ) (F : OpenRow) (is : List Item) (k : Tree)
      → Told (names_w K T f at n)
      (λ a s m rs. (x : Tree) × (l : Tree) × (rests K T F (nt (any Name) ∷ nt (any Names?) ∷ is) k at ≡ rests K T F is (add (add k x) l) a)
      × (m ≡ n + 1 + count (value l).nodes) × Single (value x).nodes × (rs ≡ recs (value x) ++ recs (value l)))
      (λ m p. rests K T F (nt (any Name) ∷ nt (any Names?) ∷ is) k at ≡ refused m p)

  -- ── all of the cycle, with fuel f ──
  pub record All (f : ℕ) : Type 0 where
    pub expr : ExprOK f
    pub leaf : LeafOK f
    pub compound : CompoundOK f
    pub ops : OpsOK f
    pub operator : OperatorOK f
    pub negated : NegatedOK f
    pub binary : BinaryOK f
    pub between : BetweenOK f
    pub after : AfterOK f
    pub word : WordOK f
    pub inside : InsideOK f
    pub prefix : PrefixOK f
    pub list : ListOK f
    pub exprs : ExprsOK f
    pub host : HostOK f
    pub bracketed : BracketedOK f
    pub paren : ParenOK f
    pub exists : ExistsOK f
    pub case : CaseOK f
    pub cast : CastOK f
    pub call : CallOK f
    pub base : BaseOK f
    pub whens : WhensOK f
    pub further_whens : FurtherWhensOK f
    pub clause : ClauseOK f
    pub query : QueryOK f
    pub body : BodyOK f
    pub select : SelectOK f
    pub selected : SelectedOK f
    pub columns : ColumnsOK f
    pub further_columns : FurtherColumnsOK f
    pub column : ColumnOK f
    pub clauses : ClausesOK f
    pub group : GroupOK f
    pub from : FromOK f
    pub source : SourceOK f
    pub joins : JoinsOK f
    pub on : OnOK f
    pub values : ValuesOK f
    pub first_row_lem : FirstRowOK f
    pub next_row_lem : NextRowOK f
    pub rows : RowsOK f
    pub tail : TailOK f
    pub order : OrderOK f
    pub terms : TermsOK f
    pub further_terms : FurtherTermsOK f
    pub limit : LimitOK f
