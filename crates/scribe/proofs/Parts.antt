-- What the writer's functions are given, and the tokens that each is to write for it. Definitions only.
use mathlib.Core.Bool.{Bool, true, false}
use mathlib.Core.List.{List, [], ◌∷◌, ◌++◌}
use mathlib.Core.Logic.{◌⊎◌, inl, inr}
use mathlib.Core.Path.{◌≡◌}
use Prim.Native.Nat.{ℕ, zero, suc, ◌+◌, ◌-◌, ◌%◌, ◌/◌, ◌<◌}
use lib.Dec.{eqb}
use Rattle.theory.specs.Trees.{Tok}
use Rattle.theory.specs.Table.{pick}
use Rattle.kinds.specs.Kinds.{AS, BY, COMMA, DESC, DISTINCT, DOT, FIRST, HAVING, INDEXED, LAST, LIMIT, LP, NOT, NULLS, OFFSET, SELECT, STAR, USING, WHERE}
use Rattle.grammar.specs.NodeNames.{node_query, node_select, node_call, node_case, node_parens, node_column, node_sort, node_names, node_absent, node_table, node_binary, node_null_test, node_in_list, node_in_query, node_between, node_collate}
use Rattle.grammar.specs.Nodes.{Nodes, count}
use Rattle.grammar.specs.Reading.{choose}
use Rattle.grammar.specs.Writing.{Piece, at, after, within, parted, grouped, join_of, tok}
use Rattle.canon.proofs.Folds.{P}
use Rattle.shapes.specs.Shape.{Class, a_query, a_body, a_column, a_from, a_source, a_join, a_constraint, a_sort, an_expr, a_name, absence, list_of, any_of, empty_list, many_of, Shaped}
use Rattle.scribe.proofs.Standing.{Stands, Puts}
use Rattle.scribe.proofs.Whole.{Whole, piece_at, before_of}
use Rattle.scribe.proofs.Kids.{Maybe, may_piece}
use Rattle.scribe.proofs.Spelt.{query_kids, select_kids, join_kids, join_is, table_kids_lem, CallKids, call_args, call_star, call_kids}
use Rattle.scribe.proofs.Lists.{case_toks, case_kids}
use Rattle.scribe.proofs.Clauses.{code_at, children_at}
use Rattle.scribe.proofs.Leading.{Led}

-- ── what ends at a record ──
-- a node with this code
pub record Coded (k : ℕ) (N : List ℕ) (i : ℕ) : Type 0 where
  pub class : Class
  pub whole : Whole class N i
  pub is : whole.code ≡ k

-- a term: an expression, a column or a sort term
abbrev pub is_term : Class → Bool
is_term a_query = false
is_term a_body = false
is_term a_column = true
is_term a_from = false
is_term a_source = false
is_term a_join = false
is_term a_constraint = false
is_term a_sort = true
is_term an_expr = true
is_term a_name = false
is_term absence = false
is_term (list_of C) = false
is_term (any_of C) = false
is_term empty_list = false

pub record Term (N : List ℕ) (i : ℕ) : Type 0 where
  pub class : Class
  pub term : is_term class ≡ true
  pub whole : Whole class N i

-- codes whose first child stands first
unfoldable pub leads_of : ℕ → Bool
leads_of c = pick (eqb c node_column) true (λ w. pick (eqb c node_sort) true (λ w. pick (eqb c node_binary) true (λ w. pick (eqb c node_null_test) true (λ w. pick (eqb c node_in_list) true (λ w. pick (eqb c node_in_query) true (λ w. pick (eqb c node_between) true (λ w. eqb c node_collate)))))))

-- a term that doesn't begin with another, and no one-member parentheses
pub record Operand (N : List ℕ) (i : ℕ) : Type 0 where
  pub it : Term N i
  pub first : leads_of it.whole.code ≡ false
  pub bare : it.whole.code ≡ node_parens → 1 < count it.whole.kids

-- a literal, STAR or name DOT STAR
pub record Leaf (N : List ℕ) (i : ℕ) : Type 0 where
  pub it : Term N i
  pub first : leads_of it.whole.code ≡ false
  pub low : it.whole.code < node_names

-- a node whose children are all of one class
pub record Row (C : Class) (N : List ℕ) (i : ℕ) : Type 0 where
  pub kids : Nodes
  pub there : 0 < i
  pub stands : Stands N (i - 1) kids
  pub shaped : Shaped (many_of C) kids
  pub counted : children_at N i ≡ count kids

-- a list of terms
pub record Terms (N : List ℕ) (i : ℕ) : Type 0 where
  pub class : Class
  pub term : is_term class ≡ true
  pub row : Row class N i

-- what stands in parentheses
pub data Inside (N : List ℕ) (i : ℕ) : Type 0 where
  a_query_lem : Coded node_query N i → Inside N i
  members : Terms N i → (code_at N i ≡ node_query → ⊥) → Inside N i

-- the list of GROUP BY or ORDER BY: none, or with members
pub data Perhaps (N : List ℕ) (i : ℕ) : Type 0 where
  not_any : 0 < i → children_at N i ≡ 0 → Perhaps N i
  some_terms : Terms N i → (children_at N i ≡ 0 → ⊥) → Perhaps N i

-- a child of FROM: the first source, or a join
abbrev pub Part : List ℕ → ℕ → Type 0
Part N i = Whole a_source N i ⊎ Whole a_join N i

-- ── its tokens ──
abbrev pub node_toks : (C : Class) (N : List ℕ) (i : ℕ) → Whole C N i → List Tok
node_toks C N i w = (piece_at w).toks

abbrev pub coded_toks : (k : ℕ) (N : List ℕ) (i : ℕ) → Coded k N i → List Tok
coded_toks k N i w = (piece_at w.whole).toks

abbrev pub term_toks : (ask : ℕ) (N : List ℕ) (i : ℕ) → Term N i → List Tok
term_toks ask N i t = at ask (piece_at t.whole)

abbrev pub operand_toks : (N : List ℕ) (i : ℕ) → Operand N i → List Tok
operand_toks N i t = (piece_at t.it.whole).toks

abbrev pub leaf_toks : (N : List ℕ) (i : ℕ) → Leaf N i → List Tok
leaf_toks N i t = (piece_at t.it.whole).toks

abbrev pub may_toks : (C : Class) (ws : List Tok) (N : List ℕ) (i : ℕ) → Maybe C N i → List Tok
may_toks C ws N i m = after ws (may_piece m)

-- AS and a name, or nothing
abbrev pub alias_toks : (N : List ℕ) (i : ℕ) → Maybe a_name N i → List Tok
alias_toks N i m = after (tok AS ∷ []) (may_piece m)

-- with no words before it
abbrev pub bare_toks : (C : Class) (N : List ℕ) (i : ℕ) → Maybe C N i → List Tok
bare_toks C N i m = (may_piece m).toks

abbrev pub row_toks : (C : Class) (t : Tok) (N : List ℕ) (i : ℕ) → Row C N i → List Tok
row_toks C t N i w = parted t (P w.kids)

abbrev pub terms_toks : (N : List ℕ) (i : ℕ) → Terms N i → List Tok
terms_toks N i t = parted (tok COMMA) (P t.row.kids)

abbrev pub inner_toks : (N : List ℕ) (i : ℕ) → Inside N i → List Tok
inner_toks N i (a_query_lem w) = (piece_at w.whole).toks
inner_toks N i (members t h) = terms_toks N i t

abbrev pub inside_toks : (N : List ℕ) (i : ℕ) → Inside N i → List Tok
inside_toks N i x = within (inner_toks N i x)

abbrev pub perhaps_toks : (k : ℕ) (N : List ℕ) (i : ℕ) → Perhaps N i → List Tok
perhaps_toks k N i (not_any h e) = []
perhaps_toks k N i (some_terms t h) = tok k ∷ tok BY ∷ terms_toks N i t

abbrev pub limit_toks : (N : List ℕ) (i : ℕ) → Coded node_query N i → List Tok
limit_toks N i w = let k = query_kids w.whole w.is in after (tok LIMIT ∷ []) (may_piece k.third) ++ after (tok OFFSET ∷ []) (may_piece k.fourth)

abbrev pub group_toks : (N : List ℕ) (i : ℕ) → Coded node_select N i → List Tok
group_toks N i w = let k = select_kids w.whole w.is in grouped (may_piece k.fourth) ++ after (tok HAVING ∷ []) (may_piece k.fifth)

abbrev pub tail_toks : (N : List ℕ) (i : ℕ) → Coded node_select N i → List Tok
tail_toks N i w = let k = select_kids w.whole w.is in (may_piece k.second).toks ++ (after (tok WHERE ∷ []) (may_piece k.third) ++ group_toks N i w)

abbrev pub whens_toks : (N : List ℕ) (i : ℕ) → Coded node_case N i → List Tok
whens_toks N i w = let k = case_kids w.whole w.is in case_toks (P k.pairs)

-- STAR, or arguments after an optional DISTINCT
abbrev pub call_toks : {C : Class} {N : List ℕ} {i : ℕ} {w : Whole C N i} → CallKids w → List Tok
call_toks {w = w} (call_args h k) = choose (eqb w.detail 1) (tok DISTINCT ∷ []) [] ++ (piece_at k.second).toks
call_toks (call_star h k) = tok STAR ∷ []

abbrev pub args_toks : (N : List ℕ) (i : ℕ) → Coded node_call N i → List Tok
args_toks N i w = call_toks (call_kids w.whole w.is)

-- a table's schema and DOT, its name, its index
abbrev pub schema_toks : (N : List ℕ) (i : ℕ) → Maybe a_name N i → List Tok
schema_toks N i m = (may_piece m).toks ++ choose (eqb (may_piece m).code node_absent) [] (tok DOT ∷ [])

abbrev pub titled_toks : (N : List ℕ) (i : ℕ) → Coded node_table N i → List Tok
titled_toks N i w = let k = table_kids_lem w.whole w.is in ((may_piece k.first).toks ++ choose (eqb (may_piece k.first).code node_absent) [] (tok DOT ∷ [])) ++ (piece_at k.second).toks

abbrev pub index_toks : (N : List ℕ) (i : ℕ) → Coded node_table N i → List Tok
index_toks N i w = let k = table_kids_lem w.whole w.is in choose (eqb (w.whole.detail / 4) 2) (tok NOT ∷ tok INDEXED ∷ []) (after (tok INDEXED ∷ tok BY ∷ []) (may_piece k.fourth))

abbrev pub using_toks : (N : List ℕ) (i : ℕ) → Row a_name N i → List Tok
using_toks N i w = tok USING ∷ within (parted (tok COMMA) (P w.kids))

-- words by a detail
abbrev pub selected_toks : ℕ → List Tok
selected_toks d = tok SELECT ∷ choose (eqb d 1) (tok DISTINCT ∷ []) []

abbrev pub nulls_toks : ℕ → List Tok
nulls_toks said = choose (eqb said 1) (tok NULLS ∷ tok FIRST ∷ []) (choose (eqb said 2) (tok NULLS ∷ tok LAST ∷ []) [])

abbrev pub way_toks : ℕ → List Tok
way_toks d = choose (eqb (d % 4) 2) (tok DESC ∷ []) [] ++ nulls_toks (d / 4)

-- of a part of FROM: what is before its source, and what is after it
abbrev pub part_toks : (N : List ℕ) (i : ℕ) → Part N i → List Tok
part_toks N i (inl w) = (piece_at w).toks
part_toks N i (inr w) = (piece_at w).toks

abbrev pub constraint_toks : (N : List ℕ) (i : ℕ) → Part N i → List Tok
constraint_toks N i (inl w) = []
constraint_toks N i (inr w) = (may_piece (join_kids w (join_is w)).second).toks

abbrev pub join_toks : (N : List ℕ) (i : ℕ) → Part N i → List Tok
join_toks N i (inl w) = []
join_toks N i (inr w) = join_of w.detail

-- where its source ends
abbrev pub source_of : (N : List ℕ) (i : ℕ) → Part N i → ℕ
source_of N i (inl w) = i
source_of N i (inr w) = before_of N (i - 1)

-- ── written ──
-- whatever ends at i, its tokens were written
pub record Spells {X : List ℕ → ℕ → Type 0} (toks : (N : List ℕ) (i : ℕ) → X N i → List Tok) (N : List ℕ) (lane : ℕ) (A A' : List ℕ) (r to i : ℕ) : Type 0 where
  pub told : (w : X N i) → Puts lane A A' r to (toks N i w)

-- of a node whose first child stands first, all but that child was written
pub record Tailed {C : Class} {N : List ℕ} {i : ℕ} (w : Whole C N i) (lane : ℕ) (A A' : List ℕ) (r to : ℕ) : Type 0 where
  pub ts : List Tok
  pub led : Led w ts
  pub puts : Puts lane A A' r to ts

-- LP so many times, and then these
unfoldable pub opens : ℕ → List Tok → List Tok
opens zero ts = ts
opens (suc n) ts = tok LP ∷ opens n ts

-- ── in a loop ──
-- what is yet to be written, from the right: nodes that end at j, n of them; what is written; and all of it
pub record Yet (spell : List Piece → List Tok) (Q : ℕ → Nodes → Type 0) (lane : ℕ) (A A' : List ℕ) (j n r to : ℕ) (ts : List Tok) : Type 0 where
  pub rest : Nodes
  pub there : Q j rest
  pub counted : count rest ≡ n
  pub done : List Tok
  pub puts : Puts lane A A' r to done
  pub same : ts ≡ spell (P rest) ++ done

abbrev pub Many : Class → List ℕ → ℕ → Nodes → Type 0
Many C N j ks = Stands N j ks × Shaped (many_of C) ks

-- a term that is yet to be written, after so many LP
pub record Along (N : List ℕ) (lane : ℕ) (A A' : List ℕ) (i s pairs r to : ℕ) (ts : List Tok) : Type 0 where
  pub it : Term N i
  pub done : List Tok
  pub puts : Puts lane A A' r to done
  pub same : ts ≡ opens pairs (at s (piece_at it.whole) ++ done)
