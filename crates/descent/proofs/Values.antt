-- What readings of parts come to: what is there needs no missing child (opt_there); the records and the number of values side by side
-- (recs_all_2, count_2, ..), of one node over them (over_one), and of a name's tree. Assumes nothing.
use mathlib.Core.Bool.{true, false}
use mathlib.Core.List.{List, [], ◌∷◌, ◌++◌, append-nil}
use mathlib.Core.Path.{◌≡◌, refl, sym, ap, ◌∙◌}
use Prim.Native.Nat.{ℕ, ◌+◌}
use lib.Dec.{eqb}
use native.Mathlib.Omega.{arith}
use Rattle.theory.specs.Trees.{Tok, Row, Tree, nil, node}
use Rattle.theory.specs.Table.{pick, mem}
use Rattle.kinds.specs.Classes.{name_code}
use Rattle.grammar.specs.RowNames.{row_select, row_values, row_name}
use Rattle.grammar.specs.Rows.{part}
use Rattle.grammar.specs.Nodes.{count, Rec, rec, records}
use Rattle.grammar.specs.Reading.{Val, empty, side, one, choose, is_end, none_there, opt, name, value_of, value, values, is_query_val}
use Rattle.theory.proofs.Cases.{by_bool, 0≢1, eqb_eq}
use Rattle.grammar.specs.Limits.{is_query}
use Rattle.descent.proofs.Walk.{missing, not_b, over}
use Rattle.descent.proofs.Grown.{recs_all, recs}
use Rattle.descent.proofs.Growing.{side_cons, count_beside}
use Rattle.descent.proofs.Rules.{known, value_name}
use Rattle.descent.proofs.Means.{Single, plain_code, ExprTree}
use Rattle.descent.proofs.Sides.{recs_of, one_single}

-- a node's value is known by its row
pub row_of : (r : Row) (l : Tree) (t : Tok) (k : Tree) → (value (node r l t k)).row ≡ r.code
unfolding value value_of
row_of r l t k = refl

-- what a query's row makes is a query
pub query_val : (r : Row) (t : Tok) (k : Tree) → is_query r.code ≡ true → is_query_val (value (node r nil t k)) ≡ true
query_val r t k z = rw (row_of r nil t k) z

pub opt_there : (v : Val) → is_end v.nodes ≡ false → opt v ≡ v
unfolding opt choose
opt_there v e = rw e

-- an absent part's place
pub opt_absent : opt empty ≡ none_there
unfolding opt choose is_end
opt_absent = refl

pub recs_missing : recs none_there ≡ missing ∷ []
unfolding records side count
recs_missing = refl

pub recs_all_none : recs_all [] ≡ []
unfolding records side
recs_all_none = refl

pub recs_all_1 : (u : Val) → recs_all (u ∷ []) ≡ recs u
recs_all_1 u = side_cons u [] ∙ rw recs_all_none (append-nil (recs u))

pub recs_all_2 : (u v : Val) → recs_all (u ∷ v ∷ []) ≡ recs u ++ recs v
recs_all_2 u v = side_cons u (v ∷ []) ∙ ap (λ z. recs u ++ z) (recs_all_1 v)

pub recs_all_3 : (u v w : Val) → recs_all (u ∷ v ∷ w ∷ []) ≡ recs u ++ (recs v ++ recs w)
recs_all_3 u v w = side_cons u (v ∷ w ∷ []) ∙ ap (λ z. recs u ++ z) (recs_all_2 v w)

pub count_none : count (side []) ≡ 0
unfolding count side
count_none = refl

pub count_cons : (v : Val) (vs : List Val) → count (side (v ∷ vs)) ≡ count v.nodes + count (side vs)
unfolding side
count_cons v vs = count_beside v.nodes (side vs)

pub count_1 : (u : Val) → count (side (u ∷ [])) ≡ count u.nodes
count_1 u = omega (arith, count_cons u [], count_none)

pub count_2 : (u v : Val) → count (side (u ∷ v ∷ [])) ≡ count u.nodes + count v.nodes
count_2 u v = omega (arith, count_cons u (v ∷ []), count_1 v)

pub count_3 : (u v w : Val) → count (side (u ∷ v ∷ w ∷ [])) ≡ count u.nodes + count v.nodes + count w.nodes
count_3 u v w = omega (arith, count_cons u (v ∷ w ∷ []), count_2 v w)

-- ── one node over values ──
-- its records, by the number of its children and their records
pub over_one : (c d n : ℕ) (vs : List Val) (rs : List Rec) → rs ≡ recs_all vs → n ≡ count (side vs) → over c d n 0 rs ≡ recs (one c d vs)
over_one c d n vs rs e f = rw e (sym (recs_of c d n vs (side vs) refl (sym f)))

-- a value that is one node
pub is_one : (v : Val) (code c d n : ℕ) (vs : List Val) (rs : List Rec) → v ≡ known code (one c d vs) → rs ≡ recs_all vs → n ≡ count (side vs)
    → (v.num ≡ 0) × Single v.nodes × (over c d n 0 rs ≡ recs v)
is_one v code c d n vs rs e a b = rw e (refl, one_single c d vs, over_one c d n vs rs a b)

-- ── names ──
pub name_single : (t : Tok) → Single (name t).nodes
name_single t = (name_code t.kind, t.text, side [], refl)

pub recs_name : (t : Tok) → recs (name t) ≡ rec (name_code t.kind) t.text 0 1 ∷ []
unfolding records side count
recs_name t = refl

pub value_name_tree : (t : Tok) → value (node (part row_name []) nil t nil) ≡ known row_name (name t)
unfolding value
value_name_tree t = value_name (value nil) t (values nil)

-- ── codes of an expression's rows ──
pub plain_not : (c d : ℕ) → plain_code d ≡ false → plain_code c ≡ true → eqb c d ≡ false
plain_not c d pd pc = by_bool (eqb c d) (λ z. 0≢1 (sym pd ∙ ap plain_code (sym (eqb_eq c d z)) ∙ pc)) (λ z. z)

pub plain_no_query : (c : ℕ) → plain_code c ≡ true → is_query c ≡ false
unfolding is_query plain_code not_b mem pick
plain_no_query c p = rw (plain_not c row_select refl p, plain_not c row_values refl p)

-- an expression's value is known by a plain row
pub plain_tree : (y : Tree) (said : ℕ) → ExprTree y said → plain_code (value y).row ≡ true
plain_tree y said e = rw (e.is, row_of e.r e.l e.t e.k) e.plain
