-- An absent part says nothing, in every class that may be absent (absent_says). An expression says itself in every class where one may
-- stand (expr_says). Assumes nothing.
use mathlib.Core.Bool.{true, false}
use mathlib.Core.List.{List, [], ◌∷◌, ◌++◌, append-nil}
use mathlib.Core.Path.{◌≡◌, refl, sym, ap, ◌∙◌, subst}
use Prim.Native.Nat.{ℕ}
use lib.Dec.{eqb, leb}
use native.Mathlib.Omega.{arith}
use Rattle.theory.specs.Trees.{Tok, Nt, toks}
use Rattle.theory.specs.Table.{pick, both, mem, null_of}
use Rattle.theory.proofs.Cases.{by_bool, pick_inv, 0≢1, both_l, eqb_eq, le-leb}
use Rattle.kinds.specs.Kinds.{INDEXED, COMMA, DOT, ELSE, AS, WHERE, BY, HAVING, ORDER, OFFSET}
use Rattle.grammar.specs.RowNames.{row_select, row_values, row_star, row_as, row_bare, row_star_args, row_distinct_args}
use Rattle.grammar.specs.NodeNames.{node_absent, node_column}
use Rattle.grammar.specs.Nodes.{beside}
use Rattle.grammar.specs.Rows.{exprs, optional}
use Rattle.grammar.specs.Grammar.{sql, G}
use Rattle.grammar.specs.Limits.{is_query}
use Rattle.grammar.specs.Reading.{Val, empty, side, one, choose, is_end, none_there, opt, ◌#◌, column, limit_and_offset, group, inside, rules, ruled, value_of}
use Rattle.grammar.specs.Meaning.{plain_detail, is_one, unwrapped, meaning}
use Rattle.grammar.specs.Writing.{Piece, tok, nothing, ◌!◌, but_first, at, after, joined, each, parted, rows, grouped, whens, binary_toks, binary_str, node_str, forms, formed, piece, pieces}
use Rattle.canon.proofs.Folds.{meaning_beside, P, P_beside, is_nil, end_P}
use Rattle.canon.proofs.Says.{Full, Operand, written, Run, Maybe, no_word, no_way, no_nulls, only_is, no_alias, no_index, Columned, Inner, plain_args, Rests, more_names, no_dot, pairs, no_pair, all_words, SaysOf, Says}
use Rattle.canon.proofs.Forms.{told, proper}

infixr 5 ◌also◌
-- a proof, and those after it
pub ◌also◌ : {P Q : Type 0} → P → Q → P × Q
◌also◌ p q = (p, q)

-- what holds of each member of a list holds of what is found in it
abbrev pub AllOf : (ℕ → Type 0) → List ℕ → Type 0
AllOf Q [] = Unit {0}
AllOf Q (a ∷ l) = Q a × AllOf Q l

pub by_mem : (Q : ℕ → Type 0) (l : List ℕ) → AllOf Q l → (C : ℕ) → mem C l ≡ true → Q C
unfolding mem
by_mem Q [] all C m = 0≢1 m
by_mem Q (a ∷ l) all C m = pick_inv (eqb C a) true _ true m (λ h x. subst Q (sym (eqb_eq C a h)) all.0) (λ h x. by_mem Q l all.1 C x)

pub only : (k a : ℕ) → mem k (a ∷ []) ≡ true → k ≡ a
only k a m = by_mem (λ z. z ≡ a) (a ∷ []) (refl, tt) k m

pub not_first : (c a : ℕ) (l : List ℕ) → mem c (a ∷ l) ≡ false → (eqb c a ≡ false) × (mem c l ≡ false)
unfolding mem pick
not_first c a l e = by_bool (eqb c a) (λ h. 0≢1 (sym (rw h at e))) (λ h. (h, rw h at e))

-- all that a reading or a writing computes by, and the same but for what may be absent
unfoldable pub open_rules : Unit {0}
unfolding pick both mem is_query side choose is_end ◌#◌ rules ruled value_of plain_detail is_one unwrapped meaning beside ◌!◌ but_first at after joined each parted rows grouped whens binary_toks binary_str node_str forms formed piece pieces is_nil pairs all_words
open_rules = tt

unfoldable pub open_all : Unit {0}
unfolding open_rules opt column limit_and_offset group inside
open_all = tt

-- the same, with meaning and pieces shut: for the rules mean and flat
unfoldable pub open_flat : Unit {0}
unfolding pick both mem is_query side choose is_end ◌#◌ rules ruled value_of plain_detail beside ◌!◌ but_first at after joined each parted rows grouped whens binary_toks binary_str node_str forms formed piece is_nil pairs
open_flat = tt

maybe_absent : (F : Piece → List Tok) → F nothing ≡ [] → Maybe F empty empty []
unfolding open_all
maybe_absent F e = record { o = nothing; opted = refl; same = refl; toks = sym e }

run_absent : (F : List Piece → List Tok) → F [] ≡ [] → Run F empty empty []
unfolding open_all
run_absent F e = record { same = refl; toks = sym e }

abbrev AbsentIn : ℕ → Type 0
AbsentIn C = (s : ℕ) → SaysOf C s empty empty []

inner_absent : Inner empty empty []
unfolding open_all
inner_absent = record { query = refl; same = refl; toks = refl; one_query = λ e. 0≢1 e }

pub rests_absent : Rests empty empty []
unfolding open_all
rests_absent = more_names refl refl refl refl (run_absent (each (tok DOT)) refl)

absents : AllOf AbsentIn optional
unfolding open_all optional
absents =
    (λ s. record { toks = refl })
    also (λ s. run_absent (each (tok COMMA)) refl)
    also (λ s. run_absent (each (tok COMMA)) refl)
    also (λ s. inner_absent)
    also (λ s. maybe_absent (after (tok ORDER ∷ tok BY ∷ [])) refl)
    also (λ s. run_absent (each (tok COMMA)) refl)
    also (λ s. no_way refl refl)
    also (λ s. no_nulls refl refl)
    also (λ s. record { a = nothing; b = nothing; two = refl; same = refl; toks = refl })
    also (λ s. record { may = maybe_absent (after (tok OFFSET ∷ [])) refl; row = refl })
    also (λ s. no_word refl refl)
    also (λ s. run_absent (each (tok COMMA)) refl)
    also (λ s. maybe_absent written refl)
    also (λ s. maybe_absent (after (tok WHERE ∷ [])) refl)
    also (λ s. maybe_absent grouped refl)
    also (λ s. maybe_absent (after (tok HAVING ∷ [])) refl)
    also (λ s. rests_absent)
    also (λ s. rests_absent)
    also (λ s. run_absent joined refl)
    also (λ s. record { words = []; few = refl; fit = refl; flags = refl })
    also (λ s. record { words = []; few = refl; fit = refl; flags = refl })
    also (λ s. maybe_absent written refl)
    also (λ s. no_dot refl refl refl)
    also (λ s. no_alias refl refl (maybe_absent (after (tok AS ∷ [])) refl))
    also (λ s. no_index refl refl (maybe_absent (after (tok INDEXED ∷ tok BY ∷ [])) refl))
    also (λ s. maybe_absent written refl)
    also (λ s. plain_args refl refl refl refl)
    also (λ s. record { rests = rests_absent; no_star = refl })
    also (λ s. record { rests = rests_absent; no_star = refl })
    also (λ s. record { even = no_pair; same = refl; toks = refl })
    also (λ s. maybe_absent (after (tok ELSE ∷ [])) refl)
    also tt

pub absent_says : (B : Nt) → G.nullable B ≡ true → Says B empty empty []
unfolding null_of sql
absent_says B e = by_mem AbsentIn optional absents B.of (both_l (mem B.of optional) (eqb B.least 0) e) B.least

-- ── an expression ──
pub record Expressed (v w : Val) (p : Piece) : Type 0 where
  pub single : P v.nodes ≡ p ∷ []
  pub solid : eqb p.code node_absent ≡ false
  pub tight : leb 1 p.str ≡ true
  pub full : Full p
  pub same : meaning v.nodes ≡ meaning w.nodes
  pub vnum : v.num ≡ 0
  pub wnum : w.num ≡ 0
  pub vtold : mem v.row told ≡ false
  pub wtold : mem w.row told ≡ false

pub at_any : (p : Piece) → at 0 p ≡ p.toks
unfolding at choose
at_any p = rw (le-leb 0 p.str (omega arith))

pub is_there : (v : Val) (p : Piece) (ps : List Piece) → P v.nodes ≡ p ∷ ps → is_end v.nodes ≡ false
unfolding is_nil
is_there v p ps e = rw (end_P v.nodes, e)

pub is_gone : (v : Val) → P v.nodes ≡ [] → is_end v.nodes ≡ true
unfolding is_nil
is_gone v e = rw (end_P v.nodes, e)

pub opt_some : (v : Val) (p : Piece) → P v.nodes ≡ p ∷ [] → opt v ≡ v
unfolding opt choose is_nil
opt_some v p e = rw (end_P v.nodes, e)

-- one node is there
pub present : (F : Piece → List Tok) (v w : Val) (ts : List Tok) (p : Piece) → P v.nodes ≡ p ∷ [] → meaning v.nodes ≡ meaning w.nodes → ts ≡ F p → Maybe F v w ts
present F v w ts p e s t = record { o = p; opted = rw (opt_some v p e) e; same = s; toks = t }

pub end_same : (v w : Val) → meaning v.nodes ≡ meaning w.nodes → is_end w.nodes ≡ is_end v.nodes
end_same v w e = end_P w.nodes ∙ ap (λ z. is_nil (pieces z)) (sym e) ∙ sym (end_P v.nodes)

pub opt_same : (v w : Val) → meaning v.nodes ≡ meaning w.nodes → meaning (opt v).nodes ≡ meaning (opt w).nodes
unfolding opt choose
opt_same v w e = by_bool (is_end v.nodes) (λ h. rw (h, end_same v w e ∙ h)) (λ h. rw (h, end_same v w e ∙ h) e)

pub opt_of : {F : Piece → List Tok} {v w : Val} {ts : List Tok} → Maybe F v w ts → meaning (opt v).nodes ≡ meaning (opt w).nodes
opt_of {v = v} {w = w} m = opt_same v w m.same

pub column_of : (v : Val) → mem v.row told ≡ false → v.num ≡ 0 → column v ≡ one node_column 0 (v ∷ none_there ∷ [])
unfolding column pick
column_of v t n =
    let a = not_first v.row row_select _ t in let b = not_first v.row row_values _ a.1 in
    let c = not_first v.row row_star _ b.1 in let d = not_first v.row row_as _ c.1 in
    let e = not_first v.row row_bare _ d.1 in
    rw (c.0, d.0, e.0, n)

pub no_query : (c : ℕ) → mem c told ≡ false → is_query c ≡ false
unfolding is_query pick
no_query c t = let a = not_first c row_select _ t in let b = not_first c row_values _ a.1 in rw (a.0, b.0)

no_args : (c : ℕ) → mem c told ≡ false → mem c (row_star_args ∷ row_distinct_args ∷ []) ≡ false
no_args c t =
    let a = not_first c row_select _ t in let b = not_first c row_values _ a.1 in
    let d = not_first c row_star _ b.1 in let e = not_first c row_as _ d.1 in
    (not_first c row_bare _ e.1).1

module _ (v w : Val) (p : Piece) (x : Expressed v w p) where
  abbrev ExprIn : ℕ → Type 0
  ExprIn C = (s : ℕ) → proper (record { of = C; least = s }) ≡ true → SaysOf C s v w (at s p)

  zero_asked : (s : ℕ) → eqb s 0 ≡ true → at s p ≡ p.toks
  zero_asked s e = rw (eqb_eq s 0 e) (at_any p)

  inner_expr : (s : ℕ) → eqb s 0 ≡ true → Inner v w (at s p)
  unfolding parted each
  inner_expr s e = record { query = no_query v.row x.vtold ∙ sym (no_query w.row x.wtold); same = x.same; toks = zero_asked s e ∙ sym (rw x.single (append-nil p.toks)); one_query = λ h. 0≢1 (sym (no_query v.row x.vtold) ∙ h) }

  column_expr : (s : ℕ) → eqb s 0 ≡ true → Columned v w (at s p)
  unfolding open_all
  column_expr s e = record {
    p = piece node_column 0 (p ∷ nothing ∷ []);
    single = rw (column_of v x.vtold x.vnum) (simp (P_beside, x.single));
    same = rw (column_of v x.vtold x.vnum, column_of w x.wtold x.wnum) (simp (meaning_beside, x.same));
    toks = zero_asked s e ∙ sym (append-nil p.toks);
  }

  exprs_say : AllOf ExprIn exprs
  unfolding exprs open_all proper
  exprs_say =
      (λ s e. record { p = p; single = x.single; solid = x.solid; tight = x.tight; full = x.full; same = x.same; toks = refl })
      also (λ s e. record { o = p; opted = rw (opt_some v p x.single) x.single; same = x.same; toks = zero_asked s e })
      also inner_expr
      also inner_expr
      also (λ s e. plain_args (no_args v.row x.vtold) (no_args w.row x.wtold) x.same (zero_asked s e ∙ sym (rw x.single (append-nil p.toks))))
      also column_expr
      also (λ s e. only_is x.vnum x.wnum (record { p = p; single = x.single; solid = x.solid; tight = x.tight; full = x.full; same = x.same; toks = ap (λ n. at n p) (eqb_eq s 5 e) }))
      also tt

  pub expr_says : (B : Nt) → mem B.of exprs ≡ true → proper B ≡ true → Says B v w (at B.least p)
  expr_says B m e = by_mem ExprIn exprs exprs_say B.of m B.least e

-- a word and an expression after it, which may be absent
pub led : (k : ℕ) (v w : Val) (ts : List Tok) (a b a' b' : ℕ) → Operand 1 v w ts
    → Maybe (after (tok k ∷ [])) (record { row = a; num = b; nodes = v.nodes }) (record { row = a'; num = b'; nodes = w.nodes }) (tok k ∷ (ts ++ []))
unfolding after at choose
led k v w ts a b a' b' X = present (after (tok k ∷ [])) (record { row = a; num = b; nodes = v.nodes }) (record { row = a'; num = b'; nodes = w.nodes }) (tok k ∷ (ts ++ []))
    X.p X.single X.same (simp (append-nil, X.toks, X.tight, X.solid))
