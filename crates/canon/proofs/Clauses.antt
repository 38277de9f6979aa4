-- What the clauses of a query say, and the rests of lists: ORDER BY, WHERE, GROUP BY, HAVING, DISTINCT. Assumes nothing.
use mathlib.Core.List.{List, [], ◌∷◌, ◌++◌, append_assoc, append-nil}
use mathlib.Core.Path.{◌≡◌, refl}
use Prim.Native.Nat.{ℕ, ◌+◌, ◌*◌, ◌%◌, ◌/◌}
use lib.Dec.{eqb, T}
use Rattle.theory.specs.Trees.{Tok, lit, nt}
use Rattle.theory.specs.Table.{pick, mem}
use Rattle.kinds.specs.Kinds.{COMMA, DISTINCT, WHERE, GROUP, BY, HAVING, ORDER, DESC, NULLS, FIRST, LAST, OFFSET}
use Rattle.kinds.specs.Fit.{fit_text, fits}
use Rattle.grammar.specs.Classes.{Name, FirstLast, Names?, Exprs?, Order?, Terms?, Way?, Nulls?, Offset?, Distinct?, Where?, Group?, Having?, E, any}
use Rattle.grammar.specs.RowNames.{row_next_name, row_next_expr, row_order, row_next_term, row_desc, row_nulls, row_first, row_last, row_offset, row_distinct, row_where, row_group, row_having}
use Rattle.grammar.specs.NodeNames.{node_list, node_sort}
use Rattle.grammar.specs.Rows.{part}
use Rattle.grammar.specs.Reading.{Val, empty, choose, value_of}
use Rattle.grammar.specs.Meaning.{plain_detail}
use Rattle.grammar.specs.Writing.{Piece, tok, after, each, grouped, piece}
use Rattle.canon.proofs.Folds.{meaning_beside, P, P_beside, mean, flat}
use Rattle.canon.proofs.Says.{distinct_word, Ways, no_way, asc_way, desc_way, FirstLasts, is_first, is_last, NullsSays, no_nulls, nulls_first, nulls_last}
use Rattle.canon.proofs.Places.{open_all, open_flat, present, led}
use Rattle.canon.proofs.Steps.{HeadSays, ListSays}

pub each_more : (t : Tok) (ps : List Piece) (p : Piece) → each t (ps ++ (p ∷ [])) ≡ each t ps ++ (t ∷ p.toks)
unfolding each
each_more t [] p = simp append-nil
each_more t (q ∷ ps) p = simp (each_more t ps p, append_assoc)

-- ── the rests of lists ──
pub next_name_says : ListSays (COMMA ∷ []) (part row_next_name (nt (any Name) ∷ [])) Names?
unfolding open_all fits fit_text
next_name_says v w ts L t n h S =
    let X = S.3 in
    (tok COMMA, refl, refl, record { same = simp (meaning_beside, L.same, X.same); toks = simp (P_beside, X.single, each_more, L.toks, X.toks, append-nil) })

pub next_expr_says : ListSays (COMMA ∷ []) (part row_next_expr (nt (E 1) ∷ [])) Exprs?
unfolding open_all fits fit_text
next_expr_says v w ts L t n h S =
    let X = S.3 in
    (tok COMMA, refl, refl, record { same = simp (meaning_beside, L.same, X.same); toks = simp (P_beside, X.single, each_more, L.toks, X.toks, X.tight, append-nil) })

-- ── ORDER BY ──
pub desc_says : HeadSays (DESC ∷ []) (part row_desc []) Way?
unfolding open_all fits fit_text
desc_says t n h S = (tok DESC, refl, refl, desc_way refl refl)

pub first_says : HeadSays (FIRST ∷ []) (part row_first []) FirstLast
unfolding open_all fits fit_text
first_says t n h S = (tok FIRST, refl, refl, is_first refl refl)

pub last_says : HeadSays (LAST ∷ []) (part row_last []) FirstLast
unfolding open_all fits fit_text
last_says t n h S = (tok LAST, refl, refl, is_last refl refl)

nulls_of : (v w : Val) (ts : List Tok) (t u : Tok) → FirstLasts v w ts → NullsSays (value_of row_nulls empty t (v ∷ [])) (value_of row_nulls empty u (w ∷ [])) (tok NULLS ∷ (ts ++ []))
unfolding open_all
nulls_of v w ts t u (is_first a b) = nulls_first a b
nulls_of v w ts t u (is_last a b) = nulls_last a b

pub nulls_says : HeadSays (NULLS ∷ []) (part row_nulls (nt (any FirstLast) ∷ [])) Nulls?
unfolding mem pick fits fit_text
nulls_says t n h S = (tok NULLS, refl, refl, nulls_of S.0 S.1 S.2 t (tok NULLS) S.3)

-- a term's detail, from its two words
pub record Sorted (v w v' w' : Val) (ts : List Tok) : Type 0 where
  pub d : ℕ
  pub old_d : plain_detail node_sort (v.num + 4 * v'.num) ≡ d
  pub new_d : plain_detail node_sort (w.num + 4 * w'.num) ≡ d
  pub toks : choose (eqb (d % 4) 2) (tok DESC ∷ []) [] ++ choose (eqb (d / 4) 1) (tok NULLS ∷ tok FIRST ∷ []) (choose (eqb (d / 4) 2) (tok NULLS ∷ tok LAST ∷ []) []) ≡ ts

sorted : {v w v' w' : Val} {ts ts' : List Tok} → Ways v w ts → NullsSays v' w' ts' → Sorted v w v' w' (ts ++ ts')
unfolding open_all
sorted (no_way a b) (no_nulls a' b') = record { d = 0; old_d = rw (a, a'); new_d = rw (b, b'); toks = refl }
sorted (no_way a b) (nulls_first a' b') = record { d = 4; old_d = rw (a, a'); new_d = rw (b, b'); toks = refl }
sorted (no_way a b) (nulls_last a' b') = record { d = 8; old_d = rw (a, a'); new_d = rw (b, b'); toks = refl }
sorted (asc_way a b) (no_nulls a' b') = record { d = 0; old_d = rw (a, a'); new_d = rw (b, b'); toks = refl }
sorted (asc_way a b) (nulls_first a' b') = record { d = 4; old_d = rw (a, a'); new_d = rw (b, b'); toks = refl }
sorted (asc_way a b) (nulls_last a' b') = record { d = 8; old_d = rw (a, a'); new_d = rw (b, b'); toks = refl }
sorted (desc_way a b) (no_nulls a' b') = record { d = 2; old_d = rw (a, a'); new_d = rw (b, b'); toks = refl }
sorted (desc_way a b) (nulls_first a' b') = record { d = 6; old_d = rw (a, a'); new_d = rw (b, b'); toks = refl }
sorted (desc_way a b) (nulls_last a' b') = record { d = 10; old_d = rw (a, a'); new_d = rw (b, b'); toks = refl }

pub order_says : HeadSays (ORDER ∷ []) (part row_order (lit BY ∷ nt (E 1) ∷ nt (any Way?) ∷ nt (any Nulls?) ∷ nt (any Terms?) ∷ [])) Order?
unfolding open_flat fits fit_text
order_says t n h S =
    let X = S.3 in let S1 = S.4 in let S2 = S1.4 in let S3 = S2.4 in
    let D = sorted S1.3 S2.3 in let T = S3.3 in
    let e = T.toks in (
      tok ORDER,
      refl,
      refl,
      present (after (tok ORDER ∷ tok BY ∷ [])) _ _ _ (piece node_list 0 (piece node_sort D.d (X.p ∷ []) ∷ P S3.0.nodes))
          (simp (flat, D.old_d, X.single, append-nil)) (simp (mean, D.old_d, D.new_d, X.same, T.same)) (simp (X.toks, X.tight, D.toks, T.toks, append-nil, append_assoc)),
    )

pub next_term_says : ListSays (COMMA ∷ []) (part row_next_term (nt (E 1) ∷ nt (any Way?) ∷ nt (any Nulls?) ∷ [])) Terms?
unfolding open_flat fits fit_text
next_term_says v w ts L t n h S =
    let X = S.3 in let S1 = S.4 in let S2 = S1.4 in
    let D = sorted S1.3 S2.3 in (
      tok COMMA,
      refl,
      refl,
      record {
        same = simp (mean, D.old_d, D.new_d, L.same, X.same);
        toks = simp (flat, D.old_d, X.single, each_more, L.toks, X.toks, X.tight, D.toks, append-nil, append_assoc);
      },
    )

-- ── WHERE, HAVING, GROUP BY, DISTINCT, OFFSET ──
pub where_says : HeadSays (WHERE ∷ []) (part row_where (nt (E 1) ∷ [])) Where?
unfolding open_all fits fit_text
where_says t n h S = (tok WHERE, refl, refl, led WHERE S.0 S.1 S.2 _ _ _ _ S.3)

pub having_says : HeadSays (HAVING ∷ []) (part row_having (nt (E 1) ∷ [])) Having?
unfolding open_all fits fit_text
having_says t n h S = (tok HAVING, refl, refl, led HAVING S.0 S.1 S.2 _ _ _ _ S.3)

pub group_says : HeadSays (GROUP ∷ []) (part row_group (lit BY ∷ nt (E 1) ∷ nt (any Exprs?) ∷ [])) Group?
unfolding open_all fits fit_text
group_says t n h S =
    let X = S.3 in let Y = S.4.3 in let f = X.full in (
      tok GROUP,
      refl,
      refl,
      present grouped _ _ _ (piece node_list 0 (X.p ∷ P S.4.0.nodes))
          (simp (P_beside, X.single, append-nil)) (simp (meaning_beside, X.same, Y.same)) (simp (X.toks, X.tight, Y.toks, f.2, append-nil)),
    )

pub distinct_says : HeadSays (DISTINCT ∷ []) (part row_distinct []) Distinct?
unfolding open_all fits fit_text
distinct_says t n h S = (tok DISTINCT, refl, refl, distinct_word refl refl)

pub offset_says : HeadSays (OFFSET ∷ []) (part row_offset (nt (E 1) ∷ [])) Offset?
unfolding open_all fits fit_text
offset_says t n h S = (tok OFFSET, refl, refl, record { may = led OFFSET S.0 S.1 S.2 _ _ _ _ S.3; row = refl })
