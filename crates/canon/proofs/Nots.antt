-- NOT after an operand: NOT LIKE, NOT IN, NOT BETWEEN keep their row; NOT NULL is written NOTNULL. Assumes nothing.
use mathlib.Core.Bool.{true, false, Bool}
use mathlib.Core.List.{List, [], ◌∷◌, ◌++◌, append-nil}
use mathlib.Core.Option.{some}
use mathlib.Core.Path.{◌≡◌, refl, sym, ap, ◌∙◌, subst}
use Prim.Native.Nat.{ℕ, ◌+◌}
use lib.Dec.{eqb, leb}
use native.Mathlib.Omega.{arith}
use Rattle.theory.specs.Trees.{Tok, lit, nt, Row, Tree, nil, node, toks, cap_of}
use Rattle.theory.specs.Table.{pick, both, mem, lookup}
use Rattle.theory.proofs.Cases.{by_bool, 0≢1, eqb_eq}
use Rattle.kinds.specs.Kinds.{NULL, LP, RP, AND, NOT, IN, BETWEEN, LIKE_KW, NOTNULL}
use Rattle.kinds.specs.Fit.{fit_text, fits}
use Rattle.grammar.specs.Classes.{Not, Inside?, E, any}
use Rattle.grammar.specs.RowNames.{row_not, row_not_like, row_not_in, row_not_between, row_not_null, row_null_test}
use Rattle.grammar.specs.NodeNames.{node_list, node_binary, node_null_test, node_in_list, node_in_query, node_between}
use Rattle.grammar.specs.Nodes.{end, mk, beside}
use Rattle.grammar.specs.Rows.{part, strong, but_column, exprs, select_items, values_items, lines, heads_of, tails_of}
use Rattle.grammar.specs.Grammar.{sql}
use Rattle.grammar.specs.Limits.{Around, is_query}
use Rattle.grammar.specs.Reading.{Val, empty, one, inside, value_of, value, values}
use Rattle.grammar.specs.Meaning.{meaning}
use Rattle.grammar.specs.Writing.{tok, toktext, at, binary_str, forms, piece}
use Rattle.canon.proofs.Counted.{below}
use Rattle.canon.proofs.Folds.{P, mean, flat}
use Rattle.canon.proofs.Says.{Operand, Inner, Nots, like_after, query_after, list_after, between_after, null_after, Cored}
use Rattle.canon.proofs.Forms.{as_tight, Core, core, KidsOf, grow}
use Rattle.canon.proofs.Places.{by_mem, only, open_flat}
use Rattle.canon.proofs.Place.{place}
use Rattle.canon.proofs.Rebuild.{said, regrow}
use Rattle.canon.proofs.Lines.{Finds}
use Rattle.canon.proofs.Steps.{TailStep, HeadSays, left_core, after_form, core_after, open_tests}
use Rattle.canon.proofs.Operators.{like_str, not_like_toks}

-- ── what stands after NOT ──
pub not_like_says : HeadSays (LIKE_KW ∷ []) (part row_not_like (nt (E 5) ∷ [])) Not
unfolding open_flat
not_like_says t n h S =
    let X = S.3 in let k = only t.kind LIKE_KW n in (
      toktext LIKE_KW t.text,
      refl,
      rw k at h,
      like_after t.text refl refl refl refl
          (record { p = X.p; single = simp (flat, X.single); solid = X.solid; same = simp (mean, X.same); toks = simp (X.toks, append-nil) }),
    )

in_after : (v w : Val) (ts : List Tok) (t u : Tok) (X : Inner v w ts) (b : Bool) → is_query v.row ≡ b
    → Nots (value_of row_not_in empty t (empty ∷ v ∷ empty ∷ [])) (value_of row_not_in empty u (empty ∷ w ∷ empty ∷ [])) (tok IN ∷ (tok LP ∷ (ts ++ (tok RP ∷ []))))
unfolding open_flat inside
in_after v w ts t u X true e = let y = X.one_query e in let e' = sym X.query ∙ e in query_after refl refl (rw e) (rw e') (record {
  p = y.0;
  single = simp (e, y.1);
  solid = y.2;
  same = simp (e, e', X.same);
  toks = simp (X.toks, y.1, append-nil);
})
in_after v w ts t u X false e = let e' = sym X.query ∙ e in list_after refl refl (rw e) (rw e') (record {
  p = piece node_list 0 (P v.nodes);
  single = simp (e, flat, append-nil);
  solid = refl;
  same = simp (e, e', mean, X.same);
  toks = simp X.toks;
})

pub not_in_says : HeadSays (IN ∷ []) (part row_not_in (lit LP ∷ nt (any Inside?) ∷ lit RP ∷ [])) Not
unfolding mem pick fits fit_text
not_in_says t n h S = (tok IN, refl, refl, in_after S.0 S.1 S.2 t (tok IN) S.3 (is_query S.0.row) refl)

pub not_between_says : HeadSays (BETWEEN ∷ []) (part row_not_between (nt (E 5) ∷ lit AND ∷ nt (E 5) ∷ [])) Not
unfolding open_flat fits fit_text
not_between_says t n h S =
    let X = S.3 in let Y = S.4.3 in
    (tok BETWEEN, refl, refl, between_after refl refl X.p Y.p (simp (flat, X.single, Y.single)) (simp (mean, X.same, Y.same)) (simp (X.toks, Y.toks, append-nil)))

pub not_null_says : HeadSays (NULL ∷ []) (part row_not_null []) Not
unfolding open_flat fits fit_text
not_null_says t n h S = (tok NULL, refl, refl, null_after refl refl)

-- ── an operand, NOT and what stands after it ──
abbrev not_row : Row
not_row = strong 4 row_not (nt (any Not) ∷ [])

abbrev null_test_row : Row
null_test_row = strong 4 row_null_test []

-- unless it is NOT NULL
not_told : (v w : Val) (ts : List Tok) → Operand 4 v w ts → (t : Tok) (v1 w1 : Val) (ts1 : List Tok) → Nots v1 w1 ts1 → eqb v1.row row_not_null ≡ false
    → Cored 4 (value_of row_not v t (v1 ∷ [])) (value_of row_not w (tok NOT) (w1 ∷ [])) (ts ++ (tok NOT ∷ (ts1 ++ [])))
unfolding open_flat
not_told v w ts L t v1 w1 ts1 (like_after x a b d e X) z =
    let s : binary_str (300 + x) ≡ 4 = like_str (300 + x) (omega arith) in
    record {
      p = piece node_binary (300 + x) (L.p ∷ X.p ∷ []);
      single = simp (a, d, flat, L.single, X.single);
      solid = refl;
      str = s;
      vnum = rw a;
      wnum = rw b;
      same = simp (a, b, d, e, mean, L.same, X.same);
      toks = simp (L.toks, X.toks, s, not_like_toks, append-nil);
    }
not_told v w ts L t v1 w1 ts1 (query_after a b d e X) z = record {
  p = piece node_in_query 1 (L.p ∷ X.p ∷ []);
  single = simp (a, d, flat, L.single, X.single);
  solid = refl;
  str = refl;
  vnum = rw a;
  wnum = rw b;
  same = simp (a, b, d, e, mean, L.same, X.same);
  toks = simp (L.toks, X.toks, append-nil);
}
not_told v w ts L t v1 w1 ts1 (list_after a b d e X) z = record {
  p = piece node_in_list 1 (L.p ∷ X.p ∷ []);
  single = simp (a, d, flat, L.single, X.single);
  solid = refl;
  str = refl;
  vnum = rw a;
  wnum = rw b;
  same = simp (a, b, d, e, mean, L.same, X.same);
  toks = simp (L.toks, X.toks, append-nil);
}
not_told v w ts L t v1 w1 ts1 (between_after a b p q d e f) z = record {
  p = piece node_between 1 (L.p ∷ p ∷ q ∷ []);
  single = simp (a, flat, L.single, d);
  solid = refl;
  str = refl;
  vnum = rw a;
  wnum = rw b;
  same = simp (a, b, mean, L.same, e);
  toks = simp (L.toks, f, append-nil);
}
not_told v w ts L t v1 w1 ts1 (null_after a b) z = 0≢1 (sym (rw a at z))

-- NOT NULL: its value, whatever its left operand
null_value : (v v1 : Val) (t : Tok) → eqb v1.row row_not_null ≡ true → value_of row_not v t (v1 ∷ []) ≡ record { row = row_not; num = 0; nodes = mk node_null_test NOTNULL (beside v.nodes end) end }
unfolding open_flat
null_value v v1 t e = rw (eqb_eq v1.row row_not_null e)

null_found : Finds (record { of = exprs; at = NOTNULL ∷ []; row = null_test_row }) sql.tails
unfolding sql lines but_column exprs select_items values_items heads_of tails_of pick both mem lookup
null_found D k m n = subst (λ z. lookup D z sql.tails ≡ some null_test_row) (sym (only k NOTNULL n))
    (by_mem (λ C. lookup C NOTNULL sql.tails ≡ some null_test_row) exprs (refl, (refl, (refl, (refl, (refl, (refl, (refl, tt))))))) D m)

null_core : (C : ℕ) → mem C exprs ≡ true → (c : Around) (q : Row) (l : Tree) (x : Core C q c l) → leb 4 q.str ≡ true → leb q.str 12 ≡ true → leb 4 (cap_of l) ≡ true
    → (t : Tok) (k : KidsOf not_row.items (below not_row c)) → eqb (value k.0).row row_not_null ≡ true → Core C not_row c (node not_row l t (grow (below not_row c) not_row.items k nil))
unfolding open_flat open_tests grow value values regrow said
null_core C m c q l x a b d t k e =
    let ov : value (node not_row l t (grow (below not_row c) not_row.items k nil)) ≡ record { row = row_not; num = 0; nodes = mk node_null_test NOTNULL (beside (value l).nodes end) end }
    = null_value (value l) (value k.0) t e in
    record {
      p = piece node_null_test NOTNULL (x.p ∷ []);
      single = ap (λ z. P z.nodes) ov ∙ simp (flat, x.single);
      solid = refl;
      tight = refl;
      num = ap (λ z. z.num) ov;
      untold = refl;
      forms = after_form (NOTNULL ∷ []) null_test_row refl null_found C c q l x a b d tt _ (piece node_null_test NOTNULL (x.p ∷ [])) refl
          (λ w ts o. let one : o.p ∷ [] ≡ x.p ∷ [] = sym o.single ∙ x.single in let e1 : o.p ≡ x.p = cc in
          (tok NOTNULL, refl, refl, simp (o.toks, e1), ap (λ z. meaning z.nodes) ov ∙ simp (mean, o.same), refl));
      deep = as_tight refl;
    }

pub not_step : TailStep (record { of = exprs; at = NOT ∷ []; row = not_row })
unfolding open_tests said
not_step C m f c q l x a b d i zl t n h k z =
    let y = left_core C q c l 4 refl a d i x in
    core m (by_bool (eqb (value k.0).row row_not_null)
    (λ e. null_core C m c q l y a b d t k e)
    (λ e. core_after (NOT ∷ []) not_row refl C m f c q l y a b d i t k
    (λ w ts o. (tok NOT, refl, refl, not_told (value l) w ts o t (value k.0) _ _ (place (any Not) (below not_row c) k.1).says e))))
