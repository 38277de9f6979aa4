-- What columns and queries say. Assumes nothing.
use mathlib.Core.Bool.{true, false}
use mathlib.Core.List.{List, [], ◌∷◌, ◌++◌, append_assoc, append-nil}
use mathlib.Core.Path.{◌≡◌, refl, sym, ap, ◌∙◌, subst}
use Prim.Native.Nat.{ℕ}
use lib.Dec.{eqb}
use Rattle.theory.specs.Trees.{Tok, nt, Row}
use Rattle.theory.specs.Table.{pick, mem}
use Rattle.theory.proofs.Cases.{by_bool, 0≢1}
use Rattle.kinds.specs.Kinds.{COMMA, STAR, AS, SELECT, VALUES, DISTINCT, HAVING}
use Rattle.kinds.specs.Fit.{fit_text, fits}
use Rattle.grammar.specs.Classes.{Command, Name, Query, Column, Semi?, Exprs?, Columns?, Args?, E, any}
use Rattle.grammar.specs.RowNames.{row_select, row_values, row_next_column, row_star, row_as, row_more_exprs}
use Rattle.grammar.specs.NodeNames.{node_query, node_select, node_values, node_list, node_star, node_column}
use Rattle.grammar.specs.Rows.{part, once, select_items, values_items}
use Rattle.grammar.specs.Limits.{is_query}
use Rattle.grammar.specs.Reading.{Val, empty, choose, is_end, column, limit_and_offset, group, value_of}
use Rattle.grammar.specs.Meaning.{plain_detail, meaning}
use Rattle.grammar.specs.Writing.{Piece, tok, nothing, at, after, each, parted, grouped, piece}
use Rattle.canon.proofs.Folds.{beside_end, P, mean, flat}
use Rattle.canon.proofs.Says.{Single, Operand, written, Maybe, Distincts, no_word, all_word, distinct_word, Limited, Inner, plain_args, SaysOf, Says}
use Rattle.canon.proofs.Forms.{Said, vs, ws, tk}
use Rattle.canon.proofs.Places.{open_all, open_flat, end_same, opt_of}
use Rattle.canon.proofs.Steps.{Fit, HeadSays, ListSays}
use Rattle.canon.proofs.Clauses.{each_more}

-- after an expression: what a row says that goes on from it and is none
abbrev pub MixSays : List ℕ → Row → ℕ → Type 0
MixSays ks r C = (v w : Val) (ts : List Tok) → Operand 1 v w ts → (t : Tok) → mem t.kind ks ≡ true → Fit t → (S : Said r.items)
    → (u : Tok) × (mem u.kind ks ≡ true) × Fit u × Says (any C) (value_of r.code v t (vs r.items S)) (value_of r.code w u (ws r.items S)) (ts ++ (u ∷ tk r.items S))

-- ── columns ──
pub star_column_says : HeadSays (STAR ∷ []) (part row_star []) Column
unfolding open_all fits fit_text
star_column_says t n h S = (tok STAR, refl, refl, record { p = piece node_star 0 []; single = refl; same = refl; toks = refl })

pub as_says : MixSays (AS ∷ []) (once row_as (nt (any Name) ∷ [])) Column
unfolding open_flat column fits fit_text
as_says v w ts L t n h S =
    let X = S.3 in (
      tok AS,
      refl,
      refl,
      record {
        p = piece node_column 1 (L.p ∷ X.p ∷ []);
        single = simp (flat, L.single, X.single);
        same = simp (mean, L.same, X.same);
        toks = simp (L.toks, L.tight, X.toks, X.solid, append-nil);
      },
    )

pub next_column_says : ListSays (COMMA ∷ []) (part row_next_column (nt (any Column) ∷ [])) Columns?
unfolding open_flat fits fit_text
next_column_says v w ts L t n h S =
    let X = S.3 in
    (tok COMMA, refl, refl, record { same = simp (mean, L.same, X.same); toks = simp (flat, X.single, each_more, L.toks, X.toks, append-nil) })

-- ── expressions in ( ), the second on ──
pub more_inner : (C : ℕ) → SaysOf C 0 ≡ Inner → MixSays (COMMA ∷ []) (once row_more_exprs (nt (E 1) ∷ nt (any Exprs?) ∷ [])) C
unfolding open_flat fits fit_text
more_inner C e v w ts L t n h S =
    let X = S.3 in let Y = S.4.3 in (
      tok COMMA,
      refl,
      refl,
      subst (λ F. F (value_of row_more_exprs v t (S.0 ∷ S.4.0 ∷ [])) (value_of row_more_exprs w (tok COMMA) (S.1 ∷ S.4.1 ∷ [])) (ts ++ (tok COMMA ∷ (S.2 ++ (S.4.2 ++ []))))) (sym e) (record {
        query = refl;
        same = simp (mean, L.same, X.same, Y.same);
        toks = simp (flat, L.single, X.single, L.toks, L.tight, X.toks, X.tight, Y.toks, append-nil);
        one_query = λ h. 0≢1 h;
      }),
    )

pub more_args : MixSays (COMMA ∷ []) (once row_more_exprs (nt (E 1) ∷ nt (any Exprs?) ∷ [])) Args?
unfolding open_flat fits fit_text
more_args v w ts L t n h S =
    let X = S.3 in let Y = S.4.3 in
    (tok COMMA, refl, refl, plain_args refl refl (simp (mean, L.same, X.same, Y.same)) (simp (flat, L.single, X.single, L.toks, L.tight, X.toks, X.tight, Y.toks, append-nil)))

-- ── queries ──
lim_same : (v w : Val) → meaning v.nodes ≡ meaning w.nodes → meaning (limit_and_offset v).nodes ≡ meaning (limit_and_offset w).nodes
unfolding limit_and_offset choose
lim_same v w e = by_bool (is_end v.nodes) (λ h. rw (h, end_same v w e ∙ h)) (λ h. rw (h, end_same v w e ∙ h) e)

limited_same : {v w : Val} {ts : List Tok} → Limited v w ts → meaning (limit_and_offset v).nodes ≡ meaning (limit_and_offset w).nodes
limited_same {v} {w} m = lim_same v w m.same

-- "HAVING alone is accepted, with group list (4,0,0,1)"
record Grouped (g g' h h' : Val) (ts : List Tok) : Type 0 where
  o : Piece
  opted : P (group g h).nodes ≡ o ∷ []
  same : meaning (group g h).nodes ≡ meaning (group g' h').nodes
  toks : ts ≡ grouped o

grouped_of : {g g' h h' : Val} {ts ts' : List Tok} → Maybe grouped g g' ts → Maybe (after (tok HAVING ∷ [])) h h' ts' → Grouped g g' h h' ts
unfolding open_all
grouped_of {g} {g'} {h} {h'} {ts} a b = by_bool (is_end g.nodes) (λ e. by_bool (is_end h.nodes) (λ f. both_gone e f) (λ f. having_alone e f)) (λ e. there_is e)
  where
    both_gone : is_end g.nodes ≡ true → is_end h.nodes ≡ true → Grouped g g' h h' ts
    both_gone e f = record { o = a.o; opted = rw (e, f) (rw e at a.opted); same = rw (e, f, end_same g g' a.same ∙ e, end_same h h' b.same ∙ f); toks = a.toks }

    gone_toks : is_end g.nodes ≡ true → nothing ≡ a.o
    gone_toks e = let z : nothing ∷ [] ≡ a.o ∷ [] = rw e at a.opted in cc

    having_alone : is_end g.nodes ≡ true → is_end h.nodes ≡ false → Grouped g g' h h' ts
    having_alone e f = record { o = piece node_list 0 []; opted = rw (e, f); same = rw (e, f, end_same g g' a.same ∙ e, end_same h h' b.same ∙ f); toks = a.toks ∙ ap grouped (sym (gone_toks e)) }

    there_is : is_end g.nodes ≡ false → Grouped g g' h h' ts
    there_is e = record { o = a.o; opted = rw e (rw e at a.opted); same = rw (e, end_same g g' a.same ∙ e) a.same; toks = a.toks }

-- "optional DISTINCT or ALL"
record Chosen (v w : Val) (ts : List Tok) : Type 0 where
  d : ℕ
  old_d : plain_detail node_select v.num ≡ d
  new_d : plain_detail node_select w.num ≡ d
  toks : choose (eqb d 1) (tok DISTINCT ∷ []) [] ≡ ts

chosen : {v w : Val} {ts : List Tok} → Distincts v w ts → Chosen v w ts
unfolding plain_detail pick choose
chosen (no_word a b) = record { d = 0; old_d = rw a; new_d = rw b; toks = refl }
chosen (all_word a b) = record { d = 0; old_d = rw a; new_d = rw b; toks = refl }
chosen (distinct_word a b) = record { d = 1; old_d = rw a; new_d = rw b; toks = refl }

select_told : (t u : Tok) (S : Said select_items) → Single written (value_of row_select empty t (vs select_items S)) (value_of row_select empty u (ws select_items S)) (tok SELECT ∷ tk select_items S)
unfolding open_flat select_items
select_told t u S =
    let D = chosen S.3 in
    let S1 = S.4 in let C = S1.3 in
    let S2 = S1.4 in let R = S2.3 in
    let S3 = S2.4 in let F = S3.3 in
    let S4 = S3.4 in let W = S4.3 in
    let S5 = S4.4 in let S6 = S5.4 in let H = S6.3 in
    let Gr = grouped_of S5.3 H in
    let S7 = S6.4 in let O = S7.3 in
    let L = S7.4.3 in
    record {
      p = piece node_query 0 (piece node_select D.d (piece node_list 0 (C.p ∷ P S2.0.nodes) ∷ F.o ∷ W.o ∷ Gr.o ∷ H.o ∷ []) ∷ O.o ∷ L.a ∷ L.b ∷ []);
      single = simp (flat, D.old_d, C.single, F.opted, W.opted, Gr.opted, H.opted, O.opted, L.two, append-nil);
      solid = refl;
      same = simp (mean, D.old_d, D.new_d, C.same, R.same, opt_of F, opt_of W, Gr.same, opt_of H, opt_of O, limited_same L);
      toks = simp (← D.toks, C.toks, R.toks, F.toks, W.toks, Gr.toks, H.toks, O.toks, L.toks, append-nil, append_assoc);
    }

values_told : (t u : Tok) (S : Said values_items) → Single written (value_of row_values empty t (vs values_items S)) (value_of row_values empty u (ws values_items S)) (tok VALUES ∷ tk values_items S)
unfolding open_flat values_items
values_told t u S =
    let R = S.3 in let O = S.4.3 in let L = S.4.4.3 in
    record {
      p = piece node_query 0 (piece node_values 0 (R.p ∷ R.ps) ∷ O.o ∷ L.a ∷ L.b ∷ []);
      single = simp (beside_end, flat, R.some_rows, O.opted, L.two);
      solid = refl;
      same = simp (mean, R.same, opt_of O, limited_same L);
      toks = simp (R.toks, O.toks, L.toks, append-nil);
    }

inner_query : {v w : Val} {ts : List Tok} → Single written v w ts → is_query v.row ≡ true → is_query w.row ≡ true → Inner v w ts
unfolding parted each
inner_query X a b = record { query = a ∙ sym b; same = X.same; toks = X.toks ∙ sym (rw X.single (append-nil X.p.toks)); one_query = λ e. (X.p, X.single, X.solid) }

-- a query as a command, alone, and in ( )
pub select_query : HeadSays (SELECT ∷ []) (part row_select select_items) Query
unfolding mem pick fits fit_text
select_query t n h S = (tok SELECT, refl, refl, select_told t (tok SELECT) S)

pub select_inner : (C : ℕ) → SaysOf C 0 ≡ Inner → HeadSays (SELECT ∷ []) (part row_select select_items) C
unfolding mem pick fits fit_text is_query value_of
select_inner C e t n h S = (
  tok SELECT,
  refl,
  refl,
  subst (λ F. F (value_of row_select empty t (vs select_items S)) (value_of row_select empty (tok SELECT) (ws select_items S)) (tok SELECT ∷ tk select_items S)) (sym e)
      (inner_query (select_told t (tok SELECT) S) refl refl),
)

pub values_query : HeadSays (VALUES ∷ []) (part row_values values_items) Query
unfolding mem pick fits fit_text
values_query t n h S = (tok VALUES, refl, refl, values_told t (tok VALUES) S)

pub values_inner : (C : ℕ) → SaysOf C 0 ≡ Inner → HeadSays (VALUES ∷ []) (part row_values values_items) C
unfolding mem pick fits fit_text is_query value_of
values_inner C e t n h S = (
  tok VALUES,
  refl,
  refl,
  subst (λ F. F (value_of row_values empty t (vs values_items S)) (value_of row_values empty (tok VALUES) (ws values_items S)) (tok VALUES ∷ tk values_items S)) (sym e)
      (inner_query (values_told t (tok VALUES) S) refl refl),
)

pub select_command : HeadSays (SELECT ∷ []) (part row_select (select_items ++ (nt (any Semi?) ∷ []))) Command
unfolding open_flat select_items fits fit_text
select_command t n h S =
    let S1 = S.4 in let S2 = S1.4 in let S3 = S2.4 in let S4 = S3.4 in let S5 = S4.4 in let S6 = S5.4 in let S7 = S6.4 in let S8 = S7.4 in
    let R = select_told t (tok SELECT) (
      S.0,
      S.1,
      S.2,
      S.3,
      (
        S1.0,
        S1.1,
        S1.2,
        S1.3,
        (
          S2.0,
          S2.1,
          S2.2,
          S2.3,
          (
            S3.0,
            S3.1,
            S3.2,
            S3.3,
            (
              S4.0,
              S4.1,
              S4.2,
              S4.3,
              (S5.0, S5.1, S5.2, S5.3, (S6.0, S6.1, S6.2, S6.3, (S7.0, S7.1, S7.2, S7.3, (S8.0, S8.1, S8.2, S8.3, tt)))),
            ),
          ),
        ),
      ),
    ) in
    (tok SELECT, refl, refl, record { p = R.p; single = R.single; solid = R.solid; same = R.same; toks = simp S8.4.3.toks R.toks })

pub values_command : HeadSays (VALUES ∷ []) (part row_values (values_items ++ (nt (any Semi?) ∷ []))) Command
unfolding open_flat values_items fits fit_text
values_command t n h S =
    let S1 = S.4 in let S2 = S1.4 in
    let R = values_told t (tok VALUES) (S.0, S.1, S.2, S.3, (S1.0, S1.1, S1.2, S1.3, (S2.0, S2.1, S2.2, S2.3, tt))) in
    (tok VALUES, refl, refl, record { p = R.p; single = R.single; solid = R.solid; same = R.same; toks = simp S2.4.3.toks R.toks })
