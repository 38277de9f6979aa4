-- Rows of VALUES: each stays as long as it was, so the limits have no word on its RP. Assumes nothing.
use mathlib.Core.Bool.{true}
use mathlib.Core.List.{List, [], ◌∷◌, ◌++◌, append_assoc, append-nil}
use mathlib.Core.Option.{some}
use mathlib.Core.Path.{◌≡◌, refl, sym, ap, ◌∙◌, subst}
use Prim.Native.Nat.{ℕ, ◌+◌, min}
use borrow.Author.Tests.{eq-eqb}
use lib.Dec.{eqb}
use native.Mathlib.Omega.{arith}
use Rattle.theory.specs.Trees.{Tok, Nt, lit, nt, Row, Tree, nil, add, leaf, node, toks, cap_of}
use Rattle.theory.specs.Table.{Line, pick, both, mem, lookup, null_of}
use Rattle.theory.specs.Derives.{Opens, tail, whole}
use Rattle.theory.specs.Judged.{faults_in, faults_kids, AllZero}
use Rattle.theory.proofs.Cases.{0≢1, eqb_eq, le-leb}
use Rattle.theory.proofs.Tested.{cont_some}
use Rattle.kinds.specs.Kinds.{LP, RP, COMMA}
use Rattle.kinds.specs.Fit.{fit_text, fits}
use Rattle.grammar.specs.Classes.{Rows, Exprs?, E, any}
use Rattle.grammar.specs.RowNames.{row_first_row, row_next_row}
use Rattle.grammar.specs.NodeNames.{node_list}
use Rattle.grammar.specs.Rows.{part, but_column, exprs, select_items, values_items, lines, heads_of, tails_of, optional}
use Rattle.grammar.specs.Grammar.{bare, sql, G}
use Rattle.grammar.specs.Limits.{Around, members, last_child, children_before, width, width_of, is_kind, begun, judge}
use Rattle.grammar.specs.Reading.{Val, empty, value_of, value}
use Rattle.grammar.specs.Writing.{Piece, tok, within, at, each, rows, piece}
use Rattle.grammar.proofs.LevelsHold.{all_right}
use Rattle.canon.proofs.Counted.{below, under, all_app}
use Rattle.canon.proofs.Folds.{P, mean, flat}
use Rattle.canon.proofs.Says.{Operand, Run, Rowed}
use Rattle.canon.proofs.Forms.{Clean, Stands, gone, here, Result, grow}
use Rattle.canon.proofs.Places.{by_mem, open_flat}
use Rattle.canon.proofs.Place.{place}
use Rattle.canon.proofs.Rebuild.{said, regrow, unheard, silent, clean_any, keep_clean}
use Rattle.canon.proofs.Steps.{HeadStep, TailStep, HeadSays, plainly, head_step, only_class, left_pack, open_tests}

abbrev first_row : Row
first_row = part row_first_row (nt (E 1) ∷ nt (any Exprs?) ∷ lit RP ∷ [])

abbrev next_row : Row
next_row = part row_next_row (lit LP ∷ nt (E 1) ∷ nt (any Exprs?) ∷ lit RP ∷ [])

abbrev first_line : Line
first_line = record { of = Rows ∷ []; at = LP ∷ []; row = first_row }

first_row_says : HeadSays (LP ∷ []) first_row Rows
unfolding open_flat fits fit_text
first_row_says t n h S =
    let X = S.3 in let Y = S.4.3 in (
      tok LP,
      refl,
      refl,
      record {
        p = piece node_list 0 (X.p ∷ P S.4.0.nodes);
        ps = [];
        some_rows = simp (flat, X.single, append-nil);
        same = simp (mean, X.same, Y.same);
        toks = simp (X.toks, X.tight, Y.toks, append_assoc);
      },
    )

pub first_row_step : HeadStep first_line
unfolding open_tests grow regrow width_of width members last_child children_before
first_row_step = head_step first_line refl ((refl, λ c t u ks m f. ap (λ z. z + 1) (place (any Exprs?) (below first_row c) ks.2.1).more, first_row_says, λ t f. tt), tt)

-- ── a further row ──
rows_more : (p : Piece) (ps : List Piece) (q : Piece) → rows (p ∷ (ps ++ (q ∷ []))) ≡ rows (p ∷ ps) ++ (tok COMMA ∷ within q.toks)
unfolding rows
rows_more p [] q = refl
rows_more p (r ∷ ps) q = simp (rows_more r ps q, append_assoc)

next_told : (v w v1 w1 v2 w2 : Val) (ts ts1 ts2 : List Tok) (t : Tok) → Rowed v w ts → Operand 1 v1 w1 ts1 → Run (each (tok COMMA)) v2 w2 ts2
    → Rowed (value_of row_next_row v t (empty ∷ v1 ∷ v2 ∷ empty ∷ [])) (value_of row_next_row w (tok COMMA) (empty ∷ w1 ∷ w2 ∷ empty ∷ [])) (ts ++ (tok COMMA ∷ (tok LP ∷ (ts1 ++ (ts2 ++ (tok RP ∷ []))))))
unfolding open_flat
next_told v w v1 w1 v2 w2 ts ts1 ts2 t L X Y = record {
  p = L.p;
  ps = L.ps ++ (piece node_list 0 (X.p ∷ P v2.nodes) ∷ []);
  some_rows = simp (flat, L.some_rows, X.single, append-nil);
  same = simp (mean, L.same, X.same, Y.same);
  toks = simp (rows_more, L.toks, X.toks, X.tight, Y.toks, append_assoc);
}

-- the word on a row's RP
abbrev word_at : ℕ → ℕ → ℕ
word_at a b = pick (eqb a b) 0 (λ w. 8)

word_at_lem : (c : Around) (l : Tree) (t : Tok) (k e es : Tree) (u : Tok) → u.kind ≡ RP → judge c next_row l t (add (add (add k e) es) (leaf u)) ≡ word_at (members es + 1) (width_of l)
unfolding judge is_kind open_tests width last_child children_before
word_at_lem c l t k e es u h = rw h

same_width : (c : Around) (l : Tree) (t : Tok) (k e es : Tree) (u : Tok) → u.kind ≡ RP → Clean (node next_row l t (add (add (add k e) es) (leaf u))) c → members es + 1 ≡ width_of l
unfolding faults_in faults_kids
same_width c l t k e es u h z =
    let f : Tree = add (add k e) es in
    let w : ℕ = judge c next_row l t (add f (leaf u)) in
    let a = (all_right (faults_in Around under judge l c 0) (judge c next_row l t nil ∷ (faults_kids Around under judge f c next_row l t ++ (w ∷ []))) z).1 in
    eqb_eq (members es + 1) (width_of l) (unheard (eqb (members es + 1) (width_of l)) 7 (sym (word_at_lem c l t k e es u h) ∙ (all_right (faults_kids Around under judge f c next_row l t) (w ∷ []) a).0))

no_word : (c : Around) (l : Tree) (t u : Tok) → u.kind ≡ LP → judge c next_row l t (add nil (leaf u)) ≡ 0
unfolding judge is_kind open_tests
no_word c l t u h = rw h

begun_judge : (c : Around) (l : Tree) (t : Tok) → begun c next_row l ≡ 0 → judge c next_row l t nil ≡ 0
unfolding judge
begun_judge c l t b = b

next_clean : (c : Around) (l : Tree) (t u u' : Tok) (e es : Tree) {A B : Nt} → u.kind ≡ LP → u'.kind ≡ RP → Clean l c → begun c next_row l ≡ 0 → Stands A e → Clean e (below next_row c) → Stands B es → Clean es (below next_row c)
    → members es + 1 ≡ width_of l → Clean (node next_row l t (add (add (add (add nil (leaf u)) e) es) (leaf u'))) c
unfolding faults_in faults_kids
next_clean c l t u u' e es i j z b s x s' y h =
    let f1 : Tree = add nil (leaf u) in let f2 : Tree = add f1 e in let f3 : Tree = add f2 es in
    let w1 : ℕ = judge c next_row l t f1 in let w2 : ℕ = judge c next_row l t f2 in let w3 : ℕ = judge c next_row l t f3 in let w4 : ℕ = judge c next_row l t (add f3 (leaf u')) in
    let k1 : AllZero (faults_kids Around under judge f1 c next_row l t) = (no_word c l t u i, tt) in
    let k2 = all_app (faults_kids Around under judge f1 c next_row l t) (faults_in Around under judge e (below next_row c) w2) k1 (clean_any (below next_row c) w2 s x) in
    let k3 = all_app (faults_kids Around under judge f2 c next_row l t) (faults_in Around under judge es (below next_row c) w3) k2 (clean_any (below next_row c) w3 s' y) in
    let k4 = all_app (faults_kids Around under judge f3 c next_row l t) (w4 ∷ []) k3 (word_at_lem c l t f1 e es u' j ∙ silent (eqb (members es + 1) (width_of l)) 8 (eq-eqb (members es + 1) (width_of l) h), tt) in
    all_app (faults_in Around under judge l c 0) (judge c next_row l t nil ∷ faults_kids Around under judge (add f3 (leaf u')) c next_row l t) z (begun_judge c l t b, k4)

next_found : (k : ℕ) → mem k (COMMA ∷ []) ≡ true → lookup Rows k sql.tails ≡ some next_row
unfolding sql lines but_column exprs select_items values_items heads_of tails_of pick both mem lookup
next_found k m = by_mem (λ k. lookup Rows k sql.tails ≡ some next_row) (COMMA ∷ []) (refl, tt) k m

no_rows : G.nullable (any Rows) ≡ true → ⊥
unfolding null_of sql both optional mem pick
no_rows n = 0≢1 n

next_opens : {l : Tree} → Stands (any Rows) l → Opens G (any Rows) l (tok COMMA) next_row
unfolding mem pick
next_opens (gone n) = absurd (no_rows n)
next_opens (here {q = q} (whole {f = f} o p)) = tail o p (cont_some sql (any Rows) q (cap_of f) COMMA next_row (next_found COMMA refl) refl (le-leb 0 q.str (omega arith)) (le-leb 0 (min q.cap (cap_of f)) (omega arith)))

next_begun : (c : Around) {l : Tree} → Stands (any Rows) l → begun c next_row l ≡ 0
unfolding begun
next_begun c (gone n) = absurd (no_rows n)
next_begun c (here (whole o p)) = refl

pub next_row_step : TailStep (record { of = Rows ∷ []; at = COMMA ∷ []; row = next_row })
unfolding grow regrow said open_tests exprs width_of width members last_child children_before toks
next_row_step D m f c q l x a b d i zl t n h k z =
    let i = only_class Rows D m in
    let L = left_pack Rows q c l refl (subst (λ X. Result X q c l) (sym i) x) in
    let X = place (E 1) (below next_row c) k.2.1 in let Y = place (any Exprs?) (below next_row c) k.2.2.1 in
    let width_same = same_width c l t (add nil (leaf k.0)) k.2.0 k.2.2.0 k.2.2.2.0 (sym k.2.2.2.1) z in
    let now : members Y.y + 1 ≡ width_of L.y = ap (λ z. z + 1) Y.more ∙ width_same ∙ sym L.more in
    subst (λ X. Result X next_row c (node next_row l t (grow (below next_row c) next_row.items k nil))) i
    (plainly Rows next_row c (node next_row l t (grow (below next_row c) next_row.items k nil)) refl tt
    (keep_clean Rows next_row c l L.y t (tok COMMA) k refl (λ a b. 0≢1 a) (next_opens L.stands)
    (next_clean c L.y (tok COMMA) (bare LP) (bare RP) X.y Y.y refl refl L.clean (next_begun c L.stands) X.stands X.clean Y.stands Y.clean now)
    L.fit refl
    (next_told (value l) (value L.y) (value k.2.0) (value X.y) (value k.2.2.0) (value Y.y) (toks L.y) (toks X.y) (toks Y.y) t L.says X.says Y.says)
    (ap (λ z. z + 1) Y.more)))
