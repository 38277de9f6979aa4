-- LIMIT: a OFFSET b keeps its row; a , b is written LIMIT b OFFSET a. Assumes nothing.
use mathlib.Core.Bool.{true, false}
use mathlib.Core.List.{List, [], ◌∷◌, ◌++◌, append-nil}
use mathlib.Core.Logic.{◌⊎◌, inl, inr}
use mathlib.Core.Path.{◌≡◌, refl, sym, ap, ◌∙◌, subst}
use Prim.Native.Nat.{ℕ}
use lib.Dec.{eqb, T}
use Rattle.theory.specs.Trees.{Tok, nt, Row, Tree, nil, add, node, toks}
use Rattle.theory.specs.Table.{Line, pick, both, mem, lookup}
use Rattle.theory.specs.Derives.{begin, child, whole}
use Rattle.theory.specs.Judged.{faults_in, faults_kids}
use Rattle.theory.proofs.Cases.{by_bool, 0≢1}
use Rattle.kinds.specs.Kinds.{COMMA, LIMIT, OFFSET}
use Rattle.grammar.specs.Classes.{Limit?, Offset?, E, any}
use Rattle.grammar.specs.RowNames.{row_limit, row_offset, row_comma_offset}
use Rattle.grammar.specs.Nodes.{Nodes, end, beside}
use Rattle.grammar.specs.Rows.{part, but_column, exprs, select_items, values_items, lines, heads_of, tails_of}
use Rattle.grammar.specs.Grammar.{sql}
use Rattle.grammar.specs.Limits.{Around, begun, judge}
use Rattle.grammar.specs.Reading.{Val, empty, says, choose, is_end, opt, ◌#◌, limit_and_offset, rules, ruled, value_of, value, values}
use Rattle.grammar.specs.Meaning.{meaning}
use Rattle.grammar.specs.Writing.{Piece, tok, at, after, pieces}
use Rattle.canon.proofs.Counted.{below, under, all_app}
use Rattle.canon.proofs.Folds.{P, mean, flat}
use Rattle.canon.proofs.Says.{Operand, Limited, Offsets}
use Rattle.canon.proofs.Forms.{Clean, here, CommaTree, Pack, Result, Kid, grow}
use Rattle.canon.proofs.Places.{open_flat, is_there, opt_some, opt_of}
use Rattle.canon.proofs.Place.{fit_app, place}
use Rattle.canon.proofs.Rebuild.{said, stands_part, keep}
use Rattle.canon.proofs.Lines.{Finds}
use Rattle.canon.proofs.Steps.{HeadStep, plainly, begins_zero, head_opens, head_step, only_class, left_pack, open_tests}
use Rattle.canon.proofs.Clauses.{offset_says}
use Rattle.canon.proofs.Vanish.{as_if, found_one}

abbrev limit_row : Row
limit_row = part row_limit (nt (E 1) ∷ nt (any Offset?) ∷ [])

abbrev offset_row : Row
offset_row = part row_offset (nt (E 1) ∷ [])

abbrev comma_row : Row
comma_row = part row_comma_offset (nt (E 1) ∷ [])

-- ── OFFSET b, and , b as if OFFSET stood there ──
abbrev offset_line : Line
offset_line = record { of = Offset? ∷ []; at = OFFSET ∷ []; row = offset_row }

pub offset_step : HeadStep offset_line
unfolding open_tests value value_of
offset_step = head_step offset_line refl ((refl, λ c t u ks m f. inl refl, offset_says, λ t f. tt), tt)

offset_found : Finds offset_line sql.heads
unfolding sql lines but_column exprs select_items values_items heads_of tails_of pick both mem lookup
offset_found = found_one Offset? (OFFSET ∷ []) offset_row sql.heads (refl, tt)

offset_pack : (c : Around) (x : Tree) (k : Kid (E 1) c x) (t : Tok) → Clean (node comma_row nil t (add nil x)) c → Pack (any Offset?) c (node offset_row nil (tok OFFSET) (add nil x))
unfolding grow faults_in faults_kids judge begun open_tests below exprs
offset_pack c x k t z = left_pack Offset? offset_row c (node offset_row nil (tok OFFSET) (add nil x)) refl (offset_step Offset? refl offset_found c (tok OFFSET) refl refl (x, k, tt) z)

opt_nodes : (a b a' b' : ℕ) (n : Nodes) → (opt (record { row = a; num = b; nodes = n })).nodes ≡ (opt (record { row = a'; num = b'; nodes = n })).nodes
unfolding opt choose
opt_nodes a b a' b' n = by_bool (is_end n) (λ e. rw e) (λ e. rw e)

comma_says : (x : Tree) (t : Tok) (w : Val) (ts : List Tok) → Offsets (value (node offset_row nil (tok OFFSET) (add nil x))) w ts → Offsets (value (node comma_row nil t (add nil x))) w ts
unfolding value values value_of ruled rules pick ◌#◌
comma_says x t w ts X = let m = X.may in record {
  may = record { o = m.o; opted = ap P (opt_nodes row_comma_offset (value x).num row_offset (value x).num (value x).nodes) ∙ m.opted; same = m.same; toks = m.toks };
  row = X.row;
}

comma_tree : (c : Around) (x : Tree) (t : Tok) → Kid (E 1) c x → CommaTree c (node comma_row nil t (add nil x))
unfolding value values value_of ruled rules pick ◌#◌
comma_tree c x t k = let p = place (E 1) c k in let X = p.says in
    (p.y, p.stands, p.clean, p.fit, record { p = X.p; single = X.single; solid = X.solid; tight = X.tight; full = X.full; same = X.same; toks = X.toks })

pub comma_step : HeadStep (record { of = Offset? ∷ []; at = COMMA ∷ []; row = comma_row })
unfolding grow open_tests below
comma_step D m f c t n h k z = subst (λ X. Result X comma_row c (node comma_row nil t (add nil k.0))) (only_class Offset? D m)
    (plainly Offset? comma_row c (node comma_row nil t (add nil k.0)) refl tt
    (as_if (any Offset?) c (node comma_row nil t (add nil k.0)) (node offset_row nil (tok OFFSET) (add nil k.0)) (comma_says k.0 t) refl (λ y i. inr (comma_tree c k.0 t k.1))
    (offset_pack c k.0 k.1 t z)))

-- ── LIMIT ──
-- what is no end stays as it is
lim_some : (v : Val) (p : Piece) (ps : List Piece) → P v.nodes ≡ p ∷ ps → limit_and_offset v ≡ v
unfolding limit_and_offset choose
lim_some v p ps e = rw (is_there v p ps e)

limited : (v w : Val) (ts : List Tok) (a b : Piece) → P v.nodes ≡ a ∷ b ∷ [] → meaning v.nodes ≡ meaning w.nodes → ts ≡ after (tok LIMIT ∷ []) a ++ after (tok OFFSET ∷ []) b → Limited v w ts
limited v w ts a b e s t = record { a = a; b = b; two = rw (lim_some v a (b ∷ []) e) e; same = s; toks = t }

kept_limit : (v w v1 w1 : Val) (ts ts1 : List Tok) (t : Tok) → Operand 1 v w ts → Offsets v1 w1 ts1 → eqb v1.row row_comma_offset ≡ false
    → Limited (value_of row_limit empty t (v ∷ v1 ∷ [])) (value_of row_limit empty (tok LIMIT) (w ∷ w1 ∷ [])) (tok LIMIT ∷ (ts ++ (ts1 ++ [])))
unfolding open_flat
kept_limit v w v1 w1 ts ts1 t X O e = let m = O.may in
    limited _ _ _ X.p m.o (simp (e, flat, X.single, m.opted)) (simp (e, O.row, mean, X.same, opt_of m)) (simp (X.toks, X.tight, X.solid, m.toks, append-nil))

-- LIMIT a , b
swapped : Tree → Tree → Tree
swapped z y = node limit_row nil (tok LIMIT) (add (add nil z) (node offset_row nil (tok OFFSET) (add nil y)))

swapped_says : (v v1 : Val) (z y : Tree) (t : Tok) → Operand 1 v (value y) (toks y) → Operand 1 v1 (value z) (toks z) → eqb v1.row row_comma_offset ≡ true
    → Limited (value_of row_limit empty t (v ∷ v1 ∷ [])) (value (swapped z y)) (toks (swapped z y))
unfolding open_flat value values toks swapped
swapped_says v v1 z y t X Z e =
    let o : (opt (value_of row_offset empty (tok OFFSET) (value y ∷ []))).nodes ≡ (value y).nodes = ap (λ z. z.nodes) (opt_some (value_of row_offset empty (tok OFFSET) (value y ∷ [])) X.p (ap pieces (sym X.same) ∙ X.single)) in
    let m : meaning (value_of row_limit empty t (v ∷ v1 ∷ [])).nodes ≡ meaning (beside (value z).nodes (beside (value y).nodes end)) = simp (e, mean, X.same, Z.same) in
    limited _ _ _ Z.p X.p (simp (e, flat, X.single, Z.single)) (m ∙ ap (λ n. meaning (beside (value z).nodes (beside n end))) (sym o)) (simp (X.toks, X.tight, X.solid, Z.toks, Z.tight, Z.solid))

limit_found : Finds (record { of = Limit? ∷ []; at = LIMIT ∷ []; row = limit_row }) sql.heads
unfolding sql lines but_column exprs select_items values_items heads_of tails_of pick both mem lookup
limit_found = found_one Limit? (LIMIT ∷ []) limit_row sql.heads (refl, tt)

abbrev limit_line : Line
limit_line = record { of = Limit? ∷ []; at = LIMIT ∷ []; row = limit_row }

swapped_pack : (c : Around) (x x1 : Tree) (t : Tok) → Pack (E 1) c x → CommaTree c x1 → eqb (value x1).row row_comma_offset ≡ true → Pack (any Limit?) c (node limit_row nil t (add (add nil x) x1))
unfolding swapped toks value values faults_in faults_kids judge begun below open_tests
swapped_pack c x x1 t X T e = record {
  y = swapped T.0 X.y;
  stands = here (whole (head_opens limit_line Limit? (tok LIMIT) limit_found refl refl)
      (child (stands_part T.1 begin) (head_opens offset_line Offset? (tok OFFSET) offset_found refl refl) (stands_part X.stands begin)));
  clean = (refl, all_app (faults_in Around under judge T.0 c 0) (0 ∷ faults_in Around under judge X.y c 0) T.2 (refl, X.clean));
  caps = λ a b. 0≢1 a;
  fit = (refl, fit_app (toks T.0) (tok OFFSET ∷ toks X.y) T.3 (refl, X.fit));
  says = swapped_says (value x) (value x1) T.0 X.y t X.says T.4 e;
  more = tt;
}

pub limit_step : HeadStep limit_line
unfolding grow said toks value faults_in below open_tests
limit_step D m f c t n h k z =
    let A = place (E 1) (below limit_row c) k.1 in
    let O = place (any Offset?) (below limit_row c) k.2.1 in
    subst (λ X. Result X limit_row c (node limit_row nil t (add (add nil k.0) k.2.0))) (only_class Limit? D m)
    (plainly Limit? limit_row c (node limit_row nil t (add (add nil k.0) k.2.0)) refl tt
    (by_bool (eqb (value k.2.0).row row_comma_offset) (λ e. swap e O.more)
    (λ e. keep Limit? limit_row c nil nil t (tok LIMIT) k refl (head_opens limit_line Limit? (tok LIMIT) limit_found refl refl) tt (begins_zero c limit_row t (add (add nil k.0) k.2.0) z) tt refl
    (kept_limit (value k.0) (value A.y) (value k.2.0) (value O.y) (toks A.y) (toks O.y) t A.says O.says e) tt)))
  where
    swap : eqb (value k.2.0).row row_comma_offset ≡ true → (eqb (value k.2.0).row row_comma_offset ≡ false) ⊎ CommaTree (below limit_row c) k.2.0
        → Pack (any Limit?) c (node limit_row nil t (add (add nil k.0) k.2.0))
    swap e (inl g) = 0≢1 (sym g ∙ e)
    swap e (inr b) = swapped_pack c k.0 k.2.0 t (place (E 1) (below limit_row c) k.1) b e
