-- The first name of an expression or a column: canonical in every class, with the rows that class has (names_step); name DOT STAR. Assumes nothing.
use mathlib.Core.Bool.{true, false}
use mathlib.Core.List.{List, [], ◌∷◌, ◌++◌, append-nil}
use mathlib.Core.Logic.{inl, inr}
use mathlib.Core.Option.{some}
use mathlib.Core.Path.{◌≡◌, refl, sym, ap, ◌∙◌, subst}
use Prim.Native.Nat.{ℕ, min}
use lib.Dec.{eqb, leb}
use native.Mathlib.Omega.{arith}
use Rattle.theory.specs.Trees.{Tok, Nt, nt, Row, Tree, nil, add, node, toks, cap_of}
use Rattle.theory.specs.Table.{pick, both, mem, lookup, enter_of}
use Rattle.theory.specs.Derives.{head, begin, Ok, whole}
use Rattle.theory.specs.Judged.{faults_in, faults_kids}
use Rattle.theory.proofs.Cases.{by_bool, 0≢1, leb_le, le-leb}
use Rattle.theory.proofs.Tested.{asked_some}
use Rattle.kinds.specs.Kinds.{ID, KWID, INDEXED, JOIN_KW}
use Rattle.kinds.specs.Classes.{names}
use Rattle.grammar.specs.Classes.{Expr, Paren, Column, Inside?, ColRest?, ColDots?, Base?, Args?, NameRest?, Dots?, any, IsRight}
use Rattle.grammar.specs.RowNames.{row_names}
use Rattle.grammar.specs.Rows.{strong, but_column, exprs, select_items, values_items, lines, heads_of, tails_of}
use Rattle.grammar.specs.Grammar.{sql, G}
use Rattle.grammar.specs.Limits.{Around, begun, judge}
use Rattle.grammar.specs.Reading.{Val, empty, one, says, choose, NAME_STAR, value_of, value, values}
use Rattle.grammar.specs.Meaning.{meaning}
use Rattle.grammar.specs.Writing.{Piece, at, forms}
use Rattle.grammar.specs.Promise.{AllFit}
use Rattle.canon.proofs.Counted.{below, deeper}
use Rattle.canon.proofs.Folds.{P}
use Rattle.canon.proofs.Says.{Rests, NameRests}
use Rattle.canon.proofs.Forms.{Clean, as_tight, Stands, here, ColForm, Pack, Form, reach, Core, Result, core, plain, grow}
use Rattle.canon.proofs.Places.{◌also◌, AllOf, by_mem}
use Rattle.canon.proofs.Place.{reach_any, place, le_trans}
use Rattle.canon.proofs.Asks.{asks}
use Rattle.canon.proofs.Rebuild.{stands_part, clean_any}
use Rattle.canon.proofs.Steps.{HeadStep, begins_zero, only_class, reach_expr, open_tests}
use Rattle.canon.proofs.Names.{plain_kind, plain_tok, Named, named, names_told, name_star_told}

abbrev names_row : Nt → Row
names_row B = strong 12 row_names (nt B ∷ [])

-- a canonical tree for what stands after the first name
record NameKid (B : Nt) (c : Around) (v : Val) : Type 0 where
  z : Tree
  stands : Stands B z
  clean : Clean z c
  cap : leb 99 (cap_of z) ≡ true
  fit : AllFit (toks z)
  rests : Rests v (value z) (toks z)

abbrev first_name : Nt → Tok → Tree → Tree
first_name B u z = node (names_row B) nil u (add nil z)

first_ok : (B : Nt) (D : ℕ) (u : Tok) {z : Tree} → lookup D u.kind sql.heads ≡ some (names_row B) → Stands B z → Ok G (any D) (names_row B) (first_name B u z)
unfolding enter_of
first_ok B D u e s = whole (head (asked_some 0 (lookup D u.kind sql.heads) (names_row B) e refl)) (stands_part s begin)

first_clean : (B : Nt) (c : Around) (u : Tok) {z : Tree} → Stands B z → begun c (names_row B) nil ≡ 0 → Clean z (deeper c) → Clean (first_name B u z) c
unfolding faults_in faults_kids judge below open_tests
first_clean B c u s b z = (b, clean_any (deeper c) 0 s z)

first_cap : (B : Nt) (u : Tok) (z : Tree) → leb 99 (cap_of z) ≡ true → leb 99 (cap_of (first_name B u z)) ≡ true
unfolding cap_of
first_cap B u z h = le-leb 99 (min 99 (cap_of z)) (let i = leb_le 99 (cap_of z) h in omega arith)

first_toks : (B : Nt) (u : Tok) (z : Tree) → toks (first_name B u z) ≡ u ∷ (toks z ++ [])
unfolding toks
first_toks B u z = simp append-nil

first_value : (B : Nt) (u : Tok) (z : Tree) → value (first_name B u z) ≡ value_of row_names empty u (value z ∷ [])
unfolding value values
first_value B u z = refl

name_form : (B : Nt) (D : ℕ) (c : Around) (t : Tok) → Named t.kind t.text → lookup D (plain_kind t.kind) sql.heads ≡ some (names_row B) → begun c (names_row B) nil ≡ 0
    → (v : Val) → eqb v.num NAME_STAR ≡ false → NameKid B (deeper c) v → (p : Piece) → P (value_of row_names empty t (v ∷ [])).nodes ≡ p ∷ []
    → Form D c (meaning (value_of row_names empty t (v ∷ [])).nodes) p
unfolding toks value_of mem pick
name_form B D c t N e b v s K p h =
    let g = names_told t N K.rests s in
    let one : g.p ∷ [] ≡ p ∷ [] = sym g.single ∙ h in
    let same-p : g.p ≡ p = cc in
    let u : Tok = plain_tok t in
    let fv = first_value B u K.z in
    record {
      y = first_name B u K.z;
      q = names_row B;
      ok = first_ok B D u e K.stands;
      strong = rw (ap (λ z. z.str) (sym same-p) ∙ g.str) refl;
      writes = first_toks B u K.z ∙ (g.toks ∙ ap (λ z. z.toks) same-p);
      same = g.same ∙ ap (λ z. meaning z.nodes) (sym fv);
      untold = rw fv refl;
      num = ap (λ z. z.num) fv ∙ g.wnum;
      clean = first_clean B c u K.stands b K.clean;
      cap = rw (ap (λ z. z.str) (sym same-p) ∙ g.str) (le_trans 12 99 (cap_of (first_name B u K.z)) refl (first_cap B u K.z K.cap));
      fit = (N.fit, K.fit);
    }

-- x stands at B0 in class C; in class D there is a canonical rest, at rest_of D
core_names : (C : ℕ) (B0 : Nt) (rest_of : ℕ → Nt) (c : Around) (t : Tok) → Named t.kind t.text → ((D : ℕ) → mem D exprs ≡ true → lookup D (plain_kind t.kind) sql.heads ≡ some (names_row (rest_of D)))
    → begun c (names_row B0) nil ≡ 0 → mem C exprs ≡ true → (x : Tree) → eqb (value x).num NAME_STAR ≡ false → ((D : ℕ) → reach C D ≡ true → NameKid (rest_of D) (deeper c) (value x)) → Core C (names_row B0) c (first_name B0 t x)
unfolding begun value_of mem pick
core_names C B0 rest_of c t N found b m x s K =
    let g = names_told t N (K C (reach_any C m)).rests s in
    let fv = first_value B0 t x in
    record {
      p = g.p;
      single = ap (λ z. P z.nodes) fv ∙ g.single;
      solid = g.solid;
      tight = rw g.str refl;
      num = ap (λ z. z.num) fv ∙ g.vnum;
      untold = rw fv refl;
      forms = λ D d w. subst (λ z. Form D c (meaning z.nodes) g.p) (sym fv) (name_form (rest_of D) D c t N (found D (reach_expr C D d)) b (value x) s (K D d) g.p g.single);
      deep = as_tight (rw g.str refl);
    }

-- ── in an expression ──
abbrev pub besides : ℕ → ℕ → ℕ → Nt
besides B B' D = choose (eqb D Column) (any B') (any B)

-- the two forms of a rest, in every class
both_rests : (B B' : ℕ) (c : Around) (v : Val) → NameKid (any B) c v → NameKid (any B') c v → (D : ℕ) → mem D exprs ≡ true → NameKid (besides B B' D) c v
unfolding choose exprs
both_rests B B' c v K K' D m = by_mem (λ D. NameKid (besides B B' D) c v) exprs (K, (K, (K, (K, (K, (K', (K, tt))))))) D m

but_expr : (C : ℕ) → mem C but_column ≡ true → mem C exprs ≡ true
unfolding mem pick exprs but_column
but_expr C m = by_mem (λ C. mem C exprs ≡ true) but_column (refl, (refl, (refl, (refl, (refl, (refl, tt)))))) C m

abbrev call_kinds : List ℕ
call_kinds = ID ∷ KWID ∷ JOIN_KW ∷ []

call_names : (k : ℕ) → mem k call_kinds ≡ true → mem k names ≡ true
unfolding mem pick
call_names k m = by_mem (λ k. mem k names ≡ true) call_kinds (refl, (refl, (refl, tt))) k m

indexed_names : (k : ℕ) → mem k (INDEXED ∷ []) ≡ true → mem k names ≡ true
unfolding mem pick
indexed_names k m = by_mem (λ k. mem k names ≡ true) (INDEXED ∷ []) (refl, tt) k m

call_found : (D : ℕ) → mem D exprs ≡ true → (k : ℕ) → mem k call_kinds ≡ true → lookup D (plain_kind k) sql.heads ≡ some (names_row (besides NameRest? ColRest? D))
unfolding sql lines but_column exprs select_items values_items heads_of tails_of pick both mem lookup plain_kind choose
call_found D d k m = by_mem (λ D. lookup D (plain_kind k) sql.heads ≡ some (names_row (besides NameRest? ColRest? D))) exprs
    (at_k Expr (refl, (refl, (refl, tt))) also at_k Base? (refl, (refl, (refl, tt))) also at_k Paren (refl, (refl, (refl, tt))) also at_k Inside? (refl, (refl, (refl, tt)))
    also at_k Args? (refl, (refl, (refl, tt))) also at_k Column (refl, (refl, (refl, tt))) also at_k IsRight (refl, (refl, (refl, tt))) also tt) D d
  where
    at_k : (D : ℕ) → AllOf (λ k. lookup D (plain_kind k) sql.heads ≡ some (names_row (besides NameRest? ColRest? D))) call_kinds → lookup D (plain_kind k) sql.heads ≡ some (names_row (besides NameRest? ColRest? D))
    at_k D all = by_mem (λ k. lookup D (plain_kind k) sql.heads ≡ some (names_row (besides NameRest? ColRest? D))) call_kinds all k m

indexed_found : (D : ℕ) → mem D exprs ≡ true → (k : ℕ) → mem k (INDEXED ∷ []) ≡ true → lookup D (plain_kind k) sql.heads ≡ some (names_row (besides Dots? ColDots? D))
unfolding sql lines but_column exprs select_items values_items heads_of tails_of pick both mem lookup plain_kind choose
indexed_found D d k m = by_mem (λ k. lookup D (plain_kind k) sql.heads ≡ some (names_row (besides Dots? ColDots? D))) (INDEXED ∷ [])
    (by_mem (λ D. lookup D INDEXED sql.heads ≡ some (names_row (besides Dots? ColDots? D))) exprs (refl, (refl, (refl, (refl, (refl, (refl, (refl, tt))))))) D d, tt) k m

-- a rest that is read in an expression, in all forms
expr_names : (C B B' : ℕ) (c : Around) (t : Tok) → Named t.kind t.text → ((D : ℕ) → mem D exprs ≡ true → lookup D (plain_kind t.kind) sql.heads ≡ some (names_row (besides B B' D)))
    → begun c (names_row (any B)) nil ≡ 0 → mem C exprs ≡ true → (x : Tree) (p : Pack (any B) (deeper c) x) → NameRests (value x) (value p.y) (toks p.y) → leb 99 (cap_of p.y) ≡ true → ColForm B' (deeper c) x
    → Core C (names_row (any B)) c (first_name (any B) t x)
expr_names C B B' c t N found b m x p s cap k = core_names C (any B) (besides B B') c t N found b m x s.no_star
    (λ D d. both_rests B B' (deeper c) (value x) (record { z = p.y; stands = p.stands; clean = p.clean; cap = cap; fit = p.fit; rests = s.rests })
    (record { z = k.0; stands = k.1; clean = k.2; cap = k.3; fit = k.4; rests = k.5 }) D (reach_expr C D d))

pub names_step : HeadStep (record { of = but_column; at = call_kinds; row = names_row (any NameRest?) })
unfolding grow below open_tests
names_step C m f c t n h k z =
    let p = place (any NameRest?) (deeper c) k.1 in
    let e = but_expr C m in
    core e (expr_names C NameRest? ColRest? c t (named t (call_names t.kind n) h) (λ D d. call_found D d t.kind n)
    (begins_zero c (names_row (any NameRest?)) t (add nil k.0) z) e k.0 p p.says (p.caps refl (λ e. 0≢1 e)) p.more)

pub indexed_step : HeadStep (record { of = but_column; at = INDEXED ∷ []; row = names_row (any Dots?) })
unfolding grow below open_tests
indexed_step C m f c t n h k z =
    let p = place (any Dots?) (deeper c) k.1 in
    let e = but_expr C m in
    core e (expr_names C Dots? ColDots? c t (named t (indexed_names t.kind n) h) (λ D d. indexed_found D d t.kind n)
    (begins_zero c (names_row (any Dots?)) t (add nil k.0) z) e k.0 p p.says (p.caps refl (λ e. 0≢1 e)) p.more)

-- ── in a column ──
only_column : (D : ℕ) → reach Column D ≡ true → eqb D Column ≡ true
unfolding reach choose
only_column D d = d

col_core : (B B' : ℕ) (c : Around) (t : Tok) → Named t.kind t.text → ((D : ℕ) → mem D exprs ≡ true → lookup D (plain_kind t.kind) sql.heads ≡ some (names_row (besides B B' D)))
    → begun c (names_row (any B')) nil ≡ 0 → (x : Tree) → eqb (value x).num NAME_STAR ≡ false → NameKid (any B') (deeper c) (value x) → Core Column (names_row (any B')) c (first_name (any B') t x)
unfolding choose mem pick exprs
col_core B B' c t N found b x s K = core_names Column (any B') (besides B B') c t N found b refl x s
    (λ D d. rw (only_column D d) K)

-- name DOT STAR: a column, from which nothing goes on
star_pack : (B : ℕ) (c : Around) (t : Tok) → Named t.kind t.text → lookup Column (plain_kind t.kind) sql.heads ≡ some (names_row (any B)) → begun c (names_row (any B)) nil ≡ 0
    → (x : Tree) (p : Pack (any B) (deeper c) x) → Rests (value x) (value p.y) (toks p.y) → eqb (value x).num NAME_STAR ≡ true
    → (s : ℕ) → leb s 12 ≡ true → Pack (record { of = Column; least = s }) c (first_name (any B) t x)
unfolding toks mem pick
star_pack B c t N found b x p r e s h =
    let u : Tok = plain_tok t in
    record {
      y = first_name (any B) u p.y;
      stands = here (asks Column s (names_row (any B)) (first_name (any B) u p.y) (first_ok (any B) Column u found p.stands) h);
      clean = first_clean (any B) c u p.stands b p.clean;
      caps = λ a i. 0≢1 a;
      fit = (N.fit, p.fit);
      says = rw (first_value (any B) t x, first_value (any B) u p.y, first_toks (any B) u p.y) (name_star_told t N r e);
      more = tt;
    }

star_cap : (B : ℕ) (t : Tok) (x : Tree) → cap_of x ≡ 0 → cap_of (first_name (any B) t x) ≡ 0
unfolding cap_of
star_cap B t x e = omega arith

col_names_result : (B B' : ℕ) (c : Around) (t : Tok) → Named t.kind t.text → ((D : ℕ) → mem D exprs ≡ true → lookup D (plain_kind t.kind) sql.heads ≡ some (names_row (besides B B' D)))
    → begun c (names_row (any B')) nil ≡ 0 → (x : Tree) (p : Pack (any B') (deeper c) x) → Rests (value x) (value p.y) (toks p.y)
    → (eqb (value x).num NAME_STAR ≡ false → leb 99 (cap_of p.y) ≡ true) → (eqb (value x).num NAME_STAR ≡ true → cap_of x ≡ 0)
    → Result Column (names_row (any B')) c (first_name (any B') t x)
unfolding choose mem pick exprs
col_names_result B B' c t N found b x p r open_end ends = by_bool (eqb (value x).num NAME_STAR)
    (λ e. plain (inr (inl (star_cap B' t x (ends e)))) tt (star_pack B' c t N (found Column refl) b x p r e))
    (λ e. core refl (col_core B B' c t N found b x e (record { z = p.y; stands = p.stands; clean = p.clean; cap = open_end e; fit = p.fit; rests = r })))

pub col_names_step : HeadStep (record { of = Column ∷ []; at = call_kinds; row = names_row (any ColRest?) })
unfolding grow below open_tests
col_names_step C m f c t n h k z =
    let p = place (any ColRest?) (deeper c) k.1 in
    subst (λ X. Result X (names_row (any ColRest?)) c (first_name (any ColRest?) t k.0)) (only_class Column C m)
    (col_names_result NameRest? ColRest? c t (named t (call_names t.kind n) h) (λ D d. call_found D d t.kind n)
    (begins_zero c (names_row (any ColRest?)) t (add nil k.0) z) k.0 p p.says (λ e. p.caps refl (λ i. e)) p.more)

pub col_indexed_step : HeadStep (record { of = Column ∷ []; at = INDEXED ∷ []; row = names_row (any ColDots?) })
unfolding grow below open_tests
col_indexed_step C m f c t n h k z =
    let p = place (any ColDots?) (deeper c) k.1 in
    subst (λ X. Result X (names_row (any ColDots?)) c (first_name (any ColDots?) t k.0)) (only_class Column C m)
    (col_names_result Dots? ColDots? c t (named t (indexed_names t.kind n) h) (λ D d. indexed_found D d t.kind n)
    (begins_zero c (names_row (any ColDots?)) t (add nil k.0) z) k.0 p p.says (λ e. p.caps refl (λ i. e)) p.more)
