-- Names where an expression may stand: in every class, with the rows that a column has for them; name DOT STAR, a column by itself. Assumes nothing.
use mathlib.Core.Bool.{true, false}
use mathlib.Core.List.{[], ◌∷◌, ◌++◌, append-nil}
use mathlib.Core.Option.{some}
use mathlib.Core.Path.{◌≡◌, refl, sym, ap, ◌∙◌, subst}
use Prim.Native.Nat.{ℕ, min}
use lib.Dec.{eqb}
use native.Mathlib.Omega.{arith}
use Rattle.theory.specs.Trees.{Tok, lit, nt, Row, Tree, nil, add, node, toks, cap_of}
use Rattle.theory.specs.Table.{Line, pick, both, mem, lookup, enter_of}
use Rattle.theory.specs.Derives.{head, begin, whole}
use Rattle.theory.specs.Judged.{faults_in, faults_kids}
use Rattle.theory.proofs.Cases.{0≢1, leb_le, le-leb}
use Rattle.theory.proofs.Tested.{asked_some}
use Rattle.kinds.specs.Kinds.{LP, RP, DOT, STAR}
use Rattle.kinds.specs.Classes.{names}
use Rattle.grammar.specs.Classes.{StarOrName, SecondName, ColRest?, ColDots?, Dot?, Args?, NameRest?, Dots?, any}
use Rattle.grammar.specs.RowNames.{row_dot, row_dot_star, row_second_name, row_call}
use Rattle.grammar.specs.Rows.{part, ending, but_column, exprs, select_items, values_items, lines, heads_of, tails_of}
use Rattle.grammar.specs.Grammar.{sql}
use Rattle.grammar.specs.Limits.{Around, begun, judge}
use Rattle.grammar.specs.Reading.{empty, ◌#◌, NAME_STAR, rules, ruled, value_of, value, values}
use Rattle.grammar.specs.Writing.{tok, at}
use Rattle.canon.proofs.Counted.{below}
use Rattle.canon.proofs.Says.{Rests, NameRests, only_star, Pred, SaysOf}
use Rattle.canon.proofs.Forms.{here, starry, ColForm, More, Pack, Result, KidsOf, grow, vs, ws, tk, floor_of}
use Rattle.canon.proofs.Places.{◌also◌, AllOf, by_mem}
use Rattle.canon.proofs.Place.{place, le_trans, floor_none}
use Rattle.canon.proofs.Rebuild.{said, regrow, stands_part, regrow_part, kept, new_clean, keep_clean, keep}
use Rattle.canon.proofs.Lines.{Finds}
use Rattle.canon.proofs.Steps.{Fit, HeadStep, plainly, begins_zero, head_opens, head_step, only_class, open_tests}
use Rattle.canon.proofs.Names.{second_says, second_name_says, star_says, col_dots, dots_says, col_call_says, call_num, call_says}

-- ── STAR, or a further name, after name DOT ──
abbrev star_row : Row
star_row = ending row_dot_star []

abbrev second_row : Row
second_row = part row_second_name (nt (any Dot?) ∷ [])

abbrev dot_star_row : Row
dot_star_row = part row_dot (nt (any StarOrName) ∷ [])

abbrev dot_name_row : Row
dot_name_row = part row_dot (nt (any SecondName) ∷ [])

abbrev call_row : Row
call_row = part row_call (nt (any Args?) ∷ lit RP ∷ [])

pub star_step : HeadStep (record { of = StarOrName ∷ []; at = STAR ∷ []; row = star_row })
unfolding grow regrow said toks value values value_of ruled rules faults_in faults_kids judge begun cap_of open_tests
star_step D m f c t n h k z =
    let a = star_says t n h tt in
    subst (λ X. Result X star_row c (node star_row nil t nil)) (only_class StarOrName D m)
    (plainly StarOrName star_row c (node star_row nil t nil) refl tt
    (keep_clean StarOrName star_row c nil nil t (tok STAR) tt refl (λ i g. 0≢1 (sym (g refl))) (head_opens (record { of = StarOrName ∷ []; at = STAR ∷ []; row = star_row }) StarOrName (tok STAR) f refl refl)
    (refl, tt) tt refl (only_star refl refl refl) (λ e. refl)))

abbrev second_line : Line
second_line = record { of = StarOrName ∷ SecondName ∷ []; at = names; row = second_row }

second_found : Finds second_line sql.heads
unfolding sql lines but_column exprs select_items values_items heads_of tails_of pick both mem lookup
second_found D k m n = by_mem (λ D. lookup D k sql.heads ≡ some second_row) (StarOrName ∷ SecondName ∷ []) (at_names StarOrName (refl, (refl, (refl, (refl, (refl, tt))))) also at_names SecondName (refl, (refl, (refl, (refl, (refl, tt))))) also tt) D m
  where
    at_names : (D : ℕ) → AllOf (λ k. lookup D k sql.heads ≡ some second_row) names → lookup D k sql.heads ≡ some second_row
    at_names D all = by_mem (λ k. lookup D k sql.heads ≡ some second_row) names all k n

-- a further name stands where STAR may stand too
pub second_step : HeadStep second_line
unfolding open_tests value value_of ruled rules
second_step = head_step second_line refl ((refl, λ c t u ks m f e. 0≢1 e, second_says, λ t f. tt)
    also (refl, λ c t u ks m f. here (whole (head_opens second_line StarOrName u second_found refl m) (regrow_part (below second_row c) second_row.items ks begin)), second_name_says, λ t f. tt) also tt)

-- ── after a column's first name ──
zero_cap : (n : ℕ) → n ≡ 0 → min 99 n ≡ 0
zero_cap n e = omega arith

-- DOT, then STAR or names: it ends as what stands after the DOT does
abbrev dot_star_line : Line
dot_star_line = record { of = ColRest? ∷ ColDots? ∷ []; at = DOT ∷ []; row = dot_star_row }

col_dots_pack : (C : ℕ) → SaysOf C 0 ≡ Rests → ((c : Around) (x y : Tree) → More C c x y ≡ (eqb (value x).num NAME_STAR ≡ true → cap_of x ≡ 0)) → mem C starry ≡ true
    → Finds dot_star_line sql.heads → mem C dot_star_line.of ≡ true → (c : Around) (t : Tok) (k : KidsOf dot_star_row.items (below dot_star_row c))
    → begun c dot_star_row nil ≡ 0 → Pack (any C) c (node dot_star_row nil t (grow (below dot_star_row c) dot_star_row.items k nil))
unfolding grow regrow said toks value values value_of ruled rules ◌#◌ faults_in cap_of open_tests
col_dots_pack C s more star f m c t k z =
    let K = place (any StarOrName) (below dot_star_row c) k.1 in
    keep_clean C dot_star_row c nil nil t (tok DOT) k refl
    (λ a b. le_trans (floor_of (any C)) 99 (min 99 (cap_of K.y)) (floor_none (any C) refl) (le-leb 99 (min 99 (cap_of K.y)) (let i = leb_le 99 (cap_of K.y) (K.caps refl (λ e. b star)) in omega arith)))
    (head_opens dot_star_line C (tok DOT) f m refl)
    (new_clean C dot_star_row c nil nil t (tok DOT) k refl tt z) tt refl
    (subst (λ (F : Pred). F (value_of row_dot empty t (value k.0 ∷ [])) (value_of row_dot empty (tok DOT) (value K.y ∷ [])) (tok DOT ∷ (toks K.y ++ []))) (sym s) (col_dots t (tok DOT) K.says))
    (subst (λ (F : Type 0). F) (sym (more c (node dot_star_row nil t (add nil k.0)) (node dot_star_row nil (tok DOT) (add nil K.y)))) (λ e. zero_cap (cap_of k.0) (K.more e)))

pub dot_star_step : HeadStep dot_star_line
unfolding open_tests
dot_star_step C m f c t n h k z =
    let b = begins_zero c dot_star_row t (grow (below dot_star_row c) dot_star_row.items k nil) z in
    by_mem (λ C. Result C dot_star_row c (node dot_star_row nil t (grow (below dot_star_row c) dot_star_row.items k nil))) dot_star_line.of (
      plainly ColRest? dot_star_row c (node dot_star_row nil t (grow (below dot_star_row c) dot_star_row.items k nil)) refl tt (col_dots_pack ColRest? refl (λ c x y. refl) refl f refl c t k b),
      (plainly ColDots? dot_star_row c (node dot_star_row nil t (grow (below dot_star_row c) dot_star_row.items k nil)) refl tt (col_dots_pack ColDots? refl (λ c x y. refl) refl f refl c t k b), tt),
    ) C m

-- ── a call ──
abbrev call_line : Line
call_line = record { of = NameRest? ∷ ColRest? ∷ []; at = LP ∷ []; row = call_row }

module _ (f : Finds call_line sql.heads) (c : Around) (t : Tok) (n : mem t.kind (LP ∷ []) ≡ true) (h : Fit t) (k : KidsOf call_row.items (below call_row c)) (b : begun c call_row nil ≡ 0) where
  abbrev old_call : Tree
  old_call = node call_row nil t (grow (below call_row c) call_row.items k nil)

  call_value : eqb (value old_call).num NAME_STAR ≡ false
  unfolding grow value values
  call_value = call_num t (value k.0 ∷ empty ∷ [])

  col_call : Pack (any ColRest?) c old_call
  unfolding toks value faults_in open_tests
  col_call = let a = col_call_says t n h (said (below call_row c) call_row.items k) in
      keep ColRest? call_row c nil nil t a.0 k refl (head_opens call_line ColRest? a.0 f refl a.1) tt b tt a.2 a.3 (λ e. 0≢1 (sym call_value ∙ e))

  expr_call : Pack (any NameRest?) c old_call
  unfolding toks value faults_in open_tests
  expr_call = let a = call_says t n h (said (below call_row c) call_row.items k) in let p = col_call in
      keep NameRest? call_row c nil nil t a.0 k refl (head_opens call_line NameRest? a.0 f refl a.1) tt b tt a.2 a.3
      (p.y, p.stands, p.clean, p.caps refl (λ e. call_value), p.fit, p.says)

pub call_step : HeadStep call_line
unfolding open_tests
call_step C m f c t n h k z =
    let b = begins_zero c call_row t (grow (below call_row c) call_row.items k nil) z in
    by_mem (λ C. Result C call_row c (node call_row nil t (grow (below call_row c) call_row.items k nil))) call_line.of (
      plainly NameRest? call_row c (node call_row nil t (grow (below call_row c) call_row.items k nil)) refl tt (expr_call f c t n h k b),
      (plainly ColRest? call_row c (node call_row nil t (grow (below call_row c) call_row.items k nil)) refl tt (col_call f c t n h k b), tt),
    ) C m

-- ── names after the first, as an expression and as a column ──
abbrev dot_name_line : Line
dot_name_line = record { of = NameRest? ∷ Dots? ∷ []; at = DOT ∷ []; row = dot_name_row }

col_names : (C : ℕ) → lookup C DOT sql.heads ≡ some dot_star_row → (c : Around) (t : Tok) (k : KidsOf dot_name_row.items (below dot_name_row c))
    → ColForm C c (node dot_name_row nil t (grow (below dot_name_row c) dot_name_row.items k nil))
unfolding grow toks value values value_of ruled rules ◌#◌ open_tests faults_in faults_kids judge begun below cap_of enter_of
col_names C e c t k =
    let X = place (any SecondName) (below dot_name_row c) k.1 in (
      node dot_star_row nil (tok DOT) (add nil X.y),
      here (whole (head (asked_some 0 (lookup C DOT sql.heads) dot_star_row e refl)) (stands_part X.more begin)),
      (refl, X.clean),
      le-leb 99 (min 99 (cap_of X.y)) (let i = leb_le 99 (cap_of X.y) (X.caps refl (λ e. 0≢1 e)) in omega arith),
      (refl, X.fit),
      subst (Rests (value_of row_dot empty t (value k.0 ∷ [])) (value_of row_dot empty (tok DOT) (value X.y ∷ []))) (ap (λ z. tok DOT ∷ z) (append-nil (toks X.y))) (col_dots t (tok DOT) X.says.stars),
    )

dot_name_pack : (C : ℕ) → SaysOf C 0 ≡ NameRests → kept C dot_name_row ≡ true → mem C dot_name_line.of ≡ true → Finds dot_name_line sql.heads → (c : Around) (t : Tok) → mem t.kind (DOT ∷ []) ≡ true → Fit t
    → (k : KidsOf dot_name_row.items (below dot_name_row c)) → begun c dot_name_row nil ≡ 0
    → ((y : Tree) → More C c (node dot_name_row nil t (grow (below dot_name_row c) dot_name_row.items k nil)) y)
    → Pack (any C) c (node dot_name_row nil t (grow (below dot_name_row c) dot_name_row.items k nil))
unfolding toks value faults_in
dot_name_pack C s e m f c t n h k b more = let S = said (below dot_name_row c) dot_name_row.items k in let a = dots_says t n h S in
    keep C dot_name_row c nil nil t a.0 k e (head_opens dot_name_line C a.0 f m a.1) tt b tt a.2
    (subst (λ (F : Pred). F (value_of row_dot empty t (vs dot_name_row.items S)) (value_of row_dot empty a.0 (ws dot_name_row.items S)) (a.0 ∷ tk dot_name_row.items S)) (sym s) a.3)
    (more (node dot_name_row nil a.0 (regrow (below dot_name_row c) dot_name_row.items k nil)))

dot_found : (C : ℕ) → mem C (ColRest? ∷ ColDots? ∷ []) ≡ true → lookup C DOT sql.heads ≡ some dot_star_row
unfolding sql lines but_column exprs select_items values_items heads_of tails_of pick both mem lookup
dot_found C m = by_mem (λ C. lookup C DOT sql.heads ≡ some dot_star_row) (ColRest? ∷ ColDots? ∷ []) (refl, (refl, tt)) C m

pub dot_name_step : HeadStep dot_name_line
unfolding open_tests
dot_name_step C m f c t n h k z =
    let b = begins_zero c dot_name_row t (grow (below dot_name_row c) dot_name_row.items k nil) z in
    by_mem (λ C. Result C dot_name_row c (node dot_name_row nil t (grow (below dot_name_row c) dot_name_row.items k nil))) dot_name_line.of (
      plainly NameRest? dot_name_row c (node dot_name_row nil t (grow (below dot_name_row c) dot_name_row.items k nil)) refl tt
          (dot_name_pack NameRest? refl refl refl f c t n h k b (λ y. col_names ColRest? (dot_found ColRest? refl) c t k)),
      (
        plainly Dots? dot_name_row c (node dot_name_row nil t (grow (below dot_name_row c) dot_name_row.items k nil)) refl tt
            (dot_name_pack Dots? refl refl refl f c t n h k b (λ y. col_names ColDots? (dot_found ColDots? refl) c t k)),
        tt,
      ),
    ) C m
