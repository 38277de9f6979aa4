-- The step of NOT after IS: IS NOT with its operand. No operator goes on from it there, for it leaves 4 and 5 is asked. Assumes nothing.
use mathlib.Core.Bool.{true, false}
use mathlib.Core.List.{[], ◌∷◌}
use mathlib.Core.Logic.{inr}
use mathlib.Core.Path.{◌≡◌, refl, subst}
use Prim.Native.Nat.{ℕ, min}
use lib.Dec.{leb}
use native.Mathlib.Omega.{arith}
use Rattle.theory.specs.Trees.{Tok, nt, Row, nil, node, toks, cap_of}
use Rattle.theory.specs.Table.{mem, lookup, enter_of}
use Rattle.theory.specs.Derives.{head, begin, whole}
use Rattle.theory.specs.Judged.{faults_in}
use Rattle.theory.proofs.Cases.{by_bool, leb_le}
use Rattle.theory.proofs.Tested.{asked_some}
use Rattle.kinds.specs.Kinds.{NOT}
use Rattle.grammar.specs.Classes.{IsRight, E}
use Rattle.grammar.specs.RowNames.{row_is_not}
use Rattle.grammar.specs.Rows.{running}
use Rattle.grammar.specs.Grammar.{sql}
use Rattle.grammar.specs.Limits.{Around, begun}
use Rattle.grammar.specs.Reading.{value}
use Rattle.canon.proofs.Counted.{below}
use Rattle.canon.proofs.Forms.{here, Pack, Result, plain, KidsOf, grow}
use Rattle.canon.proofs.Rebuild.{said, regrow_part, new, new_clean, new_toks, new_fit, old_value, new_value, new_cap}
use Rattle.canon.proofs.Lines.{Finds}
use Rattle.canon.proofs.Steps.{Fit, HeadStep, only_class, open_tests}
use Rattle.canon.proofs.Operators.{is_not_says}

abbrev is_not_row : Row
is_not_row = running 5 4 row_is_not (nt (E 5) ∷ [])

shut : (n : ℕ) → leb 5 (min 4 n) ≡ false
shut n = by_bool (leb 5 (min 4 n)) (λ e. absurd (let i = leb_le 5 (min 4 n) e in omega arith)) (λ e. e)

module _ (f : Finds (record { of = IsRight ∷ []; at = NOT ∷ []; row = is_not_row }) sql.heads) (c : Around) (t : Tok) (n : mem t.kind (NOT ∷ []) ≡ true) (h : Fit t)
    (k : KidsOf is_not_row.items (below is_not_row c)) where
  packed : (s : ℕ) → leb s 5 ≡ true → Pack (record { of = IsRight; least = s }) c (node is_not_row nil t (grow (below is_not_row c) is_not_row.items k nil))
  unfolding open_tests enter_of toks value faults_in begun
  packed s w =
      let a = is_not_says t n h (said (below is_not_row c) is_not_row.items k) in
      record {
        y = new IsRight is_not_row c nil nil t a.0 k;
        stands = here (whole (head (asked_some s (lookup IsRight a.0.kind sql.heads) is_not_row (f IsRight a.0.kind refl a.1) w)) (regrow_part (below is_not_row c) is_not_row.items k begin));
        clean = new_clean IsRight is_not_row c nil nil t a.0 k refl tt refl;
        caps = λ i j. new_cap IsRight is_not_row c nil nil t a.0 k 4 refl refl;
        fit = new_fit IsRight is_not_row c nil nil t a.0 k refl tt a.2;
        says = rw (old_value IsRight is_not_row c nil nil t a.0 k, new_value IsRight is_not_row c nil nil t a.0 k, new_toks IsRight is_not_row c nil nil t a.0 k) a.3;
        more = tt;
      }

  closed_end : leb 5 (cap_of (node is_not_row nil t (grow (below is_not_row c) is_not_row.items k nil))) ≡ false
  unfolding cap_of grow
  closed_end = shut (cap_of k.0)

pub is_not_step : HeadStep (record { of = IsRight ∷ []; at = NOT ∷ []; row = is_not_row })
is_not_step C m f c t n h k z = subst (λ X. Result X is_not_row c (node is_not_row nil t (grow (below is_not_row c) is_not_row.items k nil))) (only_class IsRight C m)
    (plain (inr (inr (refl, closed_end f c t n h k))) tt (packed f c t n h k))
