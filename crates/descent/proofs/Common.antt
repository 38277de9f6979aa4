-- How a statement on the walk is proved along the walk's own body (told_bind, told_onto, told_choose), and what every part uses: an
-- expression that is asked at a strength ends where no operator goes on (expr_got). Assumes nothing.
use mathlib.Core.Bool.{true, false, Bool}
use mathlib.Core.List.{List, [], ◌∷◌, ◌++◌}
use mathlib.Core.Logic.{inl, inr}
use mathlib.Core.Option.{none}
use mathlib.Core.Path.{◌≡◌, refl, sym, ◌∙◌, subst}
use Prim.Native.Nat.{ℕ, ◌≤◌, ◌<◌, min}
use borrow.Author.Tests.{le-ltb, eqb-false}
use lib.Dec.{eqb}
use native.Mathlib.Omega.{arith}
use Rattle.theory.specs.Trees.{Tok, Nt, Row, Tree, nil, add, node, cap_of}
use Rattle.theory.specs.Table.{pick, both, mem, cont_of}
use Rattle.theory.specs.Outcome.{got, refused}
use Rattle.theory.proofs.Cases.{by_bool, 0≢1, eqb_eq}
use Rattle.kinds.specs.Strength.{strength_of}
use Rattle.grammar.specs.Classes.{E}
use Rattle.grammar.specs.RowNames.{row_next_row, row_word_join}
use Rattle.grammar.specs.Sizes.{LEVELS}
use Rattle.grammar.specs.Rows.{exprs}
use Rattle.grammar.specs.Grammar.{sql}
use Rattle.grammar.specs.Limits.{Around, is_query, is_expression, begun, judge}
use Rattle.grammar.specs.Nodes.{Rec}
use Rattle.grammar.specs.Reading.{choose, column, value}
use Rattle.grammar.proofs.LevelsHold.{no_strength}
use Rattle.descent.proofs.Places.{kind_at, from, calls, again}
use Rattle.descent.proofs.Named.{own}
use Rattle.descent.proofs.Walk.{Walked, done, stop, spent, bind, onto, expr_w}
use Rattle.descent.proofs.Grown.{recs}
use Rattle.descent.proofs.TableFacts.{cont_tight, cont_loose, cont_none}
use Rattle.descent.proofs.Steps.{row_stop}
use Rattle.descent.proofs.ClassFacts.{E_may}
use Rattle.descent.proofs.Means.{str_of, ExprTree, Exprd, Takes, Right, Told, Good, Stops, ExprOK}

module _ {P P' : ℕ → ℕ → ℕ → List Rec → Type 0} {Q Q' : ℕ → ℕ → Type 0} where
  -- a walk, then what it is handed to
  pub told_bind : (w : Walked) (k : ℕ → ℕ → ℕ → List Rec → Walked) → Told w P Q
      → ((a s n : ℕ) (rs : List Rec) → P a s n rs → Told (k a s n rs) P' Q') → ((m p : ℕ) → Q m p → Q' m p) → Told (bind w k) P' Q'
  unfolding bind
  told_bind (done a s n rs) k h g b = g a s n rs h.it
  told_bind (stop m p) k h g b = record { it = b m p h.it }
  told_bind spent k h g b = record { it = tt }

  -- a walk after records that stand before its own
  pub told_onto : (rs : List Rec) (w : Walked) → Told w P Q
      → ((a s n : ℕ) (qs : List Rec) → P a s n qs → P' a s n (rs ++ qs)) → ((m p : ℕ) → Q m p → Q' m p) → Told (onto rs w) P' Q'
  unfolding onto
  told_onto rs (done a s n qs) h g b = record { it = g a s n qs h.it }
  told_onto rs (stop m p) h g b = record { it = b m p h.it }
  told_onto rs spent h g b = record { it = tt }

  -- the same walk, other words for it
  pub told_map : (w : Walked) → Told w P Q
      → ((a s n : ℕ) (qs : List Rec) → P a s n qs → P' a s n qs) → ((m p : ℕ) → Q m p → Q' m p) → Told w P' Q'
  told_map (done a s n qs) h g b = record { it = g a s n qs h.it }
  told_map (stop m p) h g b = record { it = b m p h.it }
  told_map spent h g b = record { it = tt }

module _ {P : ℕ → ℕ → ℕ → List Rec → Type 0} {Q : ℕ → ℕ → Type 0} where
  -- one walk or another, by a test
  pub told_choose : (b : Bool) (v w : Walked) → (b ≡ true → Told v P Q) → (b ≡ false → Told w P Q) → Told (choose b v w) P Q
  unfolding choose
  told_choose true v w x y = x refl
  told_choose false v w x y = y refl

  -- a walk that is done here; one that stops here
  pub told_done : (a s n : ℕ) (rs : List Rec) → P a s n rs → Told (done a s n rs) P Q
  told_done a s n rs p = record { it = p }

  pub told_stop : (m p : ℕ) → Q m p → Told (stop m p) P Q
  told_stop m p q = record { it = q }

  -- of a walk without fuel nothing is told
  pub told_spent : Told spent P Q
  told_spent = record { it = tt }

pub takes_E : (s : ℕ) → 1 ≤ s → s ≤ 11 → Takes (E s) s
unfolding exprs mem pick
takes_E s h m = record { among = refl; enough = λ k a b. b; loose = λ k a b. b; column = λ e. absurd (omega (arith, e, h)); other = λ a e. absurd (omega (arith, e)); most = m }

pub right_E : (s : ℕ) → 1 ≤ s → s ≤ 11 → Right (E s) s
right_E s h m = record { takes = takes_E s h m; alone = λ q m k b z. cont_none s q m k b z; must = E_may s h; some = h }

module _ (K T : List ℕ) (good : Good K T) where
  -- an expression goes on from y in A; where no row does, it is y
  pub again_got : (c : Around) (A : Nt) (y : Tree) (said n : ℕ) → (e : ExprTree y said) → cont_of sql A e.r (cap_of e.k) (kind_at K n) ≡ none → again K T c A y n ≡ got y n (from K T n)
  unfolding again
  again_got c A y said n e o = subst (λ z. again K T c A z n ≡ got z n (from K T n)) (sym e.is)
      (row_stop K T good.sound (record { c = c; A = A; r = e.r; l = e.l; t = e.t }) e.k n o)

  pub stops_at : (A : Nt) (s said n : ℕ) → Right A s → (r : Row) (m : ℕ) → min r.str (min r.cap m) ≡ said → Stops K T s said n → cont_of sql A r m (kind_at K n) ≡ none
  stops_at A s said n t r m e (inl z) = t.alone r m (kind_at K n) (good.bound n) z
  stops_at A s said n t r m e (inr (inl l)) = by_bool (eqb (strength_of (kind_at K n)) 0)
      (λ z. t.alone r m (kind_at K n) (good.bound n) (eqb_eq (strength_of (kind_at K n)) 0 z))
      (λ z. let h = some_strength (strength_of (kind_at K n)) z in cont_loose A t.takes.among (kind_at K n) (good.bound n) h r m (t.takes.loose (strength_of (kind_at K n)) h l))
    where
      some_strength : (k : ℕ) → eqb k 0 ≡ false → 0 < k
      some_strength k z = let w = eqb-false k 0 z in omega (arith, w)
  stops_at A s said n t r m e (inr (inr l)) = cont_tight A t.takes.among (kind_at K n) (good.bound n) (omega (arith, l)) r m (omega (arith, l, e))

  -- a right operand, and no more of it
  pub right_got : (f : ℕ) → ExprOK K T f → (at : ℕ) (c : Around) (s : ℕ) (A : Nt) → Right A s → mem (kind_at K at) (own A.of) ≡ false
      → Told (expr_w K T f at c s) (λ a said n rs. (x : Tree) × (calls K T c A at ≡ got x a (from K T a)) × ExprTree x said × (rs ≡ recs (value x)) × (s ≤ str_of x)) (λ m p. calls K T c A at ≡ refused m p)
  right_got f ok at c s A t o = told_map (expr_w K T f at c s) (ok at c s A t.takes o (λ z. 0≢1 (sym t.must ∙ z))) (λ a said n rs p. one a said n rs p) (λ m p e. e)
    where
      one : (a said n : ℕ) (rs : List Rec) → (y : Tree) × (calls K T c A at ≡ again K T c A y a) × Exprd y said s × Stops K T s said a × (rs ≡ recs (value y))
          → (x : Tree) × (calls K T c A at ≡ got x a (from K T a)) × ExprTree x said × (rs ≡ recs (value x)) × (s ≤ str_of x)
      one a said n rs (y, e, inl w, st, r) = (y, e ∙ again_got c A y said a w.0 (stops_at A s said a t w.0.r (cap_of w.0.k) w.0.leaves st), w.0, r, w.1)
      one a said n rs (y, e, inr z, st, r) = absurd (omega (arith, z.1, t.some))

  -- an expression of strength s or more, and no more of it
  pub expr_got : (f : ℕ) → ExprOK K T f → (at : ℕ) (c : Around) (s : ℕ) → 1 ≤ s → s ≤ 11
      → Told (expr_w K T f at c s) (λ a said n rs. (x : Tree) × (calls K T c (E s) at ≡ got x a (from K T a)) × ExprTree x said × (rs ≡ recs (value x)) × (s ≤ str_of x)) (λ m p. calls K T c (E s) at ≡ refused m p)
  unfolding own mem pick
  expr_got f ok at c s h m = right_got f ok at c s (E s) (right_E s h m) refl

-- the limits have no word on a row's own tokens but its first, save on JOIN and on a further row's RP
pub no_word : (c : Around) (r : Row) (l : Tree) (t : Tok) (k x : Tree) → mem r.code (row_word_join ∷ row_next_row ∷ []) ≡ false → judge c r l t (add k x) ≡ 0
unfolding judge both mem pick
no_word c r l t k x e = by_bool (eqb r.code row_word_join) (λ a. 0≢1 (sym e ∙ rw a)) (λ a. by_bool (eqb r.code row_next_row) (λ b. 0≢1 (sym e ∙ rw (a, b))) (λ b. rw (a, b)))

-- of a row that has just begun: no word, if it is no query and the level is allowed
pub begun_no_word : (c : Around) (r : Row) (t : Tok) → is_query r.code ≡ false → c.level ≤ LEVELS → judge c r nil t nil ≡ 0
unfolding judge begun both pick
begun_no_word c r t q l = rw (q, le-ltb LEVELS c.level l) (plain (is_expression r))
  where
    plain : (b : Bool) → ◌≡◌ {A = ℕ} (pick (both b false) 5 (λ w. 0)) 0
    plain true = refl
    plain false = refl

-- or it is no expression
pub part_no_word : (c : Around) (r : Row) (t : Tok) → is_query r.code ≡ false → r.str ≡ 0 → judge c r nil t nil ≡ 0
unfolding judge begun both pick
part_no_word c r t q l = rw (q, no_strength r l)

-- nor where it goes on from a left operand
pub goes_no_word : (c : Around) (r : Row) (q : Row) (l : Tree) (u t : Tok) (k : Tree) → judge c r (node q l u k) t nil ≡ 0
unfolding judge begun
goes_no_word c r q l u t k = refl
