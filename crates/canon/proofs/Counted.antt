-- Levels, counted or not. Canonical trees are made once for both. Seen around at level 0, no level counts: the writing's parentheses may stand
-- deeper than those that were typed. Seen at 1 or deeper, all count, and what stands inside is as Limits has it (same_in). mono: what is
-- within the limits is so less deep, and uncounted. Assumes nothing.
use mathlib.Core.Bool.{true}
use mathlib.Core.List.{List, [], ◌∷◌, ◌++◌}
use mathlib.Core.Path.{◌≡◌, refl, sym, ◌∙◌}
use Prim.Native.Nat.{ℕ, ◌+◌, ◌≤◌, zero, suc}
use borrow.Author.Tests.{ltb-true, lt-ltb}
use lib.Dec.{ltb, leb}
use native.Mathlib.Omega.{arith}
use Rattle.theory.specs.Trees.{Tok, Row, Tree, nil, add, leaf, node}
use Rattle.theory.specs.Table.{pick, both}
use Rattle.theory.specs.Judged.{faults_in, faults_kids, AllZero}
use Rattle.theory.proofs.Cases.{by_bool, pick_case, 0≢1, both_l, both_r, both_i, leb_le, le-leb}
use Rattle.grammar.specs.Sizes.{LEVELS}
use Rattle.grammar.specs.Limits.{Around, is_query, is_expression, begun, judge}
use Rattle.grammar.specs.Limits as limits
use Rattle.grammar.proofs.LevelsHold.{all_left, all_right}

-- one level deeper, where levels count
unfoldable pub raise : ℕ → ℕ
raise zero = zero
raise (suc n) = suc (suc n)

-- by the names that Limits has for them, for they stand in their place
unfoldable pub below : Row → Around → Around
below r c = record { level = pick (is_expression r) (raise c.level) (λ w. c.level); opened = pick (is_query r.code) (c.opened + 1) (λ w. c.opened) }

abbrev pub under : Row → Tree → Tok → Tree → Around → Around
under r l t k c = below r c

abbrev pub deeper : Around → Around
deeper c = record { level = raise c.level; opened = c.opened }

-- no level counts, and o queries are open
abbrev pub free : ℕ → Around
free o = record { level = 0; opened = o }

-- ── lists of words ──
pub all_app : (a b : List ℕ) → AllZero a → AllZero b → AllZero (a ++ b)
all_app [] b z w = w
all_app (n ∷ a) b z w = (z.0, all_app a b z.1 w)

-- ── less deep ──
pub five : {X : Type 0} → ◌≡◌ {A = ℕ} 5 0 → X
five e = absurd (omega arith)

begun_mono : (c d : Around) (r : Row) (l : Tree) → d.level ≤ c.level → d.opened ≡ c.opened → begun c r l ≡ 0 → begun d r l ≡ 0
unfolding begun pick
begun_mono c d r nil h e z = by_bool (both (is_expression r) (ltb LEVELS c.level))
    (λ g. five (rw g at z))
    (λ g. pick_case (λ y. y ≡ 0) (both (is_expression r) (ltb LEVELS d.level)) 5 _
    (λ i. 0≢1 (sym g ∙ both_i (is_expression r) (ltb LEVELS c.level) (both_l (is_expression r) _ i)
    (lt-ltb LEVELS c.level (let j = ltb-true LEVELS d.level (both_r (is_expression r) _ i) in omega arith))))
    (λ i. rw e (rw g at z)))
begun_mono c d r (add f x) h e z = refl
begun_mono c d r (leaf t) h e z = refl
begun_mono c d r (node q l t f) h e z = refl

raise_mono : (m n : ℕ) → m ≤ n → raise m ≤ raise n
unfolding raise
raise_mono zero n h = omega arith
raise_mono (suc m) zero h = absurd (omega arith)
raise_mono (suc m) (suc n) h = omega arith

pub deeper_more : (n : ℕ) → n ≤ raise n
unfolding raise
deeper_more zero = omega arith
deeper_more (suc n) = omega arith

below_level : (c d : Around) (r : Row) → d.level ≤ c.level → (below r d).level ≤ (below r c).level
unfolding below pick
below_level c d r h = by_bool (is_expression r) (λ e. rw e (raise_mono d.level c.level h)) (λ e. rw e h)

below_opened : (c d : Around) (r : Row) → d.opened ≡ c.opened → (below r d).opened ≡ (below r c).opened
unfolding below
below_opened c d r e = rw e

mutual
  unfolding faults_in faults_kids judge

  pub mono : (y : Tree) (c d : Around) (m : ℕ) → d.level ≤ c.level → d.opened ≡ c.opened → AllZero (faults_in Around under judge y c m) → AllZero (faults_in Around under judge y d m)
  mono nil c d m h e z = tt
  mono (add f x) c d m h e z = tt
  mono (leaf u) c d m h e z = z
  mono (node r l t f) c d m h e z =
      let a = all_right (faults_in Around under judge l c 0) (begun c r l ∷ faults_kids Around under judge f c r l t) z in
      all_app (faults_in Around under judge l d 0) (begun d r l ∷ faults_kids Around under judge f d r l t)
      (mono l c d 0 h e (all_left (faults_in Around under judge l c 0) (begun c r l ∷ faults_kids Around under judge f c r l t) z))
      (begun_mono c d r l h e a.0, mono_kids f c d r l t h e a.1)

  mono_kids : (f : Tree) (c d : Around) (r : Row) (l : Tree) (t : Tok) → d.level ≤ c.level → d.opened ≡ c.opened
      → AllZero (faults_kids Around under judge f c r l t) → AllZero (faults_kids Around under judge f d r l t)
  mono_kids nil c d r l t h e z = tt
  mono_kids (add f x) c d r l t h e z =
      all_app (faults_kids Around under judge f d r l t) (faults_in Around under judge x (below r d) (judge d r l t (add f x)))
      (mono_kids f c d r l t h e (all_left (faults_kids Around under judge f c r l t) (faults_in Around under judge x (below r c) (judge c r l t (add f x))) z))
      (mono x (below r c) (below r d) (judge c r l t (add f x)) (below_level c d r h) (below_opened c d r e)
      (all_right (faults_kids Around under judge f c r l t) (faults_in Around under judge x (below r c) (judge c r l t (add f x))) z))
  mono_kids (leaf u) c d r l t h e z = tt
  mono_kids (node q m u f) c d r l t h e z = tt

-- ── where levels count, these words are Limits' own ──
raise_next : (n : ℕ) → leb 1 n ≡ true → raise n ≡ n + 1
unfolding raise
raise_next zero e = absurd (let h = leb_le 1 0 e in omega arith)
raise_next (suc n) e = omega arith

same_below : (r : Row) (c : Around) → leb 1 c.level ≡ true → limits.below r c ≡ below r c
unfolding limits.below below
same_below r c e = rw (raise_next c.level e)

counts_on : (r : Row) (c : Around) → leb 1 c.level ≡ true → leb 1 (below r c).level ≡ true
unfolding below pick
counts_on r c e = by_bool (is_expression r) (λ h. rw (h, raise_next c.level e) (le-leb 1 (c.level + 1) (omega arith))) (λ h. rw h e)

pub counts_back : (r : Row) (c : Around) → leb 1 (below r c).level ≡ true → leb 1 c.level ≡ true
unfolding below pick raise
counts_back r c e = by_bool (is_expression r) (λ h. from c.level (rw h at e)) (λ h. rw h at e)
  where
    from : (n : ℕ) → leb 1 (raise n) ≡ true → leb 1 n ≡ true
    from zero e = e
    from (suc n) e = le-leb 1 (suc n) (omega arith)

mutual
  unfolding faults_in faults_kids

  pub same_in : (x : Tree) (c : Around) (m : ℕ) → leb 1 c.level ≡ true → faults_in Around limits.under judge x c m ≡ faults_in Around under judge x c m
  same_in nil c m e = refl
  same_in (add f x) c m e = refl
  same_in (leaf u) c m e = refl
  same_in (node r l t f) c m e = rw (same_in l c 0 e, same_kids f c r l t e)

  same_kids : (f : Tree) (c : Around) (r : Row) (l : Tree) (t : Tok) → leb 1 c.level ≡ true → faults_kids Around limits.under judge f c r l t ≡ faults_kids Around under judge f c r l t
  same_kids nil c r l t e = refl
  same_kids (add f x) c r l t e = rw (same_kids f c r l t e, same_below r c e, same_in x (below r c) (judge c r l t (add f x)) (counts_on r c e))
  same_kids (leaf u) c r l t e = refl
  same_kids (node q m u f) c r l t e = refl
