-- The table of strengths says what the written rule says, of every number: entries. One computed test over the 71 kinds; the rule names no
-- other. Assumes nothing.
use mathlib.Core.Path.{◌≡◌, refl, sym, ap, subst, ◌∙◌}
use mathlib.Core.Bool.{Bool, true, false}
use mathlib.Core.List.{List, ◌∷◌}
use Prim.Native.Nat.{ℕ, ◌≤◌, ◌<◌}
use lib.Dec.{T, eqb, eqb→eq, leb, leb→le, le→leb}
use lib.ListN.{length}
use native.Mathlib.Omega.{arith}
use Rattle.std.proofs.lemmas.List.{get_or_past}
use Rattle.kinds.specs.Kinds.{KINDS}
use Rattle.kinds.specs.Strength.{strengths, strength_of, strength_table, entry_of}
use Rattle.kinds.proofs.Lookup.{passes_at, each, fails, kinds_of, line_by_none}

right : ℕ → Bool
right k = eqb (entry_of strength_table k) (strength_of k)

-- a number that fails a test which the written rule's kinds all pass has no strength
no_strength : (p : ℕ → Bool) (k : ℕ) → T (passes_at p (kinds_of strengths)) → (T (p k) → ⊥) → 0 ≡ strength_of k
unfolding strength_of
no_strength p k t out = line_by_none k strengths (fails p k (kinds_of strengths) t out)

pub length_strengths : length strength_table ≡ 71
unfolding strength_table strength_of
length_strengths = refl

inside : (k : ℕ) → k ≤ KINDS → entry_of strength_table k ≡ strength_of k
unfolding right strength_table strength_of
inside k h = eqb→eq (entry_of strength_table k) (strength_of k) (each right 0 KINDS tt k (omega arith) h)

outside : (k : ℕ) → KINDS < k → entry_of strength_table k ≡ strength_of k
outside k h = get_or_past (0 ∷ strength_table) k 0 (let l = length_strengths in omega (arith, l, h)) ∙ no_strength (λ a. leb a KINDS) k tt (λ t. let m = leb→le k KINDS t in omega (arith, m, h))

decided : (b : Bool) (k : ℕ) → leb k KINDS ≡ b → entry_of strength_table k ≡ strength_of k
decided true k e = inside k (leb→le k KINDS (subst T (sym e) tt))
decided false k e = outside k (not_le k (λ h. subst T e (le→leb k KINDS h)))
  where
    not_le : (k : ℕ) → (k ≤ KINDS → ⊥) → KINDS < k
    not_le k h = omega (arith, h)

pub entries : (k : ℕ) → entry_of strength_table k ≡ strength_of k
entries k = decided (leb k KINDS) k refl

-- so what is looked up in that table is the strength
pub looked_up : {t : List ℕ} {r : ℕ} (k : ℕ) → t ≡ strength_table → r ≡ entry_of t k → r ≡ strength_of k
looked_up k e h = h ∙ ap (λ z. entry_of z k) e ∙ entries k
