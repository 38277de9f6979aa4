-- What is clear in a node table, by what a search of its end says, and by its numbers united.
-- Assumes nothing.
use Rattle.std.proofs.Common.{ℕ, zero, suc, ◌+◌, ◌-◌, ◌≤◌, ◌<◌, ◌≡◌, List, [], ◌∷◌, arith, length, fold, bit_or, sym, subst, ap, ◌∙◌, Option, None, Some}
use lib.Bits.{or_add_and, and_le_l, and_le_r}
use lib.ListN.{get_or}
use Rattle.std.proofs.lemmas.List.{get_or-drop, get_or-take}
use Rattle.std.specs.List.{slice_range, AllWithin, HoldsAt}
use Rattle.std.specs.Option.{MatchOption}
use Rattle.report.specs.Tables.{ClearBelow, Changed}

-- where the bits of two numbers united are none, neither has any
none_united : (a b : ℕ) → bit_or a b ≡ 0 → (a ≡ 0) × (b ≡ 0)
none_united a b e =
    (omega (arith, or_add_and a b, and_le_r a b), omega (arith, or_add_and a b, and_le_l a b))

each_clear : (x : ℕ) (xs : List ℕ) → x ≡ 0 → ClearBelow xs 0 (length xs) → ClearBelow (x ∷ xs) 0 (length (x ∷ xs))
each_clear x xs first later zero below from = first
each_clear x xs first later (suc k) below from = later k (omega arith) (omega arith)

pub united_clear : (a : ℕ) (nodes : List ℕ) → fold bit_or a nodes ≡ 0 → (a ≡ 0) × ClearBelow nodes 0 (length nodes)
united_clear a [] e = (e, λ k below from. omega arith)
united_clear a (x ∷ xs) e =
    let others = united_clear (bit_or a x) xs e in
    let both = none_united a x others.0 in
    (both.0, each_clear x xs both.1 others.1)

-- a table and its end, from `from` on
module _ (nodes tail : List ℕ) (from : ℕ) (is : tail ≡ slice_range nodes from (length nodes)) (inside : from ≤ length nodes) where
  there : (k : ℕ) → from ≤ k → k < length nodes → get_or tail (k - from) 0 ≡ get_or nodes k 0
  there k above below =
      let back : from + (k - from) ≡ k = omega arith in
      ap (λ (l : List ℕ). get_or l (k - from) 0) is
      ∙ (get_or-take (length nodes - from) _ (k - from) 0 (omega arith)
      ∙ (get_or-drop from nodes (k - from) 0 ∙ ap (λ (j : ℕ). get_or nodes j 0) back))

  pub first_none : (length tail + from ≡ length nodes) → ((k : ℕ) → k < length tail → get_or tail k 0 ≡ 0) → Changed nodes from None
  first_none long clear =
      record {
        first =
            record {
              within = omega arith;
              clear = λ k below above. sym (there k above below) ∙ clear (k - from) (omega arith);
              changed = λ l. omega arith;
            };
        within = tt;
      }

  pub first_at : (length tail + from ≡ length nodes) → (i : ℕ) → i < length tail → (get_or tail i 0 ≡ 0 → ⊥) → ((k : ℕ) → k < i → get_or tail k 0 ≡ 0)
      → Changed nodes from (Some (from + i))
  first_at long i below set clear =
      record {
        first =
            record {
              within = omega arith;
              clear = λ k low above. sym (there k above (omega arith)) ∙ clear (k - from) (omega arith);
              changed =
                  λ l.
                  let back : from + i - from ≡ i = omega arith in
                  (omega arith, λ e. set (sym (ap (λ (j : ℕ). get_or tail j 0) back) ∙ (there (from + i) (omega arith) l ∙ e)));
            };
        within = omega arith;
      }

  -- what a search of the end for a number that is not 0 found
  abbrev pub Found : Option ℕ → Type 0
  Found r = MatchOption r (AllWithin (λ n. n ≡ 0) tail 0 (length tail)) (λ i. (i < length tail) × HoldsAt (λ n. n ≡ 0 → ⊥) tail i × AllWithin (λ n. n ≡ 0) tail 0 i)

  pub none_found : (length tail + from ≡ length nodes) → (r : Option ℕ) → r ≡ None → Found r → Changed nodes from None
  none_found long r e found =
      let clear : Found None = subst Found e found in first_none long (λ k below. clear k 0 (omega arith) below)

  pub one_found : (length tail + from ≡ length nodes) → (r : Option ℕ) (i : ℕ) → r ≡ Some i → Found r → Changed nodes from (Some (from + i))
  one_found long r i e found =
      let at : Found (Some i) = subst Found e found in first_at long i at.0 (at.1 0) (λ k below. at.2 k 0 (omega arith) below)
