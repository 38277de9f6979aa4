-- Rows compared by a test: same_row, same_found: where the test computes to true, the rows, or what was looked up, are equal. throughout: a
-- test of every kind below a bound, which computes, holds of each. So a fact of the table over all kinds is one test. Assumes nothing.
use mathlib.Core.Bool.{true, false, Bool}
use mathlib.Core.List.{List, [], ◌∷◌}
use mathlib.Core.Option.{some, none, Option}
use mathlib.Core.Path.{◌≡◌, refl, ap}
use Prim.Native.Nat.{ℕ, ◌<◌, zero, suc}
use borrow.Author.Tests.{eqb-false}
use lib.Dec.{eqb}
use native.Mathlib.Omega.{arith}
use Rattle.theory.specs.Trees.{Nt, Item, lit, nt, Row}
use Rattle.theory.specs.Table.{both}
use Rattle.theory.proofs.Cases.{by_bool, 0≢1, both_l, both_r, eqb_eq}

unfoldable pub eq_nt : Nt → Nt → Bool
eq_nt A B = both (eqb A.of B.of) (eqb A.least B.least)

unfoldable pub eq_item : Item → Item → Bool
eq_item (lit c) (lit d) = eqb c d
eq_item (lit c) (nt B) = false
eq_item (nt A) (lit d) = false
eq_item (nt A) (nt B) = eq_nt A B

unfoldable pub eq_items : List Item → List Item → Bool
eq_items [] [] = true
eq_items [] (j ∷ js) = false
eq_items (i ∷ is) [] = false
eq_items (i ∷ is) (j ∷ js) = both (eq_item i j) (eq_items is js)

unfoldable pub eq_row : Row → Row → Bool
eq_row q r = both (eqb q.code r.code) (both (eqb q.str r.str) (both (eqb q.left r.left) (both (eqb q.cap r.cap) (eq_items q.items r.items))))

unfoldable pub eq_found : Option Row → Option Row → Bool
eq_found none none = true
eq_found none (some r) = false
eq_found (some q) none = false
eq_found (some q) (some r) = eq_row q r

same_nt : (A B : Nt) → eq_nt A B ≡ true → A ≡ B
unfolding eq_nt
same_nt A B e = fields (eqb_eq A.of B.of (both_l _ (eqb A.least B.least) e)) (eqb_eq A.least B.least (both_r (eqb A.of B.of) _ e))
  where
    fields : A.of ≡ B.of → A.least ≡ B.least → ◌≡◌ {A = Nt} (record { of = A.of; least = A.least }) (record { of = B.of; least = B.least })
    fields p q = rw (p, q)

same_item : (i j : Item) → eq_item i j ≡ true → i ≡ j
unfolding eq_item
same_item (lit c) (lit d) e = ap lit (eqb_eq c d e)
same_item (lit c) (nt B) e = 0≢1 e
same_item (nt A) (lit d) e = 0≢1 e
same_item (nt A) (nt B) e = ap nt (same_nt A B e)

same_items : (is js : List Item) → eq_items is js ≡ true → is ≡ js
unfolding eq_items
same_items [] [] e = refl
same_items [] (j ∷ js) e = 0≢1 e
same_items (i ∷ is) [] e = 0≢1 e
same_items (i ∷ is) (j ∷ js) e = let p = same_item i j (both_l _ (eq_items is js) e) in let q = same_items is js (both_r (eq_item i j) _ e) in cc

pub same_row : (q r : Row) → eq_row q r ≡ true → q ≡ r
unfolding eq_row
same_row q r e =
    let a = both_l (eqb q.code r.code) _ e in let e1 = both_r (eqb q.code r.code) _ e in
    let b = both_l (eqb q.str r.str) _ e1 in let e2 = both_r (eqb q.str r.str) _ e1 in
    let c = both_l (eqb q.left r.left) _ e2 in let e3 = both_r (eqb q.left r.left) _ e2 in
    let d = both_l (eqb q.cap r.cap) _ e3 in let f = both_r (eqb q.cap r.cap) _ e3 in
    fields (eqb_eq q.code r.code a) (eqb_eq q.str r.str b) (eqb_eq q.left r.left c) (eqb_eq q.cap r.cap d) (same_items q.items r.items f)
  where
    fields : q.code ≡ r.code → q.str ≡ r.str → q.left ≡ r.left → q.cap ≡ r.cap → q.items ≡ r.items
        → ◌≡◌ {A = Row} (record { code = q.code; str = q.str; left = q.left; cap = q.cap; items = q.items }) (record { code = r.code; str = r.str; left = r.left; cap = r.cap; items = r.items })
    fields a b c d f = rw (a, b, c, d, f)

pub same_found : (o p : Option Row) → eq_found o p ≡ true → o ≡ p
unfolding eq_found
same_found none none e = refl
same_found none (some r) e = 0≢1 e
same_found (some q) none e = 0≢1 e
same_found (some q) (some r) e = ap some (same_row q r e)

-- ── every kind below a bound ──
unfoldable pub below? : ℕ → (ℕ → Bool) → Bool
below? zero p = true
below? (suc n) p = both (p n) (below? n p)

pub throughout : (n : ℕ) (p : ℕ → Bool) → below? n p ≡ true → (k : ℕ) → k < n → p k ≡ true
unfolding below?
throughout zero p e k h = absurd (omega arith)
throughout (suc n) p e k h = by_bool (eqb k n)
    (λ g. rw (eqb_eq k n g) (both_l (p n) (below? n p) e))
    (λ g. throughout n p (both_r (p n) (below? n p) e) k (let w = eqb-false k n g in under k n h w))
  where
    under : (k n : ℕ) → k < suc n → (k ≡ n → ⊥) → k < n
    under k n h w = omega (arith, w)
