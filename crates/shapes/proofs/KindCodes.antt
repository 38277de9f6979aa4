-- The codes and details that a kind comes to, each by one test of all kinds. Assumes nothing.
use mathlib.Core.Bool.{true, false, Bool}
use mathlib.Core.List.{[], ◌∷◌}
use mathlib.Core.Path.{◌≡◌, refl}
use Prim.Native.Nat.{ℕ, ◌≤◌, ◌<◌}
use lib.Dec.{ltb, eqb, leb}
use Rattle.theory.specs.Table.{pick, both, mem}
use Rattle.theory.proofs.Cases.{by_bool, 0≢1, both_l, both_r, eqb_eq, leb_le}
use Rattle.kinds.specs.Kinds.{NULL, NOT, IS, IN, BETWEEN, LIKE_KW, ISNULL, NOTNULL, COLLATE}
use Rattle.kinds.specs.Strength.{strength_of}
use Rattle.kinds.specs.Classes.{is_name, is_bare_alias, is_binary, name_code, literal_code}
use Rattle.descent.proofs.SameRow.{below?, throughout}
use Rattle.shapes.specs.Shape.{NullTest, is_null, not_null}

-- one test of every kind: where b holds, so does t
unfoldable implies : Bool → Bool → Bool
implies b t = pick b t (λ w. true)

held : (b t : Bool) → implies b t ≡ true → b ≡ true → t ≡ true
unfolding implies pick
held true t e h = e
held false t e h = 0≢1 h

from_to : (lo n hi : ℕ) → both (leb lo n) (leb n hi) ≡ true → (lo ≤ n) × (n ≤ hi)
from_to lo n hi e = (leb_le lo n (both_l (leb lo n) (leb n hi) e), leb_le n hi (both_r (leb lo n) (leb n hi) e))

abbrev is_name_code : ℕ → Bool
is_name_code c = both (leb 20 c) (leb c 23)

-- ── names and literals ──
names_tested : below? 72 (λ k. implies (is_name k) (is_name_code (name_code k))) ≡ true
unfolding below? implies both pick is_name name_code
names_tested = refl

pub name_code_lem : (k : ℕ) → k < 72 → is_name k ≡ true → (20 ≤ name_code k) × (name_code k ≤ 23)
name_code_lem k h e = from_to 20 (name_code k) 23 (held (is_name k) _ (throughout 72 (λ k. implies (is_name k) (is_name_code (name_code k))) names_tested k h) e)

bares_tested : below? 72 (λ k. implies (is_bare_alias k) (is_name_code (name_code k))) ≡ true
unfolding below? implies both pick is_bare_alias name_code
bares_tested = refl

pub bare_code : (k : ℕ) → k < 72 → is_bare_alias k ≡ true → (20 ≤ name_code k) × (name_code k ≤ 23)
bare_code k h e = from_to 20 (name_code k) 23 (held (is_bare_alias k) _ (throughout 72 (λ k. implies (is_bare_alias k) (is_name_code (name_code k))) bares_tested k h) e)

-- a kind from ID to NULL is a literal's, or a name's
abbrev is_leaf : ℕ → Bool
is_leaf k = both (leb 1 k) (leb k 11)

leaves_tested : below? 72 (λ k. implies (both (is_leaf k) (eqb (literal_code k) 0)) (is_name_code (name_code k))) ≡ true
unfolding below? implies both pick name_code literal_code
leaves_tested = refl

pub leaf_code : (k : ℕ) → k < 72 → both (is_leaf k) (eqb (literal_code k) 0) ≡ true → (20 ≤ name_code k) × (name_code k ≤ 23)
leaf_code k h e = from_to 20 (name_code k) 23 (held _ _ (throughout 72 (λ k. implies (both (is_leaf k) (eqb (literal_code k) 0)) (is_name_code (name_code k))) leaves_tested k h) e)

literals_tested : below? 72 (λ k. implies (ltb 0 (literal_code k)) (both (leb 24 (literal_code k)) (leb (literal_code k) 30))) ≡ true
unfolding below? implies both pick literal_code
literals_tested = refl

pub literal_code_lem : (k : ℕ) → k < 72 → ltb 0 (literal_code k) ≡ true → (24 ≤ literal_code k) × (literal_code k ≤ 30)
literal_code_lem k h e = from_to 24 (literal_code k) 30 (held _ _ (throughout 72 (λ k. implies (ltb 0 (literal_code k)) (both (leb 24 (literal_code k)) (leb (literal_code k) 30))) literals_tested k h) e)

nulls_tested : below? 72 (λ k. implies (eqb (literal_code k) 30) (eqb k NULL)) ≡ true
unfolding below? implies both pick literal_code
nulls_tested = refl

pub null_code : (k : ℕ) → k < 72 → eqb (literal_code k) 30 ≡ true → eqb k NULL ≡ true
null_code k h e = held _ _ (throughout 72 (λ k. implies (eqb (literal_code k) 30) (eqb k NULL)) nulls_tested k h) e

-- ── operators ──
binaries_tested : below? 72 (λ k. implies (both (ltb 0 (strength_of k)) (ltb k NOT)) (is_binary k)) ≡ true
unfolding below? implies both pick strength_of is_binary
binaries_tested = refl

pub binary_kind : (k : ℕ) → k < 72 → both (ltb 0 (strength_of k)) (ltb k NOT) ≡ true → is_binary k ≡ true
binary_kind k h e = held _ _ (throughout 72 (λ k. implies (both (ltb 0 (strength_of k)) (ltb k NOT)) (is_binary k)) binaries_tested k h) e

-- the operators that are left when the others are told apart
abbrev others : ℕ → Bool
others k = pick (ltb k NOT) true (λ w. mem k (NOT ∷ IN ∷ BETWEEN ∷ LIKE_KW ∷ IS ∷ COLLATE ∷ ISNULL ∷ []))

last_tested : below? 72 (λ k. implies (ltb 0 (strength_of k)) (pick (others k) true (λ w. eqb k NOTNULL))) ≡ true
unfolding below? implies both pick mem strength_of
last_tested = refl

pub null_test : (k : ℕ) → k < 72 → ltb 0 (strength_of k) ≡ true → ltb k NOT ≡ false → eqb k NOT ≡ false → eqb k IN ≡ false → eqb k BETWEEN ≡ false → eqb k LIKE_KW ≡ false → eqb k IS ≡ false → eqb k COLLATE ≡ false → NullTest k
unfolding mem pick
null_test k h e a1 a2 a3 a4 a5 a6 a7 = by_bool (eqb k ISNULL) (λ z. is_null (eqb_eq k ISNULL z))
    (λ z. not_null (eqb_eq k NOTNULL (rw (a1, a2, a3, a4, a5, a6, a7, z) at (held _ _ (throughout 72 (λ k. implies (ltb 0 (strength_of k)) (pick (others k) true (λ w. eqb k NOTNULL))) last_tested k h) e))))
