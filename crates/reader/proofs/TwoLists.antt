-- What the two lists that the reader is lent tell of the text numbers of LIKE_KW, and the test of a token with no branch. Assumes nothing.
use mathlib.Core.Path.{◌≡◌, refl, subst}
use mathlib.Core.Bool.{Bool, true, false, cond}
use mathlib.Core.List.{List, [], ◌∷◌}
use Prim.Native.Nat.{ℕ, zero, suc, ◌≤◌, ◌<◌, max, zero-le}
use native.Mathlib.Nat.{le-max_left, le-max_right, max-le, le_trans}
use native.Mathlib.Omega.{arith}
use lib.Bits.{bit_and, bit_or, or_add_and, and_le_l, and_le_r}
use lib.Dec.{eqb, ltb}
use lib.ListN.{length, get_or}
use borrow.Author.Tests.{eq-eqb, eqb-true, ltb-false}
use mir.Val.{bool_byte}
use Rattle.reader.specs.declared.lists.Lists.{Lists}
use Rattle.reader.specs.Bounds.{kinds_of, texts_of}
use Rattle.reader.specs.Likes.{greatest_like}

-- ---- the text numbers of LIKE_KW
like_here : (b : Bool) (t g : ℕ) → b ≡ true → t ≤ cond b (max t g) g
like_here true t g e = le-max_left t g
like_here false t g e = absurd (subst (λ (b : Bool). cond b ⊥ (Unit {0})) e tt)

like_there : (b : Bool) (x t g : ℕ) → x ≤ g → x ≤ cond b (max t g) g
like_there true x t g h = le_trans h (le-max_right t g)
like_there false x t g h = h

like_below : (ks ts : List ℕ) (i : ℕ) → get_or ks i 0 ≡ 40 → get_or ts i 0 ≤ greatest_like ks ts
like_below [] ts i e = absurd (omega arith)
like_below (k ∷ ks) [] i e = zero-le
like_below (k ∷ ks) (t ∷ ts) zero e = like_here (eqb k 40) t (greatest_like ks ts) (eq-eqb k 40 e)
like_below (k ∷ ks) (t ∷ ts) (suc i) e = like_there (eqb k 40) (get_or ts i 0) t (greatest_like ks ts) (like_below ks ts i e)

pub like_text : (lists : Lists) (at : ℕ) → greatest_like (kinds_of lists) (texts_of lists) ≤ 3 → get_or (kinds_of lists) at 0 ≡ 40 → get_or (texts_of lists) at 0 ≤ 3
like_text lists at h e = le_trans (like_below (kinds_of lists) (texts_of lists) at e) h

greater : (b : Bool) (t g : ℕ) → (b ≡ true → t ≤ 3) → g ≤ 3 → cond b (max t g) g ≤ 3
greater true t g h l = max-le (h refl) l
greater false t g h l = l

-- all are small where each is
pub likes_few : (ks ts : List ℕ) → ((i : ℕ) → i < length ks → get_or ks i 0 ≡ 40 → get_or ts i 0 ≤ 3) → greatest_like ks ts ≤ 3
likes_few [] ts h = zero-le
likes_few (k ∷ ks) [] h = zero-le
likes_few (k ∷ ks) (t ∷ ts) h =
    greater (eqb k 40) t (greatest_like ks ts) (λ e. h 0 (omega arith) (eqb-true k 40 e)) (likes_few ks ts (λ i l e. h (suc i) (omega arith) e))

-- ---- the test of a token's fitness, with no branch
pub or_none : (a b : ℕ) → bit_or a b ≡ 0 → (a ≡ 0) × (b ≡ 0)
or_none a b e = omega (arith, or_add_and a b, and_le_l a b, and_le_r a b)

like_odd : (k c t : Bool) → bit_and (bool_byte k) (bit_or (bool_byte c) (bool_byte t)) ≡ 0 → k ≡ true → t ≡ false
like_odd true true true z e = absurd (omega arith)
like_odd true false true z e = absurd (omega arith)
like_odd true true false z e = refl
like_odd true false false z e = refl
like_odd false true true z e = absurd (subst (λ (b : Bool). cond b ⊥ (Unit {0})) e tt)
like_odd false false true z e = absurd (subst (λ (b : Bool). cond b ⊥ (Unit {0})) e tt)
like_odd false true false z e = refl
like_odd false false false z e = refl

pub like_fit : (rest kind text : ℕ) (c : Bool) → bit_or rest (bit_and (bool_byte (eqb kind 40)) (bit_or (bool_byte c) (bool_byte (ltb 3 text)))) ≡ 0
    → kind ≡ 40 → text ≤ 3
like_fit rest kind text c z e = ltb-false 3 text (like_odd (eqb kind 40) c (ltb 3 text) (or_none rest _ z).1 (eq-eqb kind 40 e))
