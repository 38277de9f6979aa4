-- A test that every member of a list passes holds of each member: how one computed test becomes a law.
-- Assumes nothing.
use mathlib.Core.Path.{◌≡◌, refl, sym, ap, ◌∙◌}
use mathlib.Core.Bool.{Bool, true, false, ◌&&◌, ◌||◌, not, true≢false}
use mathlib.Core.List.Memᴰ
use mathlib.Core.List.{List, [], ◌∷◌, Memᴰ}

pub left : (a b : Bool) → (a && b) ≡ true → a ≡ true
left true b e = refl
left false b e = e

pub right : (a b : Bool) → (a && b) ≡ true → b ≡ true
right true b e = e
right false b e = absurd (true≢false (sym e))

-- a test that is asked only where another passes
pub asked : (a b : Bool) → (not a || b) ≡ true → a ≡ true → b ≡ true
asked true b e t = e
asked false b e t = absurd (true≢false (sym t))

module _ {A : Type 0} where
  abbrev pub every : (A → Bool) → List A → Bool
  every f [] = true
  every f (x ∷ xs) = f x && every f xs

  pub each : (f : A → Bool) (xs : List A) → every f xs ≡ true → {x : A} → Memᴰ x xs → f x ≡ true
  each f [] e m = absurd (Memᴰ.not-nil m)
  each f (y ∷ ys) e (Memᴰ.head p) = ap f p ∙ left (f y) (every f ys) e
  each f (y ∷ ys) e (Memᴰ.tail m) = each f ys (right (f y) (every f ys) e) m
