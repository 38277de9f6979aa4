-- The test `equal` passes exactly where two lists are one list.
-- Assumes nothing.
use mathlib.Core.Path.{◌≡◌, refl, sym, ap, ap₂, ◌∙◌}
use mathlib.Core.Bool.{Bool, true, false, ◌&&◌, true≢false}
use mathlib.Core.List.{List, [], ◌∷◌, map}
use native.Mathlib.Omega.{arith}
use Prim.Native.Nat.{ℕ}
use lib.Dec.{eqb}
use borrow.Author.Tests.{eq-eqb, eqb-true}
use Rattle.std.proofs.Common.{Option}
use Rattle.std.specs.Iterator.{AlwaysYields}
use Rattle.std.proofs.lemmas.Iterator.{YieldsList}
use Rattle.std.specs.Char.{to_ascii_uppercase}
use Rattle.words.specs.Words.{upper_of, equal}
use Rattle.words.proofs.Every.{left, right}

pub one_list : (a b : List ℕ) → equal a b ≡ true → a ≡ b
one_list [] [] e = refl
one_list [] (y ∷ ys) e = absurd (true≢false (sym e))
one_list (x ∷ xs) [] e = absurd (true≢false (sym e))
one_list (x ∷ xs) (y ∷ ys) e = ap₂ ◌∷◌ (eqb-true x y (left (eqb x y) (equal xs ys) e)) (one_list xs ys (right (eqb x y) (equal xs ys) e))

pub with_itself : (a : List ℕ) → equal a a ≡ true
with_itself [] = refl
with_itself (x ∷ xs) = ap (λ t. t && equal xs xs) (eq-eqb x x refl) ∙ with_itself xs

pub not_one_list : (a b : List ℕ) → equal a b ≡ false → a ≡ b → ⊥
not_one_list a b n e = true≢false (sym (ap (λ (l : List ℕ). equal l b) e ∙ with_itself b) ∙ n)

-- a test that passes exactly there is that test
pub tested : (r : Bool) (a b : List ℕ) → (r ≡ true → a ≡ b) → (a ≡ b → r ≡ true) → r ≡ equal a b
tested true a b same passed = sym (ap (λ (l : List ℕ). equal l b) (same refl) ∙ with_itself b)
tested false a b same passed = go (equal a b) refl
  where
    go : (t : Bool) → equal a b ≡ t → false ≡ equal a b
    go true e = absurd (true≢false (sym (passed (one_list a b e))))
    go false e = sym e

-- the library's capitals are 01's
pub upper_is : (b : ℕ) → to_ascii_uppercase b ≡ upper_of b
upper_is b = grind arith

-- an iterator's bytes, each as its capital
module _ {S A : Type 0} (steps : S → Option A → S → Type 0) (v : A → ℕ) where
  as_capitals : (bytes : List ℕ) (s : S) → AlwaysYields steps v s bytes → AlwaysYields steps (λ x. upper_of (v x)) s (map upper_of bytes)
  as_capitals [] s e = e
  as_capitals (b ∷ bytes) s e = (e.0, λ x j h. let a = e.1 x j h in (ap upper_of a.0, as_capitals bytes j a.1))

pub capitals : {S A : Type 0} {steps : S → Option A → S → Type 0} {v : A → ℕ} {s : S} {bytes : List ℕ}
    → YieldsList steps v s bytes → YieldsList steps (λ x. upper_of (v x)) s (map upper_of bytes)
capitals {S} {A} {steps} {v} {s} {bytes} e = record { runs = as_capitals steps v bytes s e.runs }
