-- What a way through a `match` knows of a kind decides how the kind is looked up: in a range, or among an arm's kinds, all of
-- which pass one computed test, it is found; apart from all that a list names, it is not. Assumes nothing.
use mathlib.Core.Path.{◌≡◌, refl, sym, subst}
use mathlib.Core.Logic.{inl, inr}
use mathlib.Core.Bool.{Bool, true, false, ◌&&◌}
use mathlib.Core.List.{List, [], ◌∷◌, ◌++◌}
use Prim.Native.Nat.{ℕ, zero, suc, ◌+◌, ◌-◌, ◌≤◌, ◌<◌}
use native.Mathlib.Omega.{arith}
use lib.Dec.{T, eqb, eqb→eq}
use borrow.Author.Tests.{ne_eqb}
use types.Run.{OneOf}
use Rattle.kinds.proofs.Small.{left, right}
use Rattle.kinds.specs.Lists.{Line, ◌for◌, among, number_of}

holds : (b : Bool) → T b → true ≡ b
holds true t = refl
holds false t = absurd t

-- the test p passes at each of the n numbers from lo on
abbrev pub passes : (ℕ → Bool) → ℕ → ℕ → Bool
passes p lo zero = true
passes p lo (suc n) = p lo && passes p (suc lo) n

further : (p : ℕ → Bool) (lo n : ℕ) → T (passes p lo n) → (d : ℕ) → d < n → T (p (lo + d))
further p lo zero t d h = absurd (omega arith)
further p lo (suc n) t zero h = subst (λ (m : ℕ). T (p m)) (omega arith) (left (p lo) (passes p (suc lo) n) t)
further p lo (suc n) t (suc d) h =
    subst (λ (m : ℕ). T (p m)) (omega arith) (further p (suc lo) n (right (p lo) (passes p (suc lo) n) t) d (omega arith))

-- .. from lo to hi; then it passes at each number between
abbrev pub throughout : (ℕ → Bool) → ℕ → ℕ → Bool
throughout p lo hi = passes p lo (suc hi - lo)

pub each : (p : ℕ → Bool) (lo hi : ℕ) → T (throughout p lo hi) → (k : ℕ) → lo ≤ k → k ≤ hi → T (p k)
each p lo hi t k least most =
    subst (λ (m : ℕ). T (p m)) (omega arith) (further p lo (suc hi - lo) t (k - lo) (omega arith))

-- the test p passes at each kind of a list
abbrev pub passes_at : (ℕ → Bool) → List ℕ → Bool
passes_at p [] = true
passes_at p (a ∷ l) = p a && passes_at p l

each_of : (p : ℕ → Bool) (l : List ℕ) → T (passes_at p l) → (k : ℕ) → OneOf l k → T (p k)
each_of p [] t k h = absurd h
each_of p (a ∷ []) t k h = subst (λ (m : ℕ). T (p m)) (sym h) (left (p a) true t)
each_of p (a ∷ b ∷ l) t k (inl h) = subst (λ (m : ℕ). T (p m)) (sym h) (left (p a) (passes_at p (b ∷ l)) t)
each_of p (a ∷ b ∷ l) t k (inr h) = each_of p (b ∷ l) (right (p a) (passes_at p (b ∷ l)) t) k h

-- k is none of a list's kinds
abbrev pub Apart : ℕ → List ℕ → Type 0
Apart k [] = Unit {0}
Apart k (a ∷ l) = (k ≡ a → ⊥) × Apart k l

first : (k : ℕ) (l m : List ℕ) → Apart k (l ++ m) → Apart k l
first k [] m h = tt
first k (a ∷ l) m h = (h.0, first k l m h.1)

rest : (k : ℕ) (l m : List ℕ) → Apart k (l ++ m) → Apart k m
rest k [] m h = h
rest k (a ∷ l) m h = rest k l m h.1

-- what fails a test that a list's kinds all pass is none of them
pub fails : (p : ℕ → Bool) (k : ℕ) (l : List ℕ) → T (passes_at p l) → (T (p k) → ⊥) → Apart k l
fails p k [] t out = tt
fails p k (a ∷ l) t out =
    ((λ e. out (subst (λ (m : ℕ). T (p m)) (sym e) (left (p a) (passes_at p l) t))), fails p k l (right (p a) (passes_at p l) t) out)

-- what an arm with several kinds leaves to the arms after it
pub past_arm : (k : ℕ) (arm : List ℕ) → (OneOf arm k → ⊥) → Apart k arm
past_arm k [] h = tt
past_arm k (a ∷ []) h = (h, tt)
past_arm k (a ∷ b ∷ arm) h = ((λ e. h (inl e)), past_arm k (b ∷ arm) (λ e. h (inr e)))

-- a kind in a list: by a range, by an arm's kinds, and not
module _ (k : ℕ) (l : List ℕ) where
  pub by_range : (lo hi : ℕ) → T (throughout (λ a. among a l) lo hi) → lo ≤ k → k ≤ hi → true ≡ among k l
  by_range lo hi t least most = holds (among k l) (each (λ a. among a l) lo hi t k least most)

  pub by_arm : (arm : List ℕ) → T (passes_at (λ a. among a l) arm) → OneOf arm k → true ≡ among k l
  by_arm arm t h = holds (among k l) (each_of (λ a. among a l) arm t k h)

pub by_none : (k : ℕ) (l : List ℕ) → Apart k l → false ≡ among k l
by_none k [] h = refl
by_none k (a ∷ l) h = rw (ne_eqb k a h.0) (by_none k l h.1)

-- a kind in a table: in the line of number n, by a range, and in none
pub line_by_range : (k : ℕ) (lines : List Line) (n lo hi : ℕ) → T (throughout (λ a. eqb n (number_of a lines)) lo hi)
    → lo ≤ k → k ≤ hi → n ≡ number_of k lines
line_by_range k lines n lo hi t least most = eqb→eq n (number_of k lines) (each (λ a. eqb n (number_of a lines)) lo hi t k least most)

-- the kinds that a table names
abbrev pub kinds_of : List Line → List ℕ
kinds_of [] = []
kinds_of ((n for l) ∷ lines) = l ++ kinds_of lines

pub line_by_none : (k : ℕ) (lines : List Line) → Apart k (kinds_of lines) → 0 ≡ number_of k lines
line_by_none k [] h = refl
line_by_none k ((n for l) ∷ lines) h =
    rw (← by_none k l (first k l (kinds_of lines) h)) (line_by_none k lines (rest k l (kinds_of lines) h))
