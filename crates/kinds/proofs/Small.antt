-- The numbers that the tables of kinds give are small. Assumes nothing.
use mathlib.Core.Bool.{Bool, true, false, cond, ◌&&◌}
use mathlib.Core.List.{List, [], ◌∷◌}
use Prim.Native.Nat.{ℕ, ◌≤◌}
use native.Mathlib.Omega.{arith}
use lib.Dec.{T, leb, leb→le}
use Rattle.kinds.specs.Lists.{Line, ◌for◌, among, number_of}
use Rattle.kinds.specs.Strength.{strengths, strength_of, prefixes, prefix_of}

pub left : (a b : Bool) → T (a && b) → T a
left true b t = tt
left false b t = t

pub right : (a b : Bool) → T (a && b) → T b
right true b t = t
right false b t = absurd t

pub chosen : (c : Bool) (b n m : ℕ) → n ≤ b → m ≤ b → cond c n m ≤ b
chosen true b n m p q = p
chosen false b n m p q = q

-- the numbers of a table's lines are at most so great
abbrev at_most : ℕ → List Line → Bool
at_most b [] = true
at_most b ((n for ks) ∷ lines) = leb n b && at_most b lines

number_small : (b k : ℕ) (lines : List Line) → T (at_most b lines) → number_of k lines ≤ b
number_small b k [] t = omega arith
number_small b k ((n for ks) ∷ lines) t =
    chosen (among k ks) b n (number_of k lines) (leb→le n b (left (leb n b) (at_most b lines) t)) (number_small b k lines (right (leb n b) (at_most b lines) t))

pub strength_small : (k : ℕ) → strength_of k ≤ 10
unfolding strength_of
strength_small k = number_small 10 k strengths tt

pub prefix_small : (k : ℕ) → prefix_of k ≤ 11
unfolding prefix_of
prefix_small k = number_small 11 k prefixes tt
