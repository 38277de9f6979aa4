-- A kind that is a name or goes on after an operand is one; flags of join words are small. Assumes nothing.
use mathlib.Core.Path.{◌≡◌, sym, subst}
use mathlib.Core.Bool.{Bool, true, ◌&&◌}
use mathlib.Core.List.{List, [], ◌∷◌}
use Prim.Native.Nat.{ℕ, zero, suc, ◌≤◌, ◌<◌, ◌^◌}
use native.Mathlib.Omega.{arith}
use lib.Bits.{bit_or, or_lt}
use lib.Dec.{T, eqb, leb, leb→le}
use Rattle.kinds.specs.Classes.{is_name}
use Rattle.kinds.proofs.Small.{left, right, chosen}
use Rattle.kinds.specs.Strength.{strength_of}
use Rattle.words.specs.Words.{Word, words}
use Rattle.words.specs.Flags.{flags_in, flags_of}

-- a name is a kind
pub name_is : (k : ℕ) → is_name k ≡ true → 0 < k
unfolding is_name
name_is zero e = absurd (subst T (sym e) tt)
name_is (suc k) e = omega arith

-- no kind goes on with no expression
pub strength_is : (k : ℕ) → 0 < strength_of k → 0 < k
unfolding strength_of
strength_is zero h = absurd (omega arith)
strength_is (suc k) h = omega arith

-- the flags of a word are small
abbrev flags_at_most : ℕ → List Word → Bool
flags_at_most b [] = true
flags_at_most b (w ∷ ws) = leb w.flags b && flags_at_most b ws

flags_in_lem : (b n : ℕ) (ws : List Word) → T (flags_at_most b ws) → flags_in ws n ≤ b
flags_in_lem b n [] t = omega arith
flags_in_lem b n (w ∷ ws) t =
    chosen (eqb n w.number) b w.flags (flags_in ws n) (leb→le w.flags b (left (leb w.flags b) (flags_at_most b ws) t)) (flags_in_lem b n ws (right (leb w.flags b) (flags_at_most b ws) t))

flags_small : (n : ℕ) → flags_of n ≤ 63
unfolding flags_of words
flags_small n = flags_in_lem 63 n words tt

-- .. and those that are united
pub united_small : (a n : ℕ) → a ≤ 63 → bit_or a (flags_of n) ≤ 63
united_small a n h =
    let f : flags_of n ≤ 63 = flags_small n in
    let l : bit_or a (flags_of n) < 2 ^ 6 = or_lt 6 a (flags_of n) (omega arith) (omega arith) in
    omega arith
