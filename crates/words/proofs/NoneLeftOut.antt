-- Every sequence of one to three join words is among the sequences listed.
-- Assumes nothing.
use mathlib.Core.Path.{◌≡◌, refl, ap}
use mathlib.Core.List.Memᴰ
use mathlib.Core.List.{List, [], ◌∷◌, ◌++◌, map, Memᴰ}
use Prim.Native.Nat.{ℕ, zero, suc, ◌≤◌}
use native.Mathlib.Omega.{arith}
use lib.ListN.{length}
use Rattle.words.specs.Words.{Word, words, CROSS, OUTER}
use Rattle.words.specs.Sequences.{each_before, sequences_of, sequences}

-- each number is a join word's: "JOIN_KW: 1 to 7"
abbrev pub Words : List ℕ → Type 0
Words [] = Unit {0}
Words (n ∷ ns) = (CROSS ≤ n) × (n ≤ OUTER) × Words ns

-- a number of 1 to 7 is a word's of the table
pub has_word : (n : ℕ) → CROSS ≤ n → n ≤ OUTER → (w : Word) × Memᴰ w words × (n ≡ w.number)
unfolding words
has_word zero low high = absurd (omega arith)
has_word (suc zero) low high = (_, Memᴰ.head refl, refl)
has_word (suc (suc zero)) low high = (_, Memᴰ.tail (Memᴰ.head refl), refl)
has_word (suc (suc (suc zero))) low high = (_, Memᴰ.tail (Memᴰ.tail (Memᴰ.head refl)), refl)
has_word (suc (suc (suc (suc zero)))) low high = (_, Memᴰ.tail (Memᴰ.tail (Memᴰ.tail (Memᴰ.head refl))), refl)
has_word (suc (suc (suc (suc (suc zero))))) low high = (_, Memᴰ.tail (Memᴰ.tail (Memᴰ.tail (Memᴰ.tail (Memᴰ.head refl)))), refl)
has_word (suc (suc (suc (suc (suc (suc zero)))))) low high = (_, Memᴰ.tail (Memᴰ.tail (Memᴰ.tail (Memᴰ.tail (Memᴰ.tail (Memᴰ.head refl))))), refl)
has_word (suc (suc (suc (suc (suc (suc (suc zero))))))) low high = (_, Memᴰ.tail (Memᴰ.tail (Memᴰ.tail (Memᴰ.tail (Memᴰ.tail (Memᴰ.tail (Memᴰ.head refl)))))), refl)
has_word (suc (suc (suc (suc (suc (suc (suc (suc n)))))))) low high = absurd (omega arith)

before : {w : Word} {s : List ℕ} (ws : List Word) (ss : List (List ℕ)) → Memᴰ w ws → Memᴰ s ss → Memᴰ (w.number ∷ s) (each_before ws ss)
before {w} {s} (v ∷ vs) ss (Memᴰ.head p) m =
    Memᴰ.append_left (each_before vs ss) (Memᴰ.cast (ap (λ (x : Word). x.number ∷ s) p) (Memᴰ.map (λ (t : List ℕ). v.number ∷ t) m))
before [] ss x'' m = elim x'' [ ]
before (v ∷ vs) ss (Memᴰ.tail k) m = Memᴰ.append_right (map (λ t. v.number ∷ t) ss) (before vs ss k m)

pub of_its_length : (s : List ℕ) → Words s → Memᴰ s (sequences_of (length s))
of_its_length [] ok = Memᴰ.head refl
of_its_length (n ∷ ns) ok =
    let w = has_word n ok.0 ok.1 in
    Memᴰ.cast (ap (λ (x : ℕ). x ∷ ns) w.2) (before words (sequences_of (length ns)) w.1 (of_its_length ns ok.2))

pub none_left_out : (s : List ℕ) → Words s → 1 ≤ length s → length s ≤ 3 → Memᴰ s sequences
unfolding sequences
none_left_out [] ok one few = absurd (omega arith)
none_left_out (a ∷ []) ok one few = Memᴰ.append_left (sequences_of 2 ++ sequences_of 3) (of_its_length (a ∷ []) ok)
none_left_out (a ∷ b ∷ []) ok one few =
    Memᴰ.append_right (sequences_of 1) (Memᴰ.append_left (sequences_of 3) (of_its_length (a ∷ b ∷ []) ok))
none_left_out (a ∷ b ∷ c ∷ []) ok one few =
    Memᴰ.append_right (sequences_of 1) (Memᴰ.append_right (sequences_of 2) (of_its_length (a ∷ b ∷ c ∷ []) ok))
none_left_out (a ∷ b ∷ c ∷ d ∷ rest) ok one few = absurd (omega arith)
