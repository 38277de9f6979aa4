-- The sequences of join words, and their flags.
use Rattle.std.specs.Prelude.{Bool, List, [], ◌∷◌, ◌++◌, map, ℕ, zero, suc}
use Rattle.words.specs.Words.{Word, words}
use Rattle.words.specs.Flags.{NO_FLAGS, flags_of, united, legal}

-- "Flags are united as bits": those of a sequence's words
abbrev pub united_all : List ℕ → ℕ
united_all [] = NO_FLAGS
united_all (w ∷ ws) = united (flags_of w) (united_all ws)

-- the rule is asked of the united flags, not word by word: OUTER LEFT is legal
unfoldable pub legal_sequence : List ℕ → Bool
legal_sequence s = legal (united_all s)

-- each of the words before each of the sequences
abbrev pub each_before : List Word → List (List ℕ) → List (List ℕ)
each_before [] ss = []
each_before (w ∷ ws) ss = map (λ s. w.number ∷ s) ss ++ each_before ws ss

-- all sequences of so many words
abbrev pub sequences_of : ℕ → List (List ℕ)
sequences_of zero = [] ∷ []
sequences_of (suc n) = each_before words (sequences_of n)

-- "One to three join words may stand before JOIN."
unfoldable pub sequences : List (List ℕ)
sequences = sequences_of 1 ++ (sequences_of 2 ++ sequences_of 3)
