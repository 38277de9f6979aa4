-- Of the 399 sequences of one to three join words 180 are legal.
-- Assumes nothing.
use mathlib.Core.Path.{◌≡◌, refl}
use mathlib.Core.Bool.{cond}
use mathlib.Core.List.{List, [], ◌∷◌}
use Prim.Native.Nat.{ℕ}
use lib.ListN.{length}
use Rattle.words.specs.Words.{words}
use Rattle.words.specs.Flags.{flags_of}
use Rattle.words.specs.Sequences.{legal_sequence, sequences}

abbrev pub legal_among : List (List ℕ) → List (List ℕ)
legal_among [] = []
legal_among (s ∷ ss) = let rest = legal_among ss in cond (legal_sequence s) (s ∷ rest) rest

pub of_399_sequences : length sequences ≡ 399
unfolding sequences words
of_399_sequences = refl

pub are_legal_180 : length (legal_among sequences) ≡ 180
unfolding sequences legal_sequence words flags_of
are_legal_180 = refl
