-- For each legal sequence of one to three join words the words written have the same flags, and no sequence of fewer words has them.
-- Assumes nothing.
use Rattle.std.specs.Prelude.{option_to_list}
use Rattle.std.proofs.lemmas.Bool.{cases_Bool}
use mathlib.Core.Logic.{⊎_elim}
use mathlib.Core.Path.{◌≡◌, refl, ap₂}
use mathlib.Core.Bool.{Bool, true, ◌&&◌, ◌||◌, not}
use mathlib.Core.List.{List, ◌++◌, Memᴰ}
use Prim.Native.Nat.{ℕ, ◌<◌}
use lib.Dec.{eqb, ltb}
use lib.ListN.{length}
use borrow.Author.Tests.{lt-ltb, eqb-true, eqb-false, not-true}
use Rattle.words.specs.Words.{words, NO_WORD}
use Rattle.words.specs.Flags.{flags_of}
use Rattle.words.specs.Sequences.{united_all, legal_sequence, sequences_of, sequences}
use Rattle.words.specs.Fewest.{Fewest, endings, ending_of, fewest_of, present, words_of, word_there, writing_of, words_in}
use Rattle.words.proofs.Every.{left, right, asked, every, each}

-- the words written for these flags
abbrev pub written : ℕ → List ℕ
written f = words_of (fewest_of f)

-- and by the code, None in place of NO_WORD, the same
there_is : (w : ℕ) → option_to_list (word_there w) ≡ present w
there_is w = ⊎_elim (λ e. rw e refl) (λ e. rw e refl) (cases_Bool (eqb w NO_WORD))

pub words_in_is : (w : Fewest) → words_in (writing_of w) ≡ words_of w
words_in_is w = ap₂ (λ (x y : List ℕ). x ++ y) (there_is w.first) (there_is w.second)

-- the sequences of none, one or two words: no words written are more than two
pub shorter : List (List ℕ)
shorter = sequences_of 0 ++ (sequences_of 1 ++ sequences_of 2)

-- the sequence, if it is shorter than the words written, has other flags
abbrev other : ℕ → List ℕ → Bool
other f t = not (ltb (length t) (length (written f))) || not (eqb (united_all t) f)

abbrev alike : List ℕ → Bool
alike s = eqb (united_all (written (united_all s))) (united_all s)

abbrev least : List ℕ → Bool
least s = every (other (united_all s)) shorter

abbrev fewest : List ℕ → Bool
fewest s = not (legal_sequence s) || (alike s && least s)

tested : every fewest sequences ≡ true
unfolding sequences legal_sequence shorter words flags_of endings ending_of fewest_of
tested = refl

module _ (s : List ℕ) (m : Memᴰ s sequences) (h : legal_sequence s ≡ true) where
  passed : (alike s && least s) ≡ true
  passed = asked (legal_sequence s) (alike s && least s) (each fewest sequences tested m) h

  pub same_flags : united_all (written (united_all s)) ≡ united_all s
  same_flags = eqb-true _ _ (left (alike s) (least s) passed)

  pub no_fewer : (t : List ℕ) → Memᴰ t shorter → length t < length (written (united_all s)) → united_all t ≡ united_all s → ⊥
  no_fewer t k less =
      eqb-false (united_all t) (united_all s)
      (not-true (eqb (united_all t) (united_all s))
      (asked (ltb (length t) (length (written (united_all s)))) (not (eqb (united_all t) (united_all s)))
      (each (other (united_all s)) shorter (right (alike s) (least s) passed) k) (lt-ltb _ _ less)))
