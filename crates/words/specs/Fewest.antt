-- The fewest words that have given flags.
use Rattle.std.specs.Prelude.{cond, Option, None, Some, option_to_list, List, [], ◌∷◌, ◌++◌, ℕ, ◌-◌, eqb}
use Rattle.words.specs.Words.{CROSS, FULL, INNER, LEFT, NATURAL, RIGHT, NO_WORD}
use Rattle.words.specs.Flags.{NATURAL_BIT, NO_FLAGS, flags_of, has}
use Rattle.words.specs.declared.Writing.{Writing}

-- "Writing: .. join words by fewest: NATURAL first, then CROSS, INNER, FULL, LEFT or RIGHT"
unfoldable pub endings : List ℕ
endings = CROSS ∷ INNER ∷ FULL ∷ LEFT ∷ RIGHT ∷ []

-- the one of these words whose flags these are
abbrev pub with_flags : List ℕ → ℕ → ℕ
with_flags [] f = NO_WORD
with_flags (w ∷ ws) f = cond (eqb f (flags_of w)) w (with_flags ws f)

unfoldable pub ending_of : ℕ → ℕ
ending_of f = with_flags endings f

-- one word or two, NO_WORD for none
pub record Fewest : Type 0 where
  pub first : ℕ
  pub second : ℕ

abbrev pub writing : ℕ → ℕ → Fewest
writing first second = record { first = first; second = second }

-- NATURAL first, then the one word whose flags are the rest; NATURAL alone where nothing is left, and no words where no word has the rest
abbrev pub after_natural : ℕ → Fewest
after_natural rest =
    cond (eqb rest NO_FLAGS) (writing NATURAL NO_WORD)
    (cond (eqb (ending_of rest) NO_WORD) (writing NO_WORD NO_WORD)
    (writing NATURAL (ending_of rest)))

-- NATURAL stands there if its bit does. For every number that is not the flags of such words: no words
unfoldable pub fewest_of : ℕ → Fewest
fewest_of f = cond (has f NATURAL_BIT) (after_natural (f - NATURAL_BIT)) (writing (ending_of f) NO_WORD)

-- the words that stand in a writing
abbrev pub present : ℕ → List ℕ
present w = cond (eqb w NO_WORD) [] (w ∷ [])

abbrev pub words_of : Fewest → List ℕ
words_of w = present w.first ++ present w.second

-- the same for the code: None in place of NO_WORD
abbrev pub word_there : ℕ → Option ℕ
word_there w = cond (eqb w NO_WORD) None (Some w)

abbrev pub writing_of : Fewest → Writing
writing_of w = record { first = word_there w.first; second = word_there w.second }

-- the words that stand in what the code writes
abbrev pub words_in : Writing → List ℕ
words_in w = option_to_list w.first ++ option_to_list w.second
