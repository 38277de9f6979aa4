-- Demand 3, in the words of the calls: what the canonical writing of an accepted command must be. Definitions only.
use Rattle.std.specs.Prelude.{List, [], ◌∷◌, ◌↔◌, ◌≡◌, ℕ, ◌≤◌, length}
use Rattle.theory.specs.Trees.{Tok, Tree}
use Rattle.grammar.specs.Grammar.{IsCommand}
use Rattle.grammar.specs.Sizes.{TOKENS, LEVELS}
use Rattle.grammar.specs.Levels.{Mark, marks}
use Rattle.grammar.specs.Reading.{reading}
use Rattle.grammar.specs.Meaning.{meaning}
use Rattle.grammar.specs.Promise.{AllFit, Accepted, writing_of, kinds_of, texts_of}

-- what "mean" is of two commands
abbrev pub SameMeaning : Tree → Tree → Type 0
SameMeaning x y = meaning (reading x) ≡ meaning (reading y)

-- "equal token for token"
abbrev pub SameWriting : Tree → Tree → Type 0
SameWriting x y = writing_of x ≡ writing_of y

-- marks of no expression deeper than 64 levels
abbrev pub WithinLevels : List Mark → Type 0
WithinLevels [] = Unit {0}
WithinLevels (m ∷ ms) = (m.level ≤ LEVELS) × WithinLevels ms

-- "the writing stands within 64 levels": tokens, as a command
abbrev pub Shallow : List Tok → Type 0
Shallow ts = (y : Tree) → IsCommand ts y → WithinLevels (marks y)

-- a command of which demand 3 speaks: accepted, its writing is a list that may be lent (AS for each bare alias makes it longer), and stands
-- within 64 levels (parentheses around a NOT to the right make it deeper)
pub record Writable (K T : List ℕ) (x : Tree) : Type 0 where
  pub accepted : Accepted K T x
  pub short : length (writing_of x) ≤ TOKENS
  pub shallow : Shallow (writing_of x)

-- "each writing .. keeps the meaning and is its own canonical writing": of every accepted command, however long and deep its writing is
pub record Rewritten (x : Tree) : Type 0 where
  pub tree : Tree
  pub derived : IsCommand (writing_of x) tree
  pub fit : AllFit (writing_of x)
  pub meaning : SameMeaning tree x
  pub own : SameWriting tree x

-- "each writing is accepted, keeps the meaning and is its own canonical writing"
pub record Canonical (x : Tree) : Type 0 where
  pub written : Rewritten x
  pub accepted : Accepted (kinds_of (writing_of x)) (texts_of (writing_of x)) written.tree

-- "Two accepted commands mean the same exactly when their canonical writings are equal token for token"
abbrev pub EqualWritings : Tree → Tree → Type 0
EqualWritings x y = SameMeaning x y ↔ SameWriting x y
