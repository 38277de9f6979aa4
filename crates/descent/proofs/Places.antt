-- Recursive descent over document 01's table, by places of two lent lists: the kind and the token at a place, the tokens from a place on,
-- a nonterminal read from a place (`calls`), the rest of a row (`rests`), what may go on from a tree (`again`). Definitions only.
use mathlib.Core.List.{List, []}
use mathlib.Core.Path.{◌≡◌}
use Prim.Native.Nat.{ℕ, ◌<◌}
use lib.Dec.{eqb, T}
use lib.ListN.{length, get_or, drop}
use Rattle.theory.specs.Trees.{Tok, Nt, Item, Row, Tree, nil, add, leaf, node}
use Rattle.theory.specs.Table.{pick}
use Rattle.theory.specs.Outcome.{Ans, refused}
use Rattle.theory.proofs.Descend.{rest, call}
use Rattle.grammar.specs.Grammar.{G}
use Rattle.grammar.specs.Limits.{Around, under, judge}
use Rattle.grammar.specs.Promise.{tokens}

-- the kind at a place; 0, the end's, past the last token
abbrev pub kind_at : List ℕ → ℕ → ℕ
kind_at K n = get_or K n 0

abbrev pub tok_at : List ℕ → List ℕ → ℕ → Tok
tok_at K T n = record { kind = get_or K n 0; text = get_or T n 0 }

unfoldable pub from : List ℕ → List ℕ → ℕ → List Tok
from K T n = drop n (tokens K T)

-- a token that can't stand there is refusal 3, the end of the list 4
unfoldable pub wrong : ℕ → ℕ
wrong k = pick (eqb k 0) 4 (λ w. 3)

-- lists of one length, in which no token has the end's kind
pub record Sound (K T : List ℕ) : Type 0 where
  pub equal : length K ≡ length T
  pub some : (n : ℕ) → n < length K → 0 < get_or K n 0

-- a row that is being read: what is known around it, its nonterminal, its row, its left operand, its token
pub record OpenRow : Type 0 where
  pub c : Around
  pub A : Nt
  pub r : Row
  pub l : Tree
  pub t : Tok

module _ (K T : List ℕ) where
  -- nonterminal A, read from place n
  abbrev pub calls : Around → Nt → ℕ → Ans
  calls c A n = call G Around under judge c A n (from K T n)

  -- the items to come of a row, after the children k, from place n
  abbrev pub rests : OpenRow → List Item → Tree → ℕ → Ans
  rests F is k n = rest G Around under judge F.c F.A F.r F.l F.t is k n (from K T n)

  -- what was read may go on, as a left operand
  unfoldable pub again : Around → Nt → Tree → ℕ → Ans
  again c A nil n = refused 0 0
  again c A (add a b) n = refused 0 0
  again c A (leaf t) n = refused 0 0
  again c A (node r l t k) n = rests (record { c = c; A = A; r = r; l = l; t = t }) [] k n
