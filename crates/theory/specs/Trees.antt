-- What a grammar is made of: tokens, nonterminals, rows (productions), trees. No grammar yet. Definitions only.
use Rattle.std.specs.Prelude.{Bool, List, [], ◌∷◌, ◌++◌, ℕ, min}
use Rattle.std.proofs.Math.Option.{Option}

pub record Tok : Type 0 where
  pub kind : ℕ
  pub text : ℕ

-- a nonterminal: its class, and the least strength that is asked of what stands there (0: any)
pub record Nt : Type 0 where
  pub of : ℕ
  pub least : ℕ

-- one place of a production: a token of a kind, or what a nonterminal derives
pub data Item : Type 0 where
  lit : ℕ → Item
  nt : Nt → Item

-- a production, without the token that chooses it: its code, by which readings know it; its strength (0: no expression); the least
-- strength of its left operand, if it has one; the most strength that it leaves to what goes on after a node that ends in it (99: no
-- limit); what follows the token
pub record Row : Type 0 where
  pub code : ℕ
  pub str : ℕ
  pub left : ℕ
  pub cap : ℕ
  pub items : List Item

-- syntax trees. `node`: row, left operand, token, children. `nil` and `add` are children so far; `nil` stands too for an absent part
-- and for no left operand
pub data Tree : Type 0 where
  nil : Tree
  add : Tree → Tree → Tree
  leaf : Tok → Tree
  node : Row → Tree → Tok → Tree → Tree

-- the tokens of a tree, from left to right
unfoldable pub toks : Tree → List Tok
toks nil = []
toks (add f x) = toks f ++ toks x
toks (leaf t) = t ∷ []
toks (node r left t f) = toks left ++ (t ∷ toks f)

-- the most strength that the end of a tree leaves; 99 is no limit
unfoldable pub cap_of : Tree → ℕ
cap_of nil = 99
cap_of (add f x) = cap_of x
cap_of (leaf t) = 99
cap_of (node r left t f) = min r.cap (cap_of f)

-- a grammar: which row a nonterminal begins with at a kind of token; which row goes on, with what was read as its left operand (read
-- by this row, leaving this strength, for this nonterminal); which nonterminals may be absent; the kind that stands for the end
pub record Gram : Type 0 where
  pub enter : Nt → ℕ → Option Row
  pub cont : Nt → Row → ℕ → ℕ → Option Row
  pub nullable : Nt → Bool
  pub eof : ℕ
