-- A grammar as a table. A line says: in these classes, at a token of one of these kinds, this row. A nonterminal is a class and the
-- least strength that is asked; one line serves every strength that is asked, for a row is taken if its own is no less. Definitions only.
use Rattle.std.specs.Prelude.{true, false, Bool, List, [], ◌∷◌, ℕ, min, eqb, leb}
use Rattle.std.proofs.Math.Option.{some, none, Option}
use Rattle.theory.specs.Trees.{Tok, Nt, Row, Gram}

pub record Line : Type 0 where
  pub of : List ℕ
  pub at : List ℕ
  pub row : Row

-- kinds that may come after something, and the strength that they ask of its end (0: none)
pub record Come : Type 0 where
  pub asks : ℕ
  pub at : List ℕ

-- heads: the rows that begin; tails: those that go on from a left operand. nulls: the classes that may be absent.
-- follow: for each class, what may come after it; of its own tails, where they are looser than what is asked.
-- witness: for each class, tokens that it derives at every strength that is asked. (The last two only serve the table's test.)
pub record Table : Type 0 where
  pub heads : List Line
  pub tails : List Line
  pub nulls : List ℕ
  pub follow : ℕ → List Come
  pub witness : ℕ → List Tok
  pub eof : ℕ

-- a choice by a test. A case that may recur is a function, so that it waits
unfoldable pub pick : {X : Type 0} → Bool → X → (Unit {0} → X) → X
pick true x f = x
pick false x f = f tt

unfoldable pub both : Bool → Bool → Bool
both true b = b
both false b = false

-- a choice by whether there is a row
unfoldable pub on_row : {X : Type 0} → Option Row → (Row → X) → (Unit {0} → X) → X
on_row none f g = g tt
on_row (some r) f g = f r

unfoldable pub mem : ℕ → List ℕ → Bool
mem k [] = false
mem k (c ∷ l) = pick (eqb k c) true (λ w. mem k l)

-- the first row that the lines have for a class at a kind
unfoldable pub lookup : ℕ → ℕ → List Line → Option Row
lookup C k [] = none
lookup C k (e ∷ es) = pick (both (mem C e.of) (mem k e.at)) (some e.row) (λ w. lookup C k es)

-- a row, if it has the strength that is asked
unfoldable pub asked : ℕ → Option Row → Option Row
asked s o = on_row o (λ r. pick (leb s r.str) (some r) (λ w. none)) (λ w. none)

module _ (t : Table) where
  unfoldable pub enter_of : Nt → ℕ → Option Row
  enter_of A k = asked A.least (lookup A.of k t.heads)

  -- a row goes on if its strength is asked, and what it asks of its left operand is no more than that has, and than it and its end leave
  unfoldable pub cont_of : Nt → Row → ℕ → ℕ → Option Row
  cont_of A r c k = on_row (asked A.least (lookup A.of k t.tails))
      (λ q. pick (both (leb q.left r.str) (leb q.left (min r.cap c))) (some q) (λ w. none)) (λ w. none)

  -- what may be absent is asked at no strength
  unfoldable pub null_of : Nt → Bool
  null_of B = both (mem B.of t.nulls) (eqb B.least 0)

  abbrev pub gram : Gram
  gram = record { enter = enter_of; cont = cont_of; nullable = null_of; eof = t.eof }
