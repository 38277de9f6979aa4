-- What 01's limits say of each token of a tree, sentence by sentence, with nothing carried along: the mark of a token inside a part is
-- that part's mark, raised by what stands around it. proofs/LevelsHold shows that Limits' words are these marks'. Definitions only.
use Rattle.std.specs.Prelude.{Bool, List, [], ◌∷◌, ◌++◌, map, ℕ, zero, suc, ltb, eqb}
use Rattle.theory.specs.Trees.{Tok, Row, Tree, nil, add, leaf, node, toks}
use Rattle.theory.specs.Table.{pick, both}
use Rattle.kinds.specs.Kinds.{RP, JOIN}
use Rattle.words.specs.Flags.{NO_FLAGS, legal}
use Rattle.words.specs.Sequences.{united_all}
use Rattle.grammar.specs.RowNames.{row_next_row, row_word_join}
use Rattle.grammar.specs.Sizes.{LEVELS, QUERIES}
use Rattle.grammar.specs.Limits.{is_query, is_expression, width}

-- level: of the expression that starts at the token (0: none starts). opened: how many queries are open with the one that opens there
-- (0: none opens). flags: of the join whose JOIN it is (no flags: of none). long, first: the length of the further row whose RP it is, and
-- of the first (both 0: no further row's)
pub record Mark : Type 0 where
  pub level : ℕ
  pub opened : ℕ
  pub flags : ℕ
  pub long : ℕ
  pub first : ℕ

abbrev pub unmarked : Mark
unmarked = record { level = 0; opened = 0; flags = NO_FLAGS; long = 0; first = 0 }

-- "a clause's or row's expression in the outer query is at 1; a column name DOT STAR counts as one"; "Queries open at once, the outer
-- counted". With a left operand it started before: "A left operand has its whole's level"
unfoldable pub starts : Row → Tree → Mark
starts r nil = record { level = pick (is_expression r) 1 (λ w. 0); opened = pick (is_query r.code) 1 (λ w. 0); flags = NO_FLAGS; long = 0; first = 0 }
starts r (add f x) = unmarked
starts r (leaf u) = unmarked
starts r (node q l t f) = unmarked

-- one more, if it is anything
unfoldable pub raised : Bool → ℕ → ℕ
raised b zero = zero
raised b (suc n) = pick b (suc (suc n)) (λ w. suc n)

-- "every other operand, member, argument or part is one deeper. Clause expressions of a query inside an expression are one deeper than
-- that expression; of a query in FROM, as deep as the query around it": what stands inside an expression, and beside its left operand, is
-- one deeper, and what stands inside a query is not. Inside a query one more is open
unfoldable pub inside_of : Row → Mark → Mark
inside_of r m = record { level = raised (is_expression r) m.level; opened = raised (is_query r.code) m.opened; flags = m.flags; long = m.long; first = m.first }

-- of rows: the length of the first, before which there is none
unfoldable pub first_long : Tree → ℕ
first_long nil = 0
first_long (add f x) = 0
first_long (leaf t) = 0
first_long (node r nil t f) = width f
first_long (node r (add g x) t f) = 0
first_long (node r (leaf u) t f) = 0
first_long (node r (node q l u g) t f) = first_long (node q l u g)

-- a token of a row beside its first: u, after the parts k. "One to three join words may stand before JOIN", which are this row's tokens up
-- to there: "Flags are united as bits". "row length differs from the first | the row's RP": l are the rows before
unfoldable pub goes_on : Row → Tree → Tok → Tree → Tok → Mark
goes_on r l t k u = record {
  level = 0;
  opened = 0;
  flags = pick (both (eqb r.code row_word_join) (eqb u.kind JOIN)) (united_all (map (λ w. w.text) (t ∷ toks k))) (λ w. NO_FLAGS);
  long = pick (both (eqb r.code row_next_row) (eqb u.kind RP)) (width (add k (leaf u))) (λ w. 0);
  first = pick (both (eqb r.code row_next_row) (eqb u.kind RP)) (first_long l) (λ w. 0);
}

unfoldable mutual
  -- the marks of a part's tokens, from left to right
  pub marks : Tree → List Mark
  marks nil = []
  marks (add f x) = []
  marks (leaf u) = []
  marks (node r l t f) = marks l ++ (starts r l ∷ map (inside_of r) (marks_of_parts f r l t))

  -- of the parts of a row, seen from within it: a token of its own, or a part
  pub marks_of_parts : Tree → Row → Tree → Tok → List Mark
  marks_of_parts nil r l t = []
  marks_of_parts (add f nil) r l t = marks_of_parts f r l t
  marks_of_parts (add f (add g x)) r l t = []
  marks_of_parts (add f (leaf u)) r l t = marks_of_parts f r l t ++ (goes_on r l t f u ∷ [])
  marks_of_parts (add f (node q m u g)) r l t = marks_of_parts f r l t ++ marks (node q m u g)
  marks_of_parts (leaf u) r l t = []
  marks_of_parts (node q m u g) r l t = []

-- "5 | a level-65 expression starts"; "6 | a 17th query opens"; "7 | join flags refused"; "8 | row length differs from the first"
unfoldable pub word : Mark → ℕ
word m = pick (ltb LEVELS m.level) 5 (λ w. pick (ltb QUERIES m.opened) 6
    (λ w. pick (legal m.flags) (pick (eqb m.long m.first) 0 (λ w. 8)) (λ w. 7)))

-- words up to and with the first that is not 0
unfoldable pub up_to : List ℕ → List ℕ
up_to [] = []
up_to (zero ∷ ws) = zero ∷ up_to ws
up_to (suc n ∷ ws) = suc n ∷ []
