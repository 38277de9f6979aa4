-- 01's refusals 5 to 8, as a judge's word on a token once it is read: it sees the row that read it, that row's left operand, token and
-- children so far, and two numbers of the rows around it. Definitions only.
use Rattle.std.specs.Prelude.{true, false, Bool, List, ℕ, ◌+◌, ltb, eqb, leb}
use Rattle.theory.specs.Trees.{Tok, Row, Tree, nil, add, leaf, node}
use Rattle.theory.specs.Table.{pick, both}
use Rattle.theory.specs.Judged.{faults_of}
use Rattle.kinds.specs.Kinds.{RP, JOIN}
use Rattle.words.specs.Flags.{NO_FLAGS, flags_of, united, legal}
use Rattle.grammar.specs.RowNames.{row_select, row_values, row_next_row, row_word_join, row_is_not}
use Rattle.grammar.specs.Sizes.{LEVELS, QUERIES}

-- the level of an expression that begins here; the queries that are open
pub record Around : Type 0 where
  pub level : ℕ
  pub opened : ℕ

-- "a clause's or row's expression in the outer query is at 1"
abbrev pub outer : Around
outer = record { level = 1; opened = 0 }

unfoldable pub is_query : ℕ → Bool
is_query c = pick (eqb c row_select) true (λ w. eqb c row_values)

-- an expression is what has a strength; the NOT of IS NOT, which stands where an operand may, is none
abbrev pub is_expression : Row → Bool
is_expression r = pick (eqb r.code row_is_not) false (λ w. leb 1 r.str)

-- "A left operand has its whole's level", for it stands before the row; "every other operand, member, argument or part is one deeper":
-- so is all that stands inside an expression. "Clause expressions of a query inside an expression are one deeper than that
-- expression; of a query in FROM, as deep as the query around it": a query's row has no strength. Inside it one more query is open
unfoldable pub below : Row → Around → Around
below r c = record { level = pick (is_expression r) (c.level + 1) (λ w. c.level); opened = pick (is_query r.code) (c.opened + 1) (λ w. c.opened) }

-- it is the same for every child of a row
abbrev pub under : Row → Tree → Tok → Tree → Around → Around
under r l t k c = below r c

-- "Flags are united as bits": those of the second and third join word
unfoldable pub further_flags : Tree → ℕ
further_flags nil = NO_FLAGS
further_flags (add f x) = united (further_flags f) (further_flags x)
further_flags (leaf t) = NO_FLAGS
further_flags (node r l t f) = united (flags_of t.text) (further_flags f)

-- how many members { , member } has
unfoldable pub members : Tree → ℕ
members nil = 0
members (add f x) = 0
members (leaf t) = 0
members (node r l t f) = members l + 1

-- the last child, and those before it
unfoldable pub last_child : Tree → Tree
last_child nil = nil
last_child (add f x) = x
last_child (leaf t) = nil
last_child (node r l t f) = nil

unfoldable pub children_before : Tree → Tree
children_before nil = nil
children_before (add f x) = f
children_before (leaf t) = nil
children_before (node r l t f) = nil

-- the length of a row of VALUES, from its children: .. expression, { , expression }, RP
unfoldable pub width : Tree → ℕ
width k = members (last_child (children_before k)) + 1

-- of the rows before a further row: the length of the last, which is the first's, for each was held to the one before it
unfoldable pub width_of : Tree → ℕ
width_of nil = 0
width_of (add f x) = 0
width_of (leaf t) = 0
width_of (node r l t f) = width f

-- where a row begins: "5 | a level-65 expression starts"; "6 | a 17th query opens"
unfoldable pub begun : Around → Row → Tree → ℕ
begun c r nil = pick (both (is_expression r) (ltb LEVELS c.level)) 5 (λ w. pick (both (is_query r.code) (leb QUERIES c.opened)) 6 (λ w. 0))
begun c r (add f x) = 0
begun c r (leaf t) = 0
begun c r (node q l t f) = 0

unfoldable pub is_kind : ℕ → Tree → Bool
is_kind k nil = false
is_kind k (add f x) = false
is_kind k (leaf u) = eqb u.kind k
is_kind k (node r l t f) = false

-- "7 | join flags refused | JOIN"; "8 | row length differs from the first | the row's RP"
unfoldable pub judge : Around → Row → Tree → Tok → Tree → ℕ
judge c r l t nil = begun c r l
judge c r l t (add k x) = pick (both (eqb r.code row_word_join) (is_kind JOIN x)) (pick (legal (united (flags_of t.text) (further_flags k))) 0 (λ w. 7))
    (λ w. pick (both (eqb r.code row_next_row) (is_kind RP x)) (pick (eqb (width (add k x)) (width_of l)) 0 (λ w. 8)) (λ w. 0))
judge c r l t (leaf u) = 0
judge c r l t (node q m u f) = 0

-- the limits' words on a command, one a token: 0, or the refusal's number
abbrev pub limits : Tree → List ℕ
limits x = faults_of Around under judge outer x
