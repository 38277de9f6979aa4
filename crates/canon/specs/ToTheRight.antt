-- A NOT to the right: one that begins an expression where more than its own strength is asked, so the right operand of a binary operator of
-- strengths 4 to 9 or a bound of BETWEEN. It alone makes a writing deeper than its command. Definitions only.
use Rattle.std.specs.Prelude.{true, false, Bool, List, [], ◌∷◌, ℕ, ◌+◌, zero, suc, ltb, eqb}
use Rattle.theory.specs.Trees.{Tok, Item, lit, nt, Row, Tree, nil, add, leaf, node}
use Rattle.theory.specs.Table.{pick, both}
use Rattle.theory.specs.Judged.{AllZero, faults_of}
use Rattle.kinds.specs.Kinds.{NOT}
use Rattle.kinds.specs.Strength.{prefix_of}
use Rattle.grammar.specs.Limits.{is_expression}

-- the strength that is asked of what stands for an item, after the first n
unfoldable pub asked_at : List Item → ℕ → ℕ
asked_at [] n = 0
asked_at (lit k ∷ is) zero = 0
asked_at (nt B ∷ is) zero = B.least
asked_at (lit k ∷ is) (suc n) = asked_at is n
asked_at (nt B ∷ is) (suc n) = asked_at is n

unfoldable pub parts_so_far : Tree → ℕ
parts_so_far nil = 0
parts_so_far (add f x) = parts_so_far f + 1
parts_so_far (leaf t) = 0
parts_so_far (node r l t f) = 0

-- the strength that a row asks of its next part, after the parts_so_far k
abbrev pub asking : Row → Tree → Tok → Tree → ℕ → ℕ
asking r l t k s = asked_at r.items (parts_so_far k)

unfoldable pub is_absent : Tree → Bool
is_absent nil = true
is_absent (add f x) = false
is_absent (leaf t) = false
is_absent (node r l t f) = false

-- the word on a token: 1, if it is such a NOT. s is asked; l stands to its left in its own row, and k after it so far
unfoldable pub right_not : ℕ → Row → Tree → Tok → Tree → ℕ
right_not s r l t k = pick (both (both (is_absent l) (is_absent k)) (both (is_expression r) (both (eqb t.kind NOT) (ltb (prefix_of NOT) s)))) 1 (λ w. 0)

abbrev pub NoneToTheRight : Tree → Type 0
NoneToTheRight x = AllZero (faults_of ℕ asking right_not 0 x)
