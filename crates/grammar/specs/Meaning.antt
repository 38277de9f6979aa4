-- "Meaning: the reading with bare alias as AS, ALL as no word, ASC as no word, and each one-child code 33 replaced by its child, sizes
-- following." Definitions only.
use Rattle.std.specs.Prelude.{false, Bool, ℕ, ◌+◌, ◌*◌, ◌%◌, ◌/◌, eqb}
use Rattle.theory.specs.Table.{pick, both}
use Rattle.grammar.specs.NodeNames.{node_select, node_column, node_table, node_query_source, node_sort, node_parens}
use Rattle.grammar.specs.Nodes.{Nodes, end, mk, beside}
use Rattle.grammar.specs.Reading.{choose, is_end}

-- an alias mode (0 none, 1 AS, 2 bare) with "bare alias as AS"
abbrev pub alias_plain : ℕ → ℕ
alias_plain m = choose (eqb m 2) 1 m

-- 0, 1 DISTINCT, 2 ALL, with "ALL as no word"
abbrev pub word_plain : ℕ → ℕ
word_plain m = choose (eqb m 2) 0 m

-- 0, 1 ASC, 2 DESC, with "ASC as no word"
abbrev pub way_plain : ℕ → ℕ
way_plain m = choose (eqb m 1) 0 m

-- a detail's number below 4, changed; what stands above it (index, NULLS) kept
abbrev pub low : (ℕ → ℕ) → ℕ → ℕ
low f d = f (d % 4) + (d / 4) * 4

unfoldable pub plain_detail : ℕ → ℕ → ℕ
plain_detail c d =
    pick (eqb c node_select) (word_plain d)
    (λ w. pick (eqb c node_column) (alias_plain d)
    (λ w. pick (eqb c node_table) (low alias_plain d)
    (λ w. pick (eqb c node_query_source) (alias_plain d)
    (λ w. pick (eqb c node_sort) (low way_plain d) (λ w. d)))))

unfoldable pub is_one : Nodes → Bool
is_one end = false
is_one (mk c d ks ns) = is_end ns

-- a node over its children, unless it is "one-child code 33"
unfoldable pub unwrapped : ℕ → ℕ → Nodes → Nodes
unwrapped c d ks = choose (both (eqb c node_parens) (is_one ks)) ks (mk c d ks end)

unfoldable pub meaning : Nodes → Nodes
meaning end = end
meaning (mk c d ks ns) = beside (unwrapped c (plain_detail c d) (meaning ks)) (meaning ns)
