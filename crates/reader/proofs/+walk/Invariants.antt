-- Measures: what is left of the tokens, and a rank. Invariants: the bounds, and the walk so far.
-- Assumes nothing.
use Rattle.reader.specs.Bounds.{rank}
use Prim.Native.Nat.{ℕ, ◌+◌, ◌≤◌, ◌*◌, ◌-◌}
use Rattle.descent.proofs.Walk.{cols_w, joins_w, list_w, ops_w, rows_w, terms_w, when_w}
use Rattle.reader.specs.Laying.{Packed, Onward, Laid, Later}
use mathlib.Core.Path.{◌≡◌}
use Rattle.reader.specs.Bounds.{kinds_of, texts_of, tokens}
use Rattle.grammar.specs.Limits.{Around}
use Rattle.reader.specs.declared.Step.{Step}
use Rattle.reader.specs.declared.table.Table.{Table}
use Rattle.reader.proofs.+walk.Given as goal

abbrev pub decreases-after : goal.decreases-after
decreases-after l = rank 0 l.lists.now l.at

abbrev pub decreases-among : goal.decreases-among
decreases-among l = rank 0 l.lists.now l.at

abbrev pub decreases-binary : goal.decreases-binary
decreases-binary l = rank 4 l.lists.now l.at

abbrev pub decreases-body : goal.decreases-body
decreases-body l = rank 0 l.lists.now l.at

abbrev pub decreases-call : goal.decreases-call
decreases-call l = rank 5 l.lists.now l.at

abbrev pub decreases-case : goal.decreases-case
decreases-case l = rank 5 l.lists.now l.at

abbrev pub decreases-cased : goal.decreases-cased
decreases-cased l = rank 4 l.lists.now l.at

abbrev pub decreases-cast : goal.decreases-cast
decreases-cast l = rank 1 l.lists.now l.at

abbrev pub decreases-clause : goal.decreases-clause
decreases-clause l = rank 0 l.lists.now l.at

abbrev pub decreases-col : goal.decreases-col
decreases-col l = rank 4 l.lists.now l.at

abbrev pub decreases-cols : goal.decreases-cols
decreases-cols l = rank 5 l.lists.now l.from

abbrev pub decreases-ex : goal.decreases-ex
decreases-ex l = rank 2 l.lists.now l.at

abbrev pub decreases-exists : goal.decreases-exists
decreases-exists l = rank 0 l.lists.now l.at

abbrev pub decreases-expr : goal.decreases-expr
decreases-expr l = rank 3 l.lists.now l.at

abbrev pub decreases-from : goal.decreases-from
decreases-from l = rank 0 l.lists.now l.at

abbrev pub decreases-group : goal.decreases-group
decreases-group l = rank 0 l.lists.now l.at

abbrev pub decreases-joins : goal.decreases-joins
decreases-joins l = rank 0 l.lists.now l.from

abbrev pub decreases-leaf : goal.decreases-leaf
decreases-leaf l = rank 0 l.lists.now l.at

abbrev pub decreases-limit : goal.decreases-limit
decreases-limit l = rank 0 l.lists.now l.at

abbrev pub decreases-list : goal.decreases-list
decreases-list l = rank 4 l.lists.now l.from

abbrev pub decreases-on : goal.decreases-on
decreases-on l = rank 0 l.lists.now l.at

abbrev pub decreases-op : goal.decreases-op
decreases-op l = rank 0 l.lists.now l.at

abbrev pub decreases-operand : goal.decreases-operand
decreases-operand l = rank 1 l.lists.now l.at

abbrev pub decreases-ops : goal.decreases-ops
decreases-ops l = rank 1 l.lists.now l.from

abbrev pub decreases-paren : goal.decreases-paren
decreases-paren l = rank 5 l.lists.now l.at

abbrev pub decreases-parts : goal.decreases-parts
decreases-parts l = rank 1 l.lists.now l.at

abbrev pub decreases-query : goal.decreases-query
decreases-query l = rank 1 l.lists.now l.at

abbrev pub decreases-range : goal.decreases-range
decreases-range l = rank 4 l.lists.now l.at

abbrev pub decreases-row : goal.decreases-row
decreases-row l = rank 0 l.lists.now l.at

abbrev pub decreases-rows : goal.decreases-rows
decreases-rows l = rank 1 l.lists.now l.from

abbrev pub decreases-select : goal.decreases-select
decreases-select l = rank 6 l.lists.now l.at

abbrev pub decreases-sign : goal.decreases-sign
decreases-sign l = rank 0 l.lists.now l.at

abbrev pub decreases-sort : goal.decreases-sort
decreases-sort l = rank 0 l.lists.now l.from

abbrev pub decreases-source : goal.decreases-source
decreases-source l = rank 1 l.lists.now l.at

abbrev pub decreases-src : goal.decreases-src
decreases-src l = rank 0 l.lists.now l.at

abbrev pub decreases-sub : goal.decreases-sub
decreases-sub l = rank 2 l.lists.now l.at

abbrev pub decreases-tail : goal.decreases-tail
decreases-tail l = rank 1 l.lists.now l.at

abbrev pub decreases-when : goal.decreases-when
decreases-when l = rank 1 l.lists.now l.from

abbrev pub invariant-cols-loop-d : goal.invariant-cols-loop-d
invariant-cols-loop-d l = ((l.at ≤ tokens l.lists) × (l.from ≤ l.at) × (l.initial.table.made ≤ l.table.made) × (l.table.made + 8 * l.from ≤ l.initial.table.made + 8 * l.at) × (l.n + l.from ≤ l.at)) × ((a : Around) → Packed a 1 l.ask → Onward l.initial.table l.table (λ f. cols_w (kinds_of l.lists) (texts_of l.lists) f l.from a 0) (λ f. cols_w (kinds_of l.lists) (texts_of l.lists) f l.at a l.n))

abbrev pub decreases-cols-loop-d : goal.decreases-cols-loop-d
decreases-cols-loop-d l = tokens l.lists - l.at

abbrev pub invariant-joins-loop-ask : goal.invariant-joins-loop-ask
invariant-joins-loop-ask l = ((l.at ≤ tokens l.lists) × (l.from ≤ l.at) × (l.initial.table.made ≤ l.table.made) × (l.table.made + 8 * l.from ≤ l.initial.table.made + 8 * l.at) × (l.n + l.from ≤ l.at)) × ((a : Around) → Packed a 1 l.ask → Onward l.initial.table l.table (λ f. joins_w (kinds_of l.lists) (texts_of l.lists) f l.from a 0) (λ f. joins_w (kinds_of l.lists) (texts_of l.lists) f l.at a l.n))

abbrev pub decreases-joins-loop-ask : goal.decreases-joins-loop-ask
decreases-joins-loop-ask l = tokens l.lists - l.at

abbrev pub invariant-list-loop-d : goal.invariant-list-loop-d
invariant-list-loop-d l = ((l.at ≤ tokens l.lists) × (l.from ≤ l.at) × (l.initial.table.made ≤ l.table.made) × (l.table.made + 8 * l.from ≤ l.initial.table.made + 8 * l.at) × (l.n + l.from ≤ l.at)) × ((a : Around) → Packed a 1 l.ask → Onward l.initial.table l.table (λ f. list_w (kinds_of l.lists) (texts_of l.lists) f l.from a 0) (λ f. list_w (kinds_of l.lists) (texts_of l.lists) f l.at a l.n))

abbrev pub decreases-list-loop-d : goal.decreases-list-loop-d
decreases-list-loop-d l = tokens l.lists - l.at

abbrev pub invariant-ops-loop-ask : goal.invariant-ops-loop-ask
invariant-ops-loop-ask l = ((l.at ≤ tokens l.lists) × (l.from ≤ l.at) × (l.initial.table.made ≤ l.table.made) × (l.table.made + 8 * l.from ≤ l.initial.table.made + 8 * l.at) × (l.left ≤ 127)) × ((a : Around) (s₁ pre : ℕ) → Packed a s₁ l.ask → l.initial.table.made ≡ l.base + pre → (r : Step) (t : Table) → Later (λ f. (z : ℕ) → l.table.made ≡ l.base + z → Laid l.table t (ops_w (kinds_of l.lists) (texts_of l.lists) f l.at a s₁ l.left z) r) → Later (λ f. Laid l.initial.table t (ops_w (kinds_of l.lists) (texts_of l.lists) f l.from a s₁ l.first pre) r))

abbrev pub decreases-ops-loop-ask : goal.decreases-ops-loop-ask
decreases-ops-loop-ask l = tokens l.lists - l.at

abbrev pub invariant-rows-loop-n_d : goal.invariant-rows-loop-n_d
invariant-rows-loop-n_d l = ((l.at ≤ tokens l.lists) × (l.from ≤ l.at) × (l.initial.table.made ≤ l.table.made) × (l.table.made + 8 * l.from ≤ l.initial.table.made + 8 * l.at) × (l.rows + l.from ≤ l.at)) × ((a : Around) → Packed a 1 l.ask → Onward l.initial.table l.table (λ f. rows_w (kinds_of l.lists) (texts_of l.lists) f l.from a 0 0) (λ f. rows_w (kinds_of l.lists) (texts_of l.lists) f l.at a l.rows l.width))

abbrev pub decreases-rows-loop-n_d : goal.decreases-rows-loop-n_d
decreases-rows-loop-n_d l = tokens l.lists - l.at

abbrev pub invariant-sort-loop-d : goal.invariant-sort-loop-d
invariant-sort-loop-d l = ((l.at ≤ tokens l.lists) × (l.from + 1 ≤ l.at) × (l.initial.table.made ≤ l.table.made) × (l.table.made + 8 * (l.from + 1) ≤ l.initial.table.made + 8 * l.at) × (l.n + l.from + 1 ≤ l.at)) × ((a : Around) → Packed a 1 l.ask → Onward l.initial.table l.table (λ f. terms_w (kinds_of l.lists) (texts_of l.lists) f (l.from + 1) a 0) (λ f. terms_w (kinds_of l.lists) (texts_of l.lists) f l.at a l.n))

abbrev pub decreases-sort-loop-d : goal.decreases-sort-loop-d
decreases-sort-loop-d l = tokens l.lists - l.at

abbrev pub invariant-when-loop-c : goal.invariant-when-loop-c
invariant-when-loop-c l = ((l.at ≤ tokens l.lists) × (l.from ≤ l.at) × (l.initial.table.made ≤ l.table.made) × (l.table.made + 8 * l.from ≤ l.initial.table.made + 8 * l.at) × (l.n + l.from ≤ l.at)) × ((a : Around) → Packed a 1 l.ask → Onward l.initial.table l.table (λ f. when_w (kinds_of l.lists) (texts_of l.lists) f l.from a 0) (λ f. when_w (kinds_of l.lists) (texts_of l.lists) f l.at a l.n))

abbrev pub decreases-when-loop-c : goal.decreases-when-loop-c
decreases-when-loop-c l = tokens l.lists - l.at
