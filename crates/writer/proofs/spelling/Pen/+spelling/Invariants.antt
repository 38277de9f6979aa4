-- Measures: the record, and a rank. Invariants: the bounds, and the walk so far: what was written, and what is yet to be.
-- Assumes nothing.
use Rattle.writer.specs.Pages.{rank}
use Rattle.writer.specs.Pages.{nodes_of}
use Rattle.scribe.proofs.Parts.{Terms, terms_toks, Term, Many, Coded, whens_toks}
use Rattle.kinds.specs.Kinds.{COMMA}
use Rattle.grammar.specs.Writing.{tok, at, joined, parted, rows}
use Rattle.scribe.proofs.Clauses.{children_at}
use Prim.Native.Nat.{◌-◌, ◌*◌, ◌+◌, ◌≤◌, ◌<◌}
use Rattle.scribe.proofs.Lists.{case_toks}
use Rattle.shapes.specs.Shape.{an_expr, a_from, list_of}
use Rattle.scribe.proofs.Whole.{piece_at, Whole}
use Rattle.scribe.proofs.Turns.{FromRest, CaseRest}
use Rattle.canon.proofs.Folds.{P}
use Rattle.grammar.specs.NodeNames.{node_values, node_case}
use Rattle.writer.proofs.Loops.{Left, Going}
use Rattle.writer.proofs.spelling.Pen.+spelling.Given as goal

abbrev pub decreases-args : goal.decreases-args
decreases-args l = rank 8 l.i

abbrev pub decreases-body : goal.decreases-body
decreases-body l = rank 5 l.i

abbrev pub decreases-bounds : goal.decreases-bounds
decreases-bounds l = rank 9 l.i

abbrev pub decreases-by : goal.decreases-by
decreases-by l = rank 8 l.i

abbrev pub decreases-call : goal.decreases-call
decreases-call l = rank 9 l.i

abbrev pub decreases-case : goal.decreases-case
decreases-case l = rank 9 l.i

abbrev pub decreases-cast : goal.decreases-cast
decreases-cast l = rank 9 l.i

abbrev pub decreases-clause : goal.decreases-clause
decreases-clause l = rank 14 l.i

abbrev pub decreases-constraint : goal.decreases-constraint
decreases-constraint l = rank 3 l.i

abbrev pub decreases-ex : goal.decreases-ex
decreases-ex l = rank 12 l.end

abbrev pub decreases-expr : goal.decreases-expr
decreases-expr l = rank 13 l.i

abbrev pub decreases-from : goal.decreases-from
decreases-from l = rank 5 l.i

abbrev pub decreases-group : goal.decreases-group
decreases-group l = rank 2 l.i

abbrev pub decreases-inner : goal.decreases-inner
decreases-inner l = rank 9 l.i

abbrev pub decreases-joining : goal.decreases-joining
decreases-joining l = rank 4 l.i

abbrev pub decreases-limit : goal.decreases-limit
decreases-limit l = rank 5 l.i

abbrev pub decreases-list : goal.decreases-list
decreases-list l = rank 7 l.i

abbrev pub decreases-on : goal.decreases-on
decreases-on l = rank 3 l.i

abbrev pub decreases-operand : goal.decreases-operand
decreases-operand l = rank 11 l.i

abbrev pub decreases-prefix : goal.decreases-prefix
decreases-prefix l = rank 9 l.i

abbrev pub decreases-query : goal.decreases-query
decreases-query l = rank 6 l.i

abbrev pub decreases-rest : goal.decreases-rest
decreases-rest l = rank 11 l.i

abbrev pub decreases-select : goal.decreases-select
decreases-select l = rank 4 l.i

abbrev pub decreases-source : goal.decreases-source
decreases-source l = rank 3 l.i

abbrev pub decreases-tail : goal.decreases-tail
decreases-tail l = rank 3 l.i

abbrev pub decreases-values : goal.decreases-values
decreases-values l = rank 4 l.i

abbrev pub decreases-whens : goal.decreases-whens
decreases-whens l = rank 8 l.i

abbrev pub decreases-within : goal.decreases-within
decreases-within l = rank 10 l.i

abbrev pub invariant-ex-loop-self : goal.invariant-ex-loop-self
invariant-ex-loop-self l = (l.pairs + l.i ≤ l.end) × ((t : Term (nodes_of l.pages) l.end) → Going l.pages l.initial.self l.self l.i l.s l.pairs (at l.ask (piece_at t.whole)))

abbrev pub decreases-ex-loop-self : goal.decreases-ex-loop-self
decreases-ex-loop-self l = l.i

abbrev pub invariant-from-loop : goal.invariant-from-loop
invariant-from-loop l = (l.j < l.i) × ((w : Whole a_from (nodes_of l.pages) l.i) → Left joined (FromRest (nodes_of l.pages)) l.pages l.initial.self l.self l.j (l.parts - l.counter) (joined (P w.kids)))

abbrev pub invariant-list-loop-left : goal.invariant-list-loop-left
invariant-list-loop-left l = (l.j < l.i) × ((t : Terms (nodes_of l.pages) l.i) → Left (parted (tok COMMA)) (Many t.class (nodes_of l.pages)) l.pages l.initial.self l.self l.j l.left (terms_toks (nodes_of l.pages) l.i t))

abbrev pub invariant-values-loop-left : goal.invariant-values-loop-left
invariant-values-loop-left l = (l.j < l.i) × ((w : Coded node_values (nodes_of l.pages) l.i) → Left rows (Many (list_of an_expr) (nodes_of l.pages)) l.pages l.initial.self l.self l.j l.left (rows (P w.whole.kids)))

abbrev pub invariant-whens-loop : goal.invariant-whens-loop
invariant-whens-loop l = (l.j < l.i) × ((w : Coded node_case (nodes_of l.pages) l.i) → Left case_toks (CaseRest (nodes_of l.pages)) l.pages l.initial.self l.self l.j ((children_at (nodes_of l.pages) l.i + 2) - 2 * l.counter - 1) (whens_toks (nodes_of l.pages) l.i w))
