use Rattle.writer.specs.Pages.{Walks}
use Rattle.writer.proofs.Moves.{coded}
use Rattle.scribe.proofs.Spelt.{query_is}
use mathlib.Core.Path.{refl, ap, subst⁻¹}
use mathlib.Core.List.{List, ◌++◌}
use Prim.Native.Nat.{ℕ, ◌-◌}
use lib.ListN.{length}
use native.Mathlib.Omega.{arith}
use Rattle.writer.proofs.Calls.{counted, walks_short, walks_whole, spells_in}
use Rattle.descent.proofs.Borrowed.{none_left}
use Rattle.writer.proofs.walks.Goals as goal

pub walk-count-requires : goal.walk-count-requires
walk-count-requires c = coded c.requires.0 (query_is c.requires.0)

pub overflow_sub-count : goal.overflow_sub-count
overflow_sub-count c = let k = counted c.requires.1 c.walk-count.ensures c.requires.0 in omega (arith, k)

pub returns-then-need-out_kinds : goal.returns-then-need-out_kinds
returns-then-need-out_kinds c = (subst⁻¹ (λ (z : List ℕ). Walks c.args.nodes.now c.args.records c.args.out_kinds.now c.args.out_texts.now 10 (1048576 - c.walk-count.result) z c.args.out_texts.now) (ap (λ z. z ++ c.args.out_kinds.now) (none_left c.walk-count.new.out c.walk-count.auto.out)) (walks_short c.requires.1 c.walk-count.ensures refl c.requires.2 (let k = ap length (ap (λ z. z ++ c.args.out_kinds.now) (none_left c.walk-count.new.out c.walk-count.auto.out)) in omega (arith, k, c.if-need-out_kinds.true))), omega arith)

pub walk-requires : goal.walk-requires
walk-requires c = coded c.requires.0 (query_is c.requires.0)

pub walk-requires-2 : goal.walk-requires-2
walk-requires-2 c = coded c.requires.0 (query_is c.requires.0)

pub returns : goal.returns
returns c = (walks_whole c.requires.1 c.walk-count.ensures refl c.requires.2 (let k = ap length (ap (λ z. z ++ c.args.out_kinds.now) (none_left c.walk-count.new.out c.walk-count.auto.out)) in omega (arith, k, c.if-need-out_kinds.false)) (spells_in (ap (λ z. z ++ c.args.out_kinds.now) (none_left c.walk-count.new.out c.walk-count.auto.out)) c.walk.ensures) c.walk-2.ensures, tt)
