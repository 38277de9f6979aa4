-- `report::table::changed` meets its contract: what the search of the numbers from `from` on found.
-- Assumes nothing.
use Rattle.std.proofs.Common.{rules, ◌≡◌, arith}
use Rattle.std.proofs.lemmas.Iterator.{YieldsList-from_slice, IsFirst-from_position}
use Rattle.report.proofs.TableSteps.{first_none, none_found, one_found}
use Rattle.report.proofs.table.changed.Goals as goal

pub returns-then-is_clear : goal.returns-then-is_clear
returns-then-is_clear c =
    let tail = c.in_ok-tail.ensures.lookup.0 in
    first_none _ _ _ tail.2 tail.0 tail.3 (λ k below. c.is_clear.ensures c.if-is_clear.true k below (omega arith))

pub returns-in_err-i : goal.returns-in_err-i
returns-in_err-i c =
    let tail = c.in_ok-tail.ensures.lookup.0 in
    let found = IsFirst-from_position _ _ c.position.result (λ n. n ≡ 0 → ⊥) (λ n. n ≡ 0) c.position.ensures.ran (YieldsList-from_slice c.in_ok-tail.tail.now cc) (λ x q k. search rules) (λ x q k. search rules) in
    rw c.from_residual-in_err-i.ensures (none_found _ _ _ tail.2 tail.0 tail.3 _ c.in_err-i.was found)

pub returns : goal.returns
returns c =
    let tail = c.in_ok-tail.ensures.lookup.0 in
    let found = IsFirst-from_position _ _ c.position.result (λ n. n ≡ 0 → ⊥) (λ n. n ≡ 0) c.position.ensures.ran (YieldsList-from_slice c.in_ok-tail.tail.now cc) (λ x q k. search rules) (λ x q k. search rules) in
    one_found _ _ _ tail.2 tail.0 tail.3 _ _ c.in_ok-i.was found
