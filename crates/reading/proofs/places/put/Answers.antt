-- `reading::places::put` meets its contract: its one test is that of `placed`.
-- Assumes nothing.
use borrow.Author.Tests.{lt-ltb, le-ltb}
use Rattle.reading.proofs.places.put.Goals as goal

pub returns-then-at-lt-PLACES : goal.returns-then-at-lt-PLACES
returns-then-at-lt-PLACES c = simp (lt-ltb _ _ c.if-at-lt-PLACES.true)

pub returns-else-at-lt-PLACES : goal.returns-else-at-lt-PLACES
returns-else-at-lt-PLACES c = simp (le-ltb _ _ c.if-at-lt-PLACES.false)
