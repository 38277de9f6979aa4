use Rattle.writer.proofs.Said.{BaredTo}
use Rattle.writer.proofs.lent.Pages.bare.Given as goal

abbrev pub invariant-loop-i : goal.invariant-loop-i
invariant-loop-i l = BaredTo l.self l.end l.i

abbrev pub decreases-loop-i : goal.decreases-loop-i
decreases-loop-i l = l.i
