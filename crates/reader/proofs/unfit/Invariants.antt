use Rattle.std.proofs.Common.{ℕ, ◌<◌}
use Rattle.reader.proofs.Fitness.{FitAt}
use Rattle.reader.proofs.unfit.Given as goal

abbrev pub invariant-loop-i : goal.invariant-loop-i
invariant-loop-i l = (j : ℕ) → j < l.i → FitAt l.kinds l.texts j
