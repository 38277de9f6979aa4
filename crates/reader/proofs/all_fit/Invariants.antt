use Rattle.std.proofs.Common.{◌≡◌, ℕ, ◌<◌, ◌≤◌, length, get_or}
use Rattle.reader.proofs.Fitness.{FitAt}
use Rattle.reader.specs.Laying.{FitLists}
use Rattle.reader.proofs.all_fit.Given as goal

abbrev pub invariant-loop-kind : goal.invariant-loop-kind
invariant-loop-kind l = (l.bad ≡ 0 → (j : ℕ) → j < length l.yielded → get_or l.kinds j 0 ≡ 40 → get_or l.texts j 0 ≤ 3) × (l.bad ≡ 0 → (j : ℕ) → j < length l.yielded → FitAt l.kinds l.texts j) × (FitLists l.kinds l.texts → l.bad ≡ 0)
