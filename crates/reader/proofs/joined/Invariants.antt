use Prim.Native.Nat.{◌-◌, ◌≤◌, ℕ, ◌+◌}
use Rattle.reader.specs.Bounds.{tokens, kinds_of, texts_of}
use Rattle.descent.proofs.Walk.{join_w}
use Rattle.words.specs.Flags.{NO_FLAGS}
use mathlib.Core.Path.{◌≡◌}
use Rattle.reader.proofs.joined.Given as goal

abbrev pub invariant-loop-kind : goal.invariant-loop-kind
invariant-loop-kind l = ((l.at ≤ tokens l.lists) × (l.from ≤ l.at) × (l.flags ≤ 63) × (l.words ≤ 3)) × (more : ℕ) × (more + l.words ≡ 3) × (join_w (kinds_of l.lists) (texts_of l.lists) 3 l.from NO_FLAGS ≡ join_w (kinds_of l.lists) (texts_of l.lists) more l.at l.flags)

abbrev pub decreases-loop-kind : goal.decreases-loop-kind
decreases-loop-kind l = tokens l.lists - l.at
