use mathlib.Core.List.{List}
use mathlib.Core.Path.{◌≡◌}
use Prim.Native.Nat.{ℕ, ◌<◌, ◌≤◌, ◌*◌}
use lib.ListN.{length}
use Rattle.reader.specs.Turning.{Turned}
use Rattle.reader.proofs.table.reverse.Given as goal

abbrev pub invariant-loop-a : goal.invariant-loop-a
invariant-loop-a l = (l.b ≤ length l.nodes) × (l.a < 262144) × (l.b < 262144) × (length l.nodes ≡ length l.initial.nodes) × ((E : List ℕ) → Turned l.initial.nodes (l.from * 4) (l.to * 4) E → Turned l.nodes l.a l.b E)

abbrev pub decreases-loop-a : goal.decreases-loop-a
decreases-loop-a l = l.b
