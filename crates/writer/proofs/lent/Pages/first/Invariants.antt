use Rattle.writer.specs.Pages.{nodes_of}
use Rattle.scribe.proofs.Leading.{backs}
use mathlib.Core.Path.{◌≡◌}
use Prim.Native.Nat.{◌-◌, ◌≤◌}
use Rattle.writer.proofs.lent.Pages.first.Given as goal

abbrev pub invariant-loop : goal.invariant-loop
invariant-loop l = (l.j ≤ l.i - 1) × (backs (nodes_of l.self) (l.end - l.counter) l.j ≡ backs (nodes_of l.self) (l.end - 1) (l.i - 1))
