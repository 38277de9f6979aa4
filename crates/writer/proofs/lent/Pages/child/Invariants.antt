use Rattle.writer.specs.Pages.{nodes_of}
use Rattle.scribe.proofs.Leading.{backs}
use mathlib.Core.Path.{◌≡◌}
use Prim.Native.Nat.{◌-◌}
use Rattle.writer.proofs.lent.Pages.child.Given as goal

abbrev pub invariant-loop : goal.invariant-loop
invariant-loop l = backs (nodes_of l.self) (l.n - l.counter) l.j ≡ backs (nodes_of l.self) l.n (l.i - 1)
