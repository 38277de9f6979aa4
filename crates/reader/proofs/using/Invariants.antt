use Prim.Native.Nat.{◌*◌, ◌+◌, ◌-◌, ◌≤◌}
use Rattle.reader.specs.Bounds.{tokens, kinds_of, texts_of}
use Rattle.descent.proofs.Walk.{names_w}
use Rattle.reader.specs.Laying.{Onward}
use Rattle.reader.proofs.using.Given as goal

abbrev pub invariant-loop-d : goal.invariant-loop-d
invariant-loop-d l = ((l.at ≤ tokens l.lists) × (l.from + 1 ≤ l.at) × (l.initial.table.made ≤ l.table.made) × (l.table.made + 8 * (l.from + 1) ≤ l.initial.table.made + 8 * l.at) × (l.n + l.from ≤ l.at)) × Onward l.initial.table l.table (λ f. names_w (kinds_of l.lists) (texts_of l.lists) f (l.from + 1) 0) (λ f. names_w (kinds_of l.lists) (texts_of l.lists) f l.at l.n)

abbrev pub decreases-loop-d : goal.decreases-loop-d
decreases-loop-d l = tokens l.lists - l.at
