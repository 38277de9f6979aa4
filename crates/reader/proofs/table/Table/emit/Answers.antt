use mathlib.Core.Path.{ap}
use native.Mathlib.Omega.{arith}
use Rattle.reader.proofs.Laying.{emitted}
use Rattle.reader.proofs.table.Table.emit.Goals as goal
use Rattle.reader.proofs.table.Table.emit.Goals.{else-base-self, then-base-self}

pub returns : goal.returns
returns c =
    elim c.if-base-self.branch [
      | then-base-self w ↦ let m = ap (λ z. z.made) w.self-is in (omega (arith, m), emitted (ap (λ z. z.nodes.ghost_name) w.self-is) m (λ r. ap (λ z. z.nodes.now) w.self-is))
      | else-base-self w ↦ let m = ap (λ z. z.made) w.self-is in (omega (arith, m), emitted (ap (λ z. z.nodes.ghost_name) w.self-is) m (λ r. absurd (omega (arith, r, w.if-base-self.false))))
    ]
