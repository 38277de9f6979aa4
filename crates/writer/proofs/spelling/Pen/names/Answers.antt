use Rattle.writer.proofs.Leaves.{children_at_lem}
use Rattle.writer.proofs.Loops.{left, member_then, member_last, members_done}
use Rattle.scribe.proofs.Turns.{row_yet}
use mathlib.Core.Path.{refl}
use Rattle.writer.proofs.spelling.Pen.names.Goals as goal

pub loop-left-init : goal.loop-left-init
loop-left-init c = λ w. left (row_yet _ w (children_at_lem c.children-left.ensures w.there) c.last-j.ensures)

pub loop-left-preserved-then-left-gt0 : goal.loop-left-preserved-then-left-gt0
loop-left-preserved-then-left-gt0 c = λ w. member_then (c.loop-left.invariant w) c.name.ensures.told c.word.ensures c.before-j.ensures refl c.if-left-gt0.true

pub loop-left-preserved : goal.loop-left-preserved
loop-left-preserved c = λ w. member_last _ (c.loop-left.invariant w) c.name.ensures.told c.before-j.ensures refl c.loop-left-test.true c.if-left-gt0.false

pub returns : goal.returns
returns c = record { told = λ w. members_done _ (c.loop-left.invariant w) c.loop-left-test.false }
