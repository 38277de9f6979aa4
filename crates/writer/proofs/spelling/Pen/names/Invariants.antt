use Rattle.writer.specs.Pages.{nodes_of}
use Rattle.scribe.proofs.Parts.{Row, Many}
use Rattle.grammar.specs.Writing.{tok, parted}
use Rattle.canon.proofs.Folds.{P}
use Rattle.shapes.specs.Shape.{a_name}
use Rattle.writer.proofs.Loops.{Left}
use Rattle.writer.proofs.spelling.Pen.names.Given as goal

abbrev pub invariant-loop-left : goal.invariant-loop-left
invariant-loop-left l = (w : Row a_name (nodes_of l.pages) l.i) → Left (parted (tok l.separator)) (Many a_name (nodes_of l.pages)) l.pages l.initial.self l.self l.j l.left (parted (tok l.separator) (P w.kids))
