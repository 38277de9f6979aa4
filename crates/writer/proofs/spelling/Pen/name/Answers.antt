use Rattle.writer.proofs.Leaves.{code_of, detail_of}
use Rattle.writer.proofs.Said.{name_said}
use Rattle.writer.proofs.Pens.{wrote_as}
use Rattle.writer.proofs.spelling.Pen.name.Goals as goal

pub returns : goal.returns
returns c = record { told = λ w. wrote_as (name_said w (code_of w c.code.ensures) (detail_of w c.detail.ensures) c.name_kind.ensures) c.put.ensures }
