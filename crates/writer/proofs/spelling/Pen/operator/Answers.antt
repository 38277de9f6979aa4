use Rattle.writer.proofs.Said.{binary_not_like, binary_like, binary_is_not, binary_kind}
use Rattle.writer.proofs.Pens.{◌after◌, wrote_as}
use Rattle.writer.proofs.spelling.Pen.operator.Goals as goal

pub returns-then-d-ge-NOT_LIKE : goal.returns-then-d-ge-NOT_LIKE
returns-then-d-ge-NOT_LIKE c = wrote_as (binary_not_like _ c.if-d-ge-NOT_LIKE.true) (c.word.ensures after c.put.ensures)

pub returns-then-d-ge-LIKE : goal.returns-then-d-ge-LIKE
returns-then-d-ge-LIKE c = wrote_as (binary_like _ c.if-d-ge-NOT_LIKE.false c.if-d-ge-LIKE.true) c.put-then-d-ge-LIKE.ensures

pub returns-then-d-eq-IS_NOT : goal.returns-then-d-eq-IS_NOT
returns-then-d-eq-IS_NOT c = wrote_as (binary_is_not _ c.if-d-ge-NOT_LIKE.false c.if-d-ge-LIKE.false c.if-d-eq-IS_NOT.true) c.words.ensures

pub returns-else-d-eq-IS_NOT : goal.returns-else-d-eq-IS_NOT
returns-else-d-eq-IS_NOT c = wrote_as (binary_kind _ c.if-d-ge-NOT_LIKE.false c.if-d-ge-LIKE.false c.if-d-eq-IS_NOT.false) c.word-else-d-eq-IS_NOT.ensures
