use Rattle.scribe.proofs.Command.{whole_read, writes_unequal, writes_refused}
use mathlib.Core.Path.{ap, ◌∙◌, subst⁻¹}
use Rattle.std.proofs.lemmas.Result.{err_from_is_err_and}
use Rattle.std.proofs.Common.{Err}
use native.Mathlib.Omega.{arith}
use Rattle.writer.proofs.Calls.{few_records}
use Rattle.reader.specs.Answers.{number, place, Plain}
use Rattle.grammar.specs.Promise.{Writes}
use Rattle.writer.proofs.write.Goals as goal

pub returns-then-out_kinds-out_texts : goal.returns-then-out_kinds-out_texts
returns-then-out_kinds-out_texts c = (writes_unequal c.if-out_kinds-out_texts.true, omega arith)

pub returns-in_err-records : goal.returns-in_err-records
returns-in_err-records c =
    let p = err_from_is_err_and c.from_residual.result c.from_residual.ensures.1 in
    subst⁻¹ (λ z. Writes c.args.kinds.now c.args.texts.now c.args.nodes.now c.args.out_kinds.now c.args.out_texts.now (number z) (place z) c.read.new.nodes c.args.out_kinds.now c.args.out_texts.now × Plain z)
    (p.1 ∙ ap Err p.2) (writes_refused c.if-out_kinds-out_texts.false c.in_err-records.ensures.0 c.in_err-records.ensures.2, c.in_err-records.ensures.2)

pub overflow_cast-records : goal.overflow_cast-records
overflow_cast-records c = let k = few_records c.in_ok-records.ensures.0 c.in_ok-records.ensures.1 in omega (arith, k)

pub walks-requires : goal.walks-requires
walks-requires c = (whole_read c.in_ok-records.ensures.0, few_records c.in_ok-records.ensures.0 c.in_ok-records.ensures.1, c.if-out_kinds-out_texts.false)

pub returns : goal.returns
returns c = (c.walks.ensures.0 c.args.kinds.now c.args.texts.now c.args.nodes.now c.in_ok-records.ensures.0, c.walks.ensures.1)
