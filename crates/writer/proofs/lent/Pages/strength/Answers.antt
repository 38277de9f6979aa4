use Rattle.writer.proofs.Said.{str_above}
use Rattle.scribe.proofs.Spelt.{str_prefix, str_binary, str_collate, str_test, str_operand, str_none}
use Rattle.kinds.proofs.Small.{prefix_small}
use mathlib.Core.Path.{sym, ◌∙◌}
use native.Mathlib.Omega.{arith}
use Rattle.writer.proofs.lent.Pages.strength.Goals as goal

pub returns-in-38 : goal.returns-in-38
returns-in-38 c = (c.prefix.ensures ∙ sym (str_prefix _ _ c.in-38.is), let e = c.prefix.ensures in let s = prefix_small c.args.detail in omega (arith, e, s))

pub returns-in-39 : goal.returns-in-39
returns-in-39 c = (c.binding.ensures.0 ∙ sym (str_binary _ _ c.in-39.is), c.binding.ensures.1)

pub returns-in-44 : goal.returns-in-44
returns-in-44 c = (sym (str_collate _ _ c.in-44.is), omega arith)

pub returns-in-24-to-37 : goal.returns-in-24-to-37
returns-in-24-to-37 c = (sym (str_operand _ _ c.in-24-to-37.if-code-lt24-own.false (let h = c.in-24-to-37.if-code-lt38-own.true in omega (arith, h))), omega arith)

pub returns-in-40-to-43 : goal.returns-in-40-to-43
returns-in-40-to-43 c = (sym (str_test _ _ (let h = c.in-40-to-43.if-code-lt38-own.false in let g = c.in-40-to-43.in_default-own.rest in omega (arith, h, c.in-40-to-43.in_default-own.rest.0.0.1, c.in-40-to-43.in_default-own.rest.0.1)) (let h = c.in-40-to-43.if-code-lt44-own.true in omega (arith, h))), omega arith)

pub returns-in_default : goal.returns-in_default
returns-in_default c = (sym (str_none _ _ c.in_default.if-code-lt24-own.true), omega arith)

pub returns-in_default-2 : goal.returns-in_default-2
returns-in_default-2 c = (sym (str_above _ _ (let h = c.in_default.if-code-lt44-own.false in omega (arith, h, c.in_default.in_default-own.rest.1))), omega arith)
