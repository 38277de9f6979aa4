-- The pen's functions that call each other, one cycle: each writes the tokens of what it is given (scribe/proofs/Parts.antt), made from
-- its callees' by proofs/Moves.antt. Function by function; a goal that has no answer here the check proves by itself. Assumes nothing.
use Rattle.writer.proofs.Leaves.{moved, child_below, before_below, detail_of, code_of, code_at_lem, children_at_lem}
use Rattle.writer.proofs.Said.{expr_term, is_absent, is_there, part_join}
use Rattle.writer.specs.Pages.{nodes_of}
use Rattle.writer.proofs.Moves.{any_terms, args_star, args_list, coded, bounds_by, perhaps_none, perhaps_some, call_name_lem, call_said, case_said, cast_first, cast_type, cast_said, part_there, part_on, constraint_on, constraint_none, strength_at, group_perhaps, inner_there, inner_terms, inner_t, part_src, part_said, on_said, using_said, on_none, in_parens, in_query, operand_code, operand_leaf, names_row, names_said, parens_said, sub_said, operand_prefix, order_perhaps, trails_binary, trails_between, trails_in, in_given, list_terms, list_toks, in_list}
use Rattle.scribe.proofs.Kids.{known, Maybe, may_there}
use Rattle.scribe.proofs.Parts.{Terms, terms_toks, Term, Perhaps, may_toks, Inside, limit_toks, tail_toks}
use Rattle.kinds.specs.Kinds.{DISTINCT, HAVING, SELECT}
use Rattle.grammar.specs.Reading.{choose}
use Rattle.grammar.specs.Writing.{tok, within, at}
use mathlib.Core.Path.{sym, ap, ◌∙◌, refl, ap₂}
use mathlib.Core.List.{[], ◌∷◌, ◌++◌}
use Prim.Native.Nat.{◌-◌, ◌+◌, ◌*◌}
use lib.Dec.{eqb, ltb}
use native.Mathlib.Omega.{arith}
use Rattle.scribe.proofs.Spelt.{body_is, between_kids, at_zero, from_spelt, from_is, select_kids, query_kids, prefix_kids, prefix_spelt, query_spelt, binary_kids, select_spelt, query_source_kids, query_source_spelt, source_is, values_spelt}
use mathlib.Core.Logic.{⊎_elim, inl}
use Rattle.scribe.proofs.Leading.{backs}
use Rattle.scribe.proofs.Lists.{case_kids}
use Rattle.shapes.specs.Shape.{an_expr, a_constraint, a_from, a_source, a_body}
use Rattle.scribe.proofs.Whole.{piece_at, Whole, before_of}
use Rattle.scribe.proofs.Clauses.{may_here, clause_gone, clause_here, no_from, some_from, may_gone}
use Rattle.scribe.proofs.Turns.{bare_operand, from_yet, from_part, row_yet, many_last, rows_yet, case_yet, case_result, case_condition, case_base_at}
use Rattle.scribe.proofs.Clauses.{children_at}
use Rattle.writer.proofs.Loops.{left, member_then, member_last, members_done, row_then, row_last, all_rows, part_more, all_parts, pairs_left, no_pairs, pair_more, all_pairs, sets_out, one_more_most, turned, arrives, goes_on, led_by}
use Rattle.kinds.specs.Strength.{prefix_of}
use Rattle.writer.proofs.Pens.{◌after◌, wrote_as, nothing_wrote, writ_at}
use Rattle.writer.proofs.spelling.Pen.+spelling.Goals as goal
use Rattle.writer.proofs.spelling.Pen.+spelling.Goals.{operand-in_default-via-else-c-lt31+else-c-lt36, operand-in_default-via-then-c-lt31}

-- ── args ──
pub args-returns-then-d-eq-STAR_CALL : goal.args-returns-then-d-eq-STAR_CALL
args-returns-then-d-eq-STAR_CALL t c = record { told = λ w. wrote_as (args_star w (sym (detail_of w.whole c.detail-d.ensures) ∙ c.if-d-eq-STAR_CALL.true)) c.word.ensures }

pub args-list-requires : goal.args-list-requires
args-list-requires t c = (omega (arith, (known c.requires.whole).there, c.last.ensures), moved Terms c.last.ensures (any_terms (args_list c.requires (λ e. c.if-d-eq-STAR_CALL.false (detail_of c.requires.whole c.detail-d.ensures ∙ e))).0))

pub args-returns-else-d-eq-STAR_CALL : goal.args-returns-else-d-eq-STAR_CALL
args-returns-else-d-eq-STAR_CALL t c = record { told = λ w. let k = args_list w (λ e. c.if-d-eq-STAR_CALL.false (detail_of w.whole c.detail-d.ensures ∙ e)) in wrote_as (k.1 ∙ ap (λ z. choose (eqb z 1) (tok DISTINCT ∷ []) [] ++ terms_toks (nodes_of c.args.pages.now) (c.args.i - 1) (any_terms k.0)) (sym (detail_of w.whole c.detail-d.ensures))) (c.word_if.ensures after writ_at c.last.ensures c.list.ensures (any_terms k.0)) }

-- ── body ──
pub body-select-requires : goal.body-select-requires
body-select-requires t c = (omega arith, coded c.requires (sym (code_of c.requires c.code.ensures) ∙ c.if-code-eq-SELECT.true))

pub body-returns-then-code-eq-SELECT : goal.body-returns-then-code-eq-SELECT
body-returns-then-code-eq-SELECT t c = record { told = λ w. c.select.ensures.told (coded w (sym (code_of w c.code.ensures) ∙ c.if-code-eq-SELECT.true)) }

pub body-values-requires : goal.body-values-requires
body-values-requires t c = (omega arith, coded c.requires (⊎_elim (λ e. absurd (c.if-code-eq-SELECT.false (code_of c.requires c.code.ensures ∙ e))) (λ e. e) (body_is c.requires)))

pub body-returns-else-code-eq-SELECT : goal.body-returns-else-code-eq-SELECT
body-returns-else-code-eq-SELECT t c = record { told = λ w. c.values.ensures.told (coded w (⊎_elim (λ e. absurd (c.if-code-eq-SELECT.false (code_of w c.code.ensures ∙ e))) (λ e. e) (body_is w))) }

-- ── bounds ──
pub bounds-expr-requires : goal.bounds-expr-requires
unfolding backs
bounds-expr-requires t c = (omega (arith, (known c.requires.whole).there, c.last.ensures), moved Term c.last.ensures (expr_term (between_kids c.requires.whole c.requires.is).third))

pub bounds-expr-requires-2 : goal.bounds-expr-requires-2
unfolding backs
bounds-expr-requires-2 t c = (omega (arith, child_below (nodes_of c.args.pages.now) 1 _ (known c.requires.whole).there c.child.ensures), moved Term c.child.ensures (expr_term (between_kids c.requires.whole c.requires.is).second))

pub bounds-returns : goal.bounds-returns
unfolding backs
bounds-returns t c = bounds_by c.detail.ensures c.maybe_not.ensures c.child.ensures c.expr-2.ensures c.word.ensures c.last.ensures c.expr.ensures

-- ── by ──
pub by-returns-then-children-eq0 : goal.by-returns-then-children-eq0
by-returns-then-children-eq0 t c = perhaps_none c.args.kind c.children.ensures c.if-children-eq0.true nothing_wrote

pub by-returns : goal.by-returns
by-returns t c = perhaps_some c.args.kind c.children.ensures c.if-children-eq0.false (λ t. c.words.ensures after c.list.ensures.told t)

-- ── call ──
pub call-returns : goal.call-returns
unfolding backs
call-returns t c = record { told = λ w. wrote_as (call_said w) (writ_at c.child.ensures c.name.ensures (call_name_lem w) after c.word-2.ensures after c.args-2.ensures.told w after c.word.ensures) }

-- ── case ──
pub case-clause-requires : goal.case-clause-requires
case-clause-requires t c = (omega (arith, (known c.requires.whole).there, c.last.ensures), moved (Maybe an_expr) c.last.ensures (case_kids c.requires.whole c.requires.is).otherwise)

pub case-returns : goal.case-returns
case-returns t c = record { told = λ w. wrote_as (case_said w) (c.word-2.ensures after c.whens.ensures.told w after writ_at c.last.ensures c.clause.ensures (case_kids w.whole w.is).otherwise after c.word.ensures) }

-- ── cast ──
pub cast-expr-requires : goal.cast-expr-requires
unfolding backs
cast-expr-requires t c = (omega (arith, child_below (nodes_of c.args.pages.now) 1 _ (known c.requires.whole).there c.child.ensures), moved Term c.child.ensures (expr_term (cast_first c.requires)))

pub cast-returns : goal.cast-returns
unfolding backs
cast-returns t c = record { told = λ w. wrote_as (cast_said w) (c.words.ensures after writ_at c.child.ensures c.expr.ensures (expr_term (cast_first w)) after writ_at c.last.ensures c.alias.ensures (cast_type w) after c.word.ensures) }

-- ── clause ──
pub clause-returns-then-code-eq-ABSENT : goal.clause-returns-then-code-eq-ABSENT
clause-returns-then-code-eq-ABSENT t c = record { told = λ m. wrote_as (clause_gone refl (tok c.args.kind ∷ []) m (is_absent m c.code.ensures c.if-code-eq-ABSENT.true)) nothing_wrote }

pub clause-expr-requires : goal.clause-expr-requires
clause-expr-requires t c = (omega arith, expr_term (may_here refl c.requires (is_there c.requires c.code.ensures c.if-code-eq-ABSENT.false)).0)

pub clause-returns : goal.clause-returns
clause-returns t c = record { told = λ m. let k = clause_here refl (tok c.args.kind ∷ []) m (is_there m c.code.ensures c.if-code-eq-ABSENT.false) in wrote_as (k.1 ∙ ap (λ z. tok c.args.kind ∷ z) (sym (at_zero (piece_at k.0)))) (c.word.ensures after c.expr.ensures.told (expr_term k.0)) }

-- ── constraint ──
pub constraint-on-requires : goal.constraint-on-requires
constraint-on-requires t c = (omega (arith, c.last.ensures, part_there c.requires), moved (Maybe a_constraint) c.last.ensures (part_on (part_join c.code.ensures c.requires c.if-code-eq-JOIN.true)))

pub constraint-returns-then-code-eq-JOIN : goal.constraint-returns-then-code-eq-JOIN
constraint-returns-then-code-eq-JOIN t c = constraint_on c.code.ensures c.if-code-eq-JOIN.true c.last.ensures c.on.ensures

pub constraint-returns-else-code-eq-JOIN : goal.constraint-returns-else-code-eq-JOIN
constraint-returns-else-code-eq-JOIN t c = constraint_none c.code.ensures c.if-code-eq-JOIN.false nothing_wrote

-- ── ex ──
pub ex-loop-self-init : goal.ex-loop-self-init
ex-loop-self-init t c = (omega arith, λ t. sets_out t)

pub ex-overflow_add-pairs : goal.ex-overflow_add-pairs
ex-overflow_add-pairs t c = omega (arith, c.loop-self.invariant.0, one_more_most (ltb c.strength-k.result c.loop-self.s) c.from-pairs.ensures, (known (c.loop-self.invariant.1 c.requires).along.it.whole).there, c.ranges.end)

pub ex-operand-requires : goal.ex-operand-requires
ex-operand-requires t c = let b = turned (c.loop-self.invariant.1 c.requires) c.bare-i.ensures (strength_at c.strength-k.ensures.0 c.code-c.ensures c.detail.ensures) c.word_if.ensures c.from-pairs.ensures in (omega (arith, c.loop-self.invariant.0, c.bare-i.ensures.most), (bare_operand b.bare (led_by b.bare.it.whole c.code-c.ensures c.leads.ensures c.if-not-leads.true), code_at_lem c.code-c.ensures (known {C = b.bare.it.class} b.bare.it.whole).there))

pub ex-returns-then-not-leads : goal.ex-returns-then-not-leads
ex-returns-then-not-leads t c = record { told = λ t. let b = turned (c.loop-self.invariant.1 t) c.bare-i.ensures (strength_at c.strength-k.ensures.0 c.code-c.ensures c.detail.ensures) c.word_if.ensures c.from-pairs.ensures in arrives b c.operand.ensures.told (led_by b.bare.it.whole c.code-c.ensures c.leads.ensures c.if-not-leads.true) c.opened.ensures }

pub ex-rest-requires : goal.ex-rest-requires
ex-rest-requires t c = let b = turned (c.loop-self.invariant.1 c.requires) c.bare-i.ensures (strength_at c.strength-k.ensures.0 c.code-c.ensures c.detail.ensures) c.word_if.ensures c.from-pairs.ensures in (omega (arith, c.loop-self.invariant.0, c.bare-i.ensures.most), (b.bare.it, c.strength-k.ensures.1))

pub ex-loop-self-smaller : goal.ex-loop-self-smaller
ex-loop-self-smaller t c = let b = turned (c.loop-self.invariant.1 c.requires) c.bare-i.ensures (strength_at c.strength-k.ensures.0 c.code-c.ensures c.detail.ensures) c.word_if.ensures c.from-pairs.ensures in omega (arith, c.first-i.ensures.most, c.bare-i.ensures.most, (known {C = b.bare.it.class} b.bare.it.whole).there)

pub ex-loop-self-preserved : goal.ex-loop-self-preserved
ex-loop-self-preserved t c = (let b = turned (c.loop-self.invariant.1 c.requires) c.bare-i.ensures (strength_at c.strength-k.ensures.0 c.code-c.ensures c.detail.ensures) c.word_if.ensures c.from-pairs.ensures in omega (arith, c.loop-self.invariant.0, one_more_most (ltb c.strength-k.result c.loop-self.s) c.from-pairs.ensures, c.first-i.ensures.most, c.bare-i.ensures.most, (known {C = b.bare.it.class} b.bare.it.whole).there), λ t. let b = turned (c.loop-self.invariant.1 t) c.bare-i.ensures (strength_at c.strength-k.ensures.0 c.code-c.ensures c.detail.ensures) c.word_if.ensures c.from-pairs.ensures in goes_on b (c.rest.ensures.told b.bare.it (led_by b.bare.it.whole c.code-c.ensures c.leads.ensures c.if-not-leads.false) (strength_at c.strength-k.ensures.0 c.code-c.ensures c.detail.ensures b.bare.it)) (strength_at c.strength-k.ensures.0 c.code-c.ensures c.detail.ensures b.bare.it) c.first-i.ensures)

-- ── from ──
pub from-returns-then-parts-eq0 : goal.from-returns-then-parts-eq0
from-returns-then-parts-eq0 t c = record { told = λ m. wrote_as (no_from m (sym (children_at_lem c.children-parts.ensures (may_there m).0) ∙ c.if-parts-eq0.true)) nothing_wrote }

pub from-loop-init : goal.from-loop-init
from-loop-init t c = (omega (arith, (may_there c.requires).0, c.last-j.ensures), λ w. left (from_yet w (let k = children_at_lem c.children-parts.ensures (known w).there in omega (arith, k)) c.last-j.ensures))

pub from-joining-requires : goal.from-joining-requires
from-joining-requires t c = (omega (arith, c.loop.invariant.0), from_part (c.loop.invariant.1 (some_from c.requires (λ e. c.if-parts-eq0.false (children_at_lem c.children-parts.ensures (may_there c.requires).0 ∙ e))).0).yet (omega (arith, c.loop-test.true)))

pub from-loop-preserved : goal.from-loop-preserved
from-loop-preserved t c = (before_below _ _ c.before-j.ensures c.loop.invariant.0, λ w. part_more (c.loop.invariant.1 w) (omega (arith, c.loop-test.true)) c.joining.ensures.told c.before-j.ensures (omega arith))

pub from-returns : goal.from-returns
from-returns t c = record { told = λ m. let k = (some_from m (λ e. c.if-parts-eq0.false (children_at_lem c.children-parts.ensures (may_there m).0 ∙ e))) in wrote_as (ap (λ z. z.toks) k.1 ∙ (from_spelt k.0 (from_is k.0)).toks) (c.word.ensures after all_parts (c.loop.invariant.1 k.0) (omega (arith, c.loop-test.false))) }

-- ── group ──
pub group-clause-requires : goal.group-clause-requires
unfolding backs
group-clause-requires t c = (omega (arith, (known c.requires.whole).there, c.last.ensures), moved (Maybe an_expr) c.last.ensures (select_kids c.requires.whole c.requires.is).fifth)

pub group-by-requires : goal.group-by-requires
unfolding backs
group-by-requires t c = (omega (arith, child_below (nodes_of c.args.pages.now) 1 _ (known c.requires.whole).there c.child.ensures), moved Perhaps c.child.ensures (group_perhaps (select_kids c.requires.whole c.requires.is).fourth).0)

pub group-returns : goal.group-returns
unfolding backs
group-returns t c = record { told = λ w. let k = select_kids w.whole w.is in let g = group_perhaps k.fourth in wrote_as (ap (λ z. z ++ may_toks an_expr (tok HAVING ∷ []) (nodes_of c.args.pages.now) (c.args.i - 1) k.fifth) g.1) (writ_at c.child.ensures c.by.ensures g.0 after writ_at c.last.ensures c.clause.ensures k.fifth) }

-- ── inner ──
pub inner-list-requires : goal.inner-list-requires
inner-list-requires t c = (omega arith, inner_terms c.requires (λ e. c.if-code-eq-QUERY.false (code_at_lem c.code.ensures (inner_there c.requires) ∙ e)))

pub inner-returns-else-code-eq-QUERY : goal.inner-returns-else-code-eq-QUERY
inner-returns-else-code-eq-QUERY t c = inner_t (λ e. c.if-code-eq-QUERY.false (code_at_lem c.code.ensures (inner_there c.requires) ∙ e)) c.list.ensures

-- ── joining ──
pub joining-source-requires : goal.joining-source-requires
joining-source-requires t c = (omega (arith, c.taken.ensures.most), moved (Whole a_source) (c.taken.ensures.is c.requires) (part_src c.requires))

pub joining-returns : goal.joining-returns
joining-returns t c = record { told = λ p. wrote_as (part_said p) (c.joined.ensures.told p after writ_at (c.taken.ensures.is p) c.source.ensures (part_src p) after c.constraint.ensures.told p) }

-- ── limit ──
pub limit-clause-requires : goal.limit-clause-requires
unfolding backs
limit-clause-requires t c = (omega (arith, (known c.requires.whole).there, c.last.ensures), moved (Maybe an_expr) c.last.ensures (query_kids c.requires.whole c.requires.is).fourth)

pub limit-clause-requires-2 : goal.limit-clause-requires-2
unfolding backs
limit-clause-requires-2 t c = (omega (arith, child_below (nodes_of c.args.pages.now) 1 _ (known c.requires.whole).there c.child.ensures), moved (Maybe an_expr) c.child.ensures (query_kids c.requires.whole c.requires.is).third)

pub limit-returns : goal.limit-returns
unfolding backs
limit-returns t c = record { told = λ w. writ_at c.child.ensures c.clause-2.ensures (query_kids w.whole w.is).third after writ_at c.last.ensures c.clause.ensures (query_kids w.whole w.is).fourth }

-- ── list ──
pub list-loop-left-init : goal.list-loop-left-init
list-loop-left-init t c = (omega (arith, c.requires.row.there, c.last-j.ensures), λ t. left (row_yet _ t.row (children_at_lem c.children-left.ensures t.row.there) c.last-j.ensures))

pub list-expr-requires : goal.list-expr-requires
list-expr-requires t c = (omega (arith, c.loop-left.invariant.0), record { class = c.requires.class; term = c.requires.term; whole = many_last (c.loop-left.invariant.1 c.requires).yet c.loop-left-test.true })

pub list-loop-left-preserved-then-left-gt0 : goal.list-loop-left-preserved-then-left-gt0
list-loop-left-preserved-then-left-gt0 t c = (before_below _ _ c.before-j.ensures c.loop-left.invariant.0, λ t. member_then (c.loop-left.invariant.1 t) (λ x. wrote_as (sym (at_zero (piece_at x))) (c.expr.ensures.told (record { class = t.class; term = t.term; whole = x }))) c.word.ensures c.before-j.ensures refl c.if-left-gt0.true)

pub list-loop-left-preserved : goal.list-loop-left-preserved
list-loop-left-preserved t c = (before_below _ _ c.before-j.ensures c.loop-left.invariant.0, λ t. member_last _ (c.loop-left.invariant.1 t) (λ x. wrote_as (sym (at_zero (piece_at x))) (c.expr.ensures.told (record { class = t.class; term = t.term; whole = x }))) c.before-j.ensures refl c.loop-left-test.true c.if-left-gt0.false)

pub list-returns : goal.list-returns
list-returns t c = record { told = λ t. members_done _ (c.loop-left.invariant.1 t) c.loop-left-test.false }

-- ── on ──
pub on-clause-requires : goal.on-clause-requires
on-clause-requires t c = (omega (arith, c.last.ensures, (may_there c.requires).0), moved (Maybe an_expr) c.last.ensures (inl (on_said c.code-c.ensures c.in-10.is c.requires).0))

pub on-returns-in-10 : goal.on-returns-in-10
on-returns-in-10 t c = record { told = λ m. let k = on_said c.code-c.ensures c.in-10.is m in wrote_as k.1 (writ_at c.last.ensures c.clause.ensures (inl k.0)) }

pub on-returns-in-11 : goal.on-returns-in-11
on-returns-in-11 t c = record { told = λ m. let k = using_said c.code-c.ensures c.in-11.is m in wrote_as k.1 (c.using.ensures.told k.0) }

pub on-returns-in_default : goal.on-returns-in_default
on-returns-in_default t c = record { told = λ m. wrote_as (on_none c.code-c.ensures c.in_default.in_default-own.rest.0.1 c.in_default.in_default-own.rest.1 m) nothing_wrote }

-- ── operand ──
pub operand-returns-then-c-lt-NAMES : goal.operand-returns-then-c-lt-NAMES
operand-returns-then-c-lt-NAMES t c = record { told = λ t. (c.leaf.ensures c.requires.1).told (operand_leaf t c.requires.1 c.if-c-lt-NAMES.true) }

pub operand-call-requires : goal.operand-call-requires
operand-call-requires t c = (omega arith, coded c.requires.0.it.whole (operand_code c.requires.0 c.requires.1 c.in-32.is))

pub operand-within-requires : goal.operand-within-requires
operand-within-requires t c = (omega arith, in_parens (coded c.requires.0.it.whole (operand_code c.requires.0 c.requires.1 c.in-33.is)))

pub operand-case-requires : goal.operand-case-requires
operand-case-requires t c = (omega arith, coded c.requires.0.it.whole (operand_code c.requires.0 c.requires.1 c.in-36.is))

pub operand-cast-requires : goal.operand-cast-requires
operand-cast-requires t c = (omega arith, coded c.requires.0.it.whole (operand_code c.requires.0 c.requires.1 c.in-37.is))

pub operand-within-requires-in-34 : goal.operand-within-requires-in-34
operand-within-requires-in-34 t c = (omega (arith, (known c.requires.0.it.whole).there, c.last.ensures), moved Inside c.last.ensures (in_query (sub_said c.requires.0 c.requires.1 (omega (arith, c.in-34.if-c-lt31-own.false, c.in-34.in_default-own.rest.0.0.0.0.1, c.in-34.in_default-own.rest.0.0.0.1, c.in-34.in_default-own.rest.0.0.1)) c.in-34.if-c-lt36-own.true).0))

pub operand-prefix-requires : goal.operand-prefix-requires
operand-prefix-requires t c = (omega arith, coded c.requires.0.it.whole (operand_prefix c.requires.0 c.requires.1 (elim c.in_default.branch [ operand-in_default-via-then-c-lt31 w ↦ absurd (omega arith) | operand-in_default-via-else-c-lt31+else-c-lt36 w ↦ omega (arith, c.in_default-1.rest.0.1, c.in_default-1.rest.1) ])))

pub operand-returns-in-31 : goal.operand-returns-in-31
operand-returns-in-31 t c = record { told = λ t. wrote_as (names_said t (operand_code t c.requires.1 c.in-31.is)) (c.names.ensures.told (names_row t (operand_code t c.requires.1 c.in-31.is))) }

pub operand-returns-in-32 : goal.operand-returns-in-32
operand-returns-in-32 t c = record { told = λ t. c.call.ensures.told (coded t.it.whole (operand_code t c.requires.1 c.in-32.is)) }

pub operand-returns-in-33 : goal.operand-returns-in-33
operand-returns-in-33 t c = record { told = λ t. wrote_as (parens_said t (operand_code t c.requires.1 c.in-33.is)) (c.within.ensures.told (in_parens (coded t.it.whole (operand_code t c.requires.1 c.in-33.is)))) }

pub operand-returns-in-36 : goal.operand-returns-in-36
operand-returns-in-36 t c = record { told = λ t. c.case.ensures.told (coded t.it.whole (operand_code t c.requires.1 c.in-36.is)) }

pub operand-returns-in-37 : goal.operand-returns-in-37
operand-returns-in-37 t c = record { told = λ t. c.cast.ensures.told (coded t.it.whole (operand_code t c.requires.1 c.in-37.is)) }

pub operand-returns-in-34 : goal.operand-returns-in-34
operand-returns-in-34 t c = record { told = λ t. let k = sub_said t c.requires.1 (omega (arith, c.in-34.if-c-lt31-own.false, c.in-34.in_default-own.rest.0.0.0.0.1, c.in-34.in_default-own.rest.0.0.0.1, c.in-34.in_default-own.rest.0.0.1)) c.in-34.if-c-lt36-own.true in wrote_as k.1 (c.word_if.ensures after writ_at c.last.ensures c.within-in-34.ensures (in_query k.0)) }

pub operand-returns-in_default : goal.operand-returns-in_default
operand-returns-in_default t c = record { told = λ t. c.prefix.ensures.told (coded t.it.whole (operand_prefix t c.requires.1 (elim c.in_default.branch [ operand-in_default-via-then-c-lt31 w ↦ absurd (omega arith) | operand-in_default-via-else-c-lt31+else-c-lt36 w ↦ omega (arith, c.in_default-1.rest.0.1, c.in_default-1.rest.1) ]))) }

-- ── prefix ──
pub prefix-expr-requires : goal.prefix-expr-requires
prefix-expr-requires t c = (omega (arith, (known c.requires.whole).there, c.last.ensures), moved Term c.last.ensures (expr_term (prefix_kids c.requires.whole c.requires.is).first))

pub prefix-returns : goal.prefix-returns
prefix-returns t c = record { told = λ w. let k = prefix_kids w.whole w.is in wrote_as ((prefix_spelt w.whole w.is k).toks ∙ ap₂ (λ x y. tok x ∷ at y (piece_at k.first)) (sym (detail_of w.whole c.detail-d.ensures)) (ap prefix_of (sym (detail_of w.whole c.detail-d.ensures)) ∙ sym c.prefix.ensures)) (c.word.ensures after writ_at c.last.ensures c.expr.ensures (expr_term k.first)) }

-- ── query ──
pub query-by-requires : goal.query-by-requires
unfolding backs
query-by-requires t c = (omega (arith, child_below (nodes_of c.args.pages.now) 2 _ (known c.requires.whole).there c.child.ensures), moved Perhaps c.child.ensures (order_perhaps (query_kids c.requires.whole c.requires.is).second).0)

pub query-body-requires : goal.query-body-requires
unfolding backs
query-body-requires t c = (omega (arith, child_below (nodes_of c.args.pages.now) 3 _ (known c.requires.whole).there c.child-2.ensures), moved (Whole a_body) c.child-2.ensures (query_kids c.requires.whole c.requires.is).first)

pub query-returns : goal.query-returns
unfolding backs
query-returns t c = record { told = λ w. let k = query_kids w.whole w.is in let o = order_perhaps k.second in wrote_as ((query_spelt w.whole w.is k).toks ∙ ap (λ z. (piece_at k.first).toks ++ (z ++ limit_toks (nodes_of c.args.pages.now) c.args.i w)) o.1) (writ_at c.child-2.ensures c.body.ensures k.first after writ_at c.child.ensures c.by.ensures o.0 after c.limit.ensures.told w) }

-- ── rest ──
pub rest-expr-requires : goal.rest-expr-requires
rest-expr-requires t c = (omega (arith, (known c.requires.0.whole).there, c.last.ensures), moved Term c.last.ensures (expr_term (binary_kids c.requires.0.whole (sym (code_of c.requires.0.whole c.code-c.ensures) ∙ c.in-39.is)).second))

pub rest-bounds-requires : goal.rest-bounds-requires
rest-bounds-requires t c = (omega arith, coded c.requires.0.whole (sym (code_of c.requires.0.whole c.code-c.ensures) ∙ c.in-43.is))

pub rest-within-requires : goal.rest-within-requires
rest-within-requires t c = (omega (arith, (known c.requires.0.whole).there, c.last-in-41.ensures), moved Inside c.last-in-41.ensures (in_given c.code-c.ensures c.in-41.if-c-lt41-own.false c.in-41.if-c-lt43-own.true c.requires.0))

pub rest-returns-in-39 : goal.rest-returns-in-39
rest-returns-in-39 t c = trails_binary c.code-c.ensures c.in-39.is c.detail.ensures c.operator.ensures c.last.ensures c.expr.ensures

pub rest-returns-in-43 : goal.rest-returns-in-43
rest-returns-in-43 t c = trails_between c.code-c.ensures c.in-43.is c.bounds.ensures

pub rest-returns-in-41 : goal.rest-returns-in-41
rest-returns-in-41 t c = trails_in c.code-c.ensures c.in-41.if-c-lt41-own.false c.in-41.if-c-lt43-own.true c.detail-in-41.ensures c.maybe_not.ensures c.last-in-41.ensures c.within.ensures

pub rest-returns-in_default : goal.rest-returns-in_default
rest-returns-in_default t c = record { told = λ t l q. c.after.ensures.told t l (code_of t.whole c.code-c.ensures) c.in_default-1.rest.0.1 c.in_default-1.rest.1 (λ e. absurd (omega (arith, e))) (λ e. absurd (omega (arith, e))) }

-- ── select ──
pub select-list-requires : goal.select-list-requires
unfolding backs
select-list-requires t c = (omega (arith, child_below (nodes_of c.args.pages.now) 4 _ (known c.requires.whole).there c.child.ensures), moved Terms c.child.ensures (list_terms refl (select_kids c.requires.whole c.requires.is).first))

pub select-returns : goal.select-returns
unfolding backs
select-returns t c = record { told = λ w. let k = select_kids w.whole w.is in wrote_as ((select_spelt w.whole w.is k).toks ∙ ap₂ (λ x y. tok SELECT ∷ (choose (eqb x 1) (tok DISTINCT ∷ []) [] ++ (y ++ tail_toks (nodes_of c.args.pages.now) c.args.i w))) (sym (detail_of w.whole c.detail.ensures)) (list_toks refl k.first)) (c.selected.ensures after writ_at c.child.ensures c.list.ensures (list_terms refl k.first) after c.tail.ensures.told w) }

-- ── source ──
pub source-returns-then-code-eq-TABLE : goal.source-returns-then-code-eq-TABLE
unfolding backs
source-returns-then-code-eq-TABLE t c = record { told = λ w. c.table.ensures.told (coded w (sym (code_of w c.code.ensures) ∙ c.if-code-eq-TABLE.true)) }

pub source-within-requires : goal.source-within-requires
unfolding backs
source-within-requires t c = (omega (arith, child_below (nodes_of c.args.pages.now) 1 _ (known c.requires).there c.child.ensures), moved Inside c.child.ensures (in_query (query_source_kids c.requires (⊎_elim (λ e. absurd (c.if-code-eq-TABLE.false (code_of c.requires c.code.ensures ∙ e))) (λ e. e) (source_is c.requires))).first))

pub source-returns-else-code-eq-TABLE : goal.source-returns-else-code-eq-TABLE
unfolding backs
source-returns-else-code-eq-TABLE t c = record { told = λ w. let k = query_source_kids w (⊎_elim (λ e. absurd (c.if-code-eq-TABLE.false (code_of w c.code.ensures ∙ e))) (λ e. e) (source_is w)) in wrote_as (query_source_spelt w (⊎_elim (λ e. absurd (c.if-code-eq-TABLE.false (code_of w c.code.ensures ∙ e))) (λ e. e) (source_is w)) k).toks (writ_at c.child.ensures c.within.ensures (in_query k.first) after writ_at c.last.ensures c.alias.ensures k.second) }

-- ── tail ──
pub tail-clause-requires : goal.tail-clause-requires
unfolding backs
tail-clause-requires t c = (omega (arith, child_below (nodes_of c.args.pages.now) 2 _ (known c.requires.whole).there c.child.ensures), moved (Maybe an_expr) c.child.ensures (select_kids c.requires.whole c.requires.is).third)

pub tail-from-requires : goal.tail-from-requires
unfolding backs
tail-from-requires t c = (omega (arith, child_below (nodes_of c.args.pages.now) 3 _ (known c.requires.whole).there c.child-2.ensures), moved (Maybe a_from) c.child-2.ensures (select_kids c.requires.whole c.requires.is).second)

pub tail-returns : goal.tail-returns
unfolding backs
tail-returns t c = record { told = λ w. writ_at c.child-2.ensures c.from.ensures (select_kids w.whole w.is).second after writ_at c.child.ensures c.clause.ensures (select_kids w.whole w.is).third after c.group.ensures.told w }

-- ── values ──
pub values-loop-left-init : goal.values-loop-left-init
values-loop-left-init t c = (omega (arith, (known c.requires.whole).there, c.last-j.ensures), λ w. left (rows_yet w (children_at_lem c.children-left.ensures (known w.whole).there) c.last-j.ensures))

pub values-within-requires : goal.values-within-requires
values-within-requires t c = (omega (arith, c.loop-left.invariant.0), in_list (many_last (c.loop-left.invariant.1 c.requires).yet c.loop-left-test.true))

pub values-loop-left-preserved-then-left-gt0 : goal.values-loop-left-preserved-then-left-gt0
values-loop-left-preserved-then-left-gt0 t c = (before_below _ _ c.before-j.ensures c.loop-left.invariant.0, λ w. row_then (c.loop-left.invariant.1 w) (λ x. wrote_as (ap within (list_toks refl x)) (c.within.ensures.told (in_list x))) c.word.ensures c.before-j.ensures refl c.if-left-gt0.true)

pub values-loop-left-preserved : goal.values-loop-left-preserved
values-loop-left-preserved t c = (before_below _ _ c.before-j.ensures c.loop-left.invariant.0, λ w. row_last (c.loop-left.invariant.1 w) (λ x. wrote_as (ap within (list_toks refl x)) (c.within.ensures.told (in_list x))) c.before-j.ensures refl c.loop-left-test.true c.if-left-gt0.false)

pub values-returns : goal.values-returns
values-returns t c = record { told = λ w. wrote_as (values_spelt w.whole w.is).toks (c.word-2.ensures after all_rows (c.loop-left.invariant.1 w) c.loop-left-test.false) }

-- ── whens ──
pub whens-loop-init : goal.whens-loop-init
whens-loop-init t c = (child_below (nodes_of c.args.pages.now) 1 _ (known c.requires.whole).there c.child-j.ensures, λ w. left (case_yet w {n = children_at (nodes_of c.args.pages.now) c.args.i + 2 - 2 * 1} (omega arith) c.child-j.ensures))

pub whens-clause-requires : goal.whens-clause-requires
whens-clause-requires t c = (omega (arith, c.loop.invariant.0), case_result (c.loop.invariant.1 c.requires).yet (pairs_left (children_at_lem c.children-end.ensures (known c.requires.whole).there) c.loop-test.true))

pub whens-clause-requires-in-loop : goal.whens-clause-requires-in-loop
whens-clause-requires-in-loop t c = (omega (arith, before_below _ _ c.before-j.ensures c.loop.invariant.0), moved (Maybe an_expr) c.before-j.ensures (case_condition (c.loop.invariant.1 c.requires).yet (pairs_left (children_at_lem c.children-end.ensures (known c.requires.whole).there) c.loop-test.true)))

pub whens-returns-else-code-ne-ABSENT : goal.whens-returns-else-code-ne-ABSENT
whens-returns-else-code-ne-ABSENT t c = record { told = λ w. all_pairs (c.loop.invariant.1 w) (no_pairs (children_at_lem c.children-end.ensures (known w.whole).there) c.loop-test.false) (λ m. wrote_as (ap (λ z. z.toks) (may_gone refl m (is_absent m c.code.ensures c.if-code-ne-ABSENT.false))) nothing_wrote) }

pub whens-loop-preserved : goal.whens-loop-preserved
whens-loop-preserved t c = (before_below _ _ c.before-j-in-loop.ensures (before_below _ _ c.before-j.ensures c.loop.invariant.0), λ w. pair_more (c.loop.invariant.1 w) (pairs_left (children_at_lem c.children-end.ensures (known w.whole).there) c.loop-test.true) c.clause.ensures.told (writ_at c.before-j.ensures c.clause-in-loop.ensures) (c.before-j-in-loop.ensures ∙ ap (before_of (nodes_of c.args.pages.now)) c.before-j.ensures) (omega arith))

pub whens-expr-requires : goal.whens-expr-requires
whens-expr-requires t c = (omega (arith, c.loop.invariant.0), let m = (case_base_at (c.loop.invariant.1 c.requires).yet (no_pairs (children_at_lem c.children-end.ensures (known c.requires.whole).there) c.loop-test.false)) in expr_term (may_here refl m (is_there m c.code.ensures c.if-code-ne-ABSENT.true)).0)

pub whens-returns-then-code-ne-ABSENT : goal.whens-returns-then-code-ne-ABSENT
whens-returns-then-code-ne-ABSENT t c = record { told = λ w. all_pairs (c.loop.invariant.1 w) (no_pairs (children_at_lem c.children-end.ensures (known w.whole).there) c.loop-test.false) (λ m. let k = may_here refl m (is_there m c.code.ensures c.if-code-ne-ABSENT.true) in wrote_as (ap (λ z. z.toks) k.1 ∙ sym (at_zero (piece_at k.0))) (c.expr.ensures.told (expr_term k.0))) }

-- ── within ──
pub within-returns : goal.within-returns
within-returns t c = record { told = λ x. c.word-2.ensures after c.inner.ensures.told x after c.word.ensures }
