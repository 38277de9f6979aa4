-- The reader's functions that call each other, one cycle: each promises its bounds and its walk (specs/Laying.antt), made from its callees'
-- by the laws of proofs/Laying.antt. Function by function; a goal that has no answer here the check proves by itself. Assumes none_came.
use Rattle.reader.proofs.Steps.{further, refused, ended, got_in, passed_on, opened, opens_refused, one_on, same_answer, null_before, seen_as, opens_in}
use native.Mathlib.Omega.{arith}
use Prim.Native.Nat.{◌+◌, ◌<◌, ◌≤◌}
use Rattle.reader.proofs.Laying.{none_came, took, left, misfit, next, at_once, is, isn't, goes, halts, topped, by_kind, laid, capped, halted, said, queries_of_lem, by_walk, two_ways, ◌also◌, behind, loop_start, for_any, laid_joined, so, strength_of, differs, fills_as, no_left, no_right, closed, at_second, laid_as}
use Rattle.descent.proofs.Walk.{expr_w, leaf_w, operand_w, deeper, dotted_w, not_b}
use Rattle.reader.specs.Laying.{one, is_bare, absences, Laid, Later, begins_join, literal_text}
use Rattle.reader.proofs.KindTests.{between_in, between_out, bare_either, bare_neither, distinct_walk, deep_walk, indexed_heads_none, heads_call_lem, Sign, sign_is, no_sign, ops_walk, ops_goes, no_parts, select_walk, prefix_walk, no_tail}
use Rattle.theory.specs.Table.{both}
use mathlib.Core.Path.{ap, refl, sym, ◌∙◌, ap₂}
use mathlib.Core.Logic.{inl, inr}
use lib.Dec.{leb, eqb, ltb}
use Rattle.reader.specs.Bounds.{kinds_of, texts_of, Within, Seen, got_of}
use Rattle.theory.proofs.Cases.{le-leb, eqb-true, both_i}
use borrow.Author.Tests.{lt-leb, ne_eqb, lt-ltb, le-ltb}
use Rattle.kinds.specs.Kinds.{STAR}
use Rattle.reader.proofs.Laying.{◌then◌}
use mathlib.Core.List.{◌++◌}
use lib.ListN.{length, get_or}
use Rattle.grammar.specs.Reading.{choose}
use Rattle.kinds.specs.Classes.{literal_code, heads_call}
use Rattle.reader.proofs.TwoLists.{like_text}
use Rattle.reader.proofs.Operators.{Way, way_of, op_binary, op_inside, op_between, op_like, op_null, op_is, op_collate, op_postfix}
use Rattle.kinds.specs.Strength.{prefix_of}
use Rattle.reader.proofs.Tables.{strength_is}
use Rattle.kinds.proofs.Codes.{there, not_there}
use Rattle.kinds.proofs.Small.{strength_small, prefix_small}
use Rattle.reader.proofs.+walk.Goals as goal
use Rattle.reader.proofs.+walk.Goals.{call-else-kind-eq-DISTINCT, call-then-kind-eq-DISTINCT, ex-in-1-to-11, ex-in_default, ex-in_default-via-else-kind-lt1+else-kind-lt12, ex-in_default-via-then-kind-lt1, leaf-else-next-eq-LP, leaf-then-next-eq-LP+else-kind-ne-INDEXED, op-else-kind-eq-NOT, op-else-kind-eq-NOT-2, op-else-peek-eq-NOT, op-then-kind-eq-NOT, op-then-kind-eq-NOT-2, op-then-peek-eq-NOT, operand-in-27-1, operand-in_default+else-kind-lt18+then-kind-lt20, ops-else-k-eq0+else-k-s+then-left-k, ops-else-k-eq0+then-k-s, ops-then-k-eq0, row-else-width-gt0, row-then-width-gt0+else-n-width, select-else-detail-gt0, select-in-54, select-in-55, select-in_default, select-then-detail-gt0, sign-else-kind-eq-NOT, sign-then-kind-eq-NOT+else-strength-gt-NOT_STANDS}

-- ── after ──
pub after-returns-then-kind-word : goal.after-returns-then-kind-word
unfolding expr_w
after-returns-then-kind-word t c = (refused c.wrong.ensures.0 (omega arith), λ s. record { does = λ a p. at_once (λ f. left _ _ _ (isn't c.peek-kind.ensures c.if-kind-word.true) (misfit c.peek-kind.ensures c.wrong.ensures.1)) })

pub after-returns : goal.after-returns
unfolding expr_w
after-returns t c = (further c.expr.ensures.0 (omega arith), λ s. record { does = λ a p. next ((c.expr.ensures.1 s).does a p) (λ f h. took _ _ _ (is c.peek-kind.ensures c.if-kind-word.false) (h)) })

-- ── among ──
pub among-returns-then-lp-ne-LP : goal.among-returns-then-lp-ne-LP
unfolding expr_w both
among-returns-then-lp-ne-LP t c = (refused c.wrong.ensures.0 (omega arith), λ s pre b. record { does = λ a p. at_once (λ f. left _ _ _ (isn't c.peek-lp.ensures c.if-lp-ne-LP.true) (misfit c.peek-lp.ensures c.wrong.ensures.1)) })

pub among-returns-in_default-q : goal.among-returns-in_default-q
unfolding expr_w both
among-returns-in_default-q t c = (passed_on c.query-q.ensures.0 c.in_default-q.is, λ s pre b. record { does = λ a p. next (c.query-q.ensures.1.does a (c.with.ensures.2.packs a s p)) (λ f h. took _ _ _ (is c.peek-lp.ensures c.if-lp-ne-LP.false) (took _ _ _ (by_kind (λ z. both (leb 52 z) (leb z 53)) c.peek-kind.ensures (between_in 52 53 c.peek-kind.result (omega (arith, c.in-52.if-kind-lt52-own.false)) (omega (arith, c.in-52.if-kind-lt54-own.true)))) (halts _ _ h c.in_default-q.is))) })

pub among-returns-in_default-l : goal.among-returns-in_default-l
unfolding expr_w both
among-returns-in_default-l t c = (passed_on c.list-l.ensures.0 c.in_default-l.is, λ s pre b. record { does = λ a p. next (c.list-l.ensures.1.does a (c.with-in_default.ensures.2.packs a s p)) (λ f h. took _ _ _ (is c.peek-lp.ensures c.if-lp-ne-LP.false) (left _ _ _ (by_kind (λ z. both (leb 52 z) (leb z 53)) c.peek-kind.ensures (between_out 52 53 c.peek-kind.result (λ z. omega (arith, z)))) (left _ _ _ (isn't c.peek-kind.ensures c.in_default-1.rest.1) (halts _ _ h c.in_default-l.is)))) })

pub among-returns-in-13 : goal.among-returns-in-13
unfolding expr_w both
among-returns-in-13 t c = (further c.ended.ensures.0 (omega (arith, c.requires, c.emit.ensures.0, c.peek-kind.ensures, c.if-lp-ne-LP.false, c.peek-lp.ensures)), λ s pre b. record { does = λ a p. at_once (λ f. took _ _ _ (is c.peek-lp.ensures c.if-lp-ne-LP.false) (left _ _ _ (by_kind (λ z. both (leb 52 z) (leb z 53)) c.peek-kind.ensures (ap (λ z. both (leb 52 z) (leb z 53)) c.in-13.is)) (took _ _ _ (is c.peek-kind.ensures c.in-13.is) (c.ended.ensures.1 pre _ _ b c.emit.ensures.1)))) })

pub among-returns-in-Got : goal.among-returns-in-Got
unfolding expr_w both
among-returns-in-Got t c = (further c.ended-in-52.ensures.0 (omega (arith, got_in c.query-q.ensures.0 c.in-Got.is, c.requires, c.in-52.if-kind-lt54-own.true, c.in-52.if-kind-lt52-own.false, c.peek-kind.ensures, c.if-lp-ne-LP.false, c.peek-lp.ensures)), λ s pre b. record { does = λ a p. next (c.query-q.ensures.1.does a (c.with.ensures.2.packs a s p)) (λ f h. took _ _ _ (is c.peek-lp.ensures c.if-lp-ne-LP.false) (took _ _ _ (by_kind (λ z. both (leb 52 z) (leb z 53)) c.peek-kind.ensures (between_in 52 53 c.peek-kind.result (omega (arith, c.in-52.if-kind-lt52-own.false)) (omega (arith, c.in-52.if-kind-lt54-own.true)))) (goes _ _ h c.in-Got.is (λ rs F. c.ended-in-52.ensures.1 pre _ rs b F)))) })

pub among-returns-in-Got-l : goal.among-returns-in-Got-l
unfolding expr_w both
among-returns-in-Got-l t c = (further c.ended-in_default.ensures.0 (omega (arith, got_in c.list-l.ensures.0 c.in-Got-l.is, c.requires, c.emit-in_default.ensures.0, c.peek-kind.ensures, c.if-lp-ne-LP.false, c.peek-lp.ensures)), λ s pre b. record { does = λ a p. next (c.list-l.ensures.1.does a (c.with-in_default.ensures.2.packs a s p)) (λ f h. took _ _ _ (is c.peek-lp.ensures c.if-lp-ne-LP.false) (left _ _ _ (by_kind (λ z. both (leb 52 z) (leb z 53)) c.peek-kind.ensures (between_out 52 53 c.peek-kind.result (λ z. omega (arith, z)))) (left _ _ _ (isn't c.peek-kind.ensures c.in_default-1.rest.1) (goes _ _ h c.in-Got-l.is (λ rs F. c.ended-in_default.ensures.1 pre _ _ b (topped F c.emit-in_default.ensures.1)))))) })

-- ── binary ──
pub binary-returns-in_default : goal.binary-returns-in_default
unfolding expr_w
binary-returns-in_default t c = (passed_on c.expr-r.ensures.0 c.in_default.is, λ s pre b. record { does = λ a p. next ((c.expr-r.ensures.1 s).does a p) (λ f h. halts _ _ h c.in_default.is) })

pub binary-returns : goal.binary-returns
unfolding expr_w
binary-returns t c = (ended c.got.ensures (omega (arith, got_in c.expr-r.ensures.0 c.in-Got.is, c.requires, c.emit.ensures.0)), λ s pre b. record { does = λ a p. next ((c.expr-r.ensures.1 s).does a p) (λ f h. goes _ _ h c.in-Got.is (λ rs F. laid c.got.ensures refl (capped _ pre b F c.emit.ensures.1))) })

-- ── body ──
pub body-returns-then-queries-ge-QUERIES : goal.body-returns-then-queries-ge-QUERIES
unfolding expr_w
body-returns-then-queries-ge-QUERIES t c = (record { holds = omega arith }, record { holds = tt }, record { does = λ a p. at_once (λ f. took _ _ _ (is c.peek-kind.ensures c.if-kind-eq-SELECT.true) (took _ _ _ (le-leb 16 a.opened (omega (arith, queries_of_lem p, c.queries.ensures, c.if-queries-ge-QUERIES.true))) (halted refl refl))) })

pub body-returns-then-kind-eq-SELECT : goal.body-returns-then-kind-eq-SELECT
unfolding expr_w
body-returns-then-kind-eq-SELECT t c = (further c.select.ensures.0 (omega (arith)), opened (omega arith), record { does = λ a p. next (c.select.ensures.1.does _ (c.opened.ensures.opens _ p (omega (arith, queries_of_lem p, c.queries.ensures, c.if-queries-ge-QUERIES.false)))) (λ f h. took _ _ _ (is c.peek-kind.ensures c.if-kind-eq-SELECT.true) (left _ _ _ (lt-leb 16 a.opened (omega (arith, queries_of_lem p, c.queries.ensures, c.if-queries-ge-QUERIES.false))) h)) })

pub body-returns-then-queries-ge-QUERIES-2 : goal.body-returns-then-queries-ge-QUERIES-2
unfolding expr_w
body-returns-then-queries-ge-QUERIES-2 t c = (record { holds = omega arith }, record { holds = tt }, record { does = λ a p. at_once (λ f. left _ _ _ (isn't c.peek-kind.ensures c.if-kind-eq-SELECT.false) (took _ _ _ (is c.peek-kind.ensures c.if-kind-eq-VALUES.true) (took _ _ _ (le-leb 16 a.opened (omega (arith, queries_of_lem p, c.queries-then-kind-eq-VALUES.ensures, c.if-queries-ge-QUERIES-2.true))) (halted refl refl)))) })

pub body-returns-then-kind-eq-VALUES : goal.body-returns-then-kind-eq-VALUES
unfolding expr_w
body-returns-then-kind-eq-VALUES t c = (further c.rows.ensures.0 (omega (arith)), opened (omega arith), record { does = λ a p. next (c.rows.ensures.1.does _ (c.opened-then-kind-eq-VALUES.ensures.opens _ p (omega (arith, queries_of_lem p, c.queries-then-kind-eq-VALUES.ensures, c.if-queries-ge-QUERIES-2.false)))) (λ f h. left _ _ _ (isn't c.peek-kind.ensures c.if-kind-eq-SELECT.false) (took _ _ _ (is c.peek-kind.ensures c.if-kind-eq-VALUES.true) (left _ _ _ (lt-leb 16 a.opened (omega (arith, queries_of_lem p, c.queries-then-kind-eq-VALUES.ensures, c.if-queries-ge-QUERIES-2.false))) h))) })

pub body-returns : goal.body-returns
unfolding expr_w
body-returns t c = (refused c.wrong.ensures.0 (omega arith), opens_refused c.wrong.ensures.0, record { does = λ a p. at_once (λ f. left _ _ _ (isn't c.peek-kind.ensures c.if-kind-eq-SELECT.false) (left _ _ _ (isn't c.peek-kind.ensures c.if-kind-eq-VALUES.false) (misfit c.peek-kind.ensures c.wrong.ensures.1))) })

-- ── call ──
pub call-returns-then-is_bare : goal.call-returns-then-is_bare
unfolding expr_w
call-returns-then-is_bare t c = (further c.bare.ensures.0 (omega arith), record { does = λ a p. at_once (λ f. by_walk (two_ways _ _ _ _ _ _ (ap (λ z. eqb z STAR) (sym c.peek-kind.ensures.is)) (bare_either _ (by_kind is_bare c.peek-kind.ensures (sym c.is_bare.ensures ∙ c.if-is_bare.true)))) c.bare.ensures.1) })

pub call-overflow_add-at : goal.call-overflow_add-at
call-overflow_add-at t c = let d : (c.if-kind-eq-DISTINCT.distinct ≤ 1) × (c.if-kind-eq-DISTINCT.distinct ≤ c.peek-kind.result) = omega arith in omega (arith)

pub call-list-r-requires : goal.call-list-r-requires
call-list-r-requires t c = let d : (c.if-kind-eq-DISTINCT.distinct ≤ 1) × (c.if-kind-eq-DISTINCT.distinct ≤ c.peek-kind.result) = omega arith in omega (arith)

pub call-returns-in_default : goal.call-returns-in_default
unfolding expr_w
call-returns-in_default t c = (passed_on c.list-r.ensures.0 c.in_default.is, record { does = λ a p. next (c.list-r.ensures.1.does a p) (λ f h. left _ _ _ (bare_neither _ (by_kind is_bare c.peek-kind.ensures (sym c.is_bare.ensures ∙ c.if-is_bare.false))).0 (left _ _ _ (bare_neither _ (by_kind is_bare c.peek-kind.ensures (sym c.is_bare.ensures ∙ c.if-is_bare.false))).1 (by_walk (distinct_walk (kinds_of c.args.lists.now) (texts_of c.args.lists.now) f c.args.at c.if-kind-eq-DISTINCT.distinct a (elim c.if-kind-eq-DISTINCT.branch [ call-then-kind-eq-DISTINCT w ↦ inl (is c.peek-kind.ensures w.if-kind-eq-DISTINCT.true, w.distinct-is) | call-else-kind-eq-DISTINCT w ↦ inr (isn't c.peek-kind.ensures w.if-kind-eq-DISTINCT.false, w.distinct-is) ])) (halts _ _ h c.in_default.is)))) })

pub call-returns : goal.call-returns
unfolding expr_w
call-returns t c = (further c.called.ensures.0 (omega (arith, got_in c.list-r.ensures.0 c.in-Got.is, c.requires, c.peek-kind.ensures)), record { does = λ a p. next (c.list-r.ensures.1.does a p) (λ f h. left _ _ _ (bare_neither _ (by_kind is_bare c.peek-kind.ensures (sym c.is_bare.ensures ∙ c.if-is_bare.false))).0 (left _ _ _ (bare_neither _ (by_kind is_bare c.peek-kind.ensures (sym c.is_bare.ensures ∙ c.if-is_bare.false))).1 (by_walk (distinct_walk (kinds_of c.args.lists.now) (texts_of c.args.lists.now) f c.args.at c.if-kind-eq-DISTINCT.distinct a (elim c.if-kind-eq-DISTINCT.branch [ call-then-kind-eq-DISTINCT w ↦ inl (is c.peek-kind.ensures w.if-kind-eq-DISTINCT.true, w.distinct-is) | call-else-kind-eq-DISTINCT w ↦ inr (isn't c.peek-kind.ensures w.if-kind-eq-DISTINCT.false, w.distinct-is) ])) (goes _ _ h c.in-Got.is (λ rs F. c.called.ensures.1 _ rs refl F))))) })

-- ── case ──
pub case-returns-in_default : goal.case-returns-in_default
unfolding expr_w
case-returns-in_default t c = (passed_on c.cased-b.ensures.0 c.in_default.is, record { does = λ a p. next (c.cased-b.ensures.1.does a p) (λ f h. halts _ _ h c.in_default.is) })

pub case-returns-in_default-w : goal.case-returns-in_default-w
unfolding expr_w
case-returns-in_default-w t c = (passed_on c.when-w.ensures.0 c.in_default-w.is, record { does = λ a p. next (c.cased-b.ensures.1.does a p also c.when-w.ensures.1.does a p) (λ f h. goes _ _ h.0 c.in-Got.is (λ rs F. halts _ _ h.1 c.in_default-w.is)) })

pub case-returns-in_default-e : goal.case-returns-in_default-e
unfolding expr_w
case-returns-in_default-e t c = (passed_on c.clause-e.ensures.0 c.in_default-e.is, record { does = λ a p. next (c.cased-b.ensures.1.does a p also c.when-w.ensures.1.does a p also c.clause-e.ensures.1.does a p) (λ f h. goes _ _ h.0 c.in-Got.is (λ rs F. goes _ _ h.1.0 c.in-Got-w.is (λ qs G. halts _ _ h.1.1 c.in_default-e.is))) })

pub case-returns-then-end-ne-END : goal.case-returns-then-end-ne-END
unfolding expr_w
case-returns-then-end-ne-END t c = (refused c.wrong.ensures.0 (omega (arith, got_in c.clause-e.ensures.0 c.in-Got-e.is, got_in c.when-w.ensures.0 c.in-Got-w.is, got_in c.cased-b.ensures.0 c.in-Got.is, c.requires, c.if-end-ne-END.true, c.peek-end.ensures)), record { does = λ a p. next (c.cased-b.ensures.1.does a p also c.when-w.ensures.1.does a p also c.clause-e.ensures.1.does a p) (λ f h. goes _ _ h.0 c.in-Got.is (λ rs F. goes _ _ h.1.0 c.in-Got-w.is (λ qs G. goes _ _ h.1.1 c.in-Got-e.is (λ ps H. left _ _ _ (isn't c.peek-end.ensures c.if-end-ne-END.true) (misfit c.peek-end.ensures c.wrong.ensures.1))))) })

pub case-returns : goal.case-returns
unfolding expr_w
case-returns t c = (ended c.got.ensures (omega (arith, got_in c.clause-e.ensures.0 c.in-Got-e.is, got_in c.when-w.ensures.0 c.in-Got-w.is, got_in c.cased-b.ensures.0 c.in-Got.is, c.requires, c.emit.ensures.0, c.if-end-ne-END.false, c.peek-end.ensures)), record { does = λ a p. next (c.cased-b.ensures.1.does a p also c.when-w.ensures.1.does a p also c.clause-e.ensures.1.does a p) (λ f h. goes _ _ h.0 c.in-Got.is (λ rs F. goes _ _ h.1.0 c.in-Got-w.is (λ qs G. goes _ _ h.1.1 c.in-Got-e.is (λ ps H. took _ _ _ (is c.peek-end.ensures c.if-end-ne-END.false) (laid c.got.ensures refl (topped (F then G then H) c.emit.ensures.1)))))) })

-- ── cased ──
pub cased-returns-then-kind-eq-WHEN : goal.cased-returns-then-kind-eq-WHEN
unfolding expr_w absences
cased-returns-then-kind-eq-WHEN t c = (ended c.got.ensures (omega arith), record { does = λ a p. at_once (λ f. took _ _ _ (is c.peek-kind.ensures c.if-kind-eq-WHEN.true) (laid c.got.ensures refl c.absent.ensures.1)) })

pub cased-returns : goal.cased-returns
unfolding expr_w absences
cased-returns t c = (further c.expr.ensures.0 (omega arith), record { does = λ a p. next ((c.expr.ensures.1 1).does a p) (λ f h. left _ _ _ (isn't c.peek-kind.ensures c.if-kind-eq-WHEN.false) (h)) })

-- ── cast ──
pub cast-returns-in_default : goal.cast-returns-in_default
unfolding expr_w
cast-returns-in_default t c = (passed_on c.after-e.ensures.0 c.in_default.is, record { does = λ a p. next ((c.after-e.ensures.1 1).does a p) (λ f h. halts _ _ h c.in_default.is) })

pub cast-returns-then-kind-ne-AS : goal.cast-returns-then-kind-ne-AS
unfolding expr_w
cast-returns-then-kind-ne-AS t c = (refused c.wrong.ensures.0 (omega (arith, got_in c.after-e.ensures.0 c.in-Got.is, c.requires, c.if-kind-ne-AS.true, c.peek-kind.ensures)), record { does = λ a p. next ((c.after-e.ensures.1 1).does a p) (λ f h. goes _ _ h c.in-Got.is (λ rs F. left _ _ _ (isn't c.peek-kind.ensures c.if-kind-ne-AS.true) (misfit c.peek-kind.ensures c.wrong.ensures.1))) })

pub cast-returns-in_default-n : goal.cast-returns-in_default-n
unfolding expr_w
cast-returns-in_default-n t c = (passed_on c.name-n.ensures.0 c.in_default-n.is, record { does = λ a p. next ((c.after-e.ensures.1 1).does a p) (λ f h. goes _ _ h c.in-Got.is (λ rs F. took _ _ _ (is c.peek-kind.ensures c.if-kind-ne-AS.false) (halts _ _ c.name-n.ensures.2 c.in_default-n.is))) })

pub cast-returns : goal.cast-returns
unfolding expr_w
cast-returns t c = (further c.close.ensures.0 (omega (arith, got_in c.name-n.ensures.0 c.in-Got-n.is, one_on c.name-n.ensures.1 c.in-Got-n.is, got_in c.after-e.ensures.0 c.in-Got.is, c.requires, c.if-kind-ne-AS.false, c.peek-kind.ensures)), record { does = λ a p. next ((c.after-e.ensures.1 1).does a p) (λ f h. goes _ _ h c.in-Got.is (λ rs F. took _ _ _ (is c.peek-kind.ensures c.if-kind-ne-AS.false) (goes _ _ c.name-n.ensures.2 c.in-Got-n.is (λ qs G. behind _ _ (F then G) (c.close.ensures.1 (length (rs ++ qs)) (F then G).filled.counted))))) })

-- ── clause ──
pub clause-returns-then-kind-word : goal.clause-returns-then-kind-word
unfolding expr_w absences
clause-returns-then-kind-word t c = (further c.expr.ensures.0 (omega arith), record { does = λ a p. next ((c.expr.ensures.1 1).does a p) (λ f h. took _ _ _ (is c.peek-kind.ensures c.if-kind-word.true) (h)) })

pub clause-returns : goal.clause-returns
unfolding expr_w absences
clause-returns t c = (ended c.got.ensures (omega arith), record { does = λ a p. at_once (λ f. left _ _ _ (isn't c.peek-kind.ensures c.if-kind-word.false) (laid c.got.ensures refl c.absent.ensures.1)) })

-- ── col ──
pub col-returns-then-kind-eq-STAR : goal.col-returns-then-kind-eq-STAR
unfolding expr_w
col-returns-then-kind-eq-STAR t c = (ended c.got.ensures (omega arith), record { does = λ a p. at_once (λ f. took _ _ _ (is c.peek-kind.ensures c.if-kind-eq-STAR.true) (laid c.got.ensures refl c.emit.ensures.1)) })

pub col-returns-in_default : goal.col-returns-in_default
unfolding expr_w
col-returns-in_default t c = (passed_on c.expr-r.ensures.0 c.in_default.is, record { does = λ a p. next ((c.expr-r.ensures.1 0).does a (c.with.ensures.2.packs a 1 p)) (λ f h. left _ _ _ (isn't c.peek-kind.ensures c.if-kind-eq-STAR.false) (halts _ _ h c.in_default.is)) })

pub col-returns-then-s_d-eq0 : goal.col-returns-then-s_d-eq0
unfolding expr_w
col-returns-then-s_d-eq0 t c = (record { holds = omega (arith, got_in c.expr-r.ensures.0 c.in-Got.is) }, record { does = λ a p. next ((c.expr-r.ensures.1 0).does a (c.with.ensures.2.packs a 1 p)) (λ f h. left _ _ _ (isn't c.peek-kind.ensures c.if-kind-eq-STAR.false) (goes _ _ h c.in-Got.is (λ rs F. took _ _ _ (eqb-true _ _ c.if-s_d-eq0.true) (laid refl refl F)))) })

pub col-returns-in_default-a : goal.col-returns-in_default-a
unfolding expr_w
col-returns-in_default-a t c = (passed_on c.alias-a.ensures.0 c.in_default-a.is, record { does = λ a p. next ((c.expr-r.ensures.1 0).does a (c.with.ensures.2.packs a 1 p)) (λ f h. left _ _ _ (isn't c.peek-kind.ensures c.if-kind-eq-STAR.false) (goes _ _ h c.in-Got.is (λ rs F. left _ _ _ (ne_eqb _ _ c.if-s_d-eq0.false) (halts _ _ c.alias-a.ensures.1 c.in_default-a.is)))) })

pub col-returns : goal.col-returns
unfolding expr_w
col-returns t c = (ended c.got-2.ensures (omega (arith, got_in c.alias-a.ensures.0 c.in-Got-a.is, got_in c.expr-r.ensures.0 c.in-Got.is, c.requires, c.emit-2.ensures.0, c.if-s_d-eq0.false, c.if-kind-eq-STAR.false, c.peek-kind.ensures)), record { does = λ a p. next ((c.expr-r.ensures.1 0).does a (c.with.ensures.2.packs a 1 p)) (λ f h. left _ _ _ (isn't c.peek-kind.ensures c.if-kind-eq-STAR.false) (goes _ _ h c.in-Got.is (λ rs F. left _ _ _ (ne_eqb _ _ c.if-s_d-eq0.false) (goes _ _ c.alias-a.ensures.1 c.in-Got-a.is (λ qs G. laid c.got-2.ensures refl (topped (F then G) c.emit-2.ensures.1)))))) })

-- ── cols ──
pub cols-loop-d-init : goal.cols-loop-d-init
unfolding expr_w
cols-loop-d-init t c = (omega arith, λ a p. loop_start)

pub cols-returns-in_default : goal.cols-returns-in_default
unfolding expr_w
cols-returns-in_default t c = (passed_on c.col-r.ensures.0 c.in_default.is, record { does = λ a p. (c.loop-d.invariant.1 a p).on _ _ (next (c.col-r.ensures.1.does a p) (λ f h. halts _ _ h c.in_default.is)) })

pub cols-loop-d-preserved : goal.cols-loop-d-preserved
unfolding expr_w
cols-loop-d-preserved t c = (omega (arith, got_in c.col-r.ensures.0 c.in-Got.is, c.requires, c.if-kind-ne-COMMA.false, c.peek-kind.ensures, c.loop-d.invariant), λ a p. record { on = λ r N' l. (c.loop-d.invariant.1 a p).on r N' (next (c.col-r.ensures.1.does a p also l) (λ f h. goes _ _ h.0 c.in-Got.is (λ rs F. took _ _ _ (is c.peek-kind.ensures c.if-kind-ne-COMMA.false) (behind _ _ F h.1)))) })

pub cols-returns : goal.cols-returns
unfolding expr_w
cols-returns t c = (ended c.counted.ensures (omega (arith, got_in c.col-r.ensures.0 c.in-Got.is, c.requires, c.if-kind-ne-COMMA.true, c.peek-kind.ensures, c.loop-d.invariant)), record { does = λ a p. (c.loop-d.invariant.1 a p).on _ _ (next (c.col-r.ensures.1.does a p) (λ f h. goes _ _ h c.in-Got.is (λ rs F. left _ _ _ (isn't c.peek-kind.ensures c.if-kind-ne-COMMA.true) (laid c.counted.ensures refl (F))))) })

-- ── ex ──
pub ex-returns-then-level-gt-LEVELS : goal.ex-returns-then-level-gt-LEVELS
unfolding expr_w
ex-returns-then-level-gt-LEVELS t c = (refused c.too_deep.ensures.0 (omega arith), λ s. record { does = λ a p. at_once (λ f. took _ _ _ (lt-ltb 64 a.level (omega (arith, p.sum, p.weak, p.few, c.if-level-gt-LEVELS.true))) (deep_walk c.args.ask s c.peek-kind.ensures (strength_of p) c.too_deep.ensures.1)) })

pub ex-returns-in_default-first : goal.ex-returns-in_default-first
unfolding expr_w
ex-returns-in_default-first t c = (let f : Within 1 0 c.args.lists.now c.args.at c.args.table.now.made c.if-kind-lt1.table.made c.if-kind-lt1.first = elim c.if-kind-lt1.branch [ ex-in-1-to-11 w ↦ same_answer w.first-is (ap (λ z. z.made) w.table-is) w.leaf-first.ensures.0 | ex-in_default w ↦ same_answer w.first-is (ap (λ z. z.made) w.table-is) w.operand-first.ensures.0 ] in passed_on f c.in_default-first.is, λ s. record { does = λ a p. let g : Later (λ f. Laid c.args.table.now c.if-kind-lt1.table (choose (both (leb 1 (get_or (kinds_of c.args.lists.now) c.args.at 0)) (leb (get_or (kinds_of c.args.lists.now) c.args.at 0) 11)) (leaf_w (kinds_of c.args.lists.now) (texts_of c.args.lists.now) f c.args.at a s) (operand_w (kinds_of c.args.lists.now) (texts_of c.args.lists.now) f c.args.at a s)) c.if-kind-lt1.first) = elim c.if-kind-lt1.branch [ ex-in-1-to-11 w ↦ so ((w.leaf-first.ensures.1 s).does a p) (λ f h. took _ _ _ (by_kind (λ z. both (leb 1 z) (leb z 11)) c.peek-kind.ensures (between_in 1 11 c.peek-kind.result (omega arith) (omega arith))) (laid_joined w.table-is w.first-is h)) | ex-in_default w ↦ so ((w.operand-first.ensures.1 s).does a p) (λ f h. left _ _ _ (by_kind (λ z. both (leb 1 z) (leb z 11)) c.peek-kind.ensures (elim w.in_default.branch [ ex-in_default-via-then-kind-lt1 v ↦ between_out 1 11 c.peek-kind.result (λ z. omega (arith, z)) | ex-in_default-via-else-kind-lt1+else-kind-lt12 v ↦ between_out 1 11 c.peek-kind.result (λ z. omega (arith, z)) ])) (laid_joined w.table-is w.first-is h)) ] in next (g) (λ f h. left _ _ _ (le-ltb 64 a.level (omega (arith, p.sum, p.weak, p.few, c.if-level-gt-LEVELS.false))) (halts _ _ h c.in_default-first.is)) })

pub ex-overflow_cast-s_d : goal.ex-overflow_cast-s_d
ex-overflow_cast-s_d t c = let f : Within 1 0 c.args.lists.now c.args.at c.args.table.now.made c.if-kind-lt1.table.made c.if-kind-lt1.first = elim c.if-kind-lt1.branch [ ex-in-1-to-11 w ↦ same_answer w.first-is (ap (λ z. z.made) w.table-is) w.leaf-first.ensures.0 | ex-in_default w ↦ same_answer w.first-is (ap (λ z. z.made) w.table-is) w.operand-first.ensures.0 ] in omega (arith, got_in f c.in-Got.is)

pub ex-ops-requires : goal.ex-ops-requires
ex-ops-requires t c = let f : Within 1 0 c.args.lists.now c.args.at c.args.table.now.made c.if-kind-lt1.table.made c.if-kind-lt1.first = elim c.if-kind-lt1.branch [ ex-in-1-to-11 w ↦ same_answer w.first-is (ap (λ z. z.made) w.table-is) w.leaf-first.ensures.0 | ex-in_default w ↦ same_answer w.first-is (ap (λ z. z.made) w.table-is) w.operand-first.ensures.0 ] in omega (arith, got_in f c.in-Got.is, c.requires)

pub ex-returns : goal.ex-returns
unfolding expr_w
ex-returns t c = let f : Within 1 0 c.args.lists.now c.args.at c.args.table.now.made c.if-kind-lt1.table.made c.if-kind-lt1.first = elim c.if-kind-lt1.branch [ ex-in-1-to-11 w ↦ same_answer w.first-is (ap (λ z. z.made) w.table-is) w.leaf-first.ensures.0 | ex-in_default w ↦ same_answer w.first-is (ap (λ z. z.made) w.table-is) w.operand-first.ensures.0 ] in (further c.ops.ensures.0 (omega (arith, got_in f c.in-Got.is, c.requires)), λ s. record { does = λ a p. let g : Later (λ f. Laid c.args.table.now c.if-kind-lt1.table (choose (both (leb 1 (get_or (kinds_of c.args.lists.now) c.args.at 0)) (leb (get_or (kinds_of c.args.lists.now) c.args.at 0) 11)) (leaf_w (kinds_of c.args.lists.now) (texts_of c.args.lists.now) f c.args.at a s) (operand_w (kinds_of c.args.lists.now) (texts_of c.args.lists.now) f c.args.at a s)) c.if-kind-lt1.first) = elim c.if-kind-lt1.branch [ ex-in-1-to-11 w ↦ so ((w.leaf-first.ensures.1 s).does a p) (λ f h. took _ _ _ (by_kind (λ z. both (leb 1 z) (leb z 11)) c.peek-kind.ensures (between_in 1 11 c.peek-kind.result (omega arith) (omega arith))) (laid_joined w.table-is w.first-is h)) | ex-in_default w ↦ so ((w.operand-first.ensures.1 s).does a p) (λ f h. left _ _ _ (by_kind (λ z. both (leb 1 z) (leb z 11)) c.peek-kind.ensures (elim w.in_default.branch [ ex-in_default-via-then-kind-lt1 v ↦ between_out 1 11 c.peek-kind.result (λ z. omega (arith, z)) | ex-in_default-via-else-kind-lt1+else-kind-lt12 v ↦ between_out 1 11 c.peek-kind.result (λ z. omega (arith, z)) ])) (laid_joined w.table-is w.first-is h)) ] in next (g also for_any _ _ (λ pre e. (c.ops.ensures.1 s pre e).does a p) (got_in f c.in-Got.is).more) (λ f h. left _ _ _ (le-ltb 64 a.level (omega (arith, p.sum, p.weak, p.few, c.if-level-gt-LEVELS.false))) (goes _ _ h.0 c.in-Got.is (λ rs F. behind _ _ F (h.1 (length rs) F.filled.counted)))) })

-- ── exists ──
pub exists-returns-then-kind-ne-LP : goal.exists-returns-then-kind-ne-LP
unfolding expr_w
exists-returns-then-kind-ne-LP t c = (refused c.wrong.ensures.0 (omega arith), record { does = λ a p. at_once (λ f. left _ _ _ (isn't c.peek-kind.ensures c.if-kind-ne-LP.true) (misfit c.peek-kind.ensures c.wrong.ensures.1)) })

pub exists-returns : goal.exists-returns
unfolding expr_w
exists-returns t c = (further c.sub.ensures.0 (omega arith), record { does = λ a p. next (c.sub.ensures.1.does a p) (λ f h. took _ _ _ (is c.peek-kind.ensures c.if-kind-ne-LP.false) (h)) })

-- ── expr ──
pub expr-returns : goal.expr-returns
expr-returns t c = c.ex.ensures

-- ── from ──
pub from-returns-then-kind-ne-FROM : goal.from-returns-then-kind-ne-FROM
unfolding expr_w absences
from-returns-then-kind-ne-FROM t c = (ended c.got.ensures (omega arith), record { does = λ a p. at_once (λ f. left _ _ _ (isn't c.requires.1 c.if-kind-ne-FROM.true) (laid c.got.ensures refl c.absent.ensures.1)) })

pub from-returns-in_default : goal.from-returns-in_default
unfolding expr_w absences
from-returns-in_default t c = (passed_on c.source-s.ensures.0 c.in_default.is, record { does = λ a p. next (c.source-s.ensures.1.does a p) (λ f h. took _ _ _ (is c.requires.1 c.if-kind-ne-FROM.false) (halts _ _ h c.in_default.is)) })

pub from-returns-in_default-j : goal.from-returns-in_default-j
unfolding expr_w absences
from-returns-in_default-j t c = (passed_on c.joins-j.ensures.0 c.in_default-j.is, record { does = λ a p. next (c.source-s.ensures.1.does a p also c.joins-j.ensures.1.does a p) (λ f h. took _ _ _ (is c.requires.1 c.if-kind-ne-FROM.false) (goes _ _ h.0 c.in-Got.is (λ rs F. halts _ _ h.1 c.in_default-j.is))) })

pub from-returns : goal.from-returns
unfolding expr_w absences
from-returns t c = (ended c.got-2.ensures (omega (arith, got_in c.joins-j.ensures.0 c.in-Got-j.is, got_in c.source-s.ensures.0 c.in-Got.is, c.requires, c.emit.ensures.0, c.if-kind-ne-FROM.false)), record { does = λ a p. next (c.source-s.ensures.1.does a p also c.joins-j.ensures.1.does a p) (λ f h. took _ _ _ (is c.requires.1 c.if-kind-ne-FROM.false) (goes _ _ h.0 c.in-Got.is (λ rs F. goes _ _ h.1 c.in-Got-j.is (λ qs G. laid c.got-2.ensures refl (topped (F then G) c.emit.ensures.1))))) })

-- ── group ──
pub group-returns-then-by-ne-BY : goal.group-returns-then-by-ne-BY
unfolding expr_w absences
group-returns-then-by-ne-BY t c = (refused c.wrong.ensures.0 (omega arith), record { does = λ a p. at_once (λ f. took _ _ _ (is c.peek-kind.ensures c.in-61.is) (left _ _ _ (isn't c.peek-by.ensures c.if-by-ne-BY.true) (misfit c.peek-by.ensures c.wrong.ensures.1))) })

pub group-returns-in_default-r : goal.group-returns-in_default-r
unfolding expr_w absences
group-returns-in_default-r t c = (passed_on c.list-r.ensures.0 c.in_default-r.is, record { does = λ a p. next (c.list-r.ensures.1.does a p) (λ f h. took _ _ _ (is c.peek-kind.ensures c.in-61.is) (took _ _ _ (is c.peek-by.ensures c.if-by-ne-BY.false) (halts _ _ h c.in_default-r.is))) })

pub group-returns-in-Got : goal.group-returns-in-Got
unfolding expr_w absences
group-returns-in-Got t c = (further c.clause.ensures.0 (omega (arith, got_in c.list-r.ensures.0 c.in-Got.is, c.requires, c.emit.ensures.0, c.if-by-ne-BY.false, c.peek-by.ensures, c.peek-kind.ensures)), record { does = λ a p. next (c.list-r.ensures.1.does a p also c.clause.ensures.1.does a p) (λ f h. took _ _ _ (is c.peek-kind.ensures c.in-61.is) (took _ _ _ (is c.peek-by.ensures c.if-by-ne-BY.false) (goes _ _ h.0 c.in-Got.is (λ rs F. behind _ _ (topped F c.emit.ensures.1) h.1)))) })

pub group-returns-in-63 : goal.group-returns-in-63
unfolding expr_w absences
group-returns-in-63 t c = (further c.expr.ensures.0 (omega (arith, c.requires, c.emit-in-63.ensures.0, c.peek-kind.ensures)), record { does = λ a p. next ((c.expr.ensures.1 1).does a p) (λ f h. left _ _ _ (differs _ c.peek-kind.ensures c.in-63.is refl) (took _ _ _ (is c.peek-kind.ensures c.in-63.is) (behind _ _ c.emit-in-63.ensures.1 h))) })

pub group-returns-in_default : goal.group-returns-in_default
unfolding expr_w absences
group-returns-in_default t c = (ended c.got.ensures (omega arith), record { does = λ a p. at_once (λ f. left _ _ _ (isn't c.peek-kind.ensures c.in_default.in_default-own.rest.0.1) (left _ _ _ (isn't c.peek-kind.ensures c.in_default.in_default-own.rest.1) (laid c.got.ensures refl c.absent.ensures.1))) })

-- ── joins ──
pub joins-loop-ask-init : goal.joins-loop-ask-init
unfolding expr_w begins_join
joins-loop-ask-init t c = (omega arith, λ a p. loop_start)

pub joins-returns-in_default : goal.joins-returns-in_default
unfolding expr_w begins_join
joins-returns-in_default t c = (passed_on c.joined-j.ensures.0 c.in_default.is, record { does = λ a p. (c.loop-ask.invariant.1 a p).on _ _ (at_once (λ f. took _ _ _ (by_kind begins_join c.peek-kind.ensures (sym c.begins_join.ensures ∙ c.if-not-begins_join.false)) (halts _ _ (c.joined-j.ensures.1 c.args.table.now) c.in_default.is))) })

pub joins-returns-in_default-s : goal.joins-returns-in_default-s
unfolding expr_w begins_join
joins-returns-in_default-s t c = (passed_on c.source-s.ensures.0 c.in_default-s.is, record { does = λ a p. (c.loop-ask.invariant.1 a p).on _ _ (next (c.source-s.ensures.1.does a p) (λ f h. took _ _ _ (by_kind begins_join c.peek-kind.ensures (sym c.begins_join.ensures ∙ c.if-not-begins_join.false)) (goes _ _ (c.joined-j.ensures.1 c.args.table.now) c.in-Got.is (λ os O. halts _ _ h c.in_default-s.is)))) })

pub joins-returns-in_default-o : goal.joins-returns-in_default-o
unfolding expr_w begins_join
joins-returns-in_default-o t c = (passed_on c.on-o.ensures.0 c.in_default-o.is, record { does = λ a p. (c.loop-ask.invariant.1 a p).on _ _ (next (c.source-s.ensures.1.does a p also c.on-o.ensures.1.does a p) (λ f h. took _ _ _ (by_kind begins_join c.peek-kind.ensures (sym c.begins_join.ensures ∙ c.if-not-begins_join.false)) (goes _ _ (c.joined-j.ensures.1 c.args.table.now) c.in-Got.is (λ os O. goes _ _ h.0 c.in-Got-s.is (λ rs F. halts _ _ h.1 c.in_default-o.is))))) })

pub joins-loop-ask-preserved : goal.joins-loop-ask-preserved
unfolding expr_w begins_join
joins-loop-ask-preserved t c = (omega (arith, got_in c.on-o.ensures.0 c.in-Got-o.is, got_in c.source-s.ensures.0 c.in-Got-s.is, got_in c.joined-j.ensures.0 c.in-Got.is, c.requires, c.emit.ensures.0, c.peek-kind.ensures, c.loop-ask.invariant), λ a p. record { on = λ r N' l. (c.loop-ask.invariant.1 a p).on r N' (next (c.source-s.ensures.1.does a p also c.on-o.ensures.1.does a p also l) (λ f h. took _ _ _ (by_kind begins_join c.peek-kind.ensures (sym c.begins_join.ensures ∙ c.if-not-begins_join.false)) (goes _ _ (c.joined-j.ensures.1 c.args.table.now) c.in-Got.is (λ os O. goes _ _ h.0 c.in-Got-s.is (λ rs F. goes _ _ h.1.0 c.in-Got-o.is (λ qs G. behind _ _ (topped (F then G) c.emit.ensures.1) h.1.1)))))) })

pub joins-returns : goal.joins-returns
unfolding expr_w begins_join
joins-returns t c = (ended c.counted.ensures (omega arith), record { does = λ a p. (c.loop-ask.invariant.1 a p).on _ _ (at_once (λ f. left _ _ _ (by_kind begins_join c.peek-kind.ensures (sym c.begins_join.ensures ∙ c.if-not-begins_join.true)) (laid c.counted.ensures refl none_came))) })

-- ── leaf ──
pub leaf-returns-in-Some : goal.leaf-returns-in-Some
unfolding expr_w
leaf-returns-in-Some t c = (ended c.got.ensures (omega (arith, c.requires, c.emit.ensures.0)), λ s. record { does = λ a p. at_once (λ f. took _ _ _ (by_kind (λ k. ltb 0 (literal_code k)) c.requires.3 (lt-ltb 0 (literal_code c.args.kind) (there c.literal_code.ensures c.in-Some.is).1)) (laid c.got.ensures refl (fills_as (ap₂ (λ y z. one y z 0 1) ((there c.literal_code.ensures c.in-Some.is).0 ∙ ap literal_code c.requires.3.is) (c.literal_text.ensures ∙ ap (literal_text c.args.lists.now c.args.at) c.requires.3.is)) c.emit.ensures.1))) })

pub leaf-returns-then-kind-ne-INDEXED : goal.leaf-returns-then-kind-ne-INDEXED
unfolding expr_w
leaf-returns-then-kind-ne-INDEXED t c = (further c.call.ensures.0 (omega (arith, c.requires, c.if-kind-ne-INDEXED.true, c.if-next-eq-LP.true, c.peek-next.ensures, c.named.ensures.0)), λ s. record { does = λ a p. next (c.call.ensures.1.does (deeper a) (c.deeper.ensures.packs a s p)) (λ f h. left _ _ _ (by_kind (λ k. ltb 0 (literal_code k)) c.requires.3 (le-ltb 0 (literal_code c.args.kind) (omega (arith, not_there c.literal_code.ensures c.in_default.is)))) (took _ _ _ (both_i _ _ (is c.peek-next.ensures c.if-next-eq-LP.true) (by_kind heads_call c.requires.3 (heads_call_lem c.args.kind c.requires.4 c.requires.5 (omega (arith, not_there c.literal_code.ensures c.in_default.is)) c.if-kind-ne-INDEXED.true))) (behind _ _ (c.named.ensures.1 c.requires.3.is) h))) })

pub leaf-returns : goal.leaf-returns
unfolding expr_w
leaf-returns t c = (further c.dotted.ensures.0 (omega (arith, c.requires, c.peek-next.ensures, c.named.ensures.0)), λ s. record { does = λ a p. at_once (λ f. left _ _ _ (by_kind (λ k. ltb 0 (literal_code k)) c.requires.3 (le-ltb 0 (literal_code c.args.kind) (omega (arith, not_there c.literal_code.ensures c.in_default.is)))) (left _ _ _ (elim c.if-next-eq-LP.branch [ leaf-then-next-eq-LP+else-kind-ne-INDEXED w ↦ no_right _ _ (by_kind heads_call c.requires.3 (indexed_heads_none _ w.if-kind-ne-INDEXED.false)) | leaf-else-next-eq-LP w ↦ no_left _ _ (isn't c.peek-next.ensures w.if-next-eq-LP.false) ]) (behind _ _ (c.named.ensures.1 c.requires.3.is) (by_walk (ap (λ z. dotted_w (kinds_of c.args.lists.now) (texts_of c.args.lists.now) (c.args.at + 1) z) (sym (c.strength.ensures ∙ strength_of p))) c.dotted.ensures.1)))) })

-- ── limit ──
pub limit-returns-then-kind-ne-LIMIT : goal.limit-returns-then-kind-ne-LIMIT
unfolding expr_w absences
limit-returns-then-kind-ne-LIMIT t c = (ended c.got.ensures (omega arith), record { does = λ a p. at_once (λ f. left _ _ _ (isn't c.peek-kind.ensures c.if-kind-ne-LIMIT.true) (laid c.got.ensures refl c.absent.ensures.1)) })

pub limit-returns-in_default : goal.limit-returns-in_default
unfolding expr_w absences
limit-returns-in_default t c = (passed_on c.expr-a.ensures.0 c.in_default.is, record { does = λ a p. next ((c.expr-a.ensures.1 1).does a p) (λ f h. took _ _ _ (is c.peek-kind.ensures c.if-kind-ne-LIMIT.false) (halts _ _ h c.in_default.is)) })

pub limit-returns-in_default-b : goal.limit-returns-in_default-b
unfolding expr_w absences
limit-returns-in_default-b t c = (passed_on c.expr-b.ensures.0 c.in_default-b.is, record { does = λ a p. next ((c.expr-a.ensures.1 1).does a p also (c.expr-b.ensures.1 1).does a p) (λ f h. took _ _ _ (is c.peek-kind.ensures c.if-kind-ne-LIMIT.false) (goes _ _ h.0 c.in-Got.is (λ rs F. left _ _ _ (differs _ c.peek-next.ensures c.in-14.is refl) (took _ _ _ (is c.peek-next.ensures c.in-14.is) (halts _ _ h.1 c.in_default-b.is))))) })

pub limit-returns-in-71 : goal.limit-returns-in-71
unfolding expr_w absences
limit-returns-in-71 t c = (further c.expr.ensures.0 (omega (arith, got_in c.expr-a.ensures.0 c.in-Got.is, c.requires, c.peek-next.ensures, c.if-kind-ne-LIMIT.false, c.peek-kind.ensures)), record { does = λ a p. next ((c.expr-a.ensures.1 1).does a p also (c.expr.ensures.1 1).does a p) (λ f h. took _ _ _ (is c.peek-kind.ensures c.if-kind-ne-LIMIT.false) (goes _ _ h.0 c.in-Got.is (λ rs F. took _ _ _ (is c.peek-next.ensures c.in-71.is) (behind _ _ F h.1)))) })

pub limit-returns-in-Got-b : goal.limit-returns-in-Got-b
unfolding expr_w absences
limit-returns-in-Got-b t c = (ended c.in-Got-b.is (omega (arith, got_in c.expr-b.ensures.0 c.in-Got-b.is, got_in c.expr-a.ensures.0 c.in-Got.is, c.rotate.ensures.kept)), record { does = λ a p. next ((c.expr-a.ensures.1 1).does a p also (c.expr-b.ensures.1 1).does a p) (λ f h. took _ _ _ (is c.peek-kind.ensures c.if-kind-ne-LIMIT.false) (goes _ _ h.0 c.in-Got.is (λ rs F. left _ _ _ (differs _ c.peek-next.ensures c.in-14.is refl) (took _ _ _ (is c.peek-next.ensures c.in-14.is) (goes _ _ h.1 c.in-Got-b.is (λ qs G. laid c.in-Got-b.is refl (c.rotate.ensures.turns _ rs qs refl F.filled.counted (F then G)))))))) })

pub limit-returns-in_default-next : goal.limit-returns-in_default-next
unfolding expr_w absences
limit-returns-in_default-next t c = (ended c.got-in_default-next.ensures (omega (arith, got_in c.expr-a.ensures.0 c.in-Got.is, c.requires, c.absent-in_default-next.ensures.0, c.peek-next.ensures, c.if-kind-ne-LIMIT.false, c.peek-kind.ensures)), record { does = λ a p. next ((c.expr-a.ensures.1 1).does a p) (λ f h. took _ _ _ (is c.peek-kind.ensures c.if-kind-ne-LIMIT.false) (goes _ _ h c.in-Got.is (λ rs F. left _ _ _ (isn't c.peek-next.ensures c.in_default-next.in_default-next-own.rest.0.1) (left _ _ _ (isn't c.peek-next.ensures c.in_default-next.in_default-next-own.rest.1) (laid c.got-in_default-next.ensures refl (F then c.absent-in_default-next.ensures.1)))))) })

-- ── list ──
pub list-loop-d-init : goal.list-loop-d-init
unfolding expr_w
list-loop-d-init t c = (omega arith, λ a p. loop_start)

pub list-returns-in_default : goal.list-returns-in_default
unfolding expr_w
list-returns-in_default t c = (passed_on c.expr-r.ensures.0 c.in_default.is, record { does = λ a p. (c.loop-d.invariant.1 a p).on _ _ (next ((c.expr-r.ensures.1 1).does a p) (λ f h. halts _ _ h c.in_default.is)) })

pub list-loop-d-preserved : goal.list-loop-d-preserved
unfolding expr_w
list-loop-d-preserved t c = (omega (arith, got_in c.expr-r.ensures.0 c.in-Got.is, c.requires, c.if-kind-ne-COMMA.false, c.peek-kind.ensures, c.loop-d.invariant), λ a p. record { on = λ r N' l. (c.loop-d.invariant.1 a p).on r N' (next ((c.expr-r.ensures.1 1).does a p also l) (λ f h. goes _ _ h.0 c.in-Got.is (λ rs F. took _ _ _ (is c.peek-kind.ensures c.if-kind-ne-COMMA.false) (behind _ _ F h.1)))) })

pub list-returns : goal.list-returns
unfolding expr_w
list-returns t c = (ended c.counted.ensures (omega (arith, got_in c.expr-r.ensures.0 c.in-Got.is, c.requires, c.if-kind-ne-COMMA.true, c.peek-kind.ensures, c.loop-d.invariant)), record { does = λ a p. (c.loop-d.invariant.1 a p).on _ _ (next ((c.expr-r.ensures.1 1).does a p) (λ f h. goes _ _ h c.in-Got.is (λ rs F. left _ _ _ (isn't c.peek-kind.ensures c.if-kind-ne-COMMA.true) (laid c.counted.ensures refl (F))))) })

-- ── on ──
pub on-returns-in_default-r : goal.on-returns-in_default-r
unfolding expr_w absences
on-returns-in_default-r t c = (passed_on c.expr-r.ensures.0 c.in_default-r.is, record { does = λ a p. next ((c.expr-r.ensures.1 1).does a p) (λ f h. took _ _ _ (is c.peek-kind.ensures c.in-58.is) (halts _ _ h c.in_default-r.is)) })

pub on-returns-in-Got : goal.on-returns-in-Got
unfolding expr_w absences
on-returns-in-Got t c = (ended c.got.ensures (omega (arith, got_in c.expr-r.ensures.0 c.in-Got.is, c.requires, c.emit.ensures.0, c.peek-kind.ensures)), record { does = λ a p. next ((c.expr-r.ensures.1 1).does a p) (λ f h. took _ _ _ (is c.peek-kind.ensures c.in-58.is) (goes _ _ h c.in-Got.is (λ rs F. laid c.got.ensures refl (topped F c.emit.ensures.1)))) })

pub on-returns-in-59 : goal.on-returns-in-59
unfolding expr_w absences
on-returns-in-59 t c = (further c.using.ensures.0 (omega arith), record { does = λ a p. next c.using.ensures.1 (λ f h. left _ _ _ (differs _ c.peek-kind.ensures c.in-59.is refl) (took _ _ _ (is c.peek-kind.ensures c.in-59.is) (h))) })

pub on-returns-in_default : goal.on-returns-in_default
unfolding expr_w absences
on-returns-in_default t c = (ended c.got-in_default.ensures (omega arith), record { does = λ a p. at_once (λ f. left _ _ _ (isn't c.peek-kind.ensures c.in_default.in_default-own.rest.0.1) (left _ _ _ (isn't c.peek-kind.ensures c.in_default.in_default-own.rest.1) (laid c.got-in_default.ensures refl c.absent.ensures.1))) })

-- ── op ──
pub op-returns-then-kind-lt-NOT : goal.op-returns-then-kind-lt-NOT
op-returns-then-kind-lt-NOT t c = (further c.binary.ensures.0 (omega arith), λ s pre b. record { does = λ a p. op_binary a s pre c.requires.2 c.if-kind-lt-NOT.true ((c.binary.ensures.1 s pre b).does a p) })

pub op-overflow_add-not-in-40 : goal.op-overflow_add-not-in-40
op-overflow_add-not-in-40 t c = let n : c.if-kind-eq-NOT.not ≤ 1 = omega arith in let s : Seen c.args.lists.now (c.args.at + c.if-kind-eq-NOT.not) c.if-kind-eq-NOT-2.word = elim c.if-kind-eq-NOT.branch [ op-then-kind-eq-NOT v ↦ elim c.if-kind-eq-NOT-2.branch [ op-then-kind-eq-NOT-2 w ↦ seen_as w.peek-word.ensures (omega arith) w.word-is | op-else-kind-eq-NOT-2 w ↦ absurd (omega arith) ] | op-else-kind-eq-NOT v ↦ elim c.if-kind-eq-NOT-2.branch [ op-then-kind-eq-NOT-2 w ↦ absurd (omega arith) | op-else-kind-eq-NOT-2 w ↦ seen_as c.requires.2 (omega arith) w.word-is ] ] in let l : c.text.result ≤ 3 = rw c.text.ensures (like_text c.args.lists.now _ c.args.lists.now.liked (sym s.is ∙ c.in-40.is)) in omega (arith)

pub op-returns-then-not-eq1 : goal.op-returns-then-not-eq1
op-returns-then-not-eq1 t c = let way : Way c.args.lists.now c.args.at c.args.kind c.if-kind-eq-NOT.not c.if-kind-eq-NOT-2.word = way_of c.args.at (elim c.if-kind-eq-NOT.branch [ op-then-kind-eq-NOT w ↦ inl (w.if-kind-eq-NOT.true, w.not-is) | op-else-kind-eq-NOT w ↦ inr (w.if-kind-eq-NOT.false, w.not-is) ]) (elim c.if-kind-eq-NOT-2.branch [ op-then-kind-eq-NOT-2 w ↦ inl (w.if-kind-eq-NOT-2.true, seen_as w.peek-word.ensures refl w.word-is) | op-else-kind-eq-NOT-2 w ↦ inr (w.if-kind-eq-NOT-2.false, w.word-is) ]) in (let n : c.if-kind-eq-NOT.not ≤ 1 = omega arith in let s : Seen c.args.lists.now (c.args.at + c.if-kind-eq-NOT.not) c.if-kind-eq-NOT-2.word = elim c.if-kind-eq-NOT.branch [ op-then-kind-eq-NOT v ↦ elim c.if-kind-eq-NOT-2.branch [ op-then-kind-eq-NOT-2 w ↦ seen_as w.peek-word.ensures (omega arith) w.word-is | op-else-kind-eq-NOT-2 w ↦ absurd (omega arith) ] | op-else-kind-eq-NOT v ↦ elim c.if-kind-eq-NOT-2.branch [ op-then-kind-eq-NOT-2 w ↦ absurd (omega arith) | op-else-kind-eq-NOT-2 w ↦ seen_as c.requires.2 (omega arith) w.word-is ] ] in null_before c.notnull.ensures.0 (λ e. omega (arith)) (omega (arith)), λ s pre b. record { does = λ a p. op_null a s pre c.requires.2 way c.if-not-eq1.true c.in_default.in_default-own.rest.0.0.1 c.in_default.in_default-own.rest.0.1 c.in_default.in_default-own.rest.1 (c.notnull.ensures.1 pre b) })

pub op-returns-in-38 : goal.op-returns-in-38
op-returns-in-38 t c = let way : Way c.args.lists.now c.args.at c.args.kind c.if-kind-eq-NOT.not c.if-kind-eq-NOT-2.word = way_of c.args.at (elim c.if-kind-eq-NOT.branch [ op-then-kind-eq-NOT w ↦ inl (w.if-kind-eq-NOT.true, w.not-is) | op-else-kind-eq-NOT w ↦ inr (w.if-kind-eq-NOT.false, w.not-is) ]) (elim c.if-kind-eq-NOT-2.branch [ op-then-kind-eq-NOT-2 w ↦ inl (w.if-kind-eq-NOT-2.true, seen_as w.peek-word.ensures refl w.word-is) | op-else-kind-eq-NOT-2 w ↦ inr (w.if-kind-eq-NOT-2.false, w.word-is) ]) in (further c.among.ensures.0 (omega (arith, c.requires, c.if-kind-lt-NOT.false)), λ s pre b. record { does = λ a p. op_inside a s pre c.requires.2 (omega (arith, c.if-kind-lt-NOT.false)) way c.in-38.is ((c.among.ensures.1 s pre b).does a p) })

pub op-returns-in-39 : goal.op-returns-in-39
op-returns-in-39 t c = let way : Way c.args.lists.now c.args.at c.args.kind c.if-kind-eq-NOT.not c.if-kind-eq-NOT-2.word = way_of c.args.at (elim c.if-kind-eq-NOT.branch [ op-then-kind-eq-NOT w ↦ inl (w.if-kind-eq-NOT.true, w.not-is) | op-else-kind-eq-NOT w ↦ inr (w.if-kind-eq-NOT.false, w.not-is) ]) (elim c.if-kind-eq-NOT-2.branch [ op-then-kind-eq-NOT-2 w ↦ inl (w.if-kind-eq-NOT-2.true, seen_as w.peek-word.ensures refl w.word-is) | op-else-kind-eq-NOT-2 w ↦ inr (w.if-kind-eq-NOT-2.false, w.word-is) ]) in (further c.range.ensures.0 (omega (arith, c.requires, c.if-kind-lt-NOT.false)), λ s pre b. record { does = λ a p. op_between a s pre c.requires.2 (omega (arith, c.if-kind-lt-NOT.false)) way c.in-39.is ((c.range.ensures.1 s pre b).does a p) })

pub op-returns-in-40 : goal.op-returns-in-40
op-returns-in-40 t c = let way : Way c.args.lists.now c.args.at c.args.kind c.if-kind-eq-NOT.not c.if-kind-eq-NOT-2.word = way_of c.args.at (elim c.if-kind-eq-NOT.branch [ op-then-kind-eq-NOT w ↦ inl (w.if-kind-eq-NOT.true, w.not-is) | op-else-kind-eq-NOT w ↦ inr (w.if-kind-eq-NOT.false, w.not-is) ]) (elim c.if-kind-eq-NOT-2.branch [ op-then-kind-eq-NOT-2 w ↦ inl (w.if-kind-eq-NOT-2.true, seen_as w.peek-word.ensures refl w.word-is) | op-else-kind-eq-NOT-2 w ↦ inr (w.if-kind-eq-NOT-2.false, w.word-is) ]) in (further c.binary-in-40.ensures.0 (omega (arith, c.requires, c.if-kind-lt-NOT.false)), λ s pre b. record { does = λ a p. op_like a s pre c.requires.2 (omega (arith, c.if-kind-lt-NOT.false)) way c.in-40.is _ c.text.ensures ((c.binary-in-40.ensures.1 s pre b).does a p) })

pub op-returns-after-peek-eq-NOT : goal.op-returns-after-peek-eq-NOT
op-returns-after-peek-eq-NOT t c = let way : Way c.args.lists.now c.args.at c.args.kind c.if-kind-eq-NOT.not c.if-kind-eq-NOT-2.word = way_of c.args.at (elim c.if-kind-eq-NOT.branch [ op-then-kind-eq-NOT w ↦ inl (w.if-kind-eq-NOT.true, w.not-is) | op-else-kind-eq-NOT w ↦ inr (w.if-kind-eq-NOT.false, w.not-is) ]) (elim c.if-kind-eq-NOT-2.branch [ op-then-kind-eq-NOT-2 w ↦ inl (w.if-kind-eq-NOT-2.true, seen_as w.peek-word.ensures refl w.word-is) | op-else-kind-eq-NOT-2 w ↦ inr (w.if-kind-eq-NOT-2.false, w.word-is) ]) in (further c.binary-in-37.ensures.0 (omega (arith, c.requires, c.peek.ensures, c.if-not-eq1.false, c.if-kind-lt-NOT.false)), λ s pre b. record { does = λ a p. op_is a s pre c.requires.2 (omega (arith, c.if-kind-lt-NOT.false)) way c.if-not-eq1.false c.in_default.in_default-own.rest.0.0.1 c.in_default.in_default-own.rest.0.1 c.in_default.in_default-own.rest.1 c.in-37.is c.if-peek-eq-NOT.isnot _ c.peek.ensures (elim c.if-peek-eq-NOT.branch [ op-then-peek-eq-NOT w ↦ inl (w.if-peek-eq-NOT.true, w.isnot-is) | op-else-peek-eq-NOT w ↦ inr (w.if-peek-eq-NOT.false, w.isnot-is) ]) ((c.binary-in-37.ensures.1 s pre b).does a p) })

pub op-returns-in-43 : goal.op-returns-in-43
op-returns-in-43 t c = let way : Way c.args.lists.now c.args.at c.args.kind c.if-kind-eq-NOT.not c.if-kind-eq-NOT-2.word = way_of c.args.at (elim c.if-kind-eq-NOT.branch [ op-then-kind-eq-NOT w ↦ inl (w.if-kind-eq-NOT.true, w.not-is) | op-else-kind-eq-NOT w ↦ inr (w.if-kind-eq-NOT.false, w.not-is) ]) (elim c.if-kind-eq-NOT-2.branch [ op-then-kind-eq-NOT-2 w ↦ inl (w.if-kind-eq-NOT-2.true, seen_as w.peek-word.ensures refl w.word-is) | op-else-kind-eq-NOT-2 w ↦ inr (w.if-kind-eq-NOT-2.false, w.word-is) ]) in (further c.collate.ensures.0 (omega (arith, c.requires, c.if-not-eq1.false, c.if-kind-lt-NOT.false)), λ s pre b. record { does = λ a p. op_collate a s pre c.requires.2 (omega (arith, c.if-kind-lt-NOT.false)) way c.if-not-eq1.false c.in_default.in_default-own.rest.0.0.1 c.in_default.in_default-own.rest.0.1 c.in_default.in_default-own.rest.1 c.in-43.is (c.collate.ensures.1 pre b) })

pub op-returns-in_default-kind : goal.op-returns-in_default-kind
op-returns-in_default-kind t c = let way : Way c.args.lists.now c.args.at c.args.kind c.if-kind-eq-NOT.not c.if-kind-eq-NOT-2.word = way_of c.args.at (elim c.if-kind-eq-NOT.branch [ op-then-kind-eq-NOT w ↦ inl (w.if-kind-eq-NOT.true, w.not-is) | op-else-kind-eq-NOT w ↦ inr (w.if-kind-eq-NOT.false, w.not-is) ]) (elim c.if-kind-eq-NOT-2.branch [ op-then-kind-eq-NOT-2 w ↦ inl (w.if-kind-eq-NOT-2.true, seen_as w.peek-word.ensures refl w.word-is) | op-else-kind-eq-NOT-2 w ↦ inr (w.if-kind-eq-NOT-2.false, w.word-is) ]) in (let n : c.if-kind-eq-NOT.not ≤ 1 = omega arith in ended c.got.ensures (omega (arith)), λ s pre b. record { does = λ a p. op_postfix a s pre c.requires.2 (omega (arith, c.if-kind-lt-NOT.false)) way c.if-not-eq1.false c.in_default.in_default-own.rest.0.0.1 c.in_default.in_default-own.rest.0.1 c.in_default.in_default-own.rest.1 c.in_default-kind.in_default-kind-own.rest.0.1 c.in_default-kind.in_default-kind-own.rest.1 (laid c.got.ensures refl (closed _ pre b c.emit.ensures.1)) })

-- ── operand ──
pub operand-returns-in-12 : goal.operand-returns-in-12
unfolding expr_w
operand-returns-in-12 t c = (further c.paren.ensures.0 (omega arith), λ s. record { does = λ a p. next (c.paren.ensures.1.does (deeper a) (c.deeper.ensures.packs a s p)) (λ f h. took _ _ _ (is c.requires.2 c.in-12.is) (h)) })

pub operand-returns-in-44 : goal.operand-returns-in-44
unfolding expr_w
operand-returns-in-44 t c = (further c.case.ensures.0 (omega arith), λ s. record { does = λ a p. next (c.case.ensures.1.does (deeper a) (c.deeper-in-44.ensures.packs a s p)) (λ f h. left _ _ _ (differs _ c.requires.2 c.in-44.is refl) (took _ _ _ (is c.requires.2 c.in-44.is) (h))) })

pub operand-returns-in-49 : goal.operand-returns-in-49
unfolding expr_w
operand-returns-in-49 t c = (further c.cast.ensures.0 (omega arith), λ s. record { does = λ a p. next (c.cast.ensures.1.does (deeper a) (c.deeper-in-49.ensures.packs a s p)) (λ f h. left _ _ _ (differs _ c.requires.2 c.in-49.is refl) (left _ _ _ (differs _ c.requires.2 c.in-49.is refl) (took _ _ _ (is c.requires.2 c.in-49.is) (h)))) })

pub operand-returns-in-51 : goal.operand-returns-in-51
unfolding expr_w
operand-returns-in-51 t c = (further c.exists.ensures.0 (omega arith), λ s. record { does = λ a p. next (c.exists.ensures.1.does (deeper a) (c.deeper-in-51.ensures.packs a s p)) (λ f h. left _ _ _ (differs _ c.requires.2 c.in-51.is refl) (left _ _ _ (differs _ c.requires.2 c.in-51.is refl) (left _ _ _ (differs _ c.requires.2 c.in-51.is refl) (took _ _ _ (is c.requires.2 c.in-51.is) (h))))) })

pub operand-returns-in_default : goal.operand-returns-in_default
unfolding expr_w
operand-returns-in_default t c = (refused c.wrong.ensures.0 (omega arith), λ s. record { does = λ a p. at_once (λ f. left _ _ _ (isn't c.requires.2 c.in_default-1.rest.0.0.0.0.1) (left _ _ _ (isn't c.requires.2 c.in_default-1.rest.0.0.0.1) (left _ _ _ (isn't c.requires.2 c.in_default-1.rest.0.0.1) (left _ _ _ (isn't c.requires.2 c.in_default-1.rest.0.1) (left _ _ _ (by_kind (λ k. ltb 0 (prefix_of k)) c.requires.2 (no_sign _ c.in_default-1.rest.1 (λ z. omega (arith, z)))) (misfit c.requires.2 c.wrong.ensures.1)))))) })

pub operand-returns-in-36 : goal.operand-returns-in-36
unfolding expr_w
operand-returns-in-36 t c = (further c.sign.ensures.0 (omega arith), let q : Sign c.args.kind = sign_is c.args.kind (elim c.in-36-1.branch [ operand-in-27-1 w ↦ inl w.in-27-1.keys5 | operand-in_default+else-kind-lt18+then-kind-lt20 w ↦ inr (omega arith, omega arith) ]) in λ s. record { does = λ a p. next ((c.sign.ensures.1 s).does a p) (λ f h. left _ _ _ (by_kind (λ k. eqb k 12) c.requires.2 q.paren) (left _ _ _ (by_kind (λ k. eqb k 44) c.requires.2 q.case) (left _ _ _ (by_kind (λ k. eqb k 49) c.requires.2 q.cast) (left _ _ _ (by_kind (λ k. eqb k 51) c.requires.2 q.exists) (took _ _ _ (by_kind (λ k. ltb 0 (prefix_of k)) c.requires.2 q.some) h))))) })

-- ── ops ──
pub ops-loop-ask-init : goal.ops-loop-ask-init
unfolding expr_w
ops-loop-ask-init t c = (omega arith, λ a s pre p b r N l. so l (λ f h. h pre b))

pub ops-deeper-requires : goal.ops-deeper-requires
ops-deeper-requires t c = let s : c.strength-k.result ≤ 10 = rw c.strength-k.ensures (strength_small _) in omega (arith)

pub ops-op-r-requires : goal.ops-op-r-requires
ops-op-r-requires t c = let k : 0 < c.peek-kind.result = strength_is _ (rw (← c.strength-k.ensures) (omega arith)) in omega (arith)

pub ops-returns-in_default : goal.ops-returns-in_default
unfolding expr_w
ops-returns-in_default t c = (passed_on c.op-r.ensures.0 c.in_default.is, λ s pre b. record { does = λ a p. c.loop-ask.invariant.1 a s pre p b _ _ (next (for_any _ _ (λ pre e. (c.op-r.ensures.1 (c.strength-k.result + 1) pre e).does (deeper a) (c.deeper.ensures.packs a s p)) (omega (arith, c.requires, c.loop-ask.invariant.0))) (λ f h z e. ops_walk f a s c.loop-ask.left z c.peek-kind.ensures c.strength-k.ensures (left _ _ _ (ne_eqb _ _ c.if-k-eq0.false) (left _ _ _ (le-ltb c.strength-k.result s (omega (arith, (c.strength-s.ensures ∙ strength_of p), c.if-k-s.false))) (left _ _ _ (le-ltb c.loop-ask.left c.strength-k.result c.if-left-k.false) (halts _ _ (h z e) c.in_default.is)))))) })

pub ops-loop-ask-preserved : goal.ops-loop-ask-preserved
unfolding expr_w
ops-loop-ask-preserved t c = (omega (arith, got_in c.op-r.ensures.0 c.in-Got.is, c.min-left.ensures, c.requires, c.if-left-k.false, c.if-k-s.false, c.if-k-eq0.false, c.peek-kind.ensures, c.loop-ask.invariant.0), λ a s pre p b r N l. c.loop-ask.invariant.1 a s pre p b r N (next (for_any _ _ (λ pre e. (c.op-r.ensures.1 (c.strength-k.result + 1) pre e).does (deeper a) (c.deeper.ensures.packs a s p)) (omega (arith, c.requires, c.loop-ask.invariant.0)) also l) (λ f h z e. ops_goes f a s c.loop-ask.left z c.peek-kind.ensures c.strength-k.ensures c.min-left.ensures (ne_eqb _ _ c.if-k-eq0.false) (le-ltb c.strength-k.result s (omega (arith, (c.strength-s.ensures ∙ strength_of p), c.if-k-s.false))) (le-ltb c.loop-ask.left c.strength-k.result c.if-left-k.false) (h.0 z e) c.in-Got.is (λ rs F. h.1 (z + length rs) (let g = F.filled.counted in omega (arith, e, g))))))

pub ops-returns : goal.ops-returns
unfolding expr_w
ops-returns t c = (ended c.got.ensures (omega arith), λ s pre b. record { does = λ a p. c.loop-ask.invariant.1 a s pre p b _ _ (at_once (λ f z e. ops_walk f a s c.loop-ask.left z c.peek-kind.ensures c.strength-k.ensures (elim c.if-k-eq0.branch [ ops-then-k-eq0 w ↦ took _ _ _ (eqb-true _ _ w.if-k-eq0.true) (laid c.got.ensures refl none_came) | ops-else-k-eq0+then-k-s w ↦ left _ _ _ (ne_eqb _ _ w.if-k-eq0.false) (took _ _ _ (lt-ltb c.strength-k.result s (omega (arith, (c.strength-s.ensures ∙ strength_of p), w.if-k-s.true))) (laid c.got.ensures refl none_came)) | ops-else-k-eq0+else-k-s+then-left-k w ↦ left _ _ _ (ne_eqb _ _ w.if-k-eq0.false) (left _ _ _ (le-ltb c.strength-k.result s (omega (arith, (c.strength-s.ensures ∙ strength_of p), w.if-k-s.false))) (took _ _ _ (lt-ltb c.loop-ask.left c.strength-k.result w.if-left-k.true) (laid c.got.ensures refl none_came))) ]))) })

-- ── paren ──
pub paren-returns-in_default-l : goal.paren-returns-in_default-l
unfolding expr_w both
paren-returns-in_default-l t c = (passed_on c.list-l.ensures.0 c.in_default-l.is, record { does = λ a p. next (c.list-l.ensures.1.does a p) (λ f h. left _ _ _ (by_kind (λ z. both (leb 52 z) (leb z 53)) c.peek-kind.ensures (between_out 52 53 c.peek-kind.result (λ z. omega (arith, z)))) (halts _ _ h c.in_default-l.is)) })

pub paren-returns-in-52 : goal.paren-returns-in-52
unfolding expr_w both
paren-returns-in-52 t c = (further c.sub.ensures.0 (omega arith), record { does = λ a p. next (c.sub.ensures.1.does a p) (λ f h. took _ _ _ (by_kind (λ z. both (leb 52 z) (leb z 53)) c.peek-kind.ensures (between_in 52 53 c.peek-kind.result (omega (arith, c.in-52.if-kind-lt52-own.false)) (omega (arith, c.in-52.if-kind-lt54-own.true)))) h) })

pub paren-returns-in-Got : goal.paren-returns-in-Got
unfolding expr_w both
paren-returns-in-Got t c = (further c.close.ensures.0 (omega (arith, got_in c.list-l.ensures.0 c.in-Got.is, c.requires, c.peek-kind.ensures)), record { does = λ a p. next (c.list-l.ensures.1.does a p) (λ f h. left _ _ _ (by_kind (λ z. both (leb 52 z) (leb z 53)) c.peek-kind.ensures (between_out 52 53 c.peek-kind.result (λ z. omega (arith, z)))) (goes _ _ h c.in-Got.is (λ rs F. behind _ _ F (c.close.ensures.1 (length rs) F.filled.counted)))) })

-- ── parts ──
pub parts-returns-in_default-f : goal.parts-returns-in_default-f
unfolding expr_w absences
parts-returns-in_default-f t c = (passed_on c.from-f.ensures.0 c.in_default-f.is, record { does = λ a p. next (c.from-f.ensures.1.does a p) (λ f h. halts _ _ h c.in_default-f.is) })

pub parts-returns-in_default-w : goal.parts-returns-in_default-w
unfolding expr_w absences
parts-returns-in_default-w t c = (passed_on c.clause-w.ensures.0 c.in_default-w.is, record { does = λ a p. next (c.from-f.ensures.1.does a p also c.clause-w.ensures.1.does a p) (λ f h. goes _ _ h.0 c.in-Got.is (λ rs F. halts _ _ h.1 c.in_default-w.is)) })

pub parts-returns-in_default : goal.parts-returns-in_default
unfolding expr_w absences
parts-returns-in_default t c = (ended c.got.ensures (omega (arith, c.requires, c.absent.ensures.0, c.peek-kind.ensures)), record { does = λ a p. at_second (λ f. by_walk (no_parts (kinds_of c.args.lists.now) (texts_of c.args.lists.now) f c.args.at a (isn't c.peek-kind.ensures (λ e. c.in_default-1.rest.1 (inl e))) (isn't c.peek-kind.ensures (λ e. omega (arith, e))) (isn't c.peek-kind.ensures (λ e. omega (arith, e))) (isn't c.peek-kind.ensures (λ e. c.in_default-1.rest.1 (inr e)))) (laid c.got.ensures refl c.absent.ensures.1)) })

pub parts-returns-in-Got-w : goal.parts-returns-in-Got-w
unfolding expr_w absences
parts-returns-in-Got-w t c = (further c.group.ensures.0 (omega (arith, got_in c.clause-w.ensures.0 c.in-Got-w.is, got_in c.from-f.ensures.0 c.in-Got.is, c.requires, c.peek-kind.ensures)), record { does = λ a p. next (c.from-f.ensures.1.does a p also c.clause-w.ensures.1.does a p also c.group.ensures.1.does a p) (λ f h. goes _ _ h.0 c.in-Got.is (λ rs F. goes _ _ h.1.0 c.in-Got-w.is (λ qs G. behind _ _ (F then G) h.1.1))) })

-- ── query ──
pub query-returns-in_default : goal.query-returns-in_default
unfolding expr_w
query-returns-in_default t c = (passed_on c.body-b.ensures.0 c.in_default.is, record { does = λ a p. next (c.body-b.ensures.2.does a p) (λ f h. halts _ _ h c.in_default.is) })

pub query-returns-in_default-t : goal.query-returns-in_default-t
unfolding expr_w
query-returns-in_default-t t c = (passed_on c.tail-t.ensures.0 c.in_default-t.is, record { does = λ a p. next (c.body-b.ensures.2.does a p also c.tail-t.ensures.1.does _ (c.opened.ensures.opens _ p (omega (arith, queries_of_lem p, opens_in c.body-b.ensures.1 c.in-Got.is)))) (λ f h. goes _ _ h.0 c.in-Got.is (λ rs F. halts _ _ h.1 c.in_default-t.is)) })

pub query-returns : goal.query-returns
unfolding expr_w
query-returns t c = (ended c.got.ensures (omega (arith, got_in c.tail-t.ensures.0 c.in-Got-t.is, got_in c.body-b.ensures.0 c.in-Got.is, opens_in c.body-b.ensures.1 c.in-Got.is, c.requires, c.emit.ensures.0)), record { does = λ a p. next (c.body-b.ensures.2.does a p also c.tail-t.ensures.1.does _ (c.opened.ensures.opens _ p (omega (arith, queries_of_lem p, opens_in c.body-b.ensures.1 c.in-Got.is)))) (λ f h. goes _ _ h.0 c.in-Got.is (λ rs F. goes _ _ h.1 c.in-Got-t.is (λ qs G. laid c.got.ensures refl (topped (F then G) c.emit.ensures.1)))) })

-- ── range ──
pub range-returns-in_default : goal.range-returns-in_default
unfolding expr_w
range-returns-in_default t c = (passed_on c.expr-low.ensures.0 c.in_default.is, λ s pre b. record { does = λ a p. next ((c.expr-low.ensures.1 s).does a p) (λ f h. halts _ _ h c.in_default.is) })

pub range-returns-in_default-high : goal.range-returns-in_default-high
unfolding expr_w
range-returns-in_default-high t c = (passed_on c.after-high.ensures.0 c.in_default-high.is, λ s pre b. record { does = λ a p. next ((c.expr-low.ensures.1 s).does a p also (c.after-high.ensures.1 s).does a p) (λ f h. goes _ _ h.0 c.in-Got.is (λ rs F. halts _ _ h.1 c.in_default-high.is)) })

pub range-returns : goal.range-returns
unfolding expr_w
range-returns t c = (ended c.got.ensures (omega (arith, got_in c.after-high.ensures.0 c.in-Got-high.is, got_in c.expr-low.ensures.0 c.in-Got.is, c.requires, c.emit.ensures.0)), λ s pre b. record { does = λ a p. next ((c.expr-low.ensures.1 s).does a p also (c.after-high.ensures.1 s).does a p) (λ f h. goes _ _ h.0 c.in-Got.is (λ rs F. goes _ _ h.1 c.in-Got-high.is (λ qs G. laid c.got.ensures refl (capped _ pre b (F then G) c.emit.ensures.1)))) })

-- ── row ──
pub row-returns-then-lp-ne-LP : goal.row-returns-then-lp-ne-LP
unfolding expr_w not_b
row-returns-then-lp-ne-LP t c = (refused c.wrong.ensures.0 (omega arith), record { does = λ a p. at_once (λ f. left _ _ _ (isn't c.peek-lp.ensures c.if-lp-ne-LP.true) (misfit c.peek-lp.ensures c.wrong.ensures.1)) })

pub row-returns-in_default : goal.row-returns-in_default
unfolding expr_w not_b
row-returns-in_default t c = (passed_on c.list-r.ensures.0 c.in_default.is, record { does = λ a p. next (c.list-r.ensures.1.does a p) (λ f h. took _ _ _ (is c.peek-lp.ensures c.if-lp-ne-LP.false) (halts _ _ h c.in_default.is)) })

pub row-returns-then-rp-ne-RP : goal.row-returns-then-rp-ne-RP
unfolding expr_w not_b
row-returns-then-rp-ne-RP t c = (refused c.wrong-then-rp-ne-RP.ensures.0 (omega (arith, got_in c.list-r.ensures.0 c.in-Got.is, c.requires, c.if-rp-ne-RP.true, c.peek-rp.ensures, c.if-lp-ne-LP.false, c.peek-lp.ensures)), record { does = λ a p. next (c.list-r.ensures.1.does a p) (λ f h. took _ _ _ (is c.peek-lp.ensures c.if-lp-ne-LP.false) (goes _ _ h c.in-Got.is (λ rs F. left _ _ _ (isn't c.peek-rp.ensures c.if-rp-ne-RP.true) (misfit c.peek-rp.ensures c.wrong-then-rp-ne-RP.ensures.1)))) })

pub row-returns-then-n-width : goal.row-returns-then-n-width
unfolding expr_w not_b
row-returns-then-n-width t c = (record { holds = omega (arith, got_in c.list-r.ensures.0 c.in-Got.is) }, record { does = λ a p. next (c.list-r.ensures.1.does a p) (λ f h. took _ _ _ (is c.peek-lp.ensures c.if-lp-ne-LP.false) (goes _ _ h c.in-Got.is (λ rs F. took _ _ _ (is c.peek-rp.ensures c.if-rp-ne-RP.false) (took _ _ _ (both_i _ _ (lt-ltb 0 _ c.if-width-gt0.true) (ap not_b (ne_eqb _ _ c.if-n-width.true))) (halted refl refl))))) })

pub row-returns : goal.row-returns
unfolding expr_w not_b
row-returns t c = (ended c.counted.ensures (omega (arith, got_in c.list-r.ensures.0 c.in-Got.is, c.requires, c.emit.ensures.0, c.if-rp-ne-RP.false, c.peek-rp.ensures, c.if-lp-ne-LP.false, c.peek-lp.ensures)), record { does = λ a p. next (c.list-r.ensures.1.does a p) (λ f h. took _ _ _ (is c.peek-lp.ensures c.if-lp-ne-LP.false) (goes _ _ h c.in-Got.is (λ rs F. took _ _ _ (is c.peek-rp.ensures c.if-rp-ne-RP.false) (left _ _ _ (elim c.if-width-gt0.branch [ row-then-width-gt0+else-n-width w ↦ no_right _ _ (ap not_b (eqb-true _ _ w.if-n-width.false)) | row-else-width-gt0 w ↦ no_left _ _ (le-ltb 0 _ w.if-width-gt0.false) ]) (laid c.counted.ensures refl (topped F c.emit.ensures.1)))))) })

-- ── rows ──
pub rows-loop-n_d-init : goal.rows-loop-n_d-init
unfolding expr_w
rows-loop-n_d-init t c = (omega arith, λ a p. loop_start)

pub rows-returns-in_default : goal.rows-returns-in_default
unfolding expr_w
rows-returns-in_default t c = (passed_on c.row-r.ensures.0 c.in_default.is, record { does = λ a p. so ((c.loop-n_d.invariant.1 a p).on _ c.args.table.now (next (c.row-r.ensures.1.does a p) (λ f h. halts _ _ h c.in_default.is))) (λ f h. halts _ _ h c.in_default.is) })

pub rows-loop-n_d-preserved : goal.rows-loop-n_d-preserved
unfolding expr_w
rows-loop-n_d-preserved t c = (omega (arith, got_in c.row-r.ensures.0 c.in-Got.is, c.requires, c.if-kind-ne-COMMA.false, c.peek-kind.ensures, c.loop-n_d.invariant), λ a p. record { on = λ r N' l. (c.loop-n_d.invariant.1 a p).on r N' (next (c.row-r.ensures.1.does a p also l) (λ f h. goes _ _ h.0 c.in-Got.is (λ rs F. took _ _ _ (is c.peek-kind.ensures c.if-kind-ne-COMMA.false) (behind _ _ F h.1)))) })

pub rows-returns : goal.rows-returns
unfolding expr_w
rows-returns t c = (ended c.got.ensures (omega (arith, got_in c.row-r.ensures.0 c.in-Got.is, c.requires, c.emit.ensures.0, c.if-kind-ne-COMMA.true, c.peek-kind.ensures, c.loop-n_d.invariant)), record { does = λ a p. so ((c.loop-n_d.invariant.1 a p).on (got_of 0 (c.loop-n_d.rows + 1) _) _ (next (c.row-r.ensures.1.does a p) (λ f h. goes _ _ h c.in-Got.is (λ rs F. left _ _ _ (isn't c.peek-kind.ensures c.if-kind-ne-COMMA.true) (laid refl refl F))))) (λ f h. goes _ _ h refl (λ rs F. laid c.got.ensures refl (topped F c.emit.ensures.1))) })

-- ── select ──
pub select-overflow_add-at : goal.select-overflow_add-at
select-overflow_add-at t c = let d : c.match-kind.detail ≤ c.peek-kind.result = elim c.match-kind.branch [ select-in-54 w ↦ omega arith | select-in-55 w ↦ omega arith | select-in_default w ↦ omega arith ] in let w : (c.if-detail-gt0.word ≤ 1) × (c.if-detail-gt0.word ≤ c.match-kind.detail) = omega arith in omega (arith)

pub select-cols-l-requires : goal.select-cols-l-requires
select-cols-l-requires t c = let d : c.match-kind.detail ≤ c.peek-kind.result = elim c.match-kind.branch [ select-in-54 w ↦ omega arith | select-in-55 w ↦ omega arith | select-in_default w ↦ omega arith ] in let w : (c.if-detail-gt0.word ≤ 1) × (c.if-detail-gt0.word ≤ c.match-kind.detail) = omega arith in omega (arith)

pub select-returns-in_default-l : goal.select-returns-in_default-l
unfolding expr_w
select-returns-in_default-l t c = (passed_on c.cols-l.ensures.0 c.in_default-l.is, record { does = λ a p. next (next (c.cols-l.ensures.1.does a p) (λ f h. halts _ _ h c.in_default-l.is)) (λ f h. by_walk (select_walk (kinds_of c.args.lists.now) (texts_of c.args.lists.now) f c.args.at a c.match-kind.detail c.if-detail-gt0.word (elim c.match-kind.branch [ select-in-54 w ↦ inl (is c.peek-kind.ensures w.in-54.is, w.detail-is) | select-in-55 w ↦ inr (inl (differs _ c.peek-kind.ensures w.in-55.is refl, is c.peek-kind.ensures w.in-55.is, w.detail-is)) | select-in_default w ↦ inr (inr (isn't c.peek-kind.ensures w.in_default.in_default-own.rest.0.1, isn't c.peek-kind.ensures w.in_default.in_default-own.rest.1, w.detail-is)) ]) (elim c.if-detail-gt0.branch [ select-then-detail-gt0 w ↦ inl (w.if-detail-gt0.true, w.word-is) | select-else-detail-gt0 w ↦ inr (w.if-detail-gt0.false, w.word-is) ])) h) })

pub select-returns-in_default-f : goal.select-returns-in_default-f
unfolding expr_w
select-returns-in_default-f t c = (passed_on c.parts-f.ensures.0 c.in_default-f.is, record { does = λ a p. next (next (c.cols-l.ensures.1.does a p also c.parts-f.ensures.1.does a p) (λ f h. goes _ _ h.0 c.in-Got.is (λ rs F. halts _ _ h.1 c.in_default-f.is))) (λ f h. by_walk (select_walk (kinds_of c.args.lists.now) (texts_of c.args.lists.now) f c.args.at a c.match-kind.detail c.if-detail-gt0.word (elim c.match-kind.branch [ select-in-54 w ↦ inl (is c.peek-kind.ensures w.in-54.is, w.detail-is) | select-in-55 w ↦ inr (inl (differs _ c.peek-kind.ensures w.in-55.is refl, is c.peek-kind.ensures w.in-55.is, w.detail-is)) | select-in_default w ↦ inr (inr (isn't c.peek-kind.ensures w.in_default.in_default-own.rest.0.1, isn't c.peek-kind.ensures w.in_default.in_default-own.rest.1, w.detail-is)) ]) (elim c.if-detail-gt0.branch [ select-then-detail-gt0 w ↦ inl (w.if-detail-gt0.true, w.word-is) | select-else-detail-gt0 w ↦ inr (w.if-detail-gt0.false, w.word-is) ])) h) })

pub select-returns : goal.select-returns
unfolding expr_w
select-returns t c = (ended c.got.ensures (omega (arith, got_in c.parts-f.ensures.0 c.in-Got-f.is, c.emit.ensures.0, c.emit-2.ensures.0, got_in c.cols-l.ensures.0 c.in-Got.is, c.requires, c.peek-kind.ensures)), record { does = λ a p. next (next (c.cols-l.ensures.1.does a p also c.parts-f.ensures.1.does a p) (λ f h. goes _ _ h.0 c.in-Got.is (λ rs F. goes _ _ h.1 c.in-Got-f.is (λ qs G. laid c.got.ensures refl (topped (topped F c.emit.ensures.1 then G) c.emit-2.ensures.1))))) (λ f h. by_walk (select_walk (kinds_of c.args.lists.now) (texts_of c.args.lists.now) f c.args.at a c.match-kind.detail c.if-detail-gt0.word (elim c.match-kind.branch [ select-in-54 w ↦ inl (is c.peek-kind.ensures w.in-54.is, w.detail-is) | select-in-55 w ↦ inr (inl (differs _ c.peek-kind.ensures w.in-55.is refl, is c.peek-kind.ensures w.in-55.is, w.detail-is)) | select-in_default w ↦ inr (inr (isn't c.peek-kind.ensures w.in_default.in_default-own.rest.0.1, isn't c.peek-kind.ensures w.in_default.in_default-own.rest.1, w.detail-is)) ]) (elim c.if-detail-gt0.branch [ select-then-detail-gt0 w ↦ inl (w.if-detail-gt0.true, w.word-is) | select-else-detail-gt0 w ↦ inr (w.if-detail-gt0.false, w.word-is) ])) h) })

-- ── sign ──
pub sign-returns-then-strength-gt-NOT_STANDS : goal.sign-returns-then-strength-gt-NOT_STANDS
unfolding expr_w
sign-returns-then-strength-gt-NOT_STANDS t c = (refused c.wrong.ensures.0 (omega arith), λ s. record { does = λ a p. at_once (λ f. prefix_walk f a s c.requires.3 c.prefix-p.ensures (took _ _ _ (both_i _ _ (eqb-true _ _ c.if-kind-eq-NOT.true) (lt-ltb 10 s (omega (arith, strength_of p, c.strength.ensures, c.if-strength-gt-NOT_STANDS.true)))) (said c.wrong.ensures.1 refl))) })

pub sign-deeper-requires : goal.sign-deeper-requires
sign-deeper-requires t c = let s : c.prefix-p.result ≤ 11 = rw c.prefix-p.ensures (prefix_small _) in omega (arith)

pub sign-returns-in_default : goal.sign-returns-in_default
unfolding expr_w
sign-returns-in_default t c = (passed_on c.expr-r.ensures.0 c.in_default.is, λ s. record { does = λ a p. next ((c.expr-r.ensures.1 c.prefix-p.result).does (deeper a) (c.deeper.ensures.packs a s p)) (λ f h. prefix_walk f a s c.requires.3 c.prefix-p.ensures (left _ _ _ (elim c.if-kind-eq-NOT.branch [ sign-then-kind-eq-NOT+else-strength-gt-NOT_STANDS w ↦ no_right _ _ (le-ltb 10 s (omega (arith, strength_of p, w.strength.ensures, w.if-strength-gt-NOT_STANDS.false))) | sign-else-kind-eq-NOT w ↦ no_left _ _ (ne_eqb _ _ w.if-kind-eq-NOT.false) ]) (halts _ _ h c.in_default.is))) })

pub sign-overflow_cast-min : goal.sign-overflow_cast-min
sign-overflow_cast-min t c = let s : c.prefix-p.result ≤ 11 = rw c.prefix-p.ensures (prefix_small _) in omega (arith, c.min.ensures, got_in c.expr-r.ensures.0 c.in-Got.is)

pub sign-returns : goal.sign-returns
unfolding expr_w
sign-returns t c = (let s : c.prefix-p.result ≤ 11 = rw c.prefix-p.ensures (prefix_small _) in ended c.got.ensures (omega (arith, c.min.ensures, got_in c.expr-r.ensures.0 c.in-Got.is, c.emit.ensures.0, c.requires)), λ s. record { does = λ a p. next ((c.expr-r.ensures.1 c.prefix-p.result).does (deeper a) (c.deeper.ensures.packs a s p)) (λ f h. prefix_walk f a s c.requires.3 c.prefix-p.ensures (left _ _ _ (elim c.if-kind-eq-NOT.branch [ sign-then-kind-eq-NOT+else-strength-gt-NOT_STANDS w ↦ no_right _ _ (le-ltb 10 s (omega (arith, strength_of p, w.strength.ensures, w.if-strength-gt-NOT_STANDS.false))) | sign-else-kind-eq-NOT w ↦ no_left _ _ (ne_eqb _ _ w.if-kind-eq-NOT.false) ]) (goes _ _ h c.in-Got.is (λ rs F. laid_as c.got.ensures c.min.ensures refl (topped F c.emit.ensures.1))))) })

-- ── sort ──
pub sort-returns-then-by-ne-BY : goal.sort-returns-then-by-ne-BY
unfolding expr_w
sort-returns-then-by-ne-BY t c = (refused c.wrong.ensures.0 (omega arith), record { does = λ a p. at_once (λ f. left _ _ _ (isn't c.peek-by.ensures c.if-by-ne-BY.true) (misfit c.peek-by.ensures c.wrong.ensures.1)) })

pub sort-loop-d-init : goal.sort-loop-d-init
unfolding expr_w
sort-loop-d-init t c = (omega arith, λ a p. loop_start)

pub sort-returns-in_default : goal.sort-returns-in_default
unfolding expr_w
sort-returns-in_default t c = (passed_on c.expr-r.ensures.0 c.in_default.is, record { does = λ a p. next ((c.loop-d.invariant.1 a p).on _ c.args.table.now (next ((c.expr-r.ensures.1 1).does a p) (λ f h. halts _ _ h c.in_default.is))) (λ f h. took _ _ _ (is c.peek-by.ensures c.if-by-ne-BY.false) (halts _ _ h c.in_default.is)) })

pub sort-returns-in_default-w : goal.sort-returns-in_default-w
unfolding expr_w
sort-returns-in_default-w t c = (passed_on c.way-w.ensures.0 c.in_default-w.is, record { does = λ a p. next ((c.loop-d.invariant.1 a p).on _ c.args.table.now (next ((c.expr-r.ensures.1 1).does a p) (λ f h. goes _ _ h c.in-Got.is (λ rs F. halts _ _ (c.way-w.ensures.1 c.args.table.now) c.in_default-w.is)))) (λ f h. took _ _ _ (is c.peek-by.ensures c.if-by-ne-BY.false) (halts _ _ h c.in_default-w.is)) })

pub sort-loop-d-preserved : goal.sort-loop-d-preserved
unfolding expr_w
sort-loop-d-preserved t c = (omega (arith, got_in c.way-w.ensures.0 c.in-Got-w.is, got_in c.expr-r.ensures.0 c.in-Got.is, c.requires, c.if-kind-ne-COMMA.false, c.peek-kind.ensures, c.emit.ensures.0, c.loop-d.invariant, c.if-by-ne-BY.false, c.peek-by.ensures), λ a p. record { on = λ r N' l. (c.loop-d.invariant.1 a p).on r N' (next ((c.expr-r.ensures.1 1).does a p also l) (λ f h. goes _ _ h.0 c.in-Got.is (λ rs F. goes _ _ (c.way-w.ensures.1 c.args.table.now) c.in-Got-w.is (λ os O. took _ _ _ (is c.peek-kind.ensures c.if-kind-ne-COMMA.false) (behind _ _ (topped F c.emit.ensures.1) h.1))))) })

pub sort-returns : goal.sort-returns
unfolding expr_w
sort-returns t c = (ended c.got.ensures (omega (arith, got_in c.way-w.ensures.0 c.in-Got-w.is, got_in c.expr-r.ensures.0 c.in-Got.is, c.requires, c.emit-2.ensures.0, c.if-kind-ne-COMMA.true, c.peek-kind.ensures, c.emit.ensures.0, c.loop-d.invariant, c.if-by-ne-BY.false, c.peek-by.ensures)), record { does = λ a p. next ((c.loop-d.invariant.1 a p).on (got_of 0 (c.loop-d.n + 1) _) _ (next ((c.expr-r.ensures.1 1).does a p) (λ f h. goes _ _ h c.in-Got.is (λ rs F. goes _ _ (c.way-w.ensures.1 c.args.table.now) c.in-Got-w.is (λ os O. left _ _ _ (isn't c.peek-kind.ensures c.if-kind-ne-COMMA.true) (laid refl refl (topped F c.emit.ensures.1))))))) (λ f h. took _ _ _ (is c.peek-by.ensures c.if-by-ne-BY.false) (goes _ _ h refl (λ rs F. laid c.got.ensures refl (topped F c.emit-2.ensures.1)))) })

-- ── source ──
pub source-returns : goal.source-returns
source-returns t c = c.src.ensures

-- ── src ──
pub src-returns-then-kind-ne-LP : goal.src-returns-then-kind-ne-LP
unfolding expr_w
src-returns-then-kind-ne-LP t c = (further c.source_table.ensures.0 (omega arith), record { does = λ a p. at_once (λ f. left _ _ _ (isn't c.peek-kind.ensures c.if-kind-ne-LP.true) c.source_table.ensures.1) })

pub src-returns-in_default : goal.src-returns-in_default
unfolding expr_w
src-returns-in_default t c = (passed_on c.query-q.ensures.0 c.in_default.is, record { does = λ a p. next (c.query-q.ensures.1.does a (c.with.ensures.2.packs a 1 p)) (λ f h. took _ _ _ (is c.peek-kind.ensures c.if-kind-ne-LP.false) (halts _ _ h c.in_default.is)) })

pub src-returns : goal.src-returns
unfolding expr_w
src-returns t c = (further c.lent.ensures.0 (omega (arith, got_in c.query-q.ensures.0 c.in-Got.is, c.requires, c.if-kind-ne-LP.false, c.peek-kind.ensures)), record { does = λ a p. next (c.query-q.ensures.1.does a (c.with.ensures.2.packs a 1 p)) (λ f h. took _ _ _ (is c.peek-kind.ensures c.if-kind-ne-LP.false) (goes _ _ h c.in-Got.is (λ rs F. c.lent.ensures.1 _ rs refl F))) })

-- ── sub ──
pub sub-returns-in_default : goal.sub-returns-in_default
unfolding expr_w
sub-returns-in_default t c = (passed_on c.query-q.ensures.0 c.in_default.is, record { does = λ a p. next (c.query-q.ensures.1.does a (c.with.ensures.2.packs a 1 p)) (λ f h. halts _ _ h c.in_default.is) })

pub sub-returns : goal.sub-returns
unfolding expr_w
sub-returns t c = (further c.close.ensures.0 (omega (arith, got_in c.query-q.ensures.0 c.in-Got.is, c.requires)), record { does = λ a p. next (c.query-q.ensures.1.does a (c.with.ensures.2.packs a 1 p)) (λ f h. goes _ _ h c.in-Got.is (λ rs F. behind _ _ F (c.close.ensures.1 (length rs) F.filled.counted))) })

-- ── tail ──
pub tail-returns-in_default-o : goal.tail-returns-in_default-o
unfolding expr_w absences
tail-returns-in_default-o t c = (passed_on c.sort-o.ensures.0 c.in_default-o.is, record { does = λ a p. next (c.sort-o.ensures.1.does a p) (λ f h. took _ _ _ (is c.peek-kind.ensures c.in-64.is) (halts _ _ h c.in_default-o.is)) })

pub tail-returns-in-Got : goal.tail-returns-in-Got
unfolding expr_w absences
tail-returns-in-Got t c = (further c.limit.ensures.0 (omega (arith, got_in c.sort-o.ensures.0 c.in-Got.is, c.requires, c.peek-kind.ensures)), record { does = λ a p. next (c.sort-o.ensures.1.does a p also c.limit.ensures.1.does a p) (λ f h. took _ _ _ (is c.peek-kind.ensures c.in-64.is) (goes _ _ h.0 c.in-Got.is (λ rs F. behind _ _ F h.1))) })

pub tail-returns-in-70 : goal.tail-returns-in-70
unfolding expr_w absences
tail-returns-in-70 t c = (further c.limit-in-70.ensures.0 (omega (arith, c.requires, c.absent.ensures.0, c.peek-kind.ensures)), record { does = λ a p. next (c.limit-in-70.ensures.1.does a p) (λ f h. left _ _ _ (differs _ c.peek-kind.ensures c.in-70.is refl) (behind _ _ c.absent.ensures.1 h)) })

pub tail-returns-in_default : goal.tail-returns-in_default
unfolding expr_w absences
tail-returns-in_default t c = (ended c.got.ensures (omega arith), record { does = λ a p. at_second (λ f. by_walk (no_tail (kinds_of c.args.lists.now) (texts_of c.args.lists.now) f c.args.at a (isn't c.peek-kind.ensures c.in_default.in_default-own.rest.0.1) (isn't c.peek-kind.ensures c.in_default.in_default-own.rest.1)) (laid c.got.ensures refl c.absent-in_default.ensures.1)) })

-- ── when ──
pub when-loop-c-init : goal.when-loop-c-init
unfolding expr_w
when-loop-c-init t c = (omega arith, λ a p. loop_start)

pub when-returns-in_default : goal.when-returns-in_default
unfolding expr_w
when-returns-in_default t c = (passed_on c.after-w.ensures.0 c.in_default.is, record { does = λ a p. (c.loop-c.invariant.1 a p).on _ _ (next ((c.after-w.ensures.1 1).does a p) (λ f h. halts _ _ h c.in_default.is)) })

pub when-returns-in_default-t : goal.when-returns-in_default-t
unfolding expr_w
when-returns-in_default-t t c = (passed_on c.after-t.ensures.0 c.in_default-t.is, record { does = λ a p. (c.loop-c.invariant.1 a p).on _ _ (next ((c.after-w.ensures.1 1).does a p also (c.after-t.ensures.1 1).does a p) (λ f h. goes _ _ h.0 c.in-Got.is (λ rs F. halts _ _ h.1 c.in_default-t.is))) })

pub when-loop-c-preserved : goal.when-loop-c-preserved
unfolding expr_w
when-loop-c-preserved t c = (omega (arith, got_in c.after-t.ensures.0 c.in-Got-t.is, got_in c.after-w.ensures.0 c.in-Got.is, c.requires, c.if-kind-ne-WHEN.false, c.peek-kind.ensures, c.loop-c.invariant), λ a p. record { on = λ r N' l. (c.loop-c.invariant.1 a p).on r N' (next ((c.after-w.ensures.1 1).does a p also (c.after-t.ensures.1 1).does a p also l) (λ f h. goes _ _ h.0 c.in-Got.is (λ rs F. goes _ _ h.1.0 c.in-Got-t.is (λ qs G. took _ _ _ (is c.peek-kind.ensures c.if-kind-ne-WHEN.false) (behind _ _ (F then G) h.1.1))))) })

pub when-returns : goal.when-returns
unfolding expr_w
when-returns t c = (ended c.counted.ensures (omega (arith, got_in c.after-t.ensures.0 c.in-Got-t.is, got_in c.after-w.ensures.0 c.in-Got.is, c.requires, c.if-kind-ne-WHEN.true, c.peek-kind.ensures, c.loop-c.invariant)), record { does = λ a p. (c.loop-c.invariant.1 a p).on _ _ (next ((c.after-w.ensures.1 1).does a p also (c.after-t.ensures.1 1).does a p) (λ f h. goes _ _ h.0 c.in-Got.is (λ rs F. goes _ _ h.1 c.in-Got-t.is (λ qs G. left _ _ _ (isn't c.peek-kind.ensures c.if-kind-ne-WHEN.true) (laid c.counted.ensures refl (F then G)))))) })
