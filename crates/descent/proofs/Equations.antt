-- The equations of recursive descent by the kind at a place, whether the list goes on there or is over: of a nonterminal (call_at), of an
-- item (nt_at, lit_at), of the end of a row (end_at). Every law of the reader is made of these. Assumes nothing.
use mathlib.Core.Bool.{true, Bool}
use mathlib.Core.List.{List, [], ◌∷◌}
use mathlib.Core.Option.{none}
use mathlib.Core.Path.{◌≡◌, refl, sym, ap, ◌∙◌}
use Prim.Native.Nat.{ℕ, ◌+◌, ◌≤◌, ◌<◌, zero, suc}
use borrow.Author.Tests.{ne_eqb, ltb-true, ltb-false}
use lib.Dec.{ltb, eqb}
use lib.ListN.{length, drop_of_length-le, get_or-eq_default}
use native.Mathlib.Omega.{arith}
use Rattle.theory.specs.Trees.{Nt, Item, lit, nt, Row, Tree, nil, add, leaf, node, cap_of}
use Rattle.theory.specs.Table.{Line, pick, both, on_row, mem, lookup, enter_of, cont_of, null_of}
use Rattle.theory.specs.Outcome.{got, refused}
use Rattle.theory.proofs.Machine.{on_bool}
use Rattle.theory.proofs.Cases.{by_bool, 0≢1}
use Rattle.theory.proofs.Tested.{notb, allb, asked_none, not_found, found}
use Rattle.theory.proofs.Descend.{on_got, check, rest, call, rest_nt, rest_lit, rest_lit_end, rest_end, rest_end_end}
use Rattle.grammar.specs.Grammar.{sql, G}
use Rattle.grammar.specs.Rows.{but_column, exprs, select_items, values_items, lines, heads_of, tails_of}
use Rattle.grammar.specs.Limits.{Around, below, under, judge}
use Rattle.grammar.specs.Promise.{tokens}
use Rattle.descent.proofs.Places.{kind_at, tok_at, from, wrong, Sound, OpenRow, calls, rests}

plus_one : (n : ℕ) → n + 1 ≡ suc n
plus_one n = omega arith

from_suc : (K T : List ℕ) (n : ℕ) → length K ≡ length T → n < length K → from K T n ≡ tok_at K T n ∷ from K T (suc n)
unfolding from tokens
from_suc [] T n e h = absurd (omega arith)
from_suc (k ∷ K) [] n e h = absurd (omega arith)
from_suc (k ∷ K) (t ∷ T) zero e h = refl
from_suc (k ∷ K) (t ∷ T) (suc n) e h = from_suc K T n (omega arith) (omega arith)

pub from_in : (K T : List ℕ) (n : ℕ) → length K ≡ length T → n < length K → from K T n ≡ tok_at K T n ∷ from K T (n + 1)
from_in K T n e h = from_suc K T n e h ∙ ap (λ z. tok_at K T n ∷ from K T z) (sym (plus_one n))

length_tokens : (K T : List ℕ) → length K ≡ length T → length (tokens K T) ≡ length K
unfolding tokens
length_tokens [] T e = refl
length_tokens (k ∷ K) [] e = absurd (omega arith)
length_tokens (k ∷ K) (t ∷ T) e = ap suc (length_tokens K T (omega arith))

pub from_end : (K T : List ℕ) (n : ℕ) → length K ≡ length T → length K ≤ n → from K T n ≡ []
unfolding from
from_end K T n e h = let l : length (tokens K T) ≤ n = omega (arith, length_tokens K T e) in drop_of_length-le (tokens K T) l

pub kind_end : (K : List ℕ) (n : ℕ) → length K ≤ n → kind_at K n ≡ 0
kind_end K n h = get_or-eq_default K 0 h

-- no line has the end's kind
endless : allb (λ e. notb (mem 0 e.at)) sql.heads ≡ true
unfolding sql lines but_column exprs select_items values_items heads_of tails_of pick both notb allb mem
endless = refl

endless_t : allb (λ e. notb (mem 0 e.at)) sql.tails ≡ true
unfolding sql lines but_column exprs select_items values_items heads_of tails_of pick both notb allb mem
endless_t = refl

no_line : (C k : ℕ) (es : List Line) → allb (λ e. notb (mem k e.at)) es ≡ true → lookup C k es ≡ none
unfolding notb
no_line C k es a = not_found (lookup C k es) (λ r l. let f = found (λ e. notb (mem k e.at)) C k r es a l in not_both_true (mem k f.0.at) f.1 f.3)
  where
    not_both_true : (b : Bool) → notb b ≡ true → b ≡ true → ⊥
    not_both_true b x y = 0≢1 (sym (ap notb y) ∙ x)

pub enter_end : (A : Nt) → enter_of sql A 0 ≡ none
unfolding enter_of
enter_end A = asked_none A.least (lookup A.of 0 sql.heads) (no_line A.of 0 sql.heads endless)

pub cont_end : (A : Nt) (r : Row) (m : ℕ) → cont_of sql A r m 0 ≡ none
unfolding cont_of on_row
cont_end A r m = rw (asked_none A.least (lookup A.of 0 sql.tails) (no_line A.of 0 sql.tails endless_t))

wrong_some : (k : ℕ) → 0 < k → wrong k ≡ 3
unfolding wrong pick
wrong_some k h = rw (ne_eqb k 0 (λ e. omega arith))

wrong_end : wrong 0 ≡ 4
unfolding wrong pick
wrong_end = refl

the_end : sql.eof ≡ 0
unfolding sql
the_end = refl

module _ (K T : List ℕ) (ok : Sound K T) where
  pub call_at : (c : Around) (A : Nt) (n : ℕ)
      → calls K T c A n ≡ on_row (enter_of sql A (kind_at K n))
      (λ q. check (judge c q nil (tok_at K T n) nil) n (λ w. rests K T (record { c = c; A = A; r = q; l = nil; t = tok_at K T n }) q.items nil (n + 1)))
      (λ w. on_bool (null_of sql A) (λ w. got nil n (from K T n)) (refused (wrong (kind_at K n)) n))
  unfolding call on_row enter_of
  call_at c A n = by_bool (ltb n (length K))
      (λ h. let i = ltb-true n (length K) h in rw (from_in K T n ok.equal i, wrong_some (kind_at K n) (ok.some n i)))
      (λ h. let i = ltb-false n (length K) h in rw (from_end K T n ok.equal i, kind_end K n i, the_end, enter_end A, wrong_end))

  -- a nonterminal among the items is called, and what is left goes on
  pub nt_at : (F : OpenRow) (B : Nt) (is : List Item) (k : Tree) (n : ℕ)
      → rests K T F (nt B ∷ is) k n ≡ on_got (calls K T (below F.r F.c) B n)
      (λ x n' us'. rest G Around under judge F.c F.A F.r F.l F.t is (add k x) n' us')
  nt_at F B is k n = rest_nt G Around under judge F.c F.A F.r F.l F.t B is k n (from K T n)

  pub lit_at : (F : OpenRow) (d : ℕ) (is : List Item) (k : Tree) (n : ℕ) → 0 < d
      → rests K T F (lit d ∷ is) k n ≡ on_bool (eqb d (kind_at K n))
      (λ w. check (judge F.c F.r F.l F.t (add k (leaf (tok_at K T n)))) n (λ w. rests K T F is (add k (leaf (tok_at K T n))) (n + 1)))
      (refused (wrong (kind_at K n)) n)
  unfolding on_bool
  lit_at F d is k n pos = by_bool (ltb n (length K))
      (λ h. let i = ltb-true n (length K) h in rw (from_in K T n ok.equal i, wrong_some (kind_at K n) (ok.some n i))
      (rest_lit G Around under judge F.c F.A F.r F.l F.t d is k n (tok_at K T n) (from K T (n + 1))))
      (λ h. let i = ltb-false n (length K) h in rw (from_end K T n ok.equal i, kind_end K n i, ne_eqb d 0 (λ e. omega arith), wrong_end)
      (rest_lit_end G Around under judge F.c F.A F.r F.l F.t d is k n))

  -- at the end of a row: it goes on, with what was read as its left operand, or it is whole
  pub end_at : (F : OpenRow) (k : Tree) (n : ℕ)
      → rests K T F [] k n ≡ on_row (cont_of sql F.A F.r (cap_of k) (kind_at K n))
      (λ q. check (judge F.c q (node F.r F.l F.t k) (tok_at K T n) nil) n
      (λ w. rests K T (record { c = F.c; A = F.A; r = q; l = node F.r F.l F.t k; t = tok_at K T n }) q.items nil (n + 1)))
      (λ w. got (node F.r F.l F.t k) n (from K T n))
  unfolding on_row cont_of
  end_at F k n = by_bool (ltb n (length K))
      (λ h. let i = ltb-true n (length K) h in rw (from_in K T n ok.equal i) (rest_end G Around under judge F.c F.A F.r F.l F.t k n (tok_at K T n) (from K T (n + 1))))
      (λ h. let i = ltb-false n (length K) h in rw (from_end K T n ok.equal i, kind_end K n i, cont_end F.A F.r (cap_of k))
      (rest_end_end G Around under judge F.c F.A F.r F.l F.t k n ∙ rw (the_end, cont_end F.A F.r (cap_of k))))

-- the list is over where the kind is the end's
pub at_end : (K T : List ℕ) → Sound K T → (n : ℕ) → kind_at K n ≡ 0 → from K T n ≡ []
at_end K T ok n e = by_bool (ltb n (length K))
    (λ h. absurd (let i = ok.some n (ltb-true n (length K) h) in omega (arith, i, e)))
    (λ h. from_end K T n ok.equal (ltb-false n (length K) h))
