-- Rows of the classes from which nothing goes on: such a row is whole after its items (whole). enters: the kinds of a list all begin a class
-- by one row, if a test of them computes. begin: a part's row begins, with no word of the limits; one_item: a row of one item. took,
-- not_took: a row's own token. Assumes nothing.
use mathlib.Core.Bool.{true, false}
use mathlib.Core.List.{List, [], ◌∷◌, ◌++◌}
use mathlib.Core.Option.{some}
use mathlib.Core.Path.{◌≡◌, refl, sym, ap, ◌∙◌}
use Prim.Native.Nat.{ℕ, ◌+◌, ◌<◌}
use borrow.Author.Tests.{eqb-false}
use lib.Dec.{eqb}
use native.Mathlib.Omega.{arith}
use Rattle.theory.specs.Trees.{Nt, Item, lit, nt, Row, Tree, nil, add, leaf, node, cap_of}
use Rattle.theory.specs.Table.{pick, mem, enter_of, null_of}
use Rattle.theory.specs.Outcome.{got, refused}
use Rattle.theory.proofs.Cases.{by_bool, 0≢1, eqb_eq}
use Rattle.theory.proofs.Tested.{allb, all_mem, kinds_of}
use Rattle.grammar.specs.Classes.{E, any}
use Rattle.grammar.specs.RowNames.{row_next_row, row_word_join}
use Rattle.grammar.specs.Grammar.{sql}
use Rattle.grammar.specs.Limits.{Around, is_query}
use Rattle.grammar.specs.Nodes.{Rec}
use Rattle.grammar.specs.Reading.{value}
use Rattle.kinds.specs.Lists.{among}
use Rattle.descent.proofs.Places.{kind_at, tok_at, from, wrong, OpenRow, calls, rests}
use Rattle.descent.proofs.Walk.{Walked, expr_w}
use Rattle.descent.proofs.Grown.{recs}
use Rattle.descent.proofs.SameRow.{eq_found, same_found}
use Rattle.descent.proofs.Steps.{nt_got, nt_refused, lit_got, lit_wrong, call_in, call_absent, row_stop}
use Rattle.descent.proofs.ClassFacts.{out}
use Rattle.descent.proofs.Means.{Single, Told, Good, Reads, ExprOK}
use Rattle.descent.proofs.Common.{told_map, expr_got, no_word, part_no_word}
use Rattle.descent.proofs.NoTails.{plain_classes, ends}
use Rattle.descent.proofs.Strong.{below_part}

pub enters : (C : ℕ) (r : Row) (ks : List ℕ) → allb (λ k. eq_found (enter_of sql (any C) k) (some r)) ks ≡ true → (k : ℕ) → mem k ks ≡ true → enter_of sql (any C) k ≡ some r
enters C r ks t k m = same_found (enter_of sql (any C) k) (some r) (all_mem (λ k. eq_found (enter_of sql (any C) k) (some r)) ks k t m)

-- the two ways to say that a kind is of a list
pub among_mem : (k : ℕ) (l : List ℕ) → mem k l ≡ among k l
unfolding mem pick
among_mem k [] = refl
among_mem k (a ∷ l) = by_bool (eqb k a) (λ e. rw e) (λ e. rw e (among_mem k l))

pub mem_apart : (k : ℕ) (l m : List ℕ) → mem k l ≡ false → mem k m ≡ false → mem k (l ++ m) ≡ false
unfolding mem pick
mem_apart k [] m e f = f
mem_apart k (a ∷ l) m e f = by_bool (eqb k a) (λ h. 0≢1 (sym e ∙ rw h)) (λ h. rw h (mem_apart k l m (sym (rw h) ∙ e) f))

-- a row of class C that begins at place n
abbrev pub opened : List ℕ → List ℕ → Around → ℕ → Row → ℕ → OpenRow
opened K T c C r n = record { c = c; A = any C; r = r; l = nil; t = tok_at K T n }

module _ (K T : List ℕ) (good : Good K T) where
  pub begin : (c : Around) (C : ℕ) (r : Row) (n : ℕ) → enter_of sql (any C) (kind_at K n) ≡ some r → is_query r.code ≡ false → r.str ≡ 0
      → calls K T c (any C) n ≡ rests K T (opened K T c C r n) r.items nil (n + 1)
  begin c C r n e q s = call_in K T good.sound c (any C) n r e (part_no_word c r (tok_at K T n) q s)

  pub whole : (c : Around) (C : ℕ) (r : Row) (n : ℕ) (k : Tree) (a : ℕ) → mem C plain_classes ≡ true
      → rests K T (opened K T c C r n) [] k a ≡ got (node r nil (tok_at K T n) k) a (from K T a)
  whole c C r n k a p = row_stop K T good.sound (opened K T c C r n) k a (ends C p r (cap_of k) (kind_at K a))

  -- at no kind of its own it is absent
  pub absent : (c : Around) (C : ℕ) (n : ℕ) → mem (kind_at K n) (kinds_of C (λ r. true) sql.heads) ≡ false → null_of sql (any C) ≡ true → calls K T c (any C) n ≡ got nil n (from K T n)
  absent c C n o m = call_absent K T good.sound c (any C) n (out C (kind_at K n) o) m

  -- a row's own token is there, or it is not
  pub took : (F : OpenRow) (d : ℕ) (is : List Item) (k : Tree) (n : ℕ) → 0 < d → mem F.r.code (row_word_join ∷ row_next_row ∷ []) ≡ false → eqb (kind_at K n) d ≡ true
      → rests K T F (lit d ∷ is) k n ≡ rests K T F is (add k (leaf (tok_at K T n))) (n + 1)
  took F d is k n p w e = lit_got K T good.sound F d is k n p (eqb_eq (kind_at K n) d e) (no_word F.c F.r F.l F.t k (leaf (tok_at K T n)) w)

  pub not_took : (F : OpenRow) (d : ℕ) (is : List Item) (k : Tree) (n : ℕ) → 0 < d → eqb (kind_at K n) d ≡ false → rests K T F (lit d ∷ is) k n ≡ refused (wrong (kind_at K n)) n
  not_took F d is k n p e = lit_wrong K T good.sound F d is k n p (eqb-false (kind_at K n) d e)

  -- a row of one item: what holds of that item's tree
  pub one_item : (c : Around) (C : ℕ) (r : Row) (B : Nt) (n : ℕ) (w : Walked) (P : Tree → ℕ → ℕ → List Rec → Type 0) → mem C plain_classes ≡ true → enter_of sql (any C) (kind_at K n) ≡ some r
      → is_query r.code ≡ false → r.str ≡ 0 → r.items ≡ nt B ∷ [] → Reads K T c B (n + 1) w P
      → Told w (λ a s m rs. (x : Tree) × (calls K T c (any C) n ≡ got (node r nil (tok_at K T n) (add nil x)) a (from K T a)) × P x s m rs) (λ m p. calls K T c (any C) n ≡ refused m p)
  one_item c C r B n w P p e q s i h =
      let b = begin c C r n e q s ∙ ap (λ z. rests K T (opened K T c C r n) z nil (n + 1)) i in
      told_map w h
      (λ a t m rs y. (y.0, b ∙ nt_got K T good.sound (opened K T c C r n) B [] nil (n + 1) (rw (below_part r c s q) y.1) ∙ whole c C r n (add nil y.0) a p, y.2))
      (λ m t y. b ∙ nt_refused K T good.sound (opened K T c C r n) B [] nil (n + 1) (rw (below_part r c s q) y))

  -- an expression as a part
  pub expr_reads : (f : ℕ) → ExprOK K T f → (at : ℕ) (c : Around) → Reads K T c (E 1) at (expr_w K T f at c 1) (λ x said n rs. Single (value x).nodes × (rs ≡ recs (value x)))
  expr_reads f ex at c = told_map (expr_w K T f at c 1) (expr_got K T good f ex at c 1 (omega arith) (omega arith)) (λ a s n rs p. (p.0, p.1, (p.2.single, p.3))) (λ m p e. e)

pub two_on : (n : ℕ) → n + 1 + 1 ≡ n + 2
two_on n = omega arith
