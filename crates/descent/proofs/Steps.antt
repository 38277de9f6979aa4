-- One law for each thing that a reader does: it calls a part (nt_got, nt_refused), takes a token (lit_got, lit_wrong), begins a row (call_in,
-- call_word), finds a part absent or wrong (call_absent, call_wrong), goes on from a left operand or stops (again-on, again-stop). The
-- ways through a reader's function are these, one after the other. Assumes nothing.
use mathlib.Core.Bool.{true, false}
use mathlib.Core.List.{List, [], ◌∷◌}
use mathlib.Core.Option.{some, none}
use mathlib.Core.Path.{◌≡◌, refl, sym, ◌∙◌}
use Prim.Native.Nat.{ℕ, ◌+◌, ◌<◌, suc}
use borrow.Author.Tests.{ne_eqb}
use Rattle.theory.specs.Trees.{Nt, Item, lit, nt, Row, Tree, nil, add, leaf, node, cap_of}
use Rattle.theory.specs.Table.{on_row, enter_of, cont_of, null_of}
use Rattle.theory.specs.Outcome.{got, refused}
use Rattle.theory.proofs.Machine.{on_bool}
use Rattle.theory.proofs.Cases.{eqb-true}
use Rattle.theory.proofs.Descend.{on_got, check}
use Rattle.grammar.specs.Grammar.{sql}
use Rattle.grammar.specs.Limits.{Around, below, judge}
use Rattle.descent.proofs.Places.{kind_at, tok_at, from, wrong, Sound, OpenRow, calls, rests, again}
use Rattle.descent.proofs.Equations.{call_at, nt_at, lit_at, end_at}

module _ (K T : List ℕ) (ok : Sound K T) where
  pub nt_got : (F : OpenRow) (B : Nt) (is : List Item) (k : Tree) (n : ℕ) {x : Tree} {n' : ℕ}
      → calls K T (below F.r F.c) B n ≡ got x n' (from K T n') → rests K T F (nt B ∷ is) k n ≡ rests K T F is (add k x) n'
  unfolding on_got
  nt_got F B is k n e = nt_at K T ok F B is k n ∙ rw e

  pub nt_refused : (F : OpenRow) (B : Nt) (is : List Item) (k : Tree) (n : ℕ) {m p : ℕ}
      → calls K T (below F.r F.c) B n ≡ refused m p → rests K T F (nt B ∷ is) k n ≡ refused m p
  unfolding on_got
  nt_refused F B is k n e = nt_at K T ok F B is k n ∙ rw e

  pub lit_got : (F : OpenRow) (d : ℕ) (is : List Item) (k : Tree) (n : ℕ) → 0 < d → kind_at K n ≡ d
      → judge F.c F.r F.l F.t (add k (leaf (tok_at K T n))) ≡ 0 → rests K T F (lit d ∷ is) k n ≡ rests K T F is (add k (leaf (tok_at K T n))) (n + 1)
  unfolding on_bool check
  lit_got F d is k n p e j = lit_at K T ok F d is k n p ∙ rw (eqb-true d (kind_at K n) (sym e), j)

  pub lit_word : (F : OpenRow) (d : ℕ) (is : List Item) (k : Tree) (n m : ℕ) → 0 < d → kind_at K n ≡ d
      → judge F.c F.r F.l F.t (add k (leaf (tok_at K T n))) ≡ suc m → rests K T F (lit d ∷ is) k n ≡ refused (suc m) n
  unfolding on_bool check
  lit_word F d is k n m p e j = lit_at K T ok F d is k n p ∙ rw (eqb-true d (kind_at K n) (sym e), j)

  pub lit_wrong : (F : OpenRow) (d : ℕ) (is : List Item) (k : Tree) (n : ℕ) → 0 < d → (kind_at K n ≡ d → ⊥) → rests K T F (lit d ∷ is) k n ≡ refused (wrong (kind_at K n)) n
  unfolding on_bool
  lit_wrong F d is k n p e = lit_at K T ok F d is k n p ∙ rw (ne_eqb d (kind_at K n) (λ z. e (sym z)))

  pub call_in : (c : Around) (A : Nt) (n : ℕ) (q : Row) → enter_of sql A (kind_at K n) ≡ some q → judge c q nil (tok_at K T n) nil ≡ 0
      → calls K T c A n ≡ rests K T (record { c = c; A = A; r = q; l = nil; t = tok_at K T n }) q.items nil (n + 1)
  unfolding on_row check
  call_in c A n q e j = call_at K T ok c A n ∙ rw (e, j)

  pub call_word : (c : Around) (A : Nt) (n : ℕ) (q : Row) (m : ℕ) → enter_of sql A (kind_at K n) ≡ some q → judge c q nil (tok_at K T n) nil ≡ suc m → calls K T c A n ≡ refused (suc m) n
  unfolding on_row check
  call_word c A n q m e j = call_at K T ok c A n ∙ rw (e, j)

  pub call_absent : (c : Around) (A : Nt) (n : ℕ) → enter_of sql A (kind_at K n) ≡ none → null_of sql A ≡ true → calls K T c A n ≡ got nil n (from K T n)
  unfolding on_row on_bool
  call_absent c A n e z = call_at K T ok c A n ∙ rw (e, z)

  pub call_wrong : (c : Around) (A : Nt) (n : ℕ) → enter_of sql A (kind_at K n) ≡ none → null_of sql A ≡ false → calls K T c A n ≡ refused (wrong (kind_at K n)) n
  unfolding on_row on_bool
  call_wrong c A n e z = call_at K T ok c A n ∙ rw (e, z)

  -- a row of no more items may go on
  pub row_on : (F : OpenRow) (k : Tree) (n : ℕ) (q : Row) → cont_of sql F.A F.r (cap_of k) (kind_at K n) ≡ some q
      → judge F.c q (node F.r F.l F.t k) (tok_at K T n) nil ≡ 0
      → rests K T F [] k n ≡ rests K T (record { c = F.c; A = F.A; r = q; l = node F.r F.l F.t k; t = tok_at K T n }) q.items nil (n + 1)
  unfolding on_row check
  row_on F k n q e j = end_at K T ok F k n ∙ rw (e, j)

  pub row_stop : (F : OpenRow) (k : Tree) (n : ℕ) → cont_of sql F.A F.r (cap_of k) (kind_at K n) ≡ none
      → rests K T F [] k n ≡ got (node F.r F.l F.t k) n (from K T n)
  unfolding on_row
  row_stop F k n e = end_at K T ok F k n ∙ rw e

  pub again_is : (F : OpenRow) (k : Tree) (n : ℕ) → rests K T F [] k n ≡ again K T F.c F.A (node F.r F.l F.t k) n
  unfolding again
  again_is F k n = refl
