-- A list { separator item } by places: after the members x read so far (nil: none yet), a separator's row is read with x on its left
-- (goes_in), or the list is whole (goes_out). Assumes nothing.
use mathlib.Core.Bool.{true, false}
use mathlib.Core.List.{List, []}
use mathlib.Core.Option.{some, none}
use mathlib.Core.Path.{◌≡◌, refl, ◌∙◌}
use Prim.Native.Nat.{ℕ, ◌+◌}
use Rattle.theory.specs.Trees.{Row, Tree, nil, add, leaf, node, cap_of}
use Rattle.theory.specs.Table.{enter_of, null_of}
use Rattle.theory.specs.Outcome.{got}
use Rattle.theory.proofs.Lists.{Lists, Begun, more}
use Rattle.grammar.specs.Classes.{any}
use Rattle.grammar.specs.Grammar.{sql, G}
use Rattle.grammar.specs.Limits.{Around, is_query}
use Rattle.descent.proofs.Places.{kind_at, tok_at, from, OpenRow, rests}
use Rattle.descent.proofs.Steps.{call_absent, row_on, row_stop}
use Rattle.descent.proofs.Means.{Good, goes_on}
use Rattle.descent.proofs.Common.{goes_no_word}
use Rattle.descent.proofs.PlainClasses.{begin}

module _ (K T : List ℕ) (good : Good K T) (C : ℕ) (ls : Lists G (any C)) (c : Around) where
  -- a row that goes on from x
  abbrev pub further : Row → Tree → ℕ → OpenRow
  further r x n = record { c = c; A = any C; r = r; l = x; t = tok_at K T n }

  pub goes_in : (x : Tree) → Begun x → (r : Row) (n : ℕ) → enter_of sql (any C) (kind_at K n) ≡ some r → is_query r.code ≡ false → r.str ≡ 0
      → goes_on K T c (any C) x n ≡ rests K T (further r x n) r.items nil (n + 1)
  unfolding more
  goes_in nil b r n e q s = begin K T good c C r n e q s
  goes_in (add f y) b r n e q s = absurd b
  goes_in (leaf t) b r n e q s = absurd b
  goes_in (node p l t k) b r n e q s = row_on K T good.sound (record { c = c; A = any C; r = p; l = l; t = t }) k n r (ls p (cap_of k) (kind_at K n) ∙ e) (goes_no_word c r p l t (tok_at K T n) k)

  pub goes_out : (x : Tree) → Begun x → (n : ℕ) → enter_of sql (any C) (kind_at K n) ≡ none → null_of sql (any C) ≡ true → goes_on K T c (any C) x n ≡ got x n (from K T n)
  unfolding more
  goes_out nil b n e z = call_absent K T good.sound c (any C) n e z
  goes_out (add f y) b n e z = absurd b
  goes_out (leaf t) b n e z = absurd b
  goes_out (node p l t k) b n e z = row_stop K T good.sound (record { c = c; A = any C; r = p; l = l; t = t }) k n (ls p (cap_of k) (kind_at K n) ∙ e)

  -- a whole row is the list so far
  pub goes_with : (r : Row) (x k : Tree) (n a : ℕ) → rests K T (further r x n) [] k a ≡ goes_on K T c (any C) (node r x (tok_at K T n) k) a
  unfolding more
  goes_with r x k n a = refl
