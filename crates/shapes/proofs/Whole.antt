-- The shape of every reading. shaped: where the walk of a whole list is done, its records are those of one query's node, so a tree with
-- these records has that reading. accepted_shaped: so it is for each accepted command, since the walk ends. Assumes nothing.
use mathlib.Core.List.{List, []}
use mathlib.Core.Path.{◌≡◌, refl, sym, ap, ◌∙◌, subst}
use Prim.Native.Nat.{ℕ, ◌+◌, ◌*◌, ◌<◌}
use lib.Dec.{eqb}
use lib.ListN.{length, get_or}
use native.Mathlib.Omega.{arith}
use Rattle.theory.specs.Trees.{Tree, nil, add}
use Rattle.theory.specs.Outcome.{Ans, got, refused}
use Rattle.theory.proofs.Tested.{FollowOf}
use Rattle.theory.proofs.Outcomes.{outcome}
use Rattle.kinds.specs.Kinds.{SEMI}
use Rattle.grammar.specs.Classes.{Command, any}
use Rattle.grammar.specs.Grammar.{sql, G}
use Rattle.grammar.specs.Limits.{Around, outer, under, judge}
use Rattle.grammar.specs.Nodes.{Nodes, Rec, records}
use Rattle.grammar.specs.Reading.{reading}
use Rattle.grammar.specs.Promise.{tokens, Accepted, records_of}
use Rattle.grammar.proofs.Checked.{sql_laws}
use Rattle.grammar.proofs.Promised.{parsed, found}
use Rattle.descent.proofs.Walk.{Walked, done, stop, spent, κ, query_w, command_w}
use Rattle.descent.proofs.Means.{ToldCase, Good}
use Rattle.descent.proofs.Whole.{walk_is_grammar}
use Rattle.descent.proofs.Answers.{lent_good}
use Rattle.shapes.specs.Shape.{a_query, IsOne}
use Rattle.shapes.proofs.Decode.{same_nodes}
use Rattle.shapes.proofs.Records.{One}
use Rattle.shapes.proofs.Gives.{GivesCase, gives_bind, gives_choose, gives_done, gives_stop}
use Rattle.shapes.proofs.Statements.{GivesOne}
use Rattle.shapes.proofs.Everything.{all}
use Rattle.shapes.proofs.Ends.{EndsCase}
use Rattle.shapes.proofs.Ended.{walk_ends}

-- nodes that have the records of one node of a class are that node
pub one_is : {rs : List Rec} (ns : Nodes) → One a_query rs → rs ≡ records ns → IsOne a_query ns
one_is ns r e = subst (λ z. IsOne a_query z) (same_nodes r.nodes ns (sym r.same ∙ e)) r.are

module _ (K T : List ℕ) (bound : (n : ℕ) → get_or K n 0 < 72) where
  pub command_gives : (f : ℕ) → GivesOne a_query (command_w K T f)
  unfolding command_w
  command_gives f = gives_bind (query_w K T f 0 outer) _ ((all K T bound f).query 0 outer)
      (λ a x n rs r. gives_choose (eqb (κ K T a) 0) _ _ (λ z. gives_done a x n rs r)
      (λ z. gives_choose (eqb (κ K T a) SEMI) _ _
      (λ y. gives_choose (eqb (κ K T (a + 1)) 0) _ _ (λ w. gives_done a x n rs r) (λ w. gives_stop))
      (λ y. gives_stop)))

  -- where the walk is done, every tree with its records has a reading that is one query
  pub shaped : (f : ℕ) {a s n : ℕ} {rs : List Rec} → command_w K T f ≡ done a s n rs → (x : Tree) → rs ≡ records_of x → IsOne a_query (reading x)
  shaped f {a} {s} {n} {rs} e x h = one_is (reading x) (subst (λ w. GivesCase w (λ a s n rs. One a_query rs)) e (command_gives f).it) h

-- ── accepted commands ──
-- what the machine found, and whether it did
unfoldable tree_of : Ans → Tree
tree_of (got k n us) = found k
tree_of (refused m p) = nil

unfoldable is_got : Ans → ℕ
is_got (got k n us) = 1
is_got (refused m p) = 0

module _ (K T : List ℕ) (x : Tree) (ok : Accepted K T x) where
  good : Good K T
  good = lent_good K T ok.lent ok.fit

  -- what the machine finds is the tree that was accepted
  found_it : parsed (tokens K T) ≡ got (add nil x) (length (tokens K T)) []
  found_it = (outcome Around under judge G outer (any Command) (FollowOf sql) sql_laws (tokens K T) (got (add nil x) (length (tokens K T)) [])).1 (x, refl, refl, refl, ok.derived, ok.within)

  abbrev Tells : Walked → Type 0
  Tells w = ToldCase w (λ a s n rs. (y : Tree) × (parsed (tokens K T) ≡ got (add nil y) (length (tokens K T)) []) × (rs ≡ records_of y)) (λ m p. parsed (tokens K T) ≡ refused m p)

  -- by what the walk comes to, with fuel f
  by_walk : (f : ℕ) (w : Walked) → command_w K T f ≡ w → Tells w → EndsCase 0 w → IsOne a_query (reading x)
  unfolding tree_of found is_got
  by_walk f (done a s n rs) e t h = shaped K T good.bound f e x (t.2 ∙ ap (λ z. records_of (tree_of z)) (sym t.1 ∙ found_it))
  by_walk f (stop m p) e t h = absurd (let z : ◌≡◌ {A = ℕ} 0 1 = ap is_got (sym t ∙ found_it) in omega (arith, z))
  by_walk f spent e t h = absurd h

  -- the reading of each accepted command is one query, and all under it is of its shape
  pub accepted_shaped : IsOne a_query (reading x)
  accepted_shaped = let f : ℕ = 10 * length K + 3 in by_walk f (command_w K T f) refl (walk_is_grammar K T good f).it (walk_ends K T f (omega arith)).it
