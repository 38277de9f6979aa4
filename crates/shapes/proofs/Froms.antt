-- FROM: sources, joins and their constraints. Assumes nothing.
use mathlib.Core.List.{List, [], ◌∷◌, ◌++◌}
use mathlib.Core.Path.{refl}
use Prim.Native.Nat.{ℕ, ◌+◌, ◌<◌, suc}
use lib.Dec.{eqb}
use lib.ListN.{get_or}
use native.Mathlib.Omega.{arith}
use Rattle.theory.specs.Table.{mem}
use Rattle.kinds.specs.Kinds.{JOIN_KW, LP, COMMA, FROM, JOIN, ON, USING}
use Rattle.grammar.specs.Limits.{Around}
use Rattle.grammar.specs.Nodes.{Rec}
use Rattle.descent.proofs.Walk.{κ, joined_w, expr_w, query_w, from_w, joins_w, on_w, source_w}
use Rattle.shapes.specs.Shape.{a_from, a_source, a_join, a_constraint, many_of, from_node, join_node, on_node}
use Rattle.shapes.proofs.Records.{One, read_is, read_here, read_none, read_each, may_absent, ◌&◌, read_over}
use Rattle.shapes.proofs.Gives.{Gives, gives_bind, gives_onto, gives_choose, gives_done, gives_map}
use Rattle.shapes.proofs.Loops.{Several}
use Rattle.shapes.proofs.NameParts.{gives_using}
use Rattle.shapes.proofs.SourceParts.{gives_table, gives_lent, gives_joined}
use Rattle.shapes.proofs.Statements.{GivesOne, GivesMay, All}
use Rattle.shapes.proofs.Operators.{expr_one}

no_join : {n : ℕ} → Several (many_of a_join) n n []
no_join {n} = record { more = 0; counts = omega arith; read = read_none }

one_join : {n m : ℕ} {rs qs : List Rec} → One a_join rs → Several (many_of a_join) (n + 1) m qs → Several (many_of a_join) n m (rs ++ qs)
one_join r s = record { more = s.more + 1; counts = omega (arith, s.counts); read = read_each (r & s.read) }

module _ (K T : List ℕ) (bound : (n : ℕ) → get_or K n 0 < 72) (f : ℕ) (all : All K T f) where
  pub source_gives : (at : ℕ) (c : Around) → GivesOne a_source (source_w K T (suc f) at c)
  unfolding expr_w
  source_gives at c = gives_choose (eqb (κ K T at) LP) _ _ (λ z. gives_bind (query_w K T f (at + 1) c) _ (all.query (at + 1) c) (λ a x n rs r. gives_lent K T bound a rs r)) (λ z. gives_table K T bound at)

  pub on_gives : (at : ℕ) (c : Around) → GivesMay a_constraint (on_w K T (suc f) at c)
  unfolding expr_w
  on_gives at c = gives_choose (eqb (κ K T at) ON) _ _
      (λ z. gives_bind (expr_w K T f (at + 1) c 1) _ (expr_one 1 (omega arith) (all.expr (at + 1) c 1)) (λ a x n rs r. gives_done a 0 0 _ (read_here (read_over (on_node refl refl) r))))
      (λ z. gives_choose (eqb (κ K T at) USING) _ _ (λ y. gives_map _ (gives_using K T bound f (at + 1)) (λ a s n rs r. read_here r)) (λ y. gives_done at 0 0 _ may_absent))

  pub joins_gives : (at : ℕ) (c : Around) (n : ℕ) → Gives (joins_w K T (suc f) at c n) (λ a s m rs. Several (many_of a_join) n m rs)
  unfolding expr_w
  joins_gives at c n = gives_choose (mem (κ K T at) (COMMA ∷ JOIN ∷ JOIN_KW ∷ [])) _ _
      (λ z. gives_bind (joined_w K T at) _ (gives_joined K T at)
      (λ a d x os j. gives_bind (source_w K T f a c) _ (all.source a c)
      (λ b x y rs r. gives_bind (on_w K T f b c) _ (all.on b c)
      (λ e x y qs q. gives_onto _ (joins_w K T f e c (n + 1)) (all.joins e c (n + 1)) (λ g x m ps p. one_join (read_over (join_node refl j) (r & q)) p)))))
      (λ z. gives_done at 0 n [] no_join)

  pub from_gives : (at : ℕ) (c : Around) → GivesMay a_from (from_w K T (suc f) at c)
  unfolding expr_w
  from_gives at c = gives_choose (eqb (κ K T at) FROM) _ _
      (λ z. gives_bind (source_w K T f (at + 1) c) _ (all.source (at + 1) c)
      (λ a x n rs r. gives_bind (joins_w K T f a c 0) _ (all.joins a c 0)
      (λ b x m qs q. gives_done b 0 0 _ (read_here (read_over (from_node refl refl) (read_is (r & q.read) (omega (arith, q.counts)) refl))))))
      (λ z. gives_done at 0 0 _ may_absent)
