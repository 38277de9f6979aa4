-- An alias, a table with its index, a query in FROM, join words. Assumes nothing.
use mathlib.Core.List.{List, [], ◌∷◌, ◌++◌, append_assoc}
use mathlib.Core.Path.{◌≡◌, refl, ap, ◌∙◌}
use Prim.Native.Nat.{ℕ, ◌+◌, ◌≤◌, ◌<◌, zero, suc}
use lib.Dec.{eqb}
use lib.ListN.{get_or}
use native.Mathlib.Omega.{arith}
use Rattle.kinds.specs.Kinds.{INDEXED, JOIN_KW, RP, COMMA, DOT, NOT, AS, JOIN, BY}
use Rattle.kinds.specs.Classes.{is_bare_alias}
use Rattle.words.specs.Flags.{NO_FLAGS, flags_of, united, legal}
use Rattle.grammar.specs.Nodes.{Rec}
use Rattle.grammar.specs.Reading.{choose}
use Rattle.descent.proofs.Walk.{done, stop, missing, κ, τ, name_w, alias_w, qualified_w, index_w, table_w, lent_w, join_w, joined_w}
use Rattle.shapes.specs.Shape.{a_query, a_source, a_name, aliased, indexed, Joining, by_comma, by_words, table_node, source_node}
use Rattle.shapes.proofs.Records.{One, May, read_is, read_here, read_absent, may_absent, ◌&◌, ◌&?◌, read_over}
use Rattle.shapes.proofs.Gives.{Gives, gives_bind, gives_onto, gives_choose, gives_done, gives_stop}
use Rattle.shapes.proofs.KindCodes.{bare_code}
use Rattle.shapes.proofs.NameParts.{one_name, gives_name}

-- a schema or none, and a name
pub record Qualified (rs : List Rec) : Type 0 where
  pub schema : List Rec
  pub table : List Rec
  pub both : rs ≡ schema ++ table
  pub before : May a_name schema
  pub name : One a_name table

module _ (K T : List ℕ) (bound : (n : ℕ) → get_or K n 0 < 72) where
  pub gives_alias : (at : ℕ) → Gives (alias_w K T at) (λ a mode n rs. (mode ≤ 2) × One (aliased mode) rs)
  unfolding alias_w choose
  gives_alias at = gives_choose (eqb (κ K T at) AS) _ _
      (λ z. gives_bind (name_w K T (at + 1)) _ (gives_name K T bound (at + 1)) (λ a s n rs r. gives_done a 1 0 rs (omega arith, r.0)))
      (λ z. gives_choose (is_bare_alias (κ K T at)) _ _
      (λ y. gives_done (at + 1) 2 0 _ (omega arith, one_name _ _ (bare_code (κ K T at) (bound at) y)))
      (λ y. gives_done at 0 0 _ (omega arith, read_absent)))

  pub gives_index : (at : ℕ) → Gives (index_w K T at) (λ a by n rs. (by ≤ 2) × One (indexed by) rs)
  unfolding index_w choose
  gives_index at = gives_choose (eqb (κ K T at) INDEXED) _ _
      (λ z. gives_choose (eqb (κ K T (at + 1)) BY) _ _
      (λ y. gives_bind (name_w K T (at + 2)) _ (gives_name K T bound (at + 2)) (λ a s n rs r. gives_done a 1 0 rs (omega arith, r.0)))
      (λ y. gives_stop))
      (λ z. gives_choose (eqb (κ K T at) NOT) _ _
      (λ y. gives_choose (eqb (κ K T (at + 1)) INDEXED) _ _ (λ x. gives_done (at + 2) 2 0 _ (omega arith, read_absent)) (λ x. gives_stop))
      (λ y. gives_done at 0 0 _ (omega arith, read_absent)))

  pub gives_qualified : (at : ℕ) → Gives (qualified_w K T at) (λ a s n rs. Qualified rs)
  unfolding qualified_w
  gives_qualified at = gives_choose (eqb (κ K T (at + 1)) DOT) _ _
      (λ z. gives_bind (name_w K T at) _ (gives_name K T bound at)
      (λ a s n rs r. gives_onto rs (name_w K T (a + 1)) (gives_name K T bound (a + 1)) (λ b s m qs q. record { schema = rs; table = qs; both = refl; before = read_here r.0; name = q.0 })))
      (λ z. gives_onto (missing ∷ []) (name_w K T at) (gives_name K T bound at) (λ b s m qs q. record { schema = missing ∷ []; table = qs; both = refl; before = may_absent; name = q.0 }))

  pub gives_table : (at : ℕ) → Gives (table_w K T at) (λ a s n rs. One a_source rs)
  unfolding table_w
  gives_table at = gives_bind (qualified_w K T at) _ (gives_qualified at)
      (λ a s n rs r. gives_bind (alias_w K T a) _ (gives_alias a)
      (λ b mode n qs q. gives_bind (index_w K T b) _ (gives_index b)
      (λ d by n ps p. gives_done d 0 0 _ (read_over (table_node mode by refl refl q.0 p.0) (read_is (r.before &? r.name & q.1 & p.1) refl (parts r (qs ++ ps)))))))
    where
      parts : {rs : List Rec} (r : Qualified rs) (qs : List Rec) → rs ++ qs ≡ r.schema ++ (r.table ++ qs)
      parts r qs = ap (λ z. z ++ qs) r.both ∙ append_assoc r.schema r.table qs

  -- RP and an optional alias, after the records rs of a query
  pub gives_lent : (at : ℕ) (rs : List Rec) → One a_query rs → Gives (lent_w K T at rs) (λ a s n qs. One a_source qs)
  unfolding lent_w
  gives_lent at rs r = gives_choose (eqb (κ K T at) RP) _ _
      (λ z. gives_bind (alias_w K T (at + 1)) _ (gives_alias (at + 1)) (λ a mode n qs q. gives_done a 0 0 _ (read_over (source_node refl q.0) (r & q.1))))
      (λ z. gives_stop)

module _ (K T : List ℕ) where
  -- JOIN, where the flags are legal
  at_join : (at flags : ℕ) → Gives (choose (legal flags) (done (at + 1) (64 + flags) 0 []) (stop 7 at)) (λ a d n rs. Joining d)
  at_join at flags = gives_choose (legal flags) _ _ (λ z. gives_done (at + 1) (64 + flags) 0 [] (by_words flags z refl)) (λ z. gives_stop)

  gives_words : (more at flags : ℕ) → Gives (join_w K T more at flags) (λ a d n rs. Joining d)
  unfolding join_w
  gives_words zero at flags = gives_choose (eqb (κ K T at) JOIN) _ _ (λ z. at_join at flags) (λ z. gives_stop)
  gives_words (suc more) at flags = gives_choose (eqb (κ K T at) JOIN) _ _ (λ z. at_join at flags)
      (λ z. gives_choose (eqb (κ K T at) JOIN_KW) _ _ (λ y. gives_words more (at + 1) (united flags (flags_of (τ K T at)))) (λ y. gives_stop))

  pub gives_joined : (at : ℕ) → Gives (joined_w K T at) (λ a d n rs. Joining d)
  unfolding joined_w
  gives_joined at = gives_choose (eqb (κ K T at) COMMA) _ _ (λ z. gives_done (at + 1) 0 0 [] (by_comma refl)) (λ z. gives_words 3 at NO_FLAGS)
