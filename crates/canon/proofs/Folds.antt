-- How meaning and pieces go over nodes side by side: meaning_beside, pieces_beside; what is no node stays none (end_kept). Assumes nothing.
use mathlib.Core.Bool.{true, false, Bool}
use mathlib.Core.List.{List, [], ◌∷◌, ◌++◌}
use mathlib.Core.Path.{◌≡◌, refl, sym, ap, ◌∙◌}
use Prim.Native.Nat.{ℕ}
use lib.Dec.{eqb}
use Rattle.theory.specs.Table.{both}
use Rattle.theory.proofs.Cases.{by_bool, 0≢1, both_r}
use Rattle.grammar.specs.NodeNames.{node_parens}
use Rattle.grammar.specs.Nodes.{Nodes, end, mk, beside}
use Rattle.grammar.specs.Reading.{choose, is_end}
use Rattle.grammar.specs.Meaning.{plain_detail, is_one, unwrapped, meaning}
use Rattle.grammar.specs.Writing.{Piece, piece, pieces}

pub beside_end : (a : Nodes) → beside a end ≡ a
unfolding beside
beside_end end = refl
beside_end (mk c d ks ns) = ap (λ z. mk c d ks z) (beside_end ns)

pub beside_assoc : (a b c : Nodes) → beside (beside a b) c ≡ beside a (beside b c)
unfolding beside
beside_assoc end b c = refl
beside_assoc (mk x d ks ns) b c = ap (λ z. mk x d ks z) (beside_assoc ns b c)

pub meaning_beside : (a b : Nodes) → meaning (beside a b) ≡ beside (meaning a) (meaning b)
unfolding beside meaning
meaning_beside end b = refl
meaning_beside (mk c d ks ns) b = ap (λ z. beside (unwrapped c (plain_detail c d) (meaning ks)) z) (meaning_beside ns b) ∙ sym (beside_assoc (unwrapped c (plain_detail c d) (meaning ks)) (meaning ns) (meaning b))

pub pieces_beside : (a b : Nodes) → pieces (beside a b) ≡ pieces a ++ pieces b
unfolding beside pieces
pieces_beside end b = refl
pieces_beside (mk c d ks ns) b = ap (λ z. piece c d (pieces ks) ∷ z) (pieces_beside ns b)

-- what stands in a forest's meaning, written
abbrev pub P : Nodes → List Piece
P n = pieces (meaning n)

pub P_beside : (a b : Nodes) → P (beside a b) ≡ P a ++ P b
P_beside a b = ap pieces (meaning_beside a b) ∙ pieces_beside (meaning a) (meaning b)

-- no pieces, no nodes
unfoldable pub is_nil : List Piece → Bool
is_nil [] = true
is_nil (p ∷ ps) = false

is_end_beside : (a b : Nodes) → is_end a ≡ false → is_end (beside a b) ≡ false
unfolding is_end beside
is_end_beside end b e = 0≢1 (sym e)
is_end_beside (mk c d ks ns) b e = refl

one_some : (ns : Nodes) → is_one ns ≡ true → is_end ns ≡ false
unfolding is_one is_end
one_some end e = 0≢1 e
one_some (mk c d ks ns) e = refl

unwrapped_some : (c d : ℕ) (ks : Nodes) → is_end (unwrapped c d ks) ≡ false
unfolding unwrapped choose is_end
unwrapped_some c d ks = by_bool (both (eqb c node_parens) (is_one ks)) (λ e. rw e (one_some ks (both_r (eqb c node_parens) (is_one ks) e))) (λ e. rw e)

end_kept : (n : Nodes) → is_end (meaning n) ≡ is_end n
unfolding is_end meaning
end_kept end = refl
end_kept (mk c d ks ns) = is_end_beside (unwrapped c (plain_detail c d) (meaning ks)) (meaning ns) (unwrapped_some c (plain_detail c d) (meaning ks))

end_pieces : (n : Nodes) → is_nil (pieces n) ≡ is_end n
unfolding is_nil pieces is_end
end_pieces end = refl
end_pieces (mk c d ks ns) = refl

pub end_P : (n : Nodes) → is_end n ≡ is_nil (P n)
end_P n = sym (end_kept n) ∙ sym (end_pieces (meaning n))

-- a node that is no parentheses
mean_mk : (c d : ℕ) (ks : Nodes) → eqb c node_parens ≡ false → unwrapped c d ks ≡ mk c d ks end
unfolding unwrapped choose both
mean_mk c d ks e = rw e

pub M_mk : (c d : ℕ) (ks ns : Nodes) → eqb c node_parens ≡ false → meaning (mk c d ks ns) ≡ mk c (plain_detail c d) (meaning ks) (meaning ns)
unfolding meaning beside
M_mk c d ks ns e = rw (mean_mk c (plain_detail c d) (meaning ks) e)

pub P_mk : (c d : ℕ) (ks ns : Nodes) → eqb c node_parens ≡ false → P (mk c d ks ns) ≡ piece c (plain_detail c d) (P ks) ∷ P ns
unfolding pieces
P_mk c d ks ns e = ap pieces (M_mk c d ks ns e)

pub M_end : meaning end ≡ end
unfolding meaning
M_end = refl

pub P_end : P end ≡ []
unfolding meaning pieces
P_end = refl

pub ruleset mean = (M_mk, M_end, meaning_beside)

pub ruleset flat = (P_mk, P_end, P_beside)
