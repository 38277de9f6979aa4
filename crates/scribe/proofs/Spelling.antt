-- What is written for a node: one piece, by its code and detail and its children's pieces; one-member parentheses are their member's piece.
-- Assumes nothing.
use mathlib.Core.Bool.{Bool, true, false}
use mathlib.Core.List.{[], ◌∷◌, ◌++◌}
use mathlib.Core.Path.{◌≡◌, refl, ap, ◌∙◌}
use Prim.Native.Nat.{ℕ, ◌+◌, ◌≤◌, ◌<◌}
use lib.Dec.{eqb}
use lib.ListN.{length}
use native.Mathlib.Omega.{arith}
use borrow.Author.Tests.{lt-leb}
use Rattle.theory.specs.Table.{both, pick}
use Rattle.theory.proofs.Cases.{by_bool, le-leb, both_r, 0≢1}
use Rattle.grammar.specs.NodeNames.{node_parens}
use Rattle.grammar.specs.Nodes.{Nodes, end, mk, beside}
use Rattle.grammar.specs.Reading.{choose, is_end}
use Rattle.grammar.specs.Meaning.{meaning, unwrapped, is_one, plain_detail}
use Rattle.grammar.specs.Writing.{Piece, piece, pieces, nothing, ◌!◌, at, within}
use Rattle.canon.proofs.Folds.{P, P_beside}

-- the piece of a node
unfoldable pub piece_of : ℕ → ℕ → Nodes → Piece
piece_of c d ks = choose (both (eqb c node_parens) (is_one (meaning ks))) (P ks ! 0) (piece c (plain_detail c d) (P ks))

-- a meaning of one node has one piece
single : (ns : Nodes) → is_one ns ≡ true → pieces ns ≡ (pieces ns ! 0) ∷ []
unfolding is_one pieces ◌!◌ is_end
single end e = 0≢1 e
single (mk c d ks end) e = refl
single (mk c d ks (mk a b x r)) e = 0≢1 e

here : (b : Bool) (c d : ℕ) (ks : Nodes) → both (eqb c node_parens) (is_one (meaning ks)) ≡ b → (b ≡ true → is_one (meaning ks) ≡ true)
    → pieces (choose b (meaning ks) (mk c (plain_detail c d) (meaning ks) end)) ≡ choose b (P ks ! 0) (piece c (plain_detail c d) (P ks)) ∷ []
unfolding choose pieces
here true c d ks e h = single (meaning ks) (h refl)
here false c d ks e h = refl

-- a node has one piece, and those after it theirs
pub P_node : (c d : ℕ) (ks ns : Nodes) → P (mk c d ks ns) ≡ piece_of c d ks ∷ P ns
unfolding beside meaning unwrapped piece_of
P_node c d ks ns = P_beside (mk c d ks end) ns ∙ ap (λ z. z ++ P ns) (ap pieces (besides _) ∙ here (both (eqb c node_parens) (is_one (meaning ks))) c d ks refl (λ e. both_r _ _ e))
  where
    besides : (n : Nodes) → beside n end ≡ n
    besides end = refl
    besides (mk a b x r) = ap (λ z. mk a b x z) (besides r)

-- no parentheses
pub plain_piece : (c d : ℕ) (ks : Nodes) → eqb c node_parens ≡ false → piece_of c d ks ≡ piece c (plain_detail c d) (P ks)
unfolding piece_of both choose
plain_piece c d ks e = ap (λ b. choose (both b (is_one (meaning ks))) (P ks ! 0) (piece c (plain_detail c d) (P ks))) e

one_meant : (c d : ℕ) (ks : Nodes) → is_one (meaning (mk c d ks end)) ≡ true
unfolding meaning unwrapped beside is_one is_end choose
one_meant c d ks = go (both (eqb c node_parens) (is_one (meaning ks))) (λ e. both_r _ _ e)
  where
    go : (b : Bool) → (b ≡ true → is_one (meaning ks) ≡ true) → is_one (beside (choose b (meaning ks) (mk c (plain_detail c d) (meaning ks) end)) end) ≡ true
    go true h = alone (meaning ks) (h refl)
      where
        alone : (n : Nodes) → is_one n ≡ true → is_one (beside n end) ≡ true
        alone end e = e
        alone (mk a b x end) e = refl
        alone (mk a b x (mk a' b' x' r)) e = e
    go false h = refl

-- one-member parentheses
pub unwrapped_piece : (d a b : ℕ) (x : Nodes) → piece_of node_parens d (mk a b x end) ≡ piece_of a b x
unfolding piece_of both choose ◌!◌
unwrapped_piece d a b x = ap (λ z. choose z (P (mk a b x end) ! 0) (piece node_parens (plain_detail node_parens d) (P (mk a b x end)))) (one_meant a b x) ∙ ap (λ z. z ! 0) (P_node a b x end)

-- parentheses with more members
two_meant : (a b : ℕ) (x : Nodes) (a' b' : ℕ) (x' r : Nodes) → is_one (meaning (mk a b x (mk a' b' x' r))) ≡ false
two_meant a b x a' b' x' r = by_bool (is_one (meaning (mk a b x (mk a' b' x' r))))
    (λ e. let one = ap length (single (meaning (mk a b x (mk a' b' x' r))) e) in let two = ap length (P_node a b x (mk a' b' x' r) ∙ ap (λ z. piece_of a b x ∷ z) (P_node a' b' x' r)) in absurd (omega (arith, one, two)))
    (λ e. e)

pub more_piece : (d a b : ℕ) (x : Nodes) (a' b' : ℕ) (x' r : Nodes) → piece_of node_parens d (mk a b x (mk a' b' x' r)) ≡ piece node_parens d (P (mk a b x (mk a' b' x' r)))
unfolding piece_of both choose plain_detail pick
more_piece d a b x a' b' x' r = ap (λ z. choose z (P (mk a b x (mk a' b' x' r)) ! 0) (piece node_parens d (P (mk a b x (mk a' b' x' r))))) (two_meant a b x a' b' x' r)

-- ── at a place ──
pub at_fits : (s : ℕ) (p : Piece) → s ≤ p.str → at s p ≡ p.toks
unfolding at choose
at_fits s p h = ap (λ b. choose b p.toks (within p.toks)) (le-leb s p.str h)

pub at_looser : (s : ℕ) (p : Piece) → p.str < s → at s p ≡ within p.toks
unfolding at choose
at_looser s p h = ap (λ b. choose b p.toks (within p.toks)) (lt-leb s p.str h)
