-- right_nots: which tokens of a command are a NOT to the right, on commands that show it: right of an operator of strengths 4 to 9, of IS NOT,
-- in a bound of BETWEEN, and nowhere else. By one test that computes. Assumes nothing.
use mathlib.Core.Bool.{true, false, Bool}
use mathlib.Core.List.{List, [], ◌∷◌}
use mathlib.Core.Path.{◌≡◌, refl}
use Prim.Native.Nat.{ℕ}
use lib.Dec.{eqb}
use Rattle.theory.specs.Trees.{Tok}
use Rattle.theory.specs.Judged.{faults_in, faults_kids, faults_of}
use Rattle.theory.specs.Outcome.{Ans, got, refused}
use Rattle.theory.proofs.Tested.{allb}
use Rattle.kinds.specs.Kinds.{ID, LP, RP, PLUS, EQ, AND, NOT, IS, BETWEEN, LIKE_KW, SELECT}
use Rattle.grammar.specs.Samples.{w, v}
use Rattle.grammar.proofs.SamplesHold.{eq_all}
use Rattle.grammar.proofs.Promised.{found, parsed}
use Rattle.grammar.proofs.Computes.{computes}
use Rattle.canon.specs.ToTheRight.{asked_at, parts_so_far, asking, is_absent, right_not}

-- an expression after SELECT, and the words on its tokens
pub record Shown : Type 0 where
  pub tokens : List Tok
  pub words : List ℕ

abbrev pub shown : List Tok → List ℕ → Shown
shown ts ns = record { tokens = ts; words = ns }

abbrev pub a : Tok
a = v ID 8

unfoldable pub commands : List Shown
commands =
    -- a = NOT a
    shown (a ∷ w EQ ∷ w NOT ∷ a ∷ []) (0 ∷ 0 ∷ 1 ∷ 0 ∷ [])
    -- a = ( NOT a )
    ∷ shown (a ∷ w EQ ∷ w LP ∷ w NOT ∷ a ∷ w RP ∷ []) (0 ∷ 0 ∷ 0 ∷ 0 ∷ 0 ∷ 0 ∷ [])
    -- NOT NOT a = a AND NOT a
    ∷ shown (w NOT ∷ w NOT ∷ a ∷ w EQ ∷ a ∷ w AND ∷ w NOT ∷ a ∷ []) (0 ∷ 0 ∷ 0 ∷ 0 ∷ 0 ∷ 0 ∷ 0 ∷ 0 ∷ [])
    -- a + NOT NOT a = NOT a
    ∷ shown (a ∷ w PLUS ∷ w NOT ∷ w NOT ∷ a ∷ w EQ ∷ w NOT ∷ a ∷ []) (0 ∷ 0 ∷ 1 ∷ 0 ∷ 0 ∷ 0 ∷ 1 ∷ 0 ∷ [])
    -- a IS NOT a; a IS NOT NOT a
    ∷ shown (a ∷ w IS ∷ w NOT ∷ a ∷ []) (0 ∷ 0 ∷ 0 ∷ 0 ∷ [])
    ∷ shown (a ∷ w IS ∷ w NOT ∷ w NOT ∷ a ∷ []) (0 ∷ 0 ∷ 0 ∷ 1 ∷ 0 ∷ [])
    -- a NOT LIKE a; a NOT LIKE NOT a
    ∷ shown (a ∷ w NOT ∷ v LIKE_KW 1 ∷ a ∷ []) (0 ∷ 0 ∷ 0 ∷ 0 ∷ [])
    ∷ shown (a ∷ w NOT ∷ v LIKE_KW 1 ∷ w NOT ∷ a ∷ []) (0 ∷ 0 ∷ 0 ∷ 1 ∷ 0 ∷ [])
    -- a NOT BETWEEN NOT a AND NOT a AND NOT a
    ∷ shown (a ∷ w NOT ∷ w BETWEEN ∷ w NOT ∷ a ∷ w AND ∷ w NOT ∷ a ∷ w AND ∷ w NOT ∷ a ∷ []) (0 ∷ 0 ∷ 0 ∷ 1 ∷ 0 ∷ 0 ∷ 1 ∷ 0 ∷ 0 ∷ 0 ∷ 0 ∷ [])
    ∷ []

unfoldable pub says : List ℕ → Ans → Bool
says ns (got k n us) = eq_all eqb (faults_of ℕ asking right_not 0 (found k)) (0 ∷ ns)
says ns (refused m p) = false

pub right_nots : allb (λ s. says s.words (parsed (w SELECT ∷ s.tokens))) commands ≡ true
unfolding commands says eq_all found faults_in faults_kids faults_of asked_at parts_so_far is_absent right_not computes
right_nots = refl
