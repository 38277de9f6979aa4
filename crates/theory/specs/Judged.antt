-- A judge's words on a finished tree: faults_of c x has, for each token of x in order, the judge's word on it (0: none). Definitions only.
-- under: what is known inside a row, from its left operand, its token, its children so far, and what is known around it.
-- judge: once a token is read, its word, from the row that read it, its left operand, its token and its children with that token (none
-- yet: the token is the row's own). So a word rests on what was read, and on nothing that comes later.
use Rattle.std.specs.Prelude.{List, [], ◌∷◌, ◌++◌, ◌≡◌, ℕ}
use Rattle.theory.specs.Trees.{Tok, Row, Tree, nil, add, leaf, node}

module _ (Ctx : Type 0) (under : Row → Tree → Tok → Tree → Ctx → Ctx) (judge : Ctx → Row → Tree → Tok → Tree → ℕ) where
  unfoldable mutual
    -- what stands in a row, known as c: the words on its tokens. m is the word on it if it is a token of that row's own
    pub faults_in : Tree → Ctx → ℕ → List ℕ
    faults_in nil c m = []
    faults_in (add f x) c m = []
    faults_in (leaf u) c m = m ∷ []
    faults_in (node r l t f) c m = faults_in l c 0 ++ (judge c r l t nil ∷ faults_kids f c r l t)

    -- the children of a row: each is seen with those before it
    pub faults_kids : Tree → Ctx → Row → Tree → Tok → List ℕ
    faults_kids nil c r l t = []
    faults_kids (add f x) c r l t = faults_kids f c r l t ++ faults_in x (under r l t f c) (judge c r l t (add f x))
    faults_kids (leaf u) c r l t = []
    faults_kids (node q m u f) c r l t = []

  unfoldable pub faults_of : Ctx → Tree → List ℕ
  unfolding faults_in faults_kids
  faults_of c x = faults_in x c 0

-- no word at all
abbrev pub AllZero : List ℕ → Type 0
AllZero [] = Unit {0}
AllZero (n ∷ l) = (n ≡ 0) × AllZero l
