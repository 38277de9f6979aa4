-- What a grammar derives: A → t items for each row that begins, A → A t items for each row that goes on. Definitions only.
use Rattle.std.specs.Prelude.{true, List, [], ◌∷◌, ◌++◌, ◌≡◌, ℕ}
use Rattle.std.proofs.Math.Option.{some}
use Rattle.theory.specs.Trees.{Tok, Nt, Item, lit, nt, Row, Tree, nil, add, leaf, node, toks, cap_of, Gram}

module _ (G : Gram) where
  mutual
    -- row r of nonterminal A begins with this left operand and this token
    pub data Opens : Nt → Tree → Tok → Row → Type 0 where
      head : {A : Nt} {t : Tok} {r : Row} → G.enter A t.kind ≡ some r → Opens A nil t r
      tail : {A : Nt} {l : Tree} {s : Tok} {q : Row} {f : Tree} {t : Tok} {r : Row}
          → Opens A l s q → Part q.items [] f → G.cont A q (cap_of f) t.kind ≡ some r → Opens A (node q l s f) t r

    -- the children are derived from the items `full` up to the last ones, `rest`
    pub data Part : List Item → List Item → Tree → Type 0 where
      begin : {full : List Item} → Part full full nil
      token : {full rest : List Item} {f : Tree} {c : ℕ} {u : Tok} → Part full (lit c ∷ rest) f → c ≡ u.kind → Part full rest (add f (leaf u))
      absent : {full rest : List Item} {f : Tree} {B : Nt} → Part full (nt B ∷ rest) f → G.nullable B ≡ true → Part full rest (add f nil)
      child : {full rest : List Item} {f : Tree} {B : Nt} {q : Row} {l : Tree} {s : Tok} {g : Tree}
          → Part full (nt B ∷ rest) f → Opens B l s q → Part q.items [] g → Part full rest (add f (node q l s g))

  -- the tree is derived from nonterminal A, by row r
  pub data Ok : Nt → Row → Tree → Type 0 where
    whole : {A : Nt} {r : Row} {l : Tree} {t : Tok} {f : Tree} → Opens A l t r → Part r.items [] f → Ok A r (node r l t f)

  module _ (S : Nt) where
    -- the grammar derives ts from S, with the tree x
    abbrev pub Derives : List Tok → Tree → Type 0
    Derives ts x = (q : Row) × Ok S q x × (toks x ≡ ts)

    -- the tokens begin something that S derives
    abbrev pub Begins : List Tok → Type 0
    Begins us = (q : Row) × (x : Tree) × (w : List Tok) × Ok S q x × (toks x ≡ us ++ w)
