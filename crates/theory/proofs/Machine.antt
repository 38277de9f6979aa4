-- The machine that reads one token a step: the frames of the rows that are open, each with the items to come.
-- No fuel: a step goes by recursion on the frames. Definitions only.
use mathlib.Core.Bool.{true, false, Bool}
use mathlib.Core.List.{List, [], ◌∷◌}
use lib.Dec.{eqb}
use Rattle.theory.specs.Trees.{Tok, Nt, Item, lit, nt, Row, Tree, nil, add, leaf, node, cap_of, Gram}
use Rattle.theory.specs.Table.{on_row}

-- the token that stands for the end
abbrev pub End : Gram → Tok
End G = record { kind = G.eof; text = 0 }

-- a node that is being read: its nonterminal, row, left operand, token, the items to come after the present one; and the
-- children that its parent had when it began
pub data Frame : Type 0 where
  fr : Nt → Row → Tree → Tok → List Item → Tree → Frame

-- a state: before the first token; the children of the top frame so far, and the frames; the end was read; the refusal
pub data Res : Type 0 where
  idle : Res
  go : Tree → List Frame → Res
  done : Tree → Res
  stop : Res

-- what a token does to the items to come
pub data Fed : Type 0 where
  shift : Tree → List Item → Fed
  push : Tree → List Item → Nt → Row → Fed
  thru : Tree → Fed
  bad : Fed

-- a case that may recur is a function, so that it waits (primer 6.8)
unfoldable pub on_bool : {X : Type 0} → Bool → (Unit {0} → X) → X → X
on_bool true f x = f tt
on_bool false f x = x

unfoldable pub on_fed : Fed → (Tree → List Item → Res) → (Tree → List Item → Nt → Row → Res) → (Tree → Res) → Res
on_fed (shift k is) f g h = f k is
on_fed (push k is B r) f g h = g k is B r
on_fed (thru k) f g h = h k
on_fed bad f g h = stop

module _ (G : Gram) where
  unfoldable pub feed : Tree → List Item → Tok → Fed
  feed kids [] u = thru kids
  feed kids (lit c ∷ is) u = on_bool (eqb c u.kind) (λ w. shift (add kids (leaf u)) is) bad
  feed kids (nt B ∷ is) u = on_row (G.enter B u.kind) (λ r. push kids is B r) (λ w. on_bool (G.nullable B) (λ w. feed (add kids nil) is u) bad)

  unfoldable pub step : Tree → List Frame → Tok → Res
  step kids [] u = on_bool (eqb G.eof u.kind) (λ w. done kids) stop
  step kids (fr A r left t is pk ∷ fs) u =
      on_fed (feed kids is u)
      (λ k is'. go k (fr A r left t is' pk ∷ fs))
      (λ k is' B q. go nil (fr B q nil u q.items k ∷ fr A r left t is' pk ∷ fs))
      (λ k. on_row (G.cont A r (cap_of k) u.kind)
      (λ q. go nil (fr A q (node r left t k) u q.items pk ∷ fs))
      (λ w. step (add pk (node r left t k)) fs u))

  -- S: the nonterminal that is read
  unfoldable pub next : Nt → Res → Tok → Res
  next S idle u = on_row (G.enter S u.kind) (λ q. go nil (fr S q nil u q.items nil ∷ [])) (λ w. stop)
  next S (go k fs) u = step k fs u
  next S (done k) u = stop
  next S stop u = stop

  unfoldable pub run : Nt → Res → List Tok → Res
  run S r [] = r
  run S r (u ∷ us) = run S (next S r u) us
