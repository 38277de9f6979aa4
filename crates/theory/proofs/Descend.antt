-- Recursive descent over a grammar, without fuel. A call is a run of the machine on frames of its own, and the equations that a
-- recursive reader satisfies (rest_nt, rest_lit, rest_end, and the same at the end of the list) are theorems of every grammar and judge.
-- Assumes nothing.
use mathlib.Core.List.{List, [], ◌∷◌, ◌++◌}
use mathlib.Core.Path.{◌≡◌, refl, sym, ap, ◌∙◌}
use Prim.Native.Nat.{ℕ, ◌+◌, zero, suc}
use lib.Dec.{eqb}
use Rattle.theory.specs.Trees.{Tok, Nt, Item, lit, nt, Row, Tree, nil, add, leaf, node, cap_of, Gram}
use Rattle.theory.specs.Table.{on_row}
use Rattle.theory.specs.Outcome.{Ans, got, refused}
use Rattle.theory.proofs.Machine.{End, Frame, fr, Fed, shift, push, thru, bad, on_bool, feed}
use Rattle.theory.proofs.Cases.{by_row, by_bool}

-- what a token does to frames that stand on others: it is read; it ends them, with their tree, and is not read; it cannot follow
pub data Sub : Type 0 where
  on : Tree → Frame → List Frame → Sub
  out : Tree → Sub
  dead : Sub

unfoldable pub fed_to : {X : Type 0} → Fed → (Tree → List Item → X) → (Tree → List Item → Nt → Row → X) → (Tree → X) → X → X
fed_to (shift k is) f g h x = f k is
fed_to (push k is B r) f g h x = g k is B r
fed_to (thru k) f g h x = h k
fed_to bad f g h x = x

unfoldable pub on_sub : {X : Type 0} → Sub → (Tree → Frame → List Frame → X) → (Tree → X) → X → X
on_sub (on k F fs) f g x = f k F fs
on_sub (out k) f g x = g k
on_sub dead f g x = x

unfoldable pub on_got : Ans → (Tree → ℕ → List Tok → Ans) → Ans
on_got (got x n us) f = f x n us
on_got (refused m p) f = refused m p

-- 0: go on; else the refusal
unfoldable pub check : ℕ → ℕ → (Unit {0} → Ans) → Ans
check zero n f = f tt
check (suc m) n f = refused (suc m) n

unfoldable pub last : Tree → Tree
last nil = nil
last (add f x) = x
last (leaf t) = leaf t
last (node r l t f) = node r l t f

-- the cases of a value, with their equations
pub by_fed : {Q : Type 0} (z : Fed) → ((k : Tree) (is : List Item) → z ≡ shift k is → Q) → ((k : Tree) (is : List Item) (B : Nt) (q : Row) → z ≡ push k is B q → Q)
    → ((k : Tree) → z ≡ thru k → Q) → (z ≡ bad → Q) → Q
by_fed (shift k is) a b c d = a k is refl
by_fed (push k is B q) a b c d = b k is B q refl
by_fed (thru k) a b c d = c k refl
by_fed bad a b c d = d refl

pub by_sub : {Q : Type 0} (z : Sub) → ((k : Tree) (F : Frame) (fs : List Frame) → z ≡ on k F fs → Q) → ((k : Tree) → z ≡ out k → Q) → (z ≡ dead → Q) → Q
by_sub (on k F fs) a b c = a k F fs refl
by_sub (out k) a b c = b k refl
by_sub dead a b c = c refl

pub check_got : (m n : ℕ) (f g : Unit {0} → Ans) (h : Tree → ℕ → List Tok → Ans) → f tt ≡ on_got (g tt) h → check m n f ≡ on_got (check m n g) h
unfolding check on_got
check_got zero n f g h e = e
check_got (suc m) n f g h e = refl

check_both : (m n : ℕ) (f g : Unit {0} → Ans) (h h' : Tree → ℕ → List Tok → Ans) → on_got (f tt) h ≡ on_got (g tt) h' → on_got (check m n f) h ≡ on_got (check m n g) h'
unfolding check on_got
check_both zero n f g h h' e = e
check_both (suc m) n f g h h' e = refl

pub on_got_on_got : (a : Ans) (f g : Tree → ℕ → List Tok → Ans) → on_got (on_got a f) g ≡ on_got a (λ x n us. on_got (f x n us) g)
unfolding on_got
on_got_on_got (got x n us) f g = refl
on_got_on_got (refused m p) f g = refl

-- under: one more open row: its left operand, its token, its children so far, and what is known of the rows around it.
-- judge: once a token is read, of the row that read it, its left operand, its token and its children with that token (none yet:
-- the token is the row's own): 0, or the number of the refusal at that token
module _ (G : Gram) (Ctx : Type 0) (under : Row → Tree → Tok → Tree → Ctx → Ctx) (judge : Ctx → Row → Tree → Tok → Tree → ℕ) where
  unfoldable pub sub : Tree → List Frame → Tok → Sub
  sub kids [] u = out kids
  sub kids (fr A r left t is pk ∷ fs) u =
      fed_to (feed G kids is u)
      (λ k is'. on k (fr A r left t is' pk) fs)
      (λ k is' B q. on nil (fr B q nil u q.items k) (fr A r left t is' pk ∷ fs))
      (λ k. on_row (G.cont A r (cap_of k) u.kind)
      (λ q. on nil (fr A q (node r left t k) u q.items pk) fs)
      (λ w. sub (add pk (node r left t k)) fs u))
      dead

  -- what is known where the top frame has the children k
  unfoldable pub sum : Ctx → Tree → List Frame → Ctx
  sum c k [] = c
  sum c k (fr A r left t is pk ∷ fs) = under r left t k (sum c pk fs)

  -- the judge's word on a frame with the children k, on other frames
  unfoldable pub fault : Ctx → Tree → Frame → List Frame → ℕ
  fault c k (fr A r left t is pk) fs = judge (sum c pk fs) r left t k

  -- frames of one's own, read to their end: c tells of the frames below, n is the place
  unfoldable pub read : Ctx → ℕ → Tree → List Frame → List Tok → Ans
  read c n k fs [] = on_sub (sub k fs (End G)) (λ k' F fs'. refused 4 n) (λ x. got x n []) (refused 4 n)
  read c n k fs (u ∷ us) = on_sub (sub k fs u)
      (λ k' F fs'. check (fault c k' F fs') n (λ w. read c (n + 1) k' (F ∷ fs') us))
      (λ x. got x n (u ∷ us)) (refused 3 n)

  pub read_none : (us : List Tok) (c : Ctx) (n : ℕ) (k : Tree) → read c n k [] us ≡ got k n us
  unfolding read sub on_sub
  read_none [] c n k = refl
  read_none (u ∷ us) c n k = refl

  pub sub_append : (k : Tree) (fs gs : List Frame) (u : Tok)
      → sub k (fs ++ gs) u ≡ on_sub (sub k fs u) (λ k' F fs'. on k' F (fs' ++ gs)) (λ x. sub x gs u) dead
  unfolding sub fed_to on_sub on_row
  sub_append k [] gs u = refl
  sub_append k (fr A r l t is pk ∷ fs) gs u = by_fed (feed G k is u)
      (λ k' is' e. rw e)
      (λ k' is' B q e. rw e)
      (λ k' e. by_row (G.cont A r (cap_of k') u.kind) (λ q h. rw (e, h)) (λ h. rw (e, h) (sub_append (add pk (node r l t k')) fs gs u)))
      (λ e. rw e)

  -- frames on a frame F on others gs: what is known is the same, if gs and the children that F stands after are summed up first
  sum_append : (c : Ctx) (k : Tree) (fs : List Frame) (A : Nt) (r : Row) (l : Tree) (t : Tok) (is : List Item) (f : Tree) (gs : List Frame)
      → sum c k (fs ++ (fr A r l t is f ∷ gs)) ≡ sum (sum c f gs) k (fs ++ (fr A r l t is nil ∷ []))
  unfolding sum
  sum_append c k [] A r l t is f gs = refl
  sum_append c k (fr A' r' l' t' is' pk ∷ fs) A r l t is f gs = ap (under r' l' t' k) (sum_append c pk fs A r l t is f gs)

  fault_append : (c : Ctx) (k : Tree) (F : Frame) (fs : List Frame) (A : Nt) (r : Row) (l : Tree) (t : Tok) (is : List Item) (f : Tree) (gs : List Frame)
      → fault c k F (fs ++ (fr A r l t is f ∷ gs)) ≡ fault (sum c f gs) k F (fs ++ (fr A r l t is nil ∷ []))
  unfolding fault
  fault_append c k (fr A' r' l' t' is' pk) fs A r l t is f gs = ap (λ z. judge z r' l' t' k) (sum_append c pk fs A r l t is f gs)

  -- a frame on others, and what stands on it, is read to its end; then the others, with its tree after the children that it stands after
  pub nested : (us : List Tok) (c : Ctx) (n : ℕ) (k : Tree) (fs : List Frame) (A : Nt) (r : Row) (l : Tree) (t : Tok) (is : List Item) (f : Tree) (gs : List Frame)
      → read c n k (fs ++ (fr A r l t is f ∷ gs)) us
      ≡ on_got (read (sum c f gs) n k (fs ++ (fr A r l t is nil ∷ [])) us) (λ x n' us'. read c n' (add f (last x)) gs us')
  unfolding read on_sub on_got sub fed_to on_row sum fault last
  nested [] c n k fs A r l t is f gs = by_sub (sub k fs (End G))
      (λ k' F fs' e. rw (sub_append k fs (fr A r l t is f ∷ gs) (End G), sub_append k fs (fr A r l t is nil ∷ []) (End G), e))
      (λ x e. rw (sub_append k fs (fr A r l t is f ∷ gs) (End G), sub_append k fs (fr A r l t is nil ∷ []) (End G), e)
      (by_fed (feed G x is (End G)) (λ k' is' h. rw h) (λ k' is' B q h. rw h)
      (λ k' h. by_row (G.cont A r (cap_of k') G.eof) (λ q g. rw (h, g)) (λ g. rw (h, g))) (λ h. rw h)))
      (λ e. rw (sub_append k fs (fr A r l t is f ∷ gs) (End G), sub_append k fs (fr A r l t is nil ∷ []) (End G), e))
  nested (u ∷ us) c n k fs A r l t is f gs = by_sub (sub k fs u)
      (λ k' F fs' e. rw (sub_append k fs (fr A r l t is f ∷ gs) u, sub_append k fs (fr A r l t is nil ∷ []) u, e, fault_append c k' F fs' A r l t is f gs)
      (check_got _ n _ _ _ (nested us c (n + 1) k' (F ∷ fs') A r l t is f gs)))
      (λ x e. rw (sub_append k fs (fr A r l t is f ∷ gs) u, sub_append k fs (fr A r l t is nil ∷ []) u, e)
      (by_fed (feed G x is u)
      (λ k' is' h. rw h (check_got _ n _ _ _ (nested us c (n + 1) k' [] A r l t is' f gs)))
      (λ k' is' B q h. rw h (check_got _ n _ _ _ (nested us c (n + 1) nil (fr B q nil u q.items k' ∷ []) A r l t is' f gs)))
      (λ k' h. by_row (G.cont A r (cap_of k') u.kind)
      (λ q g. rw (h, g) (check_got _ n _ _ _ (nested us c (n + 1) nil [] A q (node r l t k') u q.items f gs)))
      (λ g. rw (h, g)))
      (λ h. rw h)))
      (λ e. rw (sub_append k fs (fr A r l t is f ∷ gs) u, sub_append k fs (fr A r l t is nil ∷ []) u, e))

  -- ── recursive descent ──
  -- what is left of a row of A: its items to come, after these children
  unfoldable pub rest : Ctx → Nt → Row → Tree → Tok → List Item → Tree → ℕ → List Tok → Ans
  rest c A r l t is k n us = on_got (read c n k (fr A r l t is nil ∷ []) us) (λ x n' us'. got (last x) n' us')

  -- a nonterminal
  unfoldable pub call : Ctx → Nt → ℕ → List Tok → Ans
  call c B n [] = on_row (G.enter B G.eof) (λ q. refused 4 n) (λ w. on_bool (G.nullable B) (λ w. got nil n []) (refused 4 n))
  call c B n (u ∷ us) = on_row (G.enter B u.kind)
      (λ q. check (judge c q nil u nil) n (λ w. rest c B q nil u q.items nil (n + 1) us))
      (λ w. on_bool (G.nullable B) (λ w. got nil n (u ∷ us)) (refused 3 n))

  module _ (c : Ctx) (A : Nt) (r : Row) (l : Tree) (t : Tok) where
    calls : (B : Nt) (q : Row) (s : Tok) (is : List Item) (k : Tree) (n : ℕ) (us : List Tok)
        → on_got (read c n nil (fr B q nil s q.items k ∷ fr A r l t is nil ∷ []) us) (λ x n' us'. got (last x) n' us')
        ≡ on_got (rest (under r l t k c) B q nil s q.items nil n us) (λ x n' us'. rest c A r l t is (add k x) n' us')
    unfolding rest sum on_got
    calls B q s is k n us =
        ap (λ z. on_got z (λ x n' us'. got (last x) n' us')) (nested us c n nil [] B q nil s q.items k (fr A r l t is nil ∷ []))
        ∙ simp (on_got_on_got)

    pub rest_nt : (B : Nt) (is : List Item) (k : Tree) (n : ℕ) (us : List Tok)
        → rest c A r l t (nt B ∷ is) k n us ≡ on_got (call (under r l t k c) B n us) (λ x n' us'. rest c A r l t is (add k x) n' us')
    unfolding rest call read on_sub on_got sub fed_to on_row on_bool feed sum fault
    rest_nt B is k n [] = by_row (G.enter B G.eof) (λ q e. rw e)
        (λ e. by_bool (G.nullable B) (λ h. rw (e, h)) (λ h. rw (e, h)))
    rest_nt B is k n (u ∷ us) = by_row (G.enter B u.kind) (λ q e. rw e (check_both _ n _ _ _ _ (calls B q u is k (n + 1) us)))
        (λ e. by_bool (G.nullable B) (λ h. rw (e, h)) (λ h. rw (e, h)))

    pub rest_lit : (d : ℕ) (is : List Item) (k : Tree) (n : ℕ) (u : Tok) (us : List Tok)
        → rest c A r l t (lit d ∷ is) k n (u ∷ us)
        ≡ on_bool (eqb d u.kind) (λ w. check (judge c r l t (add k (leaf u))) n (λ w. rest c A r l t is (add k (leaf u)) (n + 1) us)) (refused 3 n)
    unfolding rest read on_sub on_got sub fed_to on_row on_bool feed sum fault
    rest_lit d is k n u us = by_bool (eqb d u.kind) (λ h. rw h (sym (check_got _ n _ _ _ refl))) (λ h. rw h)

    pub rest_lit_end : (d : ℕ) (is : List Item) (k : Tree) (n : ℕ) → rest c A r l t (lit d ∷ is) k n [] ≡ refused 4 n
    unfolding rest read on_sub on_got sub fed_to on_row on_bool feed sum fault
    rest_lit_end d is k n = by_bool (eqb d G.eof) (λ h. rw h) (λ h. rw h)

    pub rest_end : (k : Tree) (n : ℕ) (u : Tok) (us : List Tok)
        → rest c A r l t [] k n (u ∷ us)
        ≡ on_row (G.cont A r (cap_of k) u.kind)
        (λ q. check (judge c q (node r l t k) u nil) n (λ w. rest c A q (node r l t k) u q.items nil (n + 1) us))
        (λ w. got (node r l t k) n (u ∷ us))
    unfolding rest read on_sub on_got sub fed_to on_row feed sum fault last
    rest_end k n u us = by_row (G.cont A r (cap_of k) u.kind) (λ q h. rw h (sym (check_got _ n _ _ _ refl))) (λ h. rw h)

    pub rest_end_end : (k : Tree) (n : ℕ)
        → rest c A r l t [] k n [] ≡ on_row (G.cont A r (cap_of k) G.eof) (λ q. refused 4 n) (λ w. got (node r l t k) n [])
    unfolding rest read on_sub on_got sub fed_to on_row feed sum fault last
    rest_end_end k n = by_row (G.cont A r (cap_of k) G.eof) (λ q h. rw h) (λ h. rw h)
