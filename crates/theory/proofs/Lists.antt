-- The list { , item }, once for every separator and every item. A class is a list if its rows begin it and go on from it alike (lists: a
-- test that computes). `more c L x n us` is what is read where the list x was read so far (nil: nothing yet). loop_on: at a separator its
-- row is read, with x on its left; loop_item: a row of one item calls it, and the loop goes on with one more; loop_stop, loop-end: else
-- the list is whole. Assumes nothing.
use mathlib.Core.Bool.{true, false}
use mathlib.Core.List.{List, [], ◌∷◌}
use mathlib.Core.Option.{some, none, Option}
use mathlib.Core.Path.{◌≡◌, refl, sym, ap, ◌∙◌}
use Prim.Native.Nat.{ℕ, ◌+◌, min}
use lib.Dec.{eqb, leb}
use native.Mathlib.Omega.{arith}
use Rattle.theory.specs.Trees.{Tok, Nt, nt, Row, Tree, nil, add, leaf, node, cap_of, Gram}
use Rattle.theory.specs.Table.{Line, Table, pick, both, on_row, mem, lookup, asked, enter_of, cont_of, gram}
use Rattle.theory.specs.Outcome.{Ans, got, refused}
use Rattle.theory.proofs.Machine.{on_bool}
use Rattle.theory.proofs.Cases.{by_bool, both_i, eqb_eq, le-leb}
use Rattle.theory.proofs.Tested.{allb, found}
use Rattle.theory.proofs.Descend.{on_got, check, rest, call, rest_nt, rest_end, rest_end_end}

abbrev pub Lists : Gram → Nt → Type 0
Lists G L = (q : Row) (c k : ℕ) → G.cont L q c k ≡ G.enter L k

-- the lines of a class
unfoldable pub lines_of : ℕ → List Line → List Line
lines_of C [] = []
lines_of C (e ∷ es) = pick (mem C e.of) (e ∷ lines_of C es) (λ w. lines_of C es)

pub lookup_lines : (C k : ℕ) (es : List Line) → lookup C k es ≡ lookup C k (lines_of C es)
unfolding lookup lines_of pick both
lookup_lines C k [] = refl
lookup_lines C k (e ∷ es) = by_bool (mem C e.of) (λ h. yes h (lookup_lines C k es)) (λ h. no h (lookup_lines C k es))
  where
    yes : mem C e.of ≡ true → lookup C k es ≡ lookup C k (lines_of C es)
        → pick (both (mem C e.of) (mem k e.at)) (some e.row) (λ w. lookup C k es) ≡ lookup C k (pick (mem C e.of) (e ∷ lines_of C es) (λ w. lines_of C es))
    yes h rec = rw h (rw h (ap (λ z. pick (mem k e.at) (some e.row) (λ w. z)) rec))

    no : mem C e.of ≡ false → lookup C k es ≡ lookup C k (lines_of C es)
        → pick (both (mem C e.of) (mem k e.at)) (some e.row) (λ w. lookup C k es) ≡ lookup C k (pick (mem C e.of) (e ∷ lines_of C es) (λ w. lines_of C es))
    no h rec = rw h rec

-- the test of a class of a table. Each field holds by computation
pub record ListTest (t : Table) (C : ℕ) : Type 0 where
  pub same : lines_of C t.heads ≡ lines_of C t.tails
  pub loose : allb (λ e. eqb e.row.left 0) (lines_of C t.tails) ≡ true

loose_row : (C k : ℕ) (r : Row) (es : List Line) → allb (λ e. eqb e.row.left 0) es ≡ true → lookup C k es ≡ some r → r.left ≡ 0
loose_row C k r es a l = let f = found (λ e. eqb e.row.left 0) C k r es a l in let e : f.0.row.left ≡ r.left = ap (λ z. z.left) f.4 in
    omega (arith, eqb_eq f.0.row.left 0 f.1)

pub lists : (t : Table) (C : ℕ) → ListTest t C → Lists (gram t) (record { of = C; least = 0 })
unfolding enter_of cont_of on_row asked pick
lists t C test q c k = same_rows (lookup C k t.heads) (lookup C k t.tails) both_same (λ r e. loose_row C k r (lines_of C t.tails) test.loose (sym (lookup_lines C k t.tails) ∙ e))
  where
    both_same : lookup C k t.heads ≡ lookup C k t.tails
    both_same = lookup_lines C k t.heads ∙ ap (lookup C k) test.same ∙ sym (lookup_lines C k t.tails)

    taken : (r : Row) → r.left ≡ 0
        → on_row (asked 0 (some r)) (λ p. pick (both (leb p.left q.str) (leb p.left (min q.cap c))) (some p) (λ w. none)) (λ w. none) ≡ asked 0 (some r)
    taken r z = rw (le-leb 0 r.str (omega arith)) (cont_here (le-leb r.left q.str (omega (arith, z))) (le-leb r.left (min q.cap c) (omega (arith, z))))
      where
        cont_here : leb r.left q.str ≡ true → leb r.left (min q.cap c) ≡ true
            → pick (both (leb r.left q.str) (leb r.left (min q.cap c))) (some r) (λ w. none) ≡ some r
        cont_here a b = rw (both_i _ _ a b)

    same_rows : (o p : Option Row) → o ≡ p → ((r : Row) → p ≡ some r → r.left ≡ 0)
        → on_row (asked 0 p) (λ p. pick (both (leb p.left q.str) (leb p.left (min q.cap c))) (some p) (λ w. none)) (λ w. none) ≡ asked 0 o
    same_rows o none e h = rw e
    same_rows o (some r) e h = rw e (taken r (h r refl))

-- what was read so far: nothing yet, or a node
abbrev pub Begun : Tree → Type 0
Begun nil = Unit {0}
Begun (add a b) = ⊥
Begun (leaf t) = ⊥
Begun (node r l t k) = Unit {0}

module _ (G : Gram) (Ctx : Type 0) (under : Row → Tree → Tok → Tree → Ctx → Ctx) (judge : Ctx → Row → Tree → Tok → Tree → ℕ) where
  unfoldable pub more : Ctx → Nt → Tree → ℕ → List Tok → Ans
  more c A nil n us = call G Ctx under judge c A n us
  more c A (add a b) n us = refused 0 n
  more c A (leaf t) n us = refused 0 n
  more c A (node r l t k) n us = rest G Ctx under judge c A r l t [] k n us

  module _ (L : Nt) (ls : Lists G L) (c : Ctx) where
    pub loop_on : (x : Tree) → Begun x → (r : Row) (n : ℕ) (u : Tok) (us : List Tok) → G.enter L u.kind ≡ some r
        → more c L x n (u ∷ us) ≡ check (judge c r x u nil) n (λ w. rest G Ctx under judge c L r x u r.items nil (n + 1) us)
    unfolding more call on_row
    loop_on nil b r n u us e = rw e
    loop_on (add f y) b r n u us e = absurd b
    loop_on (leaf t) b r n u us e = absurd b
    loop_on (node q l t k) b r n u us e = rest_end G Ctx under judge c L q l t k n u us ∙ rw (ls q (cap_of k) u.kind ∙ e)

    pub loop_stop : (x : Tree) → Begun x → G.nullable L ≡ true → (n : ℕ) (u : Tok) (us : List Tok) → G.enter L u.kind ≡ none → more c L x n (u ∷ us) ≡ got x n (u ∷ us)
    unfolding more call on_row on_bool
    loop_stop nil b h n u us e = rw (e, h)
    loop_stop (add f y) b h n u us e = absurd b
    loop_stop (leaf t) b h n u us e = absurd b
    loop_stop (node q l t k) b h n u us e = rest_end G Ctx under judge c L q l t k n u us ∙ rw (ls q (cap_of k) u.kind ∙ e)

    pub loop_end : (x : Tree) → Begun x → G.nullable L ≡ true → (n : ℕ) → G.enter L G.eof ≡ none → more c L x n [] ≡ got x n []
    unfolding more call on_row on_bool
    loop_end nil b h n e = rw (e, h)
    loop_end (add f y) b h n e = absurd b
    loop_end (leaf t) b h n e = absurd b
    loop_end (node q l t k) b h n e = rest_end_end G Ctx under judge c L q l t k n ∙ rw (ls q (cap_of k) G.eof ∙ e)

    pub loop_item : (I : Nt) (r : Row) → r.items ≡ nt I ∷ [] → (x : Tree) (n : ℕ) (u : Tok) (us : List Tok)
        → rest G Ctx under judge c L r x u r.items nil n us
        ≡ on_got (call G Ctx under judge (under r x u nil c) I n us) (λ y n' us'. more c L (node r x u (add nil y)) n' us')
    unfolding more
    loop_item I r e x n u us = ap (λ z. rest G Ctx under judge c L r x u z nil n us) e ∙ rest_nt G Ctx under judge c L r x u I [] nil n us
