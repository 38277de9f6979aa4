-- A table that passes the test Checked, which computes, has all that the theorems ask of a grammar (laws).
use mathlib.Core.Bool.{true, false, Bool}
use mathlib.Core.List.{List, [], ◌∷◌, ◌++◌}
use mathlib.Core.Logic.{inl, inr}
use mathlib.Core.Option.{some, none, Option}
use mathlib.Core.Path.{◌≡◌, refl, sym, ◌∙◌, subst}
use Prim.Native.Nat.{ℕ, ◌≤◌, ◌<◌, min}
use lib.Dec.{ltb, eqb, leb, ltb→lt, lt→ltb}
use native.Mathlib.Omega.{arith}
use Rattle.theory.specs.Trees.{Tok, Nt, Item, lit, nt, Row, Tree}
use Rattle.theory.specs.Table.{Line, Come, Table, pick, both, on_row, mem, lookup, asked, enter_of, cont_of, null_of, gram}
use Rattle.theory.specs.Derives.{Opens, Part, Ok, whole}
use Rattle.theory.proofs.Machine.{End, Res, idle, go, done, stop, run}
use Rattle.theory.proofs.Cases.{on_row_case, pick_case, pick_inv, 0≢1, none≢some, both_l, both_r, both_i, eqb_eq, T_true, leb_le, le-leb}
use Rattle.theory.proofs.Laws.{RowOf, enters, continues, Firsts, Suffix, all, more, After, Laws}
use Rattle.theory.proofs.Sound.{Good, sound_run}

unfoldable pub notb : Bool → Bool
notb true = false
notb false = true

not_both : (b : Bool) → notb b ≡ true → b ≡ true → ⊥
unfolding notb
not_both true n e = 0≢1 n
not_both false n e = 0≢1 e

unfoldable pub allb : {X : Type 0} → (X → Bool) → List X → Bool
allb p [] = true
allb p (x ∷ l) = both (p x) (allb p l)

mem_append_l : (k : ℕ) (a b : List ℕ) → mem k a ≡ true → mem k (a ++ b) ≡ true
unfolding mem
mem_append_l k [] b e = 0≢1 e
mem_append_l k (c ∷ a) b e = pick_inv (eqb k c) true _ true e
    (λ h x. pick_case (λ z. z ≡ true) (eqb k c) true _ (λ h. refl) (λ h'. 0≢1 (sym h' ∙ h)))
    (λ h x. pick_case (λ z. z ≡ true) (eqb k c) true _ (λ h. refl) (λ h'. mem_append_l k a b x))

mem_append_r : (k : ℕ) (a b : List ℕ) → mem k b ≡ true → mem k (a ++ b) ≡ true
unfolding mem pick
mem_append_r k [] b e = e
mem_append_r k (c ∷ a) b e = pick_case (λ z. z ≡ true) (eqb k c) true _ (λ h. refl) (λ h. mem_append_r k a b e)

pub all_mem : (p : ℕ → Bool) (l : List ℕ) (k : ℕ) → allb p l ≡ true → mem k l ≡ true → p k ≡ true
unfolding mem allb
all_mem p [] k a m = 0≢1 m
all_mem p (c ∷ l) k a m = pick_inv (eqb k c) true _ true m
    (λ h x. rw (eqb_eq k c h) (both_l (p c) (allb p l) a))
    (λ h x. all_mem p l k (both_r (p c) (allb p l) a) x)

pub asked_found : (s : ℕ) (o : Option Row) (r : Row) → asked s o ≡ some r → (o ≡ some r) × (leb s r.str ≡ true)
unfolding asked on_row
asked_found s none r e = none≢some e
asked_found s (some q) r e = pick_inv (leb s q.str) (some q) _ (some r) e (λ h x. let y : q ≡ r = cc in (x, rw (← y) h)) (λ h x. none≢some x)

pub asked_some : (s : ℕ) (o : Option Row) (r : Row) → o ≡ some r → leb s r.str ≡ true → asked s o ≡ some r
unfolding asked on_row pick
asked_some s o r e h = rw (e, h)

pub asked_none : (s : ℕ) (o : Option Row) → o ≡ none → asked s o ≡ none
unfolding asked on_row
asked_none s o e = rw e

pub asked_weak : (s : ℕ) (o : Option Row) (r : Row) → o ≡ some r → leb s r.str ≡ false → asked s o ≡ none
unfolding asked on_row pick
asked_weak s o r e h = rw (e, h)

-- nothing is found, if finding something is absurd
pub not_found : (o : Option Row) → ((r : Row) → o ≡ some r → ⊥) → o ≡ none
not_found none f = refl
not_found (some r) f = absurd (f r refl)

-- of a row that is found: its line, with what holds of all lines
abbrev pub Found : (Line → Bool) → ℕ → ℕ → Row → Type 0
Found p C k r = (e : Line) × (p e ≡ true) × (mem C e.of ≡ true) × (mem k e.at ≡ true) × (e.row ≡ r)

pub found : (p : Line → Bool) (C k : ℕ) (r : Row) (es : List Line) → allb p es ≡ true → lookup C k es ≡ some r → Found p C k r
unfolding lookup allb
found p C k r [] a l = none≢some l
found p C k r (e ∷ es) a l = pick_inv (both (mem C e.of) (mem k e.at)) (some e.row) _ (some r) l
    (λ h x. (e, both_l (p e) (allb p es) a, both_l (mem C e.of) (mem k e.at) h, both_r (mem C e.of) (mem k e.at) h, cc))
    (λ h x. found p C k r es (both_r (p e) (allb p es) a) x)

-- a test of every class and row of some lines; and of every class, kind and row
abbrev pub Rows : (ℕ → Row → Bool) → Line → Bool
Rows p e = allb (λ C. p C e.row) e.of

abbrev pub Kinds : (ℕ → ℕ → Row → Bool) → Line → Bool
Kinds p e = allb (λ C. allb (λ k. p C k e.row) e.at) e.of

pub rows_ok : (p : ℕ → Row → Bool) (C k : ℕ) (r : Row) (es : List Line) → allb (Rows p) es ≡ true → lookup C k es ≡ some r → p C r ≡ true
rows_ok p C k r es a l = let f = found (Rows p) C k r es a l in subst (λ z. p C z ≡ true) f.4 (all_mem (λ C. p C f.0.row) f.0.of C f.1 f.2)

pub kinds_ok : (p : ℕ → ℕ → Row → Bool) (C k : ℕ) (r : Row) (es : List Line) → allb (Kinds p) es ≡ true → lookup C k es ≡ some r → p C k r ≡ true
kinds_ok p C k r es a l = let f = found (Kinds p) C k r es a l in
    subst (λ z. p C k z ≡ true) f.4 (all_mem (λ k. p C k f.0.row) f.0.at k (all_mem (λ C. allb (λ k. p C k f.0.row) f.0.at) f.0.of C f.1 f.2) f.3)

-- the kinds at which a class has a line whose row passes a test
unfoldable pub kinds_of : ℕ → (Row → Bool) → List Line → List ℕ
kinds_of C p [] = []
kinds_of C p (e ∷ es) = pick (both (mem C e.of) (p e.row)) e.at (λ w. []) ++ kinds_of C p es

pub kinds_found : (C : ℕ) (p : Row → Bool) (k : ℕ) (r : Row) (es : List Line) → lookup C k es ≡ some r → p r ≡ true → mem k (kinds_of C p es) ≡ true
unfolding lookup kinds_of pick
kinds_found C p k r [] l t = none≢some l
kinds_found C p k r (e ∷ es) l t = pick_inv (both (mem C e.of) (mem k e.at)) (some e.row) _ (some r) l
    (λ h x. let y : e.row ≡ r = cc in
    let g : both (mem C e.of) (p e.row) ≡ true = both_i _ _ (both_l (mem C e.of) (mem k e.at) h) (rw y t) in
    rw g (mem_append_l k e.at (kinds_of C p es) (both_r (mem C e.of) (mem k e.at) h)))
    (λ h x. mem_append_r k (pick (both (mem C e.of) (p e.row)) e.at (λ w. [])) (kinds_of C p es) (kinds_found C p k r es x t))

-- ── tests of a table that print what fails ──
-- the lines that an earlier one hides, at some class and kind: a table should have none
unfoldable pub is_none : Option Row → Bool
is_none none = true
is_none (some r) = false

unfoldable pub culprits : (Line → Bool) → List Line → List Line
culprits p [] = []
culprits p (e ∷ es) = pick (p e) (culprits p es) (λ w. e ∷ culprits p es)

unfoldable pub hiding : List Line → List Line
hiding [] = []
hiding (e ∷ es) = pick (Kinds (λ C k r. is_none (lookup C k es)) e) [] (λ w. e ∷ []) ++ hiding es

-- a kind is among those that may come where c is left
unfoldable pub listed : ℕ → ℕ → List Come → Bool
listed c k [] = false
listed c k (e ∷ es) = pick (both (leb e.asks c) (mem k e.at)) true (λ w. listed c k es)

-- of a kind that is listed: where, with what holds of all that is listed
listed_found : (p : Come → Bool) (c k : ℕ) (es : List Come) → allb p es ≡ true → listed c k es ≡ true
    → (e : Come) × (p e ≡ true) × (leb e.asks c ≡ true) × (mem k e.at ≡ true)
unfolding listed allb
listed_found p c k [] a l = 0≢1 l
listed_found p c k (e ∷ es) a l = pick_inv (both (leb e.asks c) (mem k e.at)) true _ true l
    (λ h x. (e, both_l (p e) (allb p es) a, both_l (leb e.asks c) (mem k e.at) h, both_r (leb e.asks c) (mem k e.at) h))
    (λ h x. listed_found p c k es (both_r (p e) (allb p es) a) x)

-- what comes where less is left comes where more is
listed_more : (b c k : ℕ) (es : List Come) → b ≤ c → listed b k es ≡ true → listed c k es ≡ true
unfolding listed
listed_more b c k [] h l = l
listed_more b c k (e ∷ es) h l = pick_inv (both (leb e.asks b) (mem k e.at)) true _ true l
    (λ g x. let y = leb_le e.asks b (both_l _ _ g) in
    pick_case (λ z. z ≡ true) (both (leb e.asks c) (mem k e.at)) true _ (λ i. refl) (λ i. 0≢1 (sym i ∙ both_i _ _ (le-leb e.asks c (omega arith)) (both_r _ _ g))))
    (λ g x. pick_case (λ z. z ≡ true) (both (leb e.asks c) (mem k e.at)) true _ (λ i. refl) (λ i. listed_more b c k es h x))

module _ (t : Table) where
  -- a kind is no tail of a class, or one that is looser than s
  unfoldable pub loose_b : ℕ → ℕ → ℕ → Bool
  loose_b C s k = on_row (lookup C k t.tails) (λ q. ltb q.str s) (λ w. true)

  -- a kind may follow what stands for A and leaves c: it is listed, and no tail that is asked
  unfoldable pub follow_b : Nt → ℕ → ℕ → Bool
  follow_b A c k = both (loose_b A.of A.least k) (listed c k (t.follow A.of))

  abbrev pub FollowOf : Nt → ℕ → ℕ → Type 0
  FollowOf A c k = follow_b A c k ≡ true

  pub enter_found : (A : Nt) (k : ℕ) (r : Row) → enter_of t A k ≡ some r → (lookup A.of k t.heads ≡ some r) × (leb A.least r.str ≡ true)
  unfolding enter_of
  enter_found A k r e = asked_found A.least (lookup A.of k t.heads) r e

  pub cont_found : (A : Nt) (r : Row) (c k : ℕ) (q : Row) → cont_of t A r c k ≡ some q
      → (lookup A.of k t.tails ≡ some q) × (leb A.least q.str ≡ true) × (leb q.left r.str ≡ true) × (leb q.left (min r.cap c) ≡ true)
  unfolding cont_of
  cont_found A r c k q = on_row_case (λ z. z ≡ some q → (lookup A.of k t.tails ≡ some q) × (leb A.least q.str ≡ true) × (leb q.left r.str ≡ true) × (leb q.left (min r.cap c) ≡ true))
      (asked A.least (lookup A.of k t.tails)) _ _
      (λ q' h x. pick_inv (both (leb q'.left r.str) (leb q'.left (min r.cap c))) (some q') _ (some q) x
      (λ g y. let f = asked_found A.least (lookup A.of k t.tails) q (h ∙ y) in
      let e : q' ≡ q = cc in
      (f.0, f.1, rw (← e) (both_l _ (leb q'.left (min r.cap c)) g), rw (← e) (both_r (leb q'.left r.str) _ g)))
      (λ g y. none≢some y))
      (λ h x. none≢some x)

  pub cont_some : (A : Nt) (r : Row) (c k : ℕ) (q : Row) → lookup A.of k t.tails ≡ some q → leb A.least q.str ≡ true → leb q.left r.str ≡ true → leb q.left (min r.cap c) ≡ true
      → cont_of t A r c k ≡ some q
  unfolding cont_of on_row pick both
  cont_some A r c k q e a b d = rw (asked_some A.least (lookup A.of k t.tails) q e a, b, d)

  -- a row of A has the strength that is asked
  pub row_least : (A : Nt) (r : Row) → RowOf (gram t) A r → leb A.least r.str ≡ true
  row_least A r (enters {k = k} e) = (enter_found A k r e).1
  row_least A r (continues {c = c} {k = k} {q = q} e) = (cont_found A q c k r e).1

  -- a tail goes on from a row, whatever strength was asked and its end leaves
  abbrev pub goes_on : Row → Row → Bool
  goes_on r q = both (leb q.left r.str) (leb q.left r.cap)

  -- a test of each kind that may come after a row of a class, and of what it asks of the end of what stands before it
  unfoldable pub after_b : (ℕ → ℕ → Bool) → ℕ → Row → Bool
  after_b p C r = both (allb (λ e. pick (both (mem C e.of) (goes_on r e.row)) (allb (p e.row.left) e.at) (λ w. true)) t.tails)
      (allb (λ e. pick (leb e.asks r.cap) (allb (λ k. pick (loose_b C r.str k) (p e.asks k) (λ w. true)) e.at) (λ w. true)) (t.follow C))

  -- of each kind that the items begin with, and, where they may all be absent, that may come after the row
  unfoldable pub firsts_b : (ℕ → ℕ → Bool) → ℕ → Row → List Item → Bool
  firsts_b p C r [] = after_b p C r
  firsts_b p C r (lit d ∷ is) = p 0 d
  firsts_b p C r (nt B ∷ is) = both (allb (p 0) (kinds_of B.of (λ r. leb B.least r.str) t.heads)) (pick (null_of t B) (firsts_b (λ c. p 0) C r is) (λ w. true))

  loose_by : (C s k : ℕ) → ((q : Row) → lookup C k t.tails ≡ some q → q.str < s) → loose_b C s k ≡ true
  unfolding loose_b
  loose_by C s k f = on_row_case (λ z. z ≡ true) (lookup C k t.tails) _ _ (λ q e. T_true (ltb q.str s) (lt→ltb q.str s (f q e))) (λ e. refl)

  loose_at : (C s k : ℕ) (q : Row) → loose_b C s k ≡ true → lookup C k t.tails ≡ some q → q.str < s
  unfolding loose_b on_row
  loose_at C s k q l e = ltb→lt q.str s (rw (rw e at l) tt)

  follow_loose : (A : Nt) (c k : ℕ) → follow_b A c k ≡ true → loose_b A.of A.least k ≡ true
  unfolding follow_b
  follow_loose A c k e = both_l (loose_b A.of A.least k) _ e

  follow_listed : (A : Nt) (c k : ℕ) → follow_b A c k ≡ true → listed c k (t.follow A.of) ≡ true
  unfolding follow_b
  follow_listed A c k e = both_r (loose_b A.of A.least k) _ e

  follow_more : (A : Nt) (b c k : ℕ) → b ≤ c → follow_b A b k ≡ true → follow_b A c k ≡ true
  unfolding follow_b
  follow_more A b c k h e = both_i _ _ (follow_loose A b k e) (listed_more b c k (t.follow A.of) h (follow_listed A b k e))

  module _ (A : Nt) (r : Row) (s : leb A.least r.str ≡ true) (p : ℕ → ℕ → Bool) (up : (b c k : ℕ) → b ≤ c → p b k ≡ true → p c k ≡ true) where
    -- a test of what comes after a row holds of a tail that goes on, and of what follows
    after_tail : after_b p A.of r ≡ true → (c k : ℕ) (q : Row) → cont_of t A r c k ≡ some q → p c k ≡ true
    unfolding after_b pick
    after_tail a c k q o =
        let x = cont_found A r c k q o in
        let m = leb_le q.left (min r.cap c) x.3 in
        let f = found (λ e. pick (both (mem A.of e.of) (goes_on r e.row)) (allb (p e.row.left) e.at) (λ w. true)) A.of k q t.tails (both_l _ _ a) x.0 in
        let g : both (mem A.of f.0.of) (goes_on r f.0.row) ≡ true = both_i _ _ f.2 (rw f.4 (both_i _ _ x.2 (le-leb q.left r.cap (omega arith)))) in
        up q.left c k (omega arith) (subst (λ z. p z.left k ≡ true) f.4 (all_mem (p f.0.row.left) f.0.at k (rw g at f.1) f.3))

    after_listed : after_b p A.of r ≡ true → (c k : ℕ) → follow_b A (min r.cap c) k ≡ true → p c k ≡ true
    unfolding after_b pick
    after_listed a c k h =
        let f = listed_found (λ e. pick (leb e.asks r.cap) (allb (λ k. pick (loose_b A.of r.str k) (p e.asks k) (λ w. true)) e.at) (λ w. true)) (min r.cap c) k (t.follow A.of) (both_r _ _ a)
        (follow_listed A (min r.cap c) k h) in
        let m = leb_le f.0.asks (min r.cap c) f.2 in
        let i = all_mem (λ k. pick (loose_b A.of r.str k) (p f.0.asks k) (λ w. true)) f.0.at k (rw (le-leb f.0.asks r.cap (omega arith)) at f.1) f.3 in
        up f.0.asks c k (omega arith) (rw loose at i)
      where
        loose : loose_b A.of r.str k ≡ true
        loose = loose_by A.of r.str k (λ q e. let l = loose_at A.of A.least k q (follow_loose A (min r.cap c) k h) e in let g = leb_le A.least r.str s in omega arith)

  firsts_ok : (A : Nt) (r : Row) → leb A.least r.str ≡ true → (p : ℕ → ℕ → Bool) → ((b c k : ℕ) → b ≤ c → p b k ≡ true → p c k ≡ true)
      → (is : List Item) (c k : ℕ) → firsts_b p A.of r is ≡ true → Firsts (gram t) is c (After (gram t) FollowOf A r) k → p c k ≡ true
  unfolding firsts_b pick
  firsts_ok A r s p up [] c k a (inl h) = after_tail A r s p up a c k h.0 h.1
  firsts_ok A r s p up [] c k a (inr h) = after_listed A r s p up a c k h
  firsts_ok A r s p up (lit d ∷ is) c k a h = up 0 c k (omega arith) (subst (λ z. p 0 z ≡ true) h a)
  firsts_ok A r s p up (nt B ∷ is) c k a (inl h) = let e = enter_found B k h.0 h.1 in
      up 0 c k (omega arith) (all_mem (p 0) (kinds_of B.of (λ r. leb B.least r.str) t.heads) k (both_l _ _ a)
      (kinds_found B.of (λ r. leb B.least r.str) k h.0 t.heads e.0 e.1))
  firsts_ok A r s p up (nt B ∷ is) c k a (inr h) = up 0 c k (omega arith) (firsts_ok A r s (λ c. p 0) (λ b c k l e. e) is 99 k (rw h.0 at (both_r _ _ a)) h.1)

  unfoldable pub items_ok : ℕ → Row → List Item → Bool
  items_ok C r [] = true
  items_ok C r (lit c ∷ is) = items_ok C r is
  items_ok C r (nt B ∷ is) = both (firsts_b (follow_b B) C r is) (items_ok C r is)

  items_ok_lem : (C : ℕ) (r : Row) {B : Nt} {is full : List Item} → Suffix (gram t) (nt B ∷ is) full → items_ok C r full ≡ true
      → firsts_b (follow_b B) C r is ≡ true
  unfolding items_ok
  items_ok_lem C r {B} {is} all e = both_l (firsts_b (follow_b B) C r is) (items_ok C r is) e
  items_ok_lem C r (more {i = lit c} s) e = items_ok_lem C r s e
  items_ok_lem C r (more {i = nt D} {full = full} s) e = items_ok_lem C r s (both_r (firsts_b (follow_b D) C r full) (items_ok C r full) e)

  unfoldable pub is_done : Res → Bool
  is_done idle = false
  is_done (go k fs) = false
  is_done (done k) = true
  is_done stop = false

  abbrev pub reads : Nt → Bool
  reads B = is_done (run (gram t) B idle (t.witness B.of ++ (End (gram t) ∷ [])))

  abbrev Some : Nt → Type 0
  Some B = (q : Row) × (l : Tree) × (s : Tok) × (g : Tree) × Opens (gram t) B l s q × Part (gram t) q.items [] g

  some_ok : {B : Nt} {q : Row} {x : Tree} → Ok (gram t) B q x → Some B
  some_ok {q = q} (whole {l = l} {t = s} {f = f} o p) = (q, l, s, f, o, p)

  read_some : (B : Nt) → reads B ≡ true → Some B
  unfolding is_done
  read_some B e =
      let w : List Tok = t.witness B.of ++ (End (gram t) ∷ []) in
      good w (run (gram t) B idle w) e (sound_run (gram t) B [] idle w refl)
    where
      good : (w : List Tok) (r : Res) → is_done r ≡ true → Good (gram t) B w r → Some B
      good w idle e g = 0≢1 e
      good w (go k fs) e g = 0≢1 e
      good w (done k) e g = some_ok g.3
      good w stop e g = 0≢1 e

  unfoldable pub least_ok : List Item → Bool
  least_ok [] = true
  least_ok (lit c ∷ is) = least_ok is
  least_ok (nt B ∷ is) = both (pick (null_of t B) true (λ w. reads B)) (least_ok is)

  least_ok_lem : {B : Nt} {is full : List Item} → Suffix (gram t) (nt B ∷ is) full → least_ok full ≡ true → pick (null_of t B) true (λ w. reads B) ≡ true
  unfolding least_ok
  least_ok_lem {B} {is} all e = both_l (pick (null_of t B) true (λ w. reads B)) (least_ok is) e
  least_ok_lem (more {i = lit c} s) e = least_ok_lem s e
  least_ok_lem (more {i = nt C} {full = full} s) e = least_ok_lem s (both_r (pick (null_of t C) true (λ w. reads C)) (least_ok full) e)

  -- a head of a class that may be absent: its kind does not follow the class
  unfoldable pub leaves_ok : ℕ → ℕ → Row → Bool
  leaves_ok C k r = pick (mem C t.nulls) (notb (listed 99 k (t.follow C))) (λ w. true)

  -- no row asks less of its left operand than it has itself
  abbrev pub Tight : Type 0
  Tight = allb (Rows (λ C q. leb q.str q.left)) t.tails ≡ true

  pub tight_ok : Tight → (C k : ℕ) (q : Row) → lookup C k t.tails ≡ some q → q.str ≤ q.left
  tight_ok w C k q e = leb_le q.str q.left (rows_ok (λ C q. leb q.str q.left) C k q t.tails w e)

  -- the test. Each field holds by computation
  pub record Checked (S : Nt) : Type 0 where
    pub ends : follow_b S 0 t.eof ≡ true
    pub any : reads S ≡ true
    pub leaves : allb (Kinds leaves_ok) t.heads ≡ true
    pub follows_h : allb (Rows (λ C r. items_ok C r r.items)) t.heads ≡ true
    pub follows_t : allb (Rows (λ C r. items_ok C r r.items)) t.tails ≡ true
    pub least_h : allb (λ e. least_ok e.row.items) t.heads ≡ true
    pub least_t : allb (λ e. least_ok e.row.items) t.tails ≡ true

  row_ok : (p : ℕ → Row → Bool) → allb (Rows p) t.heads ≡ true → allb (Rows p) t.tails ≡ true
      → (A : Nt) (r : Row) → RowOf (gram t) A r → p A.of r ≡ true
  row_ok p h l A r (enters {k = k} e) = rows_ok p A.of k r t.heads h (enter_found A k r e).0
  row_ok p h l A r (continues {c = c} {k = k} {q = q} e) = rows_ok p A.of k r t.tails l (cont_found A q c k r e).0

  line_ok : (p : Row → Bool) → allb (λ e. p e.row) t.heads ≡ true → allb (λ e. p e.row) t.tails ≡ true
      → (A : Nt) (r : Row) → RowOf (gram t) A r → p r ≡ true
  line_ok p h l A r (enters {k = k} e) = let f = found (λ e. p e.row) A.of k r t.heads h (enter_found A k r e).0 in subst (λ z. p z ≡ true) f.4 f.1
  line_ok p h l A r (continues {c = c} {k = k} {q = q} e) = let f = found (λ e. p e.row) A.of k r t.tails l (cont_found A q c k r e).0 in subst (λ z. p z ≡ true) f.4 f.1

  module _ (S : Nt) (c : Checked S) where
    stops_ok : (A : Nt) (b k : ℕ) (r : Row) → follow_b A (min r.cap b) k ≡ true → cont_of t A r b k ≡ none
    stops_ok A b k r f = not_found (cont_of t A r b k) (λ q e. let x = cont_found A r b k q e in let g = leb_le A.least q.str x.1 in
        let l = loose_at A.of A.least k q (follow_loose A (min r.cap b) k f) x.0 in omega arith)

    leaves_ok_lem : (B : Nt) (k : ℕ) → null_of t B ≡ true → follow_b B 99 k ≡ true → enter_of t B k ≡ none
    unfolding leaves_ok pick null_of
    leaves_ok_lem B k n f = not_found (enter_of t B k) (λ r e. not_both (listed 99 k (t.follow B.of))
        (rw (both_l (mem B.of t.nulls) (eqb B.least 0) n) at (kinds_ok leaves_ok B.of k r t.heads c.leaves (enter_found B k r e).0)) (follow_listed B 99 k f))

    pub laws : Laws (gram t) FollowOf S
    laws = record {
      ends = λ b. follow_more S 0 b t.eof (omega arith) c.ends;
      any = read_some S c.any;
      stops = stops_ok;
      leaves = leaves_ok_lem;
      follows = λ A r o B is b k s. firsts_ok A r (row_least A r o) (follow_b B) (follow_more B) is b k
          (items_ok_lem A.of r s (row_ok (λ C r. items_ok C r r.items) c.follows_h c.follows_t A r o));
      least = λ A r o B is s. pick_inv (null_of t B) true (λ w. reads B) true
          (least_ok_lem s (line_ok (λ r. least_ok r.items) c.least_h c.least_t A r o)) (λ n e. inl n) (λ n e. inr (read_some B e));
    }
