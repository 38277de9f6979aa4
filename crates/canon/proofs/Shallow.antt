-- Levels by their marks. marks_within: where the limits have no word, no mark is deeper than 64. within_limits: where none is, and the limits
-- have no word with levels uncounted, they have none at all. Assumes nothing.
use mathlib.Core.List.{List, [], ◌∷◌, ◌++◌, append-nil, map, map-append}
use mathlib.Core.Path.{◌≡◌, refl, subst}
use Prim.Native.Nat.{ℕ, ◌+◌, ◌≤◌}
use borrow.Author.Tests.{le-ltb, ltb-false}
use lib.Dec.{ltb}
use native.Mathlib.Omega.{arith}
use Rattle.theory.specs.Trees.{Tok, Nt, Item, Row, Tree, nil, add, leaf, node}
use Rattle.theory.specs.Table.{pick, both}
use Rattle.theory.specs.Derives.{Opens, head, tail, Part, begin, token, absent, child, Ok, whole}
use Rattle.theory.specs.Judged.{faults_in, faults_kids, faults_of, AllZero}
use Rattle.theory.proofs.Cases.{by_bool, pick_inv}
use Rattle.grammar.specs.Grammar.{G, IsCommand}
use Rattle.grammar.specs.Sizes.{LEVELS}
use Rattle.grammar.specs.Limits.{Around, is_query, is_expression, begun, judge}
use Rattle.grammar.specs.Limits as limits
use Rattle.grammar.specs.Levels.{Mark, starts, inside_of, goes_on, marks, marks_of_parts, word}
use Rattle.grammar.proofs.LevelsHold.{at, lifted, one_more, below_at, lifted_raised, lifted_zero, none_passed, all_left, all_right}
use Rattle.canon.specs.Promise.{WithinLevels}
use Rattle.canon.proofs.Counted.{raise, below, under, all_app, five, free}

-- ── from words to marks ──
word_within : (m : Mark) → word m ≡ 0 → m.level ≤ LEVELS
unfolding word
word_within m e = pick_inv (ltb LEVELS m.level) 5 _ 0 e (λ h x. five x) (λ h x. ltb-false LEVELS m.level h)

words_within : (ms : List Mark) → AllZero (map word ms) → WithinLevels ms
words_within [] z = tt
words_within (m ∷ ms) z = (let h = word_within m z.0 in omega (arith, h), words_within ms z.1)

pub marks_within : (ts : List Tok) (y : Tree) → IsCommand ts y → AllZero (limits.limits y) → WithinLevels (marks y)
marks_within ts y c z = words_within (marks y) ((none_passed ts y c).0 z)

-- ── from marks to words ──
-- marks seen from d levels further out
abbrev Seen : ℕ → List Mark → Type 0
Seen d [] = Unit {0}
Seen d (m ∷ ms) = (lifted d m.level ≤ LEVELS) × Seen d ms

seen_left : (d : ℕ) (a b : List Mark) → Seen d (a ++ b) → Seen d a
seen_left d [] b z = tt
seen_left d (m ∷ a) b z = (z.0, seen_left d a b z.1)

seen_right : (d : ℕ) (a b : List Mark) → Seen d (a ++ b) → Seen d b
seen_right d [] b z = z
seen_right d (m ∷ a) b z = seen_right d a b z.1

seen_inside : (r : Row) (d : ℕ) (ms : List Mark) → Seen d (map (inside_of r) ms) → Seen (one_more (is_expression r) d) ms
unfolding inside_of
seen_inside r d [] z = tt
seen_inside r d (m ∷ ms) z = (subst (λ n. n ≤ LEVELS) (lifted_raised (is_expression r) d m.level) z.0, seen_inside r d ms z.1)

seen_apart : (r : Row) (d : ℕ) (a b : List Mark) → Seen d (map (inside_of r) (a ++ b)) → Seen d (map (inside_of r) a ++ map (inside_of r) b)
seen_apart r d a b z = rw map-append at z

seen_outside : (ms : List Mark) → WithinLevels ms → Seen 0 ms
seen_outside [] z = tt
seen_outside (m ∷ ms) z = (let e = lifted_zero m.level in omega (arith, e, z.0), seen_outside ms z.1)

below_free : (r : Row) (o : ℕ) → below r (free o) ≡ free (one_more (is_query r.code) o)
unfolding below raise one_more pick
below_free r o = by_bool (is_expression r) (λ e. rw e) (λ e. rw e)

-- a row that begins
begun_within : (q : Row) (l : Tree) (d o : ℕ) → lifted d (starts q l).level ≤ LEVELS → begun (free o) q l ≡ 0 → begun (at d o) q l ≡ 0
unfolding begun starts lifted both pick
begun_within q nil d o h z = by_bool (is_expression q) (λ e. rw (e, le-ltb LEVELS (d + 1) (rw e at h)) (rw e at z)) (λ e. rw e (rw e at z))
begun_within q (add f x) d o h z = refl
begun_within q (leaf u) d o h z = refl
begun_within q (node r l t f) d o h z = refl

abbrev Stays : Tree → Type 0
Stays x = (d o : ℕ) → Seen d (marks x) → AllZero (faults_in Around under judge x (free o) 0) → AllZero (faults_in Around limits.under judge x (at d o) 0)

abbrev PartsStay : Tree → Row → Tree → Tok → Type 0
PartsStay f r l t = (d o : ℕ) → Seen d (map (inside_of r) (marks_of_parts f r l t)) → AllZero (faults_kids Around under judge f (free o) r l t) → AllZero (faults_kids Around limits.under judge f (at d o) r l t)

node_stays : (q : Row) (l : Tree) (s : Tok) (f : Tree) → Stays l → PartsStay f q l s → Stays (node q l s f)
unfolding faults_in marks judge
node_stays q l s f h k d o w z =
    let v = seen_right d (marks l) (starts q l ∷ map (inside_of q) (marks_of_parts f q l s)) w in
    let y = all_right (faults_in Around under judge l (free o) 0) _ z in
    all_app (faults_in Around limits.under judge l (at d o) 0) _ (h d o (seen_left d (marks l) _ w) (all_left (faults_in Around under judge l (free o) 0) _ z))
    (begun_within q l d o v.0 y.0, k d o v.1 y.1)

-- a part, seen from within the row around it
inside_stays : (x : Tree) → Stays x → (r : Row) (d o : ℕ) → Seen d (map (inside_of r) (marks x)) → AllZero (faults_in Around under judge x (below r (free o)) 0) → AllZero (faults_in Around limits.under judge x (limits.below r (at d o)) 0)
inside_stays x h r d o w z = rw (below_at r d o) (h _ _ (seen_inside r d (marks x) w) (rw (below_free r o) at z))

mutual
  unfolding faults_in faults_kids marks marks_of_parts judge

  opens_stay : {A : Nt} {l : Tree} {s : Tok} {q : Row} → Opens G A l s q → Stays l
  opens_stay (head e) d o w z = tt
  opens_stay (tail {l = l} {s = s} {q = q} {f = f} a b e) d o w z = node_stays q l s f (λ d o w z. opens_stay a d o w z) (λ d o w z. part_stays b q l s d o w z) d o w z

  part_stays : {full rest : List Item} {f : Tree} → Part G full rest f → (r : Row) (l : Tree) (t : Tok) → PartsStay f r l t
  part_stays begin r l t d o w z = tt
  part_stays (token {f = f} {u = u} p h) r l t d o w z =
      let y = all_right (faults_kids Around under judge f (free o) r l t) _ z in
      let v = seen_apart r d (marks_of_parts f r l t) (goes_on r l t f u ∷ []) w in
      all_app (faults_kids Around limits.under judge f (at d o) r l t) _
      (part_stays p r l t d o (seen_left d (map (inside_of r) (marks_of_parts f r l t)) _ v) (all_left (faults_kids Around under judge f (free o) r l t) _ z)) (y.0, tt)
  part_stays (absent {f = f} p h) r l t d o w z = rw append-nil (part_stays p r l t d o w (rw append-nil at z))
  part_stays (child {f = f} {q = q} {l = m} {s = s} {g = g} p a b) r l t d o w z =
      let v = seen_apart r d (marks_of_parts f r l t) (marks (node q m s g)) w in
      all_app (faults_kids Around limits.under judge f (at d o) r l t) _
      (part_stays p r l t d o (seen_left d (map (inside_of r) (marks_of_parts f r l t)) _ v) (all_left (faults_kids Around under judge f (free o) r l t) _ z))
      (inside_stays (node q m s g) (node_stays q m s g (λ d o w z. opens_stay a d o w z) (λ d o w z. part_stays b q m s d o w z)) r d o
      (seen_right d (map (inside_of r) (marks_of_parts f r l t)) _ v) (all_right (faults_kids Around under judge f (free o) r l t) _ z))

ok_stays : {A : Nt} {q : Row} {x : Tree} → Ok G A q x → Stays x
ok_stays (whole {r = r} {l = l} {t = t} {f = f} o p) = node_stays r l t f (opens_stay o) (part_stays p r l t)

pub within_limits : (ts : List Tok) (y : Tree) → IsCommand ts y → WithinLevels (marks y) → AllZero (faults_in Around under judge y (free 0) 0) → AllZero (limits.limits y)
unfolding faults_of
within_limits ts y c w z = ok_stays c.1 0 0 (seen_outside (marks y) w) z
