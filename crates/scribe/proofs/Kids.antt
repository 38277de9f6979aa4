-- From a whole node to its children, from the right: the last ends before the node's own record, and the one before a child that ends at j at
-- `before_of N j`. Rows of one to five (kids1 .. kids5), lists (list_view), FROM's row (after_first), CASE's row (case_end, case_pairs). Assumes nothing.
use mathlib.Core.Bool.{true, false, Bool}
use mathlib.Core.List.{List, [], ◌∷◌, ◌++◌}
use mathlib.Core.Logic.{◌⊎◌, inl, inr}
use mathlib.Core.Path.{◌≡◌, refl, sym, ap, ◌∙◌, subst}
use Prim.Native.Nat.{ℕ, ◌+◌, ◌-◌, ◌*◌, ◌≤◌, ◌<◌}
use lib.ListN.{length}
use native.Mathlib.Omega.{arith}
use Rattle.theory.specs.Table.{both, pick}
use Rattle.theory.proofs.Cases.{0≢1}
use Rattle.grammar.specs.Sizes.{WIDTH}
use Rattle.grammar.specs.NodeNames.{node_absent}
use Rattle.grammar.specs.Nodes.{Nodes, end, mk, count, beside, records}
use Rattle.grammar.specs.Meaning.{plain_detail}
use Rattle.grammar.specs.Writing.{Piece, piece, nothing, formed, forms, node_str}
use Rattle.canon.proofs.Folds.{P, P_beside, P_end, beside_assoc, beside_end}
use Rattle.descent.proofs.Growing.{count_beside}
use Rattle.shapes.specs.Shape.{Class, a_query, a_body, a_column, a_from, a_source, a_join, a_constraint, a_sort, an_expr, a_name, absence, list_of, any_of, empty_list, Shape, fin, ◌▸◌, ◌▸?◌, many_of, when_thens, Node, absent_node, query_node, select_node, values_node, list_node, any_node, empty_node, star_node, name_star_node, column_node, from_node, join_node, on_node, using_node, table_node, source_node, sort_node, name_node, literal_node, names_node, call_node, star_call_node, parens_node, subquery_node, exists_node, case_node, cast_node, prefix_node, binary_node, null_node, in_list_node, in_query_node, between_node, collate_node, Shaped, shaped_end, shaped_next, shaped_gone, shaped_here, shaped_none, shaped_more, shaped_else, shaped_when}
use Rattle.scribe.proofs.Standing.{Stands}
use Rattle.scribe.proofs.Records.{Found, found, stands_children, stands_before}
use Rattle.scribe.proofs.Spelling.{piece_of, P_node, plain_piece}
use Rattle.scribe.proofs.Whole.{Whole, piece_at, before_of}

-- ── a whole node's record, its children, those before it ──
module _ {C : Class} {N : List ℕ} {i : ℕ} (w : Whole C N i) where
  pub known : Found N i w.code w.detail w.kids
  known = found w.elder w.code w.detail w.kids w.stands

  pub before_is : before_of N i ≡ i - (length (records w.kids) + 1)
  unfolding before_of
  before_is = ap (λ z. i - z) known.extent

  pub before_less : before_of N i < i
  before_less = let b = before_is in let t = known.there in omega (arith, b, t)

  pub kids_stand : Stands N (i - 1) w.kids
  kids_stand = stands_children w.elder w.code w.detail w.kids w.stands

  pub elder_stand : Stands N (before_of N i) w.elder
  elder_stand = subst (λ z. Stands N z w.elder) (sym before_is) (stands_before w.elder w.code w.detail w.kids w.stands)

-- ── one that may be absent ──
abbrev pub Maybe : Class → List ℕ → ℕ → Type 0
Maybe C N i = Whole C N i ⊎ Whole absence N i

abbrev pub may_piece : {C : Class} {N : List ℕ} {i : ℕ} → Maybe C N i → Piece
may_piece (inl w) = piece_at w
may_piece (inr w) = piece_at w

pub may_less : {C : Class} {N : List ℕ} {i : ℕ} → Maybe C N i → before_of N i < i
may_less (inl w) = before_less w
may_less (inr w) = before_less w

pub may_there : {C : Class} {N : List ℕ} {i : ℕ} → Maybe C N i → (0 < i) × (WIDTH * i ≤ length N)
may_there (inl w) = ((known w).there, (known w).inside)
may_there (inr w) = ((known w).there, (known w).inside)

-- ── places in a row: a node of this class; or none ──
pub data Seat : Type 0 where
  must : Class → Seat
  may : Class → Seat

abbrev pub Child : Seat → List ℕ → ℕ → Type 0
Child (must C) N i = Whole C N i
Child (may C) N i = Maybe C N i

abbrev pub seat_piece : (s : Seat) (N : List ℕ) (i : ℕ) → Child s N i → Piece
seat_piece (must C) N i w = piece_at w
seat_piece (may C) N i w = may_piece w

abbrev pub row_of : List Seat → Shape
row_of [] = fin
row_of (must C ∷ ss) = C ▸ row_of ss
row_of (may C ∷ ss) = C ▸? row_of ss

-- a row from its right end, j; those before it end at the last number; its pieces
pub data Seats (N : List ℕ) (j : ℕ) : List Seat → ℕ → List Piece → Type 0 where
  seat_end : Seats N j [] j []
  seat_on : {s : Seat} {ss : List Seat} {m : ℕ} {ps : List Piece} (w : Child s N m) → Seats N j ss m ps → Seats N j (s ∷ ss) (before_of N m) (seat_piece s N m w ∷ ps)

pub record Seated (N : List ℕ) (j : ℕ) (ss : List Seat) (ms ks : Nodes) : Type 0 where
  pub fore : ℕ
  pub ps : List Piece
  pub row : Seats N j ss fore ps
  pub written : P ks ≡ ps
  pub counted : count ks ≡ length ss
  pub elders : Stands N fore ms

abbrev whole : {C : Class} {N : List ℕ} {m c d : ℕ} {S : Shape} {x : Nodes} (ms : Nodes) → Node C c d S → Shaped S x → Stands N m (beside ms (mk c d x end)) → Whole C N m
whole {c = c} {d = d} {S = S} {x = x} ms n s st = record { elder = ms; code = c; detail = d; kids = x; shape = S; stands = st; node = n; shaped = s }

-- the same nodes, one of them on the other side
shift : (ms : Nodes) (c d : ℕ) (x ns : Nodes) → beside ms (mk c d x ns) ≡ beside (beside ms (mk c d x end)) ns
unfolding beside
shift ms c d x ns = sym (beside_assoc ms (mk c d x end) ns)

seat_step : {N : List ℕ} {j : ℕ} {C : Class} {ss : List Seat} {c d : ℕ} {S : Shape} {x ns : Nodes} (ms : Nodes) → Node C c d S → Shaped S x → Seated N j ss (beside ms (mk c d x end)) ns → Seated N j (must C ∷ ss) ms (mk c d x ns)
unfolding count
seat_step {N} {j} {C} {ss} {c} {d} {S} {x} {ns} ms n s r =
    let w : Whole C N r.fore = whole ms n s r.elders in
    record {
      fore = before_of N r.fore;
      ps = piece_at w ∷ r.ps;
      row = seat_on {s = must C} w r.row;
      written = P_node c d x ns ∙ ap (λ z. piece_of c d x ∷ z) r.written;
      counted = let e = r.counted in omega (arith, e);
      elders = elder_stand w;
    }

seat_may : {N : List ℕ} {j : ℕ} {C : Class} {ss : List Seat} {ms ks : Nodes} → Seated N j (must C ∷ ss) ms ks → Seated N j (may C ∷ ss) ms ks
seat_may {N} {j} {C} {ss} {ms} {ks} r = go r.row r.written r.elders
  where
    go : {m : ℕ} {ps : List Piece} → Seats N j (must C ∷ ss) m ps → P ks ≡ ps → Stands N m ms → Seated N j (may C ∷ ss) ms ks
    go (seat_on {m = m} {ps = ps} w q) e s = record { fore = before_of N m; ps = piece_at w ∷ ps; row = seat_on {s = may C} (inl w) q; written = e; counted = r.counted; elders = s }

seat_gone : {N : List ℕ} {j : ℕ} {C : Class} {ss : List Seat} {ms ks : Nodes} → Seated N j (must absence ∷ ss) ms ks → Seated N j (may C ∷ ss) ms ks
seat_gone {N} {j} {C} {ss} {ms} {ks} r = go r.row r.written r.elders
  where
    go : {m : ℕ} {ps : List Piece} → Seats N j (must absence ∷ ss) m ps → P ks ≡ ps → Stands N m ms → Seated N j (may C ∷ ss) ms ks
    go (seat_on {m = m} {ps = ps} w q) e s = record { fore = before_of N m; ps = piece_at w ∷ ps; row = seat_on {s = may C} (inr w) q; written = e; counted = r.counted; elders = s }

abbrev pub SeatsAfter : (N : List ℕ) (j : ℕ) → List Seat → Type 0
SeatsAfter N j ss = (ms ks : Nodes) → Shaped (row_of ss) ks → Stands N j (beside ms ks) → Seated N j ss ms ks

seat_next : {N : List ℕ} {j : ℕ} {C : Class} {ns : Nodes} (ss : List Seat) (ms : Nodes) → SeatsAfter N j ss → Shaped (C ▸ row_of ss) ns → Stands N j (beside ms ns) → Seated N j (must C ∷ ss) ms ns
seat_next {N} {j} ss ms f (shaped_next {c = c} {d = d} {ks = x} {ns = ns} n s r) st = seat_step ms n s (f (beside ms (mk c d x end)) ns r (subst (Stands N j) (shift ms c d x ns) st))

seat-next? : {N : List ℕ} {j : ℕ} {C : Class} {ns : Nodes} (ss : List Seat) (ms : Nodes) → SeatsAfter N j ss → Shaped (C ▸? row_of ss) ns → Stands N j (beside ms ns) → Seated N j (may C ∷ ss) ms ns
seat-next? ss ms f (shaped_gone s) st = seat_gone (seat_next ss ms f s st)
seat-next? ss ms f (shaped_here s) st = seat_may (seat_next ss ms f s st)

seat_none : {N : List ℕ} {j : ℕ} {ns : Nodes} (ms : Nodes) → Shaped fin ns → Stands N j (beside ms ns) → Seated N j [] ms ns
unfolding count
seat_none {N} {j} ms shaped_end st = record { fore = j; ps = []; row = seat_end; written = P_end; counted = refl; elders = subst (Stands N j) (beside_end ms) st }

-- nodes of a row's shape, after others
pub seated : {N : List ℕ} {j : ℕ} (ss : List Seat) → SeatsAfter N j ss
seated [] ms ks h st = seat_none ms h st
seated (must C ∷ ss) ms ks h st = seat_next ss ms (seated ss) h st
seated (may C ∷ ss) ms ks h st = seat-next? ss ms (seated ss) h st

-- ── rows of one to five, all of a node's children ──
pub record Kids1 (A : Seat) (N : List ℕ) (j : ℕ) (ks : Nodes) : Type 0 where
  pub first : Child A N j
  pub written : P ks ≡ seat_piece A N j first ∷ []
  pub counted : count ks ≡ 1

pub record Kids2 (A B : Seat) (N : List ℕ) (j : ℕ) (ks : Nodes) : Type 0 where
  pub first : Child A N (before_of N j)
  pub second : Child B N j
  pub written : P ks ≡ seat_piece A N (before_of N j) first ∷ seat_piece B N j second ∷ []
  pub counted : count ks ≡ 2

pub record Kids3 (A B C : Seat) (N : List ℕ) (j : ℕ) (ks : Nodes) : Type 0 where
  pub first : Child A N (before_of N (before_of N j))
  pub second : Child B N (before_of N j)
  pub third : Child C N j
  pub written : P ks ≡ seat_piece A N (before_of N (before_of N j)) first ∷ seat_piece B N (before_of N j) second ∷ seat_piece C N j third ∷ []
  pub counted : count ks ≡ 3

pub record Kids4 (A B C D : Seat) (N : List ℕ) (j : ℕ) (ks : Nodes) : Type 0 where
  pub first : Child A N (before_of N (before_of N (before_of N j)))
  pub second : Child B N (before_of N (before_of N j))
  pub third : Child C N (before_of N j)
  pub fourth : Child D N j
  pub written : P ks ≡ seat_piece A N (before_of N (before_of N (before_of N j))) first ∷ seat_piece B N (before_of N (before_of N j)) second ∷ seat_piece C N (before_of N j) third ∷ seat_piece D N j fourth ∷ []
  pub counted : count ks ≡ 4

pub record Kids5 (A B C D E : Seat) (N : List ℕ) (j : ℕ) (ks : Nodes) : Type 0 where
  pub first : Child A N (before_of N (before_of N (before_of N (before_of N j))))
  pub second : Child B N (before_of N (before_of N (before_of N j)))
  pub third : Child C N (before_of N (before_of N j))
  pub fourth : Child D N (before_of N j)
  pub fifth : Child E N j
  pub written : P ks ≡ seat_piece A N (before_of N (before_of N (before_of N (before_of N j)))) first ∷ seat_piece B N (before_of N (before_of N (before_of N j))) second ∷ seat_piece C N (before_of N (before_of N j)) third ∷ seat_piece D N (before_of N j) fourth ∷ seat_piece E N j fifth ∷ []
  pub counted : count ks ≡ 5

-- a row with none before it
alone : {N : List ℕ} {j : ℕ} {ks : Nodes} (ss : List Seat) → Shaped (row_of ss) ks → Stands N j ks → Seated N j ss end ks
unfolding beside
alone {ks = ks} ss h st = seated ss end ks h st

module _ {N : List ℕ} {j : ℕ} {ks : Nodes} where
  pub kids1 : (A : Seat) → Shaped (row_of (A ∷ [])) ks → Stands N j ks → Kids1 A N j ks
  kids1 A h st = go r.row r.written
    where
      r : Seated N j (A ∷ []) end ks
      r = alone (A ∷ []) h st

      go : {m : ℕ} {ps : List Piece} → Seats N j (A ∷ []) m ps → P ks ≡ ps → Kids1 A N j ks
      go (seat_on a seat_end) e = record { first = a; written = e; counted = r.counted }

  pub kids2 : (A B : Seat) → Shaped (row_of (A ∷ B ∷ [])) ks → Stands N j ks → Kids2 A B N j ks
  kids2 A B h st = go r.row r.written
    where
      r : Seated N j (A ∷ B ∷ []) end ks
      r = alone (A ∷ B ∷ []) h st

      go : {m : ℕ} {ps : List Piece} → Seats N j (A ∷ B ∷ []) m ps → P ks ≡ ps → Kids2 A B N j ks
      go (seat_on a (seat_on b seat_end)) e = record { first = a; second = b; written = e; counted = r.counted }

  pub kids3 : (A B C : Seat) → Shaped (row_of (A ∷ B ∷ C ∷ [])) ks → Stands N j ks → Kids3 A B C N j ks
  kids3 A B C h st = go r.row r.written
    where
      r : Seated N j (A ∷ B ∷ C ∷ []) end ks
      r = alone (A ∷ B ∷ C ∷ []) h st

      go : {m : ℕ} {ps : List Piece} → Seats N j (A ∷ B ∷ C ∷ []) m ps → P ks ≡ ps → Kids3 A B C N j ks
      go (seat_on a (seat_on b (seat_on c seat_end))) e = record { first = a; second = b; third = c; written = e; counted = r.counted }

  pub kids4 : (A B C D : Seat) → Shaped (row_of (A ∷ B ∷ C ∷ D ∷ [])) ks → Stands N j ks → Kids4 A B C D N j ks
  kids4 A B C D h st = go r.row r.written
    where
      r : Seated N j (A ∷ B ∷ C ∷ D ∷ []) end ks
      r = alone (A ∷ B ∷ C ∷ D ∷ []) h st

      go : {m : ℕ} {ps : List Piece} → Seats N j (A ∷ B ∷ C ∷ D ∷ []) m ps → P ks ≡ ps → Kids4 A B C D N j ks
      go (seat_on a (seat_on b (seat_on c (seat_on d seat_end)))) e = record { first = a; second = b; third = c; fourth = d; written = e; counted = r.counted }

  pub kids5 : (A B C D E : Seat) → Shaped (row_of (A ∷ B ∷ C ∷ D ∷ E ∷ [])) ks → Stands N j ks → Kids5 A B C D E N j ks
  kids5 A B C D E h st = go r.row r.written
    where
      r : Seated N j (A ∷ B ∷ C ∷ D ∷ E ∷ []) end ks
      r = alone (A ∷ B ∷ C ∷ D ∷ E ∷ []) h st

      go : {m : ℕ} {ps : List Piece} → Seats N j (A ∷ B ∷ C ∷ D ∷ E ∷ []) m ps → P ks ≡ ps → Kids5 A B C D E N j ks
      go (seat_on a (seat_on b (seat_on c (seat_on d (seat_on e' seat_end))))) e = record { first = a; second = b; third = c; fourth = d; fifth = e'; written = e; counted = r.counted }

-- ── a last child and those before it ──
-- of nodes side by side the last is of class C, and those before it are of this shape
pub record Snoc (C : Class) (R : Shape) (ks : Nodes) : Type 0 where
  pub elder : Nodes
  pub code : ℕ
  pub detail : ℕ
  pub kids : Nodes
  pub shape : Shape
  pub same : ks ≡ beside elder (mk code detail kids end)
  pub node : Node C code detail shape
  pub shaped : Shaped shape kids
  pub are : Shaped R elder

pub record Youngest (C : Class) (R : Shape) (N : List ℕ) (j : ℕ) (ks : Nodes) : Type 0 where
  pub elder : Nodes
  pub last : Whole C N j
  pub stand : Stands N (before_of N j) elder
  pub are : Shaped R elder
  pub written : P ks ≡ P elder ++ (piece_at last ∷ [])
  pub counted : count ks ≡ count elder + 1

P_last : (ms : Nodes) (c d : ℕ) (x : Nodes) → P (beside ms (mk c d x end)) ≡ P ms ++ (piece_of c d x ∷ [])
P_last ms c d x = P_beside ms (mk c d x end) ∙ ap (λ z. P ms ++ z) (P_node c d x end ∙ ap (λ z. piece_of c d x ∷ z) P_end)

count_last : (ms : Nodes) (c d : ℕ) (x : Nodes) → count (beside ms (mk c d x end)) ≡ count ms + 1
unfolding count
count_last ms c d x = count_beside ms (mk c d x end)

pub youngest : {C : Class} {R : Shape} {N : List ℕ} {j : ℕ} {ks : Nodes} → Snoc C R ks → Stands N j ks → Youngest C R N j ks
youngest {C} {R} {N} {j} {ks} s st =
    let w : Whole C N j = whole s.elder s.node s.shaped (subst (Stands N j) s.same st) in
    record {
      elder = s.elder;
      last = w;
      stand = elder_stand w;
      are = s.are;
      written = ap P s.same ∙ P_last s.elder s.code s.detail s.kids;
      counted = ap count s.same ∙ count_last s.elder s.code s.detail s.kids;
    }

-- ── lists: any number of one class ──
snoc_on : {A C : Class} {R Q : Shape} {c d : ℕ} {S : Shape} {x ns : Nodes} → Node A c d S → Shaped S x → (r : Snoc C R ns) → (Shaped (A ▸ R) (mk c d x r.elder) → Shaped Q (mk c d x r.elder)) → Snoc C Q (mk c d x ns)
unfolding beside
snoc_on {c = c} {d = d} {x = x} n s r f = record { elder = mk c d x r.elder; code = r.code; detail = r.detail; kids = r.kids; shape = r.shape; same = ap (λ z. mk c d x z) r.same; node = r.node; shaped = r.shaped; are = f (shaped_next n s r.are) }

snoc_one : {C : Class} {R : Shape} {c d : ℕ} {S : Shape} {x : Nodes} → Node C c d S → Shaped S x → Shaped R end → Snoc C R (mk c d x end)
unfolding beside
snoc_one {c = c} {d = d} {S = S} {x = x} n s e = record { elder = end; code = c; detail = d; kids = x; shape = S; same = refl; node = n; shaped = s; are = e }

pub data FromRight (C : Class) (ks : Nodes) : Type 0 where
  no_child : ks ≡ end → FromRight C ks
  last_child : Snoc C (many_of C) ks → FromRight C ks

many_on : {C : Class} {c d : ℕ} {S : Shape} {x ns : Nodes} → Node C c d S → Shaped S x → FromRight C ns → FromRight C (mk c d x ns)
many_on {C} {c} {d} {S} {x} n s (no_child e) = last_child (subst (λ z. Snoc C (many_of C) (mk c d x z)) (sym e) (snoc_one n s shaped_none))
many_on n s (last_child r) = last_child (snoc_on n s r shaped_more)

pub from_right : {C : Class} {ks : Nodes} → Shaped (many_of C) ks → FromRight C ks
from_right shaped_none = no_child refl
from_right (shaped_more (shaped_next n s r)) = many_on n s (from_right r)

-- no child; or a last one, and the elder ones again of that shape
pub data Listed (C : Class) (N : List ℕ) (j : ℕ) (ks : Nodes) : Type 0 where
  list_none : P ks ≡ [] → count ks ≡ 0 → Listed C N j ks
  list_last : Youngest C (many_of C) N j ks → Listed C N j ks

pub list_view : {C : Class} {N : List ℕ} {j : ℕ} {ks : Nodes} → Shaped (many_of C) ks → Stands N j ks → Listed C N j ks
unfolding count
list_view {C} {N} {j} {ks} h st = go (from_right h)
  where
    go : FromRight C ks → Listed C N j ks
    go (no_child e) = list_none (ap P e ∙ P_end) (ap count e)
    go (last_child s) = list_last (youngest s st)

-- .. by the count, as a loop goes
pub list_view_none : {C : Class} {ks : Nodes} → Shaped (many_of C) ks → count ks ≡ 0 → P ks ≡ []
unfolding count
list_view_none shaped_none e = P_end
list_view_none (shaped_more (shaped_next n s r)) e = absurd (omega (arith, e))

pub list_view_last : {C : Class} {N : List ℕ} {j : ℕ} {ks : Nodes} → Shaped (many_of C) ks → Stands N j ks → 0 < count ks → Youngest C (many_of C) N j ks
list_view_last {C} {N} {j} {ks} h st some = go (list_view h st)
  where
    go : Listed C N j ks → Youngest C (many_of C) N j ks
    go (list_none e n) = absurd (omega (arith, n, some))
    go (list_last y) = y

-- ── one, and any number of another class after it: FROM's row; a list of one or more ──
pub data AfterFirst (A B : Class) (N : List ℕ) (j : ℕ) (ks : Nodes) : Type 0 where
  only_first : Kids1 (must A) N j ks → AfterFirst A B N j ks
  last_after : Youngest B (A ▸ many_of B) N j ks → AfterFirst A B N j ks

pub some_counted : {A : Class} {R : Shape} {ks : Nodes} → Shaped (A ▸ R) ks → 0 < count ks
unfolding count
some_counted (shaped_next n s r) = omega arith

pub after_first : {A B : Class} {N : List ℕ} {j : ℕ} {ks : Nodes} → Shaped (A ▸ many_of B) ks → Stands N j ks → AfterFirst A B N j ks
after_first {A} {B} {N} {j} (shaped_next {c = c} {d = d} {S = S} {ks = x} {ns = ns} n s r) st = go (from_right r)
  where
    go : FromRight B ns → AfterFirst A B N j (mk c d x ns)
    go (no_child e) = only_first (subst (λ z. Kids1 (must A) N j (mk c d x z)) (sym e) (kids1 (must A) (shaped_next n s shaped_end) (subst (λ z. Stands N j (mk c d x z)) e st)))
    go (last_child y) = last_after (youngest (snoc_on n s y (λ z. z)) st)

-- ── CASE's row: a base, pairs of WHEN and THEN, ELSE ──
-- a base that may be absent, and pairs after it
pub data WhenPairs : Nodes → Type 0 where
  base_only : {ns : Nodes} → Shaped (an_expr ▸? fin) ns → WhenPairs ns
  pair_last : {ns : Nodes} (ms two : Nodes) → WhenPairs ms → Shaped (an_expr ▸ an_expr ▸ fin) two → ns ≡ beside ms two → WhenPairs ns

-- .. and ELSE after them
pub record Whens (ks : Nodes) : Type 0 where
  pub pairs : Nodes
  pub paired : WhenPairs pairs
  pub last : Nodes
  pub otherwise : Shaped (an_expr ▸? fin) last
  pub same : ks ≡ beside pairs last

whens_of : (ms : Nodes) {ks : Nodes} → WhenPairs ms → Shaped when_thens ks → Whens (beside ms ks)
unfolding beside
whens_of ms {ks} p (shaped_else s) = record { pairs = ms; paired = p; last = ks; otherwise = s; same = refl }
whens_of ms p (shaped_when (shaped_next {c = c} {d = d} {ks = x} n s (shaped_next {c = c'} {d = d'} {ks = x'} {ns = ns} n' s' r))) =
    let two : Nodes = mk c d x (mk c' d' x' end) in
    subst Whens (beside_assoc ms two ns) (whens_of (beside ms two) (pair_last ms two p (shaped_next n s (shaped_next n' s' shaped_end)) refl) r)

base_then : {C : Class} {ns : Nodes} → Shaped (C ▸ an_expr ▸ an_expr ▸ when_thens) ns → (x : Nodes) × (r : Nodes) × (ns ≡ beside x r) × Shaped (C ▸ fin) x × Shaped (an_expr ▸ an_expr ▸ when_thens) r
unfolding beside
base_then (shaped_next {c = c} {d = d} {ks = x} {ns = ns} n s r) = (mk c d x end, ns, refl, shaped_next n s shaped_end, r)

pub case_row : {ks : Nodes} → Shaped (an_expr ▸? an_expr ▸ an_expr ▸ when_thens) ks → Whens ks
case_row (shaped_gone s) = let b = base_then s in subst Whens (sym b.2) (whens_of b.0 (base_only (shaped_gone b.3)) (shaped_when b.4))
case_row (shaped_here s) = let b = base_then s in subst Whens (sym b.2) (whens_of b.0 (base_only (shaped_here b.3)) (shaped_when b.4))

-- the ELSE of a CASE, and where what is before it ends
pub record CaseEnd (N : List ℕ) (j : ℕ) (ks : Nodes) : Type 0 where
  pub pairs : Nodes
  pub paired : WhenPairs pairs
  pub otherwise : Maybe an_expr N j
  pub stand : Stands N (before_of N j) pairs
  pub written : P ks ≡ P pairs ++ (may_piece otherwise ∷ [])
  pub counted : count ks ≡ count pairs + 1

pub case_end : {N : List ℕ} {j : ℕ} {ks : Nodes} → Shaped (an_expr ▸? an_expr ▸ an_expr ▸ when_thens) ks → Stands N j ks → CaseEnd N j ks
case_end {N} {j} {ks} h st = go r.row r.written r.elders
  where
    c : Whens ks
    c = case_row h

    r : Seated N j (may an_expr ∷ []) c.pairs c.last
    r = seated (may an_expr ∷ []) c.pairs c.last c.otherwise (subst (Stands N j) c.same st)

    go : {m : ℕ} {ps : List Piece} → Seats N j (may an_expr ∷ []) m ps → P c.last ≡ ps → Stands N m c.pairs → CaseEnd N j ks
    go (seat_on a seat_end) e s =
        record {
          pairs = c.pairs;
          paired = c.paired;
          otherwise = a;
          stand = s;
          written = ap P c.same ∙ P_beside c.pairs c.last ∙ ap (λ z. P c.pairs ++ z) e;
          counted = ap count c.same ∙ count_beside c.pairs c.last ∙ ap (λ z. count c.pairs + z) r.counted;
        }

-- the last pair, and what is before it
pub record CasePair (N : List ℕ) (j : ℕ) (ns : Nodes) : Type 0 where
  pub elder : Nodes
  pub paired : WhenPairs elder
  pub condition : Whole an_expr N (before_of N j)
  pub result : Whole an_expr N j
  pub stand : Stands N (before_of N (before_of N j)) elder
  pub written : P ns ≡ P elder ++ (piece_at condition ∷ piece_at result ∷ [])
  pub counted : count ns ≡ count elder + 2

pub data CasePairs (N : List ℕ) (j : ℕ) (ns : Nodes) : Type 0 where
  case_base : Kids1 (may an_expr) N j ns → CasePairs N j ns
  case_pair : CasePair N j ns → CasePairs N j ns

pub case_pairs : {N : List ℕ} {j : ℕ} {ns : Nodes} → WhenPairs ns → Stands N j ns → CasePairs N j ns
case_pairs (base_only h) st = case_base (kids1 (may an_expr) h st)
case_pairs {N} {j} {ns} (pair_last ms two p h same) st = go r.row r.written r.elders
  where
    r : Seated N j (must an_expr ∷ must an_expr ∷ []) ms two
    r = seated (must an_expr ∷ must an_expr ∷ []) ms two h (subst (Stands N j) same st)

    go : {m : ℕ} {ps : List Piece} → Seats N j (must an_expr ∷ must an_expr ∷ []) m ps → P two ≡ ps → Stands N m ms → CasePairs N j ns
    go (seat_on a (seat_on b seat_end)) e s =
        case_pair (record {
          elder = ms;
          paired = p;
          condition = a;
          result = b;
          stand = s;
          written = ap P same ∙ P_beside ms two ∙ ap (λ z. P ms ++ z) e;
          counted = ap count same ∙ count_beside ms two ∙ ap (λ z. count ms + z) r.counted;
        })

-- .. by the count, as a loop goes
pub paired_counted : {ns : Nodes} → WhenPairs ns → 0 < count ns
paired_counted (base_only h) = may_counted h
  where
    may_counted : {ns : Nodes} → Shaped (an_expr ▸? fin) ns → 0 < count ns
    may_counted (shaped_gone s) = some_counted s
    may_counted (shaped_here s) = some_counted s
paired_counted (pair_last ms two p h same) = let a = some_counted h in let b = ap count same in let c = count_beside ms two in omega (arith, a, b, c)

pub case_base_only : {N : List ℕ} {j : ℕ} {ns : Nodes} → WhenPairs ns → Stands N j ns → count ns ≤ 2 → Kids1 (may an_expr) N j ns
case_base_only {N} {j} {ns} p st few = go (case_pairs p st)
  where
    go : CasePairs N j ns → Kids1 (may an_expr) N j ns
    go (case_base k) = k
    go (case_pair c) = absurd (let a = paired_counted c.paired in let b = c.counted in omega (arith, a, b, few))

pub case_last_pair : {N : List ℕ} {j : ℕ} {ns : Nodes} → WhenPairs ns → Stands N j ns → 2 < count ns → CasePair N j ns
case_last_pair {N} {j} {ns} p st more = go (case_pairs p st)
  where
    go : CasePairs N j ns → CasePair N j ns
    go (case_base k) = absurd (let b = k.counted in omega (arith, b, more))
    go (case_pair c) = c

-- ── what is there and what is not ──
-- a class whose nodes are no absent one
abbrev pub is_there : Class → Bool
is_there a_query = true
is_there a_body = true
is_there a_column = true
is_there a_from = true
is_there a_source = true
is_there a_join = true
is_there a_constraint = true
is_there a_sort = true
is_there an_expr = true
is_there a_name = true
is_there absence = false
is_there (list_of C) = true
is_there (any_of C) = true
is_there empty_list = true

pub node_present : {C : Class} {c d : ℕ} {S : Shape} → Node C c d S → is_there C ≡ true → 0 < c
node_present (absent_node e h) p = 0≢1 p
node_present (query_node e h) p = omega (arith, e)
node_present (select_node e h) p = omega (arith, e)
node_present (values_node e h) p = omega (arith, e)
node_present (list_node e h) p = omega (arith, e)
node_present (any_node e h) p = omega (arith, e)
node_present (empty_node e h) p = omega (arith, e)
node_present (star_node e h) p = omega (arith, e)
node_present (name_star_node e h) p = omega (arith, e)
node_present (column_node e h) p = omega (arith, e)
node_present (from_node e h) p = omega (arith, e)
node_present (join_node e h) p = omega (arith, e)
node_present (on_node e h) p = omega (arith, e)
node_present (using_node e h) p = omega (arith, e)
node_present (table_node m b e h i j) p = omega (arith, e)
node_present (source_node e h) p = omega (arith, e)
node_present (sort_node m b e h i j) p = omega (arith, e)
node_present (name_node lo hi) p = omega (arith, lo)
node_present (literal_node lo hi z) p = omega (arith, lo)
node_present (names_node e h) p = omega (arith, e)
node_present (call_node e h) p = omega (arith, e)
node_present (star_call_node e h) p = omega (arith, e)
node_present (parens_node e h) p = omega (arith, e)
node_present (subquery_node e h) p = omega (arith, e)
node_present (exists_node e h) p = omega (arith, e)
node_present (case_node e h) p = omega (arith, e)
node_present (cast_node e h) p = omega (arith, e)
node_present (prefix_node e h) p = omega (arith, e)
node_present (binary_node e h) p = omega (arith, e)
node_present (null_node e h) p = omega (arith, e)
node_present (in_list_node e h) p = omega (arith, e)
node_present (in_query_node e h) p = omega (arith, e)
node_present (between_node e h) p = omega (arith, e)
node_present (collate_node e h) p = omega (arith, e)

pub not_absent : {C : Class} {N : List ℕ} {i : ℕ} → is_there C ≡ true → (w : Whole C N i) → w.code ≡ node_absent → ⊥
not_absent p w e = let h = node_present w.node p in absurd (omega (arith, h, e))

absent_is : {c d : ℕ} {S : Shape} → Node absence c d S → (c ≡ node_absent) × (d ≡ 0) × (S ≡ fin)
absent_is (absent_node e h) = (e, h, refl)

no_kids : {ks : Nodes} → Shaped fin ks → ks ≡ end
no_kids shaped_end = refl

module _ {N : List ℕ} {i : ℕ} (w : Whole absence N i) where
  pub absent_code : w.code ≡ node_absent
  absent_code = (absent_is w.node).0

  pub absent_kids : w.kids ≡ end
  absent_kids = no_kids (subst (λ S. Shaped S w.kids) (absent_is w.node).2 w.shaped)

  pub absent_piece : piece_at w ≡ nothing
  unfolding formed forms piece pick plain_detail node_str both
  absent_piece = ap (λ z. piece_of z w.detail w.kids) absent_code ∙ plain_piece node_absent w.detail w.kids refl
