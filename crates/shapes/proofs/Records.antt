-- Records that are those of nodes of a shape (Read), and how a walk puts them together: side by side, and one over those before it.
-- Assumes nothing.
use mathlib.Core.List.{List, [], ◌∷◌, ◌++◌, append_assoc, append-nil}
use mathlib.Core.Path.{◌≡◌, refl, sym, ◌∙◌}
use Prim.Native.Nat.{ℕ, ◌+◌}
use lib.ListN.{length, length-append}
use native.Mathlib.Omega.{arith}
use Rattle.grammar.specs.Nodes.{Nodes, end, mk, count, beside, Rec, rec, records}
use Rattle.descent.proofs.Walk.{missing, over}
use Rattle.descent.proofs.Growing.{records_beside, count_beside}
use Rattle.shapes.specs.Shape.{Class, absence, an_expr, Shape, fin, ◌▸◌, ◌▸?◌, many_of, when_thens, some_of, Node, absent_node, Shaped, shaped_end, shaped_next, shaped_gone, shaped_here, shaped_none, shaped_more, shaped_else, shaped_when}

-- these are the records of n nodes side by side of this shape
pub record Read (S : Shape) (n : ℕ) (rs : List Rec) : Type 0 where
  pub nodes : Nodes
  pub same : rs ≡ records nodes
  pub many : n ≡ count nodes
  pub are : Shaped S nodes

-- .. of one node; of one that may be absent
abbrev pub One : Class → List Rec → Type 0
One C rs = Read (C ▸ fin) 1 rs

abbrev pub May : Class → List Rec → Type 0
May C rs = Read (C ▸? fin) 1 rs

-- ── the same nodes, other words for them ──
pub read_is : {S : Shape} {n m : ℕ} {rs qs : List Rec} → Read S n rs → m ≡ n → qs ≡ rs → Read S m qs
read_is r e h = record { nodes = r.nodes; same = h ∙ r.same; many = e ∙ r.many; are = r.are }

module _ {C : Class} {R : Shape} {n : ℕ} {rs : List Rec} where
  pub read_here : Read (C ▸ R) n rs → Read (C ▸? R) n rs
  read_here r = record { nodes = r.nodes; same = r.same; many = r.many; are = shaped_here r.are }

  pub read_gone : Read (absence ▸ R) n rs → Read (C ▸? R) n rs
  read_gone r = record { nodes = r.nodes; same = r.same; many = r.many; are = shaped_gone r.are }

module _ {n : ℕ} {rs : List Rec} where
  pub read_each : {C : Class} → Read (some_of C) n rs → Read (many_of C) n rs
  read_each r = record { nodes = r.nodes; same = r.same; many = r.many; are = shaped_more r.are }

  pub read_else : Read (an_expr ▸? fin) n rs → Read when_thens n rs
  read_else r = record { nodes = r.nodes; same = r.same; many = r.many; are = shaped_else r.are }

  pub read_when : Read (an_expr ▸ an_expr ▸ when_thens) n rs → Read when_thens n rs
  read_when r = record { nodes = r.nodes; same = r.same; many = r.many; are = shaped_when r.are }

-- ── none ──
pub read_fin : Read fin 0 []
unfolding records count
read_fin = record { nodes = end; same = refl; many = refl; are = shaped_end }

pub read_none : {C : Class} → Read (many_of C) 0 []
unfolding records count
read_none = record { nodes = end; same = refl; many = refl; are = shaped_none }

-- ── one beside others ──
shaped_then : {C : Class} {R : Shape} {ns ms : Nodes} → Shaped (C ▸ fin) ns → Shaped R ms → Shaped (C ▸ R) (beside ns ms)
unfolding beside
shaped_then (shaped_next N k shaped_end) r = shaped_next N k r

shaped-then? : {C : Class} {R : Shape} {ns ms : Nodes} → Shaped (C ▸? fin) ns → Shaped R ms → Shaped (C ▸? R) (beside ns ms)
shaped-then? (shaped_gone s) r = shaped_gone (shaped_then s r)
shaped-then? (shaped_here s) r = shaped_here (shaped_then s r)

module _ {C : Class} {R : Shape} {n : ℕ} {rs qs : List Rec} where
  infixr 50 ◌&◌
  pub ◌&◌ : One C rs → Read R n qs → Read (C ▸ R) (n + 1) (rs ++ qs)
  r & q = record {
    nodes = beside r.nodes q.nodes;
    same = rw (r.same, q.same) (sym (records_beside r.nodes q.nodes));
    many = omega (arith, r.many, q.many, count_beside r.nodes q.nodes);
    are = shaped_then r.are q.are;
  }

  infixr 50 ◌&?◌
  pub ◌&?◌ : May C rs → Read R n qs → Read (C ▸? R) (n + 1) (rs ++ qs)
  r &? q = record {
    nodes = beside r.nodes q.nodes;
    same = rw (r.same, q.same) (sym (records_beside r.nodes q.nodes));
    many = omega (arith, r.many, q.many, count_beside r.nodes q.nodes);
    are = shaped-then? r.are q.are;
  }

-- one alone, as one or more
pub read_some : {C : Class} {rs : List Rec} → One C rs → Read (some_of C) 1 rs
read_some {rs = rs} r = read_is (r & read_none) refl (sym (append-nil rs))

-- ── one over those before it ──
pub read_node : {C : Class} {c d n size : ℕ} {S : Shape} {rs : List Rec} → Node C c d S → Read S n rs → size ≡ length rs + 1 → One C (rs ++ (rec c d n size ∷ []))
unfolding records count
read_node {c = c} {d = d} N r e = record { nodes = mk c d r.nodes end; same = rw (e, r.many, r.same); many = refl; are = shaped_next N r.are shaped_end }

pub read_over : {C : Class} {c d n : ℕ} {S : Shape} {rs : List Rec} → Node C c d S → Read S n rs → One C (over c d n 0 rs)
read_over {rs = rs} N r = read_node N r (omega arith)

-- .. over the records ls and rs, where those of ls are counted before
pub read_after : {C : Class} {c d n pre : ℕ} {S : Shape} (ls rs : List Rec) → Node C c d S → Read S n (ls ++ rs) → length ls ≡ pre → One C (ls ++ over c d n pre rs)
read_after {c = c} {d = d} {n = n} {pre = pre} ls rs N r e =
    read_is (read_node N r (omega (arith, length-append ls rs, e))) refl (sym (append_assoc ls rs (rec c d n (pre + length rs + 1) ∷ [])))

-- a node with no children; an absent one
pub read_leaf : {C : Class} {c d : ℕ} → Node C c d fin → One C (rec c d 0 1 ∷ [])
read_leaf N = read_node N read_fin refl

pub read_absent : One absence (missing ∷ [])
read_absent = read_leaf (absent_node refl refl)

pub may_absent : {C : Class} → May C (missing ∷ [])
may_absent = read_gone read_absent
