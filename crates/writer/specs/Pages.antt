-- What the writer's functions promise each other. Definitions only; nothing published rests on them.
use Rattle.std.specs.Prelude.{true, List, ◌≡◌, ℕ, ◌+◌, ◌-◌, ◌*◌, ◌<◌, ◌≤◌, get_or}
use Rattle.writer.specs.declared.spelling.Pen.{Pen}
use Rattle.writer.specs.declared.lent.Pages.{Pages}
use Rattle.writer.specs.declared.lent.Numbers.{Numbers}
use Rattle.writer.specs.declared.lent.Numbers.TheVariants.{Kinds, Texts}
use Rattle.theory.specs.Trees.{Tok}
use Rattle.grammar.specs.Sizes.{TOKENS, WIDTH}
use Rattle.grammar.specs.NodeNames.{node_parens, node_binary, node_in_list, node_in_query, node_between}
use Rattle.grammar.specs.Nodes.{count}
use Rattle.grammar.specs.Writing.{node_str}
use Rattle.grammar.specs.Promise.{Reads, Writes}
use Rattle.shapes.specs.Shape.{Class}
use Rattle.scribe.proofs.Standing.{Puts}
use Rattle.scribe.proofs.Whole.{Whole, piece_at}
use Rattle.scribe.proofs.Leading.{backs}
use Rattle.scribe.proofs.Clauses.{children_at}
use Rattle.scribe.proofs.Parts.{Coded, Term, Part, leads_of, source_of, Tailed}

-- the records that are lent
abbrev pub nodes_of : Pages → List ℕ
nodes_of pages = pages.nodes.now

-- the list that is written: the kinds, or the texts
abbrev pub lane_of_numbers : Numbers → ℕ
lane_of_numbers Kinds = 0
lane_of_numbers Texts = 1

abbrev pub lane_in : Pages → ℕ
lane_in pages = lane_of_numbers pages.numbers

-- ── reads ──
-- r is the number f of the record of a node that ends at i
pub record Field (f : ℕ) (pages : Pages) (i r : ℕ) : Type 0 where
  pub some : 0 < r → 0 < i
  pub is : 0 < i → r ≡ get_or (nodes_of pages) (WIDTH * (i - 1) + f) 0

-- r is where the first child ends
pub record First (pages : Pages) (i r : ℕ) : Type 0 where
  pub most : r ≤ i - 1
  pub is : 0 < i → r ≡ backs (nodes_of pages) (children_at (nodes_of pages) i - 1) (i - 1)

-- what ends at r is what ends at i without one-member parentheses
pub record Bared (pages : Pages) (i r : ℕ) : Type 0 where
  pub most : r ≤ i
  pub told : (t : Term (nodes_of pages) i) → (v : Term (nodes_of pages) r) × (piece_at t.whole ≡ piece_at v.whole) × (v.whole.code ≡ node_parens → 1 < count v.whole.kids)

-- the source of a part of FROM ends at r
pub record Taken (pages : Pages) (i r : ℕ) : Type 0 where
  pub most : r ≤ i
  pub is : (p : Part (nodes_of pages) i) → r ≡ source_of (nodes_of pages) i p

-- ── writes ──
-- a pen wrote these tokens, before those that it had written: in the same list, which was p's and is q's
pub record Wrote (pages : Pages) (p q : Pen) (ts : List Tok) : Type 0 where
  pub same : q.out.ghost_name ≡ p.out.ghost_name
  pub puts : Puts (lane_in pages) p.out.now q.out.now q.to p.to ts

-- .. whatever ends at i, its tokens
pub record Writ {X : List ℕ → ℕ → Type 0} (toks : (N : List ℕ) (i : ℕ) → X N i → List Tok) (pages : Pages) (p q : Pen) (i : ℕ) : Type 0 where
  pub told : (w : X (nodes_of pages) i) → Wrote pages p q (toks (nodes_of pages) i w)

-- .. of a node whose first child stands first, all but that child
pub record Trailed {C : Class} {N : List ℕ} {i : ℕ} (w : Whole C N i) (pages : Pages) (p q : Pen) : Type 0 where
  pub same : q.out.ghost_name ≡ p.out.ghost_name
  pub tail : Tailed w (lane_in pages) p.out.now q.out.now q.to p.to

-- .. of such a term, where it has this strength
pub record Trails (k : ℕ) (pages : Pages) (p q : Pen) (i : ℕ) : Type 0 where
  pub told : (t : Term (nodes_of pages) i) → leads_of t.whole.code ≡ true → k ≡ node_str t.whole.code t.whole.detail → Trailed t.whole pages p q

-- .. where no expression comes after that child
pub record Closes (c : ℕ) (pages : Pages) (p q : Pen) (i : ℕ) : Type 0 where
  pub told : (t : Term (nodes_of pages) i) → leads_of t.whole.code ≡ true → c ≡ t.whole.code → (c ≡ node_binary → ⊥) → (c ≡ node_between → ⊥) → (c ≡ node_in_list → ⊥) → (c ≡ node_in_query → ⊥) → Trailed t.whole pages p q

-- .. of BETWEEN
pub record Bounds (pages : Pages) (p q : Pen) (i : ℕ) : Type 0 where
  pub told : (w : Coded node_between (nodes_of pages) i) → Trailed w.whole pages p q

-- no reading has more records: 8 for each token and the end (`Few` of the reader)
abbrev pub MOST : ℕ
MOST = 8 * (TOKENS + 1)

-- of a table that holds a command's reading, p records: what a call has yet to do
abbrev pub Walks : List ℕ → ℕ → List ℕ → List ℕ → ℕ → ℕ → List ℕ → List ℕ → Type 0
Walks N p A B m c A' B' = (K T M : List ℕ) → Reads K T M 0 p N → Writes K T M A B m c N A' B'

-- the measure of the functions that call one another: where the node ends, then the rank of the function
abbrev pub rank : ℕ → ℕ → ℕ
rank k i = i * 16 + k
