-- The turns of the pen's loops (scribe/proofs/Turns.antt), by what the pen wrote in them. Assumes nothing.
use mathlib.Core.Bool.{Bool, true, false}
use mathlib.Core.List.{List, [], ◌∷◌}
use mathlib.Core.Path.{◌≡◌, refl, sym, ap, ◌∙◌}
use Prim.Native.Nat.{ℕ, ◌+◌, ◌-◌, ◌*◌, ◌/◌, ◌<◌, ◌≤◌}
use mir.Val.{bool_byte}
use lib.Dec.{ltb}
use native.Mathlib.Omega.{arith}
use Rattle.theory.specs.Trees.{Tok}
use Rattle.kinds.specs.Kinds.{RP, COMMA, WHEN, THEN}
use Rattle.grammar.specs.Nodes.{Nodes}
use Rattle.grammar.specs.Reading.{choose}
use Rattle.grammar.specs.Writing.{Piece, at, after, node_str, within, joined, parted, rows, tok}
use Rattle.shapes.specs.Shape.{Class, an_expr, list_of}
use Rattle.scribe.proofs.Whole.{Whole, piece_at, before_of}
use Rattle.scribe.proofs.Kids.{known, Maybe, may_piece}
use Rattle.scribe.proofs.Lists.{case_toks}
use Rattle.scribe.proofs.Parts.{Term, leads_of, Operand, Part, operand_toks, part_toks, opens, Yet, Many, Along}
use Rattle.scribe.proofs.Turns.{Bare, along_start, along_turn, bare_operand, bare_ends, bare_goes, many_last, parted_more, parted_final, parted_done, rows_more, rows_final, rows_done, FromRest, from_part, joined_more, joined_done, CaseRest, case_result, case_condition, case_more, case_base_at, case_done}
use Rattle.writer.specs.declared.lent.Pages.{Pages}
use Rattle.writer.specs.declared.spelling.Pen.{Pen}
use Rattle.writer.specs.Pages.{nodes_of, lane_in, Field, First, Bared, Wrote, Trailed}
use Rattle.writer.proofs.Leaves.{code_of}

-- what is yet to be written, and what the pen wrote
pub record Left (spell : List Piece → List Tok) (Q : ℕ → Nodes → Type 0) (pages : Pages) (p q : Pen) (j n : ℕ) (ts : List Tok) : Type 0 where
  pub same : q.out.ghost_name ≡ p.out.ghost_name
  pub yet : Yet spell Q (lane_in pages) p.out.now q.out.now j n q.to p.to ts

pub left : {spell : List Piece → List Tok} {Q : ℕ → Nodes → Type 0} {pages : Pages} {p : Pen} {j n : ℕ} {ts : List Tok} → Yet spell Q (lane_in pages) p.out.now p.out.now j n p.to p.to ts → Left spell Q pages p p j n ts
left y = record { same = refl; yet = y }

-- ── parted lists ──
module _ {t : Tok} {C : Class} {N : List ℕ} {pages : Pages} {p q : Pen} {j n : ℕ} {ts : List Tok} (l : Left (parted t) (Many C N) pages p q j n ts) where
  pub member_then : {o r : Pen} {j' n' : ℕ} → ((w : Whole C N j) → Wrote pages q o (piece_at w).toks) → Wrote pages o r (t ∷ []) → j' ≡ before_of N j → n' ≡ n - 1 → 0 < n' → Left (parted t) (Many C N) pages p r j' n' ts
  member_then f s e m h = record { same = s.same ∙ (f (many_last l.yet (omega (arith, m, h)))).same ∙ l.same; yet = parted_more l.yet (λ w. (f w).puts) s.puts e m h }

module _ (t : Tok) {C : Class} {N : List ℕ} {pages : Pages} {p q : Pen} {j n : ℕ} {ts : List Tok} (l : Left (parted t) (Many C N) pages p q j n ts) where
  pub member_last : {r : Pen} {j' n' : ℕ} → ((w : Whole C N j) → Wrote pages q r (piece_at w).toks) → j' ≡ before_of N j → n' ≡ n - 1 → 0 < n → n' ≤ 0 → Left (parted t) (Many C N) pages p r j' n' ts
  member_last f e m h few = record { same = (f (many_last l.yet h)).same ∙ l.same; yet = parted_final t l.yet (λ w. (f w).puts) e m h few }

  pub members_done : n ≤ 0 → Wrote pages p q ts
  members_done few = record { same = l.same; puts = parted_done t l.yet few }

-- ── VALUES' rows ──
module _ {N : List ℕ} {pages : Pages} {p q : Pen} {j n : ℕ} {ts : List Tok} (l : Left rows (Many (list_of an_expr) N) pages p q j n ts) where
  pub row_then : {o r : Pen} {j' n' : ℕ} → ((w : Whole (list_of an_expr) N j) → Wrote pages q o (within (piece_at w).toks)) → Wrote pages o r (tok COMMA ∷ []) → j' ≡ before_of N j → n' ≡ n - 1 → 0 < n' → Left rows (Many (list_of an_expr) N) pages p r j' n' ts
  row_then f s e m h = record { same = s.same ∙ (f (many_last l.yet (omega (arith, m, h)))).same ∙ l.same; yet = rows_more l.yet (λ w. (f w).puts) s.puts e m h }

  pub row_last : {r : Pen} {j' n' : ℕ} → ((w : Whole (list_of an_expr) N j) → Wrote pages q r (within (piece_at w).toks)) → j' ≡ before_of N j → n' ≡ n - 1 → 0 < n → n' ≤ 0 → Left rows (Many (list_of an_expr) N) pages p r j' n' ts
  row_last f e m h few = record { same = (f (many_last l.yet h)).same ∙ l.same; yet = rows_final l.yet (λ w. (f w).puts) e m h few }

  pub all_rows : n ≤ 0 → Wrote pages p q ts
  all_rows few = record { same = l.same; puts = rows_done l.yet few }

-- ── FROM's parts ──
module _ {N : List ℕ} {pages : Pages} {p q : Pen} {j n : ℕ} {ts : List Tok} (l : Left joined (FromRest N) pages p q j n ts) where
  pub part_more : {r : Pen} {j' n' : ℕ} → 0 < n → ((x : Part N j) → Wrote pages q r (part_toks N j x)) → j' ≡ before_of N j → n' ≡ n - 1 → Left joined (FromRest N) pages p r j' n' ts
  part_more h f e m = record { same = (f (from_part l.yet h)).same ∙ l.same; yet = joined_more l.yet h (λ x. (f x).puts) e m }

  pub all_parts : n ≤ 0 → Wrote pages p q ts
  all_parts few = record { same = l.same; puts = joined_done l.yet few }

-- ── CASE: its pairs from the last, and the base ──
-- of n children those that are left, by the turns
pub pairs_left : {n k r : ℕ} → r ≡ n → k < r / 2 → 3 < n + 2 - 2 * k
pairs_left e h = omega (arith, e, h)

pub no_pairs : {n k r : ℕ} → r ≡ n → r / 2 ≤ k → n + 2 - 2 * k ≤ 3
no_pairs e h = omega (arith, e, h)

module _ {N : List ℕ} {pages : Pages} {p q : Pen} {j n : ℕ} {ts : List Tok} (l : Left case_toks (CaseRest N) pages p q j (n - 1) ts) where
  pub pair_more : {o r : Pen} {j' n' : ℕ} → 3 < n → ((m : Maybe an_expr N j) → Wrote pages q o ((after) (tok THEN ∷ []) (may_piece m))) → ((m : Maybe an_expr N (before_of N j)) → Wrote pages o r ((after) (tok WHEN ∷ []) (may_piece m)))
      → j' ≡ before_of N (before_of N j) → n' ≡ n - 2 → Left case_toks (CaseRest N) pages p r j' (n' - 1) ts
  pair_more h f g e m =
      record { same = (g (case_condition l.yet h)).same ∙ (f (case_result l.yet h)).same ∙ l.same; yet = case_more l.yet h (λ x. (f x).puts) (λ x. (g x).puts) e m }

  pub all_pairs : {r : Pen} → n ≤ 3 → ((m : Maybe an_expr N j) → Wrote pages q r (may_piece m).toks) → Wrote pages p r ts
  all_pairs few f = record { same = (f (case_base_at l.yet few)).same ∙ l.same; puts = case_done l.yet few (λ x. (f x).puts) }

-- ── along first operands ──
pub record Going (pages : Pages) (p q : Pen) (i s pairs : ℕ) (ts : List Tok) : Type 0 where
  pub same : q.out.ghost_name ≡ p.out.ghost_name
  pub along : Along (nodes_of pages) (lane_in pages) p.out.now q.out.now i s pairs q.to p.to ts

-- .. at a term in no parentheses of one member
pub record Turned (pages : Pages) (p q : Pen) (i pairs : ℕ) (ts : List Tok) : Type 0 where
  pub same : q.out.ghost_name ≡ p.out.ghost_name
  pub bare : Bare (nodes_of pages) (lane_in pages) p.out.now q.out.now i pairs q.to p.to ts

pub sets_out : {pages : Pages} {p : Pen} {i s : ℕ} (t : Term (nodes_of pages) i) → Going pages p p i s 0 (at s (piece_at t.whole))
sets_out t = record { same = refl; along = along_start t }

one_more : (b : Bool) (n : ℕ) {x : ℕ} → x ≡ bool_byte b → n + x ≡ choose b (n + 1) n
unfolding choose
one_more true n e = ap (λ z. n + z) e
one_more false n e = ap (λ z. n + z) e ∙ (let k : n + 0 ≡ n = omega arith in k)

pub one_more_most : (b : Bool) {x : ℕ} → x ≡ bool_byte b → x ≤ 1
one_more_most true e = omega (arith, e)
one_more_most false e = omega (arith, e)

pub turned : {pages : Pages} {p q r : Pen} {i s pairs i' k x : ℕ} {ts : List Tok} → Going pages p q i s pairs ts → Bared pages i i' → ((t : Term (nodes_of pages) i') → k ≡ node_str t.whole.code t.whole.detail) → Wrote pages q r (choose (ltb k s) (tok RP ∷ []) []) → x ≡ bool_byte (ltb k s) → Turned pages p r i' (pairs + x) ts
turned {s = s} {pairs} {k = k} g b f w e = record { same = w.same ∙ g.same; bare = along_turn g.along b.told f w.puts (one_more (ltb k s) pairs e) }

module _ {pages : Pages} {p q : Pen} {i pairs : ℕ} {ts : List Tok} (b : Turned pages p q i pairs ts) where
  -- the first of all, and the LP before it
  pub arrives : {o r : Pen} → ((t : Operand (nodes_of pages) i) → Wrote pages q o (operand_toks (nodes_of pages) i t)) → leads_of b.bare.it.whole.code ≡ false → Wrote pages o r (opens pairs []) → Wrote pages p r ts
  arrives f h w = record { same = w.same ∙ (f (bare_operand b.bare h)).same ∙ b.same; puts = bare_ends b.bare (λ t. (f t).puts) h w.puts }

  -- all but its first child
  pub goes_on : {r : Pen} {i' k : ℕ} → Trailed b.bare.it.whole pages q r → k ≡ node_str b.bare.it.whole.code b.bare.it.whole.detail → First pages i i' → Going pages p r i' k pairs ts
  goes_on t e f = record { same = t.same ∙ b.same; along = bare_goes b.bare t.tail e (f.is (known b.bare.it.whole).there) }

-- whether it leads, by its code
pub led_by : {pages : Pages} {C : Class} {i c : ℕ} (w : Whole C (nodes_of pages) i) → Field 0 pages i c → {b v : Bool} → b ≡ leads_of c → b ≡ v → leads_of w.code ≡ v
led_by w F e h = ap leads_of (sym (code_of w F)) ∙ sym e ∙ h
