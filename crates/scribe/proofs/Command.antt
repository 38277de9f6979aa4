-- The writer's call. whole_query: an accepted command's table is one whole query, which spells the command's writing. writes_unequal,
-- writes_refused, writes_short, writes_whole: the promise `Writes` from what the reader answered and what was put. Assumes nothing.
use mathlib.Core.List.{List, [], ◌∷◌, append-nil}
use mathlib.Core.Path.{◌≡◌, refl, sym, ap, ◌∙◌, subst}
use Prim.Native.Nat.{ℕ, ◌*◌, ◌≤◌, ◌<◌}
use lib.ListN.{length, drop}
use native.Mathlib.Omega.{arith}
use Rattle.theory.specs.Trees.{Tok, Tree}
use Rattle.grammar.specs.Sizes.{WIDTH, TOKENS}
use Rattle.grammar.specs.Nodes.{Nodes, end, beside, laid}
use Rattle.grammar.specs.Reading.{choose, reading}
use Rattle.grammar.specs.Writing.{joined, writing}
use Rattle.grammar.specs.Promise.{Accepted, records_of, Room, Reads, accepted, refusal_1, refusal_2, refusal_3, refusal_4, refusal_5_to_8, refusal_9, writing_of, put, kinds_of, texts_of, Writes, written, refusal_1w, refusal_2_to_9, refusal_10}
use Rattle.canon.proofs.Folds.{P_end}
use Rattle.shapes.specs.Shape.{Class, a_query, IsOne, shaped_end, shaped_next}
use Rattle.shapes.proofs.Whole.{accepted_shaped}
use Rattle.scribe.proofs.Standing.{Stands, lanes, Wrote, Puts}
use Rattle.scribe.proofs.Tokens.{wrote_front}
use Rattle.scribe.proofs.Spelling.{piece_of, P_node}
use Rattle.scribe.proofs.Whole.{Whole, piece_at}

-- ── a table that holds one node ──
one_whole : {C : Class} {N : List ℕ} {i : ℕ} {ns : Nodes} → IsOne C ns → Stands N i ns → (w : Whole C N i) × ((piece_at w).toks ≡ writing ns)
unfolding beside joined writing
one_whole (shaped_next {c = c} {d = d} {S = S} {ks = ks} n s shaped_end) st = (
  record { elder = end; code = c; detail = d; kids = ks; shape = S; stands = st; node = n; shaped = s },
  sym (ap joined (P_node c d ks end ∙ ap (λ z. piece_of c d ks ∷ z) P_end) ∙ append-nil (piece_of c d ks).toks),
)

-- the records of a command at the front of the table
laid_stands : (N : List ℕ) {N' : List ℕ} {p : ℕ} (x : Tree) → p ≡ length (records_of x) → N' ≡ laid N (records_of x) → Stands N' p (reading x)
unfolding laid
laid_stands N x e f = record { fore = []; aft = drop (WIDTH * length (records_of x)) N; parted = f; upto = omega (arith, e) }

accepted_whole : {K T : List ℕ} (N : List ℕ) {N' : List ℕ} {p : ℕ} {x : Tree} → Accepted K T x → p ≡ length (records_of x) → N' ≡ laid N (records_of x) → (w : Whole a_query N' p) × ((piece_at w).toks ≡ writing_of x)
accepted_whole {K} {T} N {x = x} a e f = one_whole (accepted_shaped K T x a) (laid_stands N x e f)

pub whole_query : {K T : List ℕ} (N : List ℕ) {x : Tree} → Accepted K T x → (w : Whole a_query (laid N (records_of x)) (length (records_of x))) × ((piece_at w).toks ≡ writing_of x)
whole_query N a = accepted_whole N a refl refl

-- ── what an acceptance leaves ──
record Taken (K T N : List ℕ) (p : ℕ) (N' : List ℕ) : Type 0 where
  tree : Tree
  accepted : Accepted K T tree
  room : Room N tree
  counted : p ≡ length (records_of tree)
  table : N' ≡ laid N (records_of tree)
  query : Whole a_query N' p
  spells : (piece_at query).toks ≡ writing_of tree

taken : {K T N : List ℕ} {m p : ℕ} {N' : List ℕ} → Reads K T N m p N' → m ≡ 0 → Taken K T N p N'
taken {N = N} (accepted x a r e f g) z = let w = accepted_whole N a f g in record { tree = x; accepted = a; room = r; counted = f; table = g; query = w.0; spells = w.1 }
taken (refusal_1 n e f g) z = absurd (omega (arith, e, z))
taken (refusal_2 l u e g) z = absurd (omega (arith, e, z))
taken (refusal_3 l f o e g) z = absurd (omega (arith, e, z))
taken (refusal_4 l f o e g) z = absurd (omega (arith, e, z))
taken (refusal_5_to_8 l f o g) z = absurd (let h = o.7.5 in omega (arith, h, z))
taken (refusal_9 x a n e f g) z = absurd (omega (arith, e, z))

pub whole_read : {K T N : List ℕ} {p : ℕ} {N' : List ℕ} → Reads K T N 0 p N' → Whole a_query N' p
whole_read r = (taken r refl).query

-- .. of no long list
pub read_short : {K T N : List ℕ} {p : ℕ} {N' : List ℕ} → Reads K T N 0 p N' → length K ≤ TOKENS
read_short r = (taken r refl).accepted.lent.short

-- ── the call's answers ──
pub writes_unequal : {K T N A B : List ℕ} → ¬ (length A ≡ length B) → Writes K T N A B 1 0 N A B
writes_unequal n = refusal_1w (λ l. n l.1) refl refl refl refl refl

pub writes_refused : {K T N A B : List ℕ} {m p : ℕ} {N' : List ℕ} → length A ≡ length B → Reads K T N m p N' → 0 < m → Writes K T N A B m p N' A B
writes_refused e (accepted x a r i j k) h = absurd (omega (arith, i, h))
writes_refused e (refusal_1 n i j k) h = refusal_1w (λ l. n l.0) i j k refl refl
writes_refused e (refusal_2 l u i k) h = refusal_2_to_9 e l (refusal_2 l u i k) h refl refl
writes_refused e (refusal_3 l f o i k) h = refusal_2_to_9 e l (refusal_3 l f o i k) h refl refl
writes_refused e (refusal_4 l f o i k) h = refusal_2_to_9 e l (refusal_4 l f o i k) h refl refl
writes_refused e (refusal_5_to_8 l f o k) h = refusal_2_to_9 e l (refusal_5_to_8 l f o k) h refl refl
writes_refused e (refusal_9 x a n i j k) h = refusal_2_to_9 e a.lent (refusal_9 x a n i j k) h refl refl

-- all that was put before `to` begins at the front
at_front : {lane : ℕ} {A A' : List ℕ} {from to : ℕ} {ts : List Tok} → to ≡ length ts → to ≤ length A → Puts lane A A' from to ts → A' ≡ put (lanes lane ts) A
at_front {lane} {A} {A'} {from} {to} {ts} e h p =
    let w = p.puts (omega (arith, e)) in
    let n = w.counted in
    wrote_front (subst (λ z. Wrote lane A A' z to ts) (let k : from ≡ 0 = omega (arith, n, e) in k) w) (omega (arith, e, h))

needed : {K T N : List ℕ} {p : ℕ} {N' : List ℕ} {c : ℕ} (t : Taken K T N p N') → c ≡ length (piece_at t.query).toks → c ≡ length (writing_of t.tree)
needed t e = e ∙ ap length t.spells

pub writes_whole : {K T N A B : List ℕ} {p : ℕ} {N' : List ℕ} → length A ≡ length B → Reads K T N 0 p N' → {c : ℕ} → ((w : Whole a_query N' p) → c ≡ length (piece_at w).toks) → c ≤ length A
    → {A' B' : List ℕ} {r q : ℕ} → ((w : Whole a_query N' p) → Puts 0 A A' r c (piece_at w).toks) → ((w : Whole a_query N' p) → Puts 1 B B' q c (piece_at w).toks) → Writes K T N A B 0 c N' A' B'
unfolding choose
writes_whole {A = A} {B = B} same read counts h kinds texts =
    let t = taken read refl in
    let w = t.query in
    let e = counts w in
    let n = needed t e in
    written t.tree same t.accepted t.room (omega (arith, n, h)) refl n t.table
    (at_front e h (kinds w) ∙ ap (λ ts. put (kinds_of ts) A) t.spells)
    (at_front e (omega (arith, h, same)) (texts w) ∙ ap (λ ts. put (texts_of ts) B) t.spells)

pub writes_short : {K T N A B : List ℕ} {p : ℕ} {N' : List ℕ} → length A ≡ length B → Reads K T N 0 p N' → {c : ℕ} → ((w : Whole a_query N' p) → c ≡ length (piece_at w).toks) → length A < c
    → Writes K T N A B 10 c N' A B
writes_short same read counts h =
    let t = taken read refl in
    let n = needed t (counts t.query) in
    refusal_10 t.tree same t.accepted t.room (omega (arith, n, h)) refl n t.table refl refl
