-- What goes on from an expression and is none: AS and a name, a bare alias, the second expression in ( ). Assumes nothing.
use mathlib.Core.Bool.{true, false}
use mathlib.Core.List.{List, [], ◌∷◌, append-nil}
use mathlib.Core.Logic.{inr}
use mathlib.Core.Option.{some}
use mathlib.Core.Path.{◌≡◌, refl, sym, subst}
use Prim.Native.Nat.{ℕ}
use borrow.Author.Tests.{eq-eqb}
use lib.Dec.{eqb, leb}
use Rattle.theory.specs.Trees.{Tok, nt, Row, Tree, nil, add, node, toks, cap_of}
use Rattle.theory.specs.Table.{Line, pick, mem, lookup}
use Rattle.theory.proofs.Cases.{eqb_eq}
use Rattle.kinds.specs.Kinds.{ID, KWID, STRING, COMMA, AS}
use Rattle.kinds.specs.Classes.{names}
use Rattle.grammar.specs.Classes.{Name, Paren, Column, Exprs?, Inside?, Args?, E, any}
use Rattle.grammar.specs.RowNames.{row_as, row_bare, row_more_exprs}
use Rattle.grammar.specs.Rows.{once, but_column, exprs, select_items, values_items, lines, heads_of, tails_of}
use Rattle.grammar.specs.Grammar.{sql}
use Rattle.grammar.specs.Limits.{Around}
use Rattle.grammar.specs.Reading.{Val, one, value, values}
use Rattle.grammar.specs.Writing.{Piece, tok, at}
use Rattle.canon.proofs.Counted.{below}
use Rattle.canon.proofs.Folds.{P, flat}
use Rattle.canon.proofs.Says.{Columned}
use Rattle.canon.proofs.Forms.{name_row, More, Pack, Core, Wide, Result, KidsOf, grow, fits_at}
use Rattle.canon.proofs.Places.{AllOf, by_mem, open_all, open_flat}
use Rattle.canon.proofs.Place.{reach_any, place}
use Rattle.canon.proofs.Asks.{asked_any}
use Rattle.canon.proofs.Rebuild.{said, regrow, kept, keep}
use Rattle.canon.proofs.Steps.{Fit, TailStep, plainly, only_class, node_begun, tail_opens, left_core, left_at, left_says, open_tests}
use Rattle.canon.proofs.Queries.{MixSays, as_says, more_inner, more_args}
use Rattle.canon.proofs.Vanish.{as_if, name_kid, bare_name}

mem_one : (C : ℕ) → mem C (C ∷ []) ≡ true
unfolding mem pick
mem_one C = rw (eq-eqb C C refl)

-- ── after an expression ──
-- a row of no strength that goes on from an expression
pub record Mixed (C : ℕ) (ks : List ℕ) (r : Row) : Type 0 where
  pub tested : kept C r ≡ true
  pub loose : eqb r.left 1 ≡ true
  pub expr : mem C exprs ≡ true
  pub tails : (k : ℕ) → mem k ks ≡ true → lookup C k sql.tails ≡ some r
  pub says : MixSays ks r C
  pub more : (c : Around) (x y : Tree) → More C c x y

pub mixed : (C : ℕ) (ks : List ℕ) (r : Row) → Mixed C ks r → (c : Around) (q : Row) (l : Tree) → Core C q c l → leb 1 q.str ≡ true → leb q.str 12 ≡ true → leb 1 (cap_of l) ≡ true → fits_at C 1 ≡ true
    → (t : Tok) → mem t.kind ks ≡ true → Fit t → (k : KidsOf r.items (below r c)) → Pack (any C) c (node r l t (grow (below r c) r.items k nil))
mixed C ks r M c q l x a b s i t n h k =
    let d = reach_any C M.expr in
    let z = left_at 1 C c q l x a b s C d i in
    let g = M.says (value l) (value z.y) (toks z.y) (left_says 1 C c q l x a b s C d i) t n h (said (below r c) r.items k) in
    let up = asked_any C 1 z.q z.y z.ok in
    let e = eqb_eq r.left 1 M.loose in
    keep C r c l z.y t g.0 k M.tested
    (tail_opens (record { of = C ∷ []; at = ks; row = r }) C z.q z.y g.0 (λ D i m' n'. subst (λ X. lookup X i sql.tails ≡ some r) (only_class C D m') (M.tails i n')) (mem_one C) g.1
    (rw e up.1) (rw e z.cap) up.0)
    z.clean (node_begun C c r z.q z.y up.0) z.fit g.2 g.3 (M.more c (node r l t (grow (below r c) r.items k nil)) (node r z.y g.0 (regrow (below r c) r.items k nil)))

-- a line of such rows, and how wide it is in ( )
abbrev pub Mix : Line → ℕ → Type 0
Mix e C = Mixed C e.at e.row × ((c : Around) (l : Tree) (p : Piece) → P (value l).nodes ≡ p ∷ [] → (t : Tok) (k : KidsOf e.row.items (below e.row c))
    → Wide C (node e.row l t (grow (below e.row c) e.row.items k nil)))

pub mix_step : (e : Line) → leb 1 e.row.str ≡ false → AllOf (Mix e) e.of → TailStep e
mix_step e s all C m f c q l x a b d i zl t n h k z =
    let M = by_mem (Mix e) e.of all C m in
    let one = eqb_eq e.row.left 1 M.0.loose in
    let a1 : leb 1 q.str ≡ true = rw one at a in
    let y = left_core C q c l 1 refl a1 (rw one at d) (rw one at i) x in
    plainly C e.row c (node e.row l t (grow (below e.row c) e.row.items k nil)) s (M.1 c l y.p y.single t k)
    (mixed C e.at e.row M.0 c q l y a1 b (rw one at d) (rw one at i) t n h k)

-- ── AS and a name ──
abbrev as_row : Row
as_row = once row_as (nt (any Name) ∷ [])

as_mixed : Mixed Column (AS ∷ []) as_row
unfolding open_tests exprs sql lines but_column select_items values_items heads_of tails_of lookup
as_mixed = record { tested = refl; loose = refl; expr = refl; tails = λ k m. by_mem (λ k. lookup Column k sql.tails ≡ some as_row) (AS ∷ []) (refl, tt) k m; says = as_says; more = λ c x y. tt }

pub as_step : TailStep (record { of = Column ∷ []; at = AS ∷ []; row = as_row })
as_step = mix_step (record { of = Column ∷ []; at = AS ∷ []; row = as_row }) refl ((as_mixed, λ c l p e t k. tt), tt)

-- ── a bare alias, as if AS stood before it ──
abbrev bare_row : Row
bare_row = once row_bare []

abbrev as_tree : Tree → Tok → Tree
as_tree l t = node as_row l (tok AS) (add nil (node name_row nil t nil))

as_pack : (c : Around) (q : Row) (l : Tree) → Core Column q c l → leb 1 q.str ≡ true → leb q.str 12 ≡ true → leb 1 (cap_of l) ≡ true → (t : Tok) → mem t.kind names ≡ true → Fit t → Pack (any Column) c (as_tree l t)
unfolding grow open_tests
as_pack c q l x a b s t m h = mixed Column (AS ∷ []) as_row as_mixed c q l x a b s refl (tok AS) refl refl (node name_row nil t nil, name_kid (below as_row c) t m h, tt)

bare_column : (l : Tree) (t : Tok) (w : Val) (ts : List Tok) → Columned (value (as_tree l t)) w ts → Columned (value (node bare_row l t nil)) w ts
unfolding open_all value values
bare_column l t w ts X = record { p = X.p; single = X.single; same = X.same; toks = X.toks }

pub bare_step : TailStep (record { of = Column ∷ []; at = ID ∷ KWID ∷ STRING ∷ []; row = bare_row })
unfolding grow open_tests
bare_step D m f c q l x a b d i zl t n h k z =
    let e = only_class Column D m in
    let y = left_core Column q c l 1 refl a d refl (subst (λ X. Result X q c l) (sym e) x) in
    subst (λ X. Result X bare_row c (node bare_row l t nil)) e (plainly Column bare_row c (node bare_row l t nil) refl tt
    (as_if (any Column) c (node bare_row l t nil) (as_tree l t) (bare_column l t) refl (λ y i. tt) (as_pack c q l y a b d t (bare_name t.kind n) h)))

-- ── the second expression in ( ) ──
abbrev more_row : Row
more_row = once row_more_exprs (nt (E 1) ∷ nt (any Exprs?) ∷ [])

more_mixed : (C : ℕ) → kept C more_row ≡ true → mem C exprs ≡ true → lookup C COMMA sql.tails ≡ some more_row → MixSays (COMMA ∷ []) more_row C → ((c : Around) (x y : Tree) → More C c x y) → Mixed C (COMMA ∷ []) more_row
more_mixed C a b d e f = record { tested = a; loose = refl; expr = b; tails = λ k m. by_mem (λ k. lookup C k sql.tails ≡ some more_row) (COMMA ∷ []) (d, tt) k m; says = e; more = f }

-- two expressions at least
two_wide : (c : Around) (l : Tree) (p : Piece) → P (value l).nodes ≡ p ∷ [] → (t : Tok) (k : KidsOf more_row.items (below more_row c)) → Wide Paren (node more_row l t (grow (below more_row c) more_row.items k nil))
unfolding open_flat grow value values
two_wide c l p e t k =
    let X = (place (E 1) (below more_row c) k.1).says in
    inr (p, X.p, P (value k.2.0).nodes, simp (flat, e, X.single, append-nil))

pub more_step : TailStep (record { of = Paren ∷ Inside? ∷ Args? ∷ []; at = COMMA ∷ []; row = more_row })
unfolding open_tests exprs sql lines but_column select_items values_items heads_of tails_of lookup
more_step = mix_step (record { of = Paren ∷ Inside? ∷ Args? ∷ []; at = COMMA ∷ []; row = more_row }) refl (
  (more_mixed Paren refl refl refl (more_inner Paren refl) (λ c x y. tt), two_wide),
  (
    (more_mixed Inside? refl refl refl (more_inner Inside? refl) (λ c x y. tt), λ c l p e t k. tt),
    ((more_mixed Args? refl refl refl more_args (λ c x y. tt), λ c l p e t k. tt), tt),
  ),
)
