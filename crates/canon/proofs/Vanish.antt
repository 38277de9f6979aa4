-- Words that are not written: ALL, ASC, SEMI (vanish). What is written as another tree is (as_if): a bare alias as AS and a name, , b as
-- OFFSET b. Assumes nothing.
use mathlib.Core.Bool.{true, false}
use mathlib.Core.List.{List, [], ◌∷◌}
use mathlib.Core.Option.{some}
use mathlib.Core.Path.{◌≡◌, refl, sym, ◌∙◌, subst}
use Prim.Native.Nat.{ℕ}
use native.Mathlib.Omega.{arith}
use Rattle.theory.specs.Trees.{Tok, Nt, nt, Row, Tree, nil, add, node, toks, cap_of}
use Rattle.theory.specs.Table.{Line, pick, both, mem, lookup, null_of}
use Rattle.theory.specs.Judged.{faults_in, faults_kids}
use Rattle.theory.proofs.Cases.{0≢1}
use Rattle.kinds.specs.Kinds.{ID, KWID, STRING, SEMI, AS, ALL, ASC}
use Rattle.kinds.specs.Classes.{names}
use Rattle.grammar.specs.Classes.{Name, Semi?, Way?, Distinct?, Alias?, any}
use Rattle.grammar.specs.RowNames.{row_semi, row_asc, row_all, row_source_as, row_source_bare}
use Rattle.grammar.specs.Rows.{part, but_column, exprs, select_items, values_items, lines, heads_of, tails_of, optional}
use Rattle.grammar.specs.Grammar.{sql, G}
use Rattle.grammar.specs.Limits.{Around, begun, judge}
use Rattle.grammar.specs.Reading.{Val, empty, says, choose, value_of, value, values}
use Rattle.grammar.specs.Writing.{tok, at}
use Rattle.canon.proofs.Place.{floor_none}
use Rattle.canon.proofs.Counted.{below}
use Rattle.canon.proofs.Says.{all_word, asc_way, Aliases, no_alias, as_alias, bare_alias, SaysOf, Says}
use Rattle.canon.proofs.Forms.{gone, capped, name_row, More, Pack, Wide, Result, proper, Kid, there, grow}
use Rattle.canon.proofs.Places.{AllOf, by_mem, open_all}
use Rattle.canon.proofs.Rebuild.{regrow}
use Rattle.canon.proofs.Lines.{Finds}
use Rattle.canon.proofs.Steps.{Fit, HeadStep, plainly, head_step, only_class, left_pack, open_tests}
use Rattle.canon.proofs.Names.{name_says}
use Rattle.canon.proofs.Sources.{source_as_says}

-- ── a word that vanishes ──
pub vanish : (C code : ℕ) (ks : List ℕ) → G.nullable (any C) ≡ true → ((t : Tok) → SaysOf C 0 (value_of code empty t []) empty []) → ((c : Around) (x : Tree) → More C c x nil) → ((x : Tree) → Wide C x)
    → HeadStep (record { of = C ∷ []; at = ks; row = part code [] })
unfolding grow toks value values cap_of faults_in
vanish C code ks n says more wide D m f c t i h k z = subst (λ X. Result X (part code []) c (node (part code []) nil t nil)) (only_class C D m)
    (plainly C (part code []) c (node (part code []) nil t nil) refl (wide (node (part code []) nil t nil))
    (record { y = nil; stands = gone n; clean = tt; caps = λ a b. floor_none (any C) refl; fit = tt; says = says t; more = more c (node (part code []) nil t nil) }))

pub all_step : HeadStep (record { of = Distinct? ∷ []; at = ALL ∷ []; row = part row_all [] })
unfolding open_all null_of sql optional
all_step = vanish Distinct? row_all (ALL ∷ []) refl (λ t. all_word refl refl) (λ c x. tt) (λ x. tt)

pub asc_step : HeadStep (record { of = Way? ∷ []; at = ASC ∷ []; row = part row_asc [] })
unfolding open_all null_of sql optional
asc_step = vanish Way? row_asc (ASC ∷ []) refl (λ t. asc_way refl refl) (λ c x. tt) (λ x. tt)

pub semi_step : HeadStep (record { of = Semi? ∷ []; at = SEMI ∷ []; row = part row_semi [] })
unfolding open_all null_of sql optional
semi_step = vanish Semi? row_semi (SEMI ∷ []) refl (λ t. record { toks = refl }) (λ c x. tt) (λ x. tt)

-- ── another tree in its stead ──
pub as_if : (A : Nt) (c : Around) (x x' : Tree) → ((w : Val) (ts : List Tok) → Says A (value x') w ts → Says A (value x) w ts) → mem A.of capped ≡ false → ((y : Tree) → More A.of c x' y → More A.of c x y)
    → Pack A c x' → Pack A c x
as_if A c x x' s n m p = record { y = p.y; stands = p.stands; clean = p.clean; caps = λ a b. 0≢1 (sym n ∙ a); fit = p.fit; says = s (value p.y) (toks p.y) p.says; more = m p.y p.more }

-- a name
abbrev name_line : Line
name_line = record { of = Name ∷ []; at = names; row = name_row }

pub name_step : HeadStep name_line
unfolding open_tests regrow
name_step = head_step name_line refl ((refl, λ c t u ks m f. tt, name_says, λ t f. tt), tt)

one_of : (C k : ℕ) (r : Row) (es : List Line) (ks : List ℕ) → AllOf (λ k. lookup C k es ≡ some r) ks → mem k ks ≡ true → lookup C k es ≡ some r
one_of C k r es ks all m = by_mem (λ k. lookup C k es ≡ some r) ks all k m

-- a line of one class finds its row, if it does at each kind
pub found_one : (C : ℕ) (ks : List ℕ) (r : Row) (es : List Line) → AllOf (λ k. lookup C k es ≡ some r) ks → Finds (record { of = C ∷ []; at = ks; row = r }) es
found_one C ks r es all D k m n = subst (λ X. lookup X k es ≡ some r) (only_class C D m) (one_of C k r es ks all n)

name_found : Finds name_line sql.heads
unfolding sql lines but_column exprs select_items values_items heads_of tails_of pick both mem lookup
name_found = found_one Name names name_row sql.heads (refl, (refl, (refl, (refl, (refl, tt)))))

pub name_kid : (c : Around) (t : Tok) → mem t.kind names ≡ true → Fit t → Kid (any Name) c (node name_row nil t nil)
unfolding grow faults_in faults_kids judge begun open_tests proper choose below
name_kid c t m h = there {q = name_row} refl refl refl (λ a b. refl) (name_step Name refl name_found c t m h tt (refl, tt))

-- ── a bare alias of a source ──
abbrev source_as : Row
source_as = part row_source_as (nt (any Name) ∷ [])

abbrev source_as_line : Line
source_as_line = record { of = Alias? ∷ []; at = AS ∷ []; row = source_as }

pub source_as_step : HeadStep source_as_line
unfolding open_tests
source_as_step = head_step source_as_line refl ((refl, λ c t u ks m f. tt, source_as_says, λ t f. tt), tt)

source_as_found : Finds source_as_line sql.heads
unfolding sql lines but_column exprs select_items values_items heads_of tails_of pick both mem lookup
source_as_found = found_one Alias? (AS ∷ []) source_as sql.heads (refl, tt)

abbrev source_bare : Row
source_bare = part row_source_bare []

-- as if AS stood before it
abbrev with_as : Tok → Tree
with_as t = node source_as nil (tok AS) (add nil (node name_row nil t nil))

with_as_lem : (c : Around) (t : Tok) → mem t.kind names ≡ true → Fit t → Pack (any Alias?) c (with_as t)
unfolding grow faults_in faults_kids judge begun open_tests below exprs
with_as_lem c t m h = left_pack Alias? source_as c (with_as t) refl
    (source_as_step Alias? refl source_as_found c (tok AS) refl refl (node name_row nil t nil, name_kid (below source_as c) t m h, tt) (refl, (refl, tt)))

one_two : ◌≡◌ {A = ℕ} 1 0 → ⊥
one_two e = omega arith

two_one : ◌≡◌ {A = ℕ} 1 2 → ⊥
two_one e = omega arith

bare_says : (t : Tok) (w : Val) (ts : List Tok) → Aliases (value (with_as t)) w ts → Aliases (value (node source_bare nil t nil)) w ts
unfolding open_all value values
bare_says t w ts (no_alias a b m) = absurd (one_two a)
bare_says t w ts (as_alias a b m) = bare_alias refl b (record { o = m.o; opted = m.opted; same = m.same; toks = m.toks })
bare_says t w ts (bare_alias a b m) = absurd (two_one a)

-- a bare alias is a name
pub bare_name : (k : ℕ) → mem k (ID ∷ KWID ∷ STRING ∷ []) ≡ true → mem k names ≡ true
unfolding mem pick
bare_name k m = by_mem (λ k. mem k names ≡ true) (ID ∷ KWID ∷ STRING ∷ []) (refl, (refl, (refl, tt))) k m

pub source_bare_step : HeadStep (record { of = Alias? ∷ []; at = ID ∷ KWID ∷ STRING ∷ []; row = source_bare })
unfolding grow open_tests
source_bare_step D m f c t n h k z = subst (λ X. Result X source_bare c (node source_bare nil t nil)) (only_class Alias? D m)
    (plainly Alias? source_bare c (node source_bare nil t nil) refl tt
    (as_if (any Alias?) c (node source_bare nil t nil) (with_as t) (bare_says t) refl (λ y i. tt) (with_as_lem c t (bare_name t.kind n) h)))
