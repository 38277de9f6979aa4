-- The canonical writing. rewritten: of every accepted command it has the same meaning and is its own canonical writing. canonical: of every
-- command that demand 3 speaks of it is accepted too. accepted_exactly: of no other. shallow_without: levels matter only where a NOT stands
-- to the right. equal_writings: two accepted commands have the same meaning exactly when they have the same writing. Assumes nothing.
use mathlib.Core.Bool.{true}
use mathlib.Core.List.{List, append-nil}
use mathlib.Core.Logic.{◌↔◌}
use mathlib.Core.Path.{◌≡◌, refl, sym, ap, ◌∙◌, subst}
use Prim.Native.Nat.{ℕ, ◌≤◌}
use lib.Dec.{leb}
use lib.ListN.{length}
use native.Mathlib.Omega.{arith}
use Rattle.theory.specs.Trees.{Tok, Row, Tree, toks}
use Rattle.theory.specs.Table.{pick, both, mem, null_of}
use Rattle.theory.specs.Derives.{Ok}
use Rattle.theory.specs.Judged.{AllZero, faults_of}
use Rattle.theory.proofs.Cases.{0≢1, le-leb}
use Rattle.theory.proofs.Tested.{FollowOf}
use Rattle.theory.proofs.Right.{unambiguous}
use Rattle.grammar.specs.Classes.{Command, any}
use Rattle.grammar.specs.Grammar.{sql, G, IsCommand}
use Rattle.grammar.specs.Sizes.{TOKENS}
use Rattle.grammar.specs.Limits.{Around, outer, limits}
use Rattle.grammar.specs.Levels.{marks}
use Rattle.grammar.specs.Rows.{exprs, optional}
use Rattle.grammar.specs.Nodes.{Nodes}
use Rattle.grammar.specs.Reading.{reading, choose}
use Rattle.grammar.specs.Meaning.{meaning}
use Rattle.grammar.specs.Writing.{joined, pieces, writing}
use Rattle.grammar.specs.Promise.{tokens, Lent, AllFit, Accepted, writing_of, kinds_of, texts_of}
use Rattle.grammar.proofs.Checked.{sql_laws}
use Rattle.grammar.proofs.SamplesHold.{tokens_back, length_kinds, length_texts}
use Rattle.canon.specs.ToTheRight.{NoneToTheRight}
use Rattle.canon.specs.Promise.{SameMeaning, WithinLevels, Shallow, Writable, Rewritten, Canonical, EqualWritings}
use Rattle.canon.proofs.Counted.{free, mono, same_in}
use Rattle.canon.proofs.Forms.{Clean, Stands, gone, here, Pack, Result, core, plain, proper}
use Rattle.canon.proofs.Drive.{results}
use Rattle.canon.proofs.Shallow.{marks_within, within_limits}

-- ── the command's canonical tree ──
no_command : G.nullable (any Command) ≡ true → ⊥
unfolding null_of sql both optional mem pick
no_command n = 0≢1 n

no_expr : mem Command exprs ≡ true → ⊥
unfolding exprs mem pick
no_expr m = 0≢1 m

command_pack : {q : Row} {c : Around} {x : Tree} → Result Command q c x → Pack (any Command) c x
command_pack (core m k) = absurd (no_expr m)
command_pack {q} (plain b w f) = f 0 (le-leb 0 q.str (omega arith))

command_ok : {y : Tree} → Stands (any Command) y → (q : Row) × Ok G (any Command) q y
command_ok (gone n) = absurd (no_command n)
command_ok (here {q = q} o) = (q, o)

fit_of : (a b : List Tok) → a ≡ b → AllFit a → AllFit b
fit_of a b e z = subst AllFit e z

-- a tree of the writing, within the limits as they are seen in c
record Made (x : Tree) (c : Around) : Type 0 where
  tree : Tree
  derived : IsCommand (writing_of x) tree
  clean : Clean tree c
  fit : AllFit (writing_of x)
  same : SameMeaning tree x

made : {K T : List ℕ} {x : Tree} → Accepted K T x → (c : Around) → Clean x c → (leb 1 c.level ≡ true → NoneToTheRight x) → Made x c
unfolding faults_of writing joined reading proper choose
made {K} {T} {x} a c z n =
    let d = a.derived in
    let p = command_pack (results d.1 refl c z n (fit_of (tokens K T) (toks x) (sym d.2) a.fit)) in
    let o = command_ok p.stands in
    let s = p.says in
    let e : toks p.y ≡ writing_of x = s.toks ∙ sym (ap joined s.single ∙ append-nil s.p.toks) in
    record { tree = p.y; derived = (o.0, o.1, e); clean = p.clean; fit = fit_of (toks p.y) (writing_of x) e p.fit; same = sym s.same }

-- an accepted command is within the limits, as they are seen from outside
counted_in : {K T : List ℕ} {x : Tree} → Accepted K T x → Clean x outer
unfolding faults_of
counted_in {x = x} a = subst AllZero (same_in x outer 0 refl) a.within

-- levels uncounted
freely : {K T : List ℕ} {x : Tree} → Accepted K T x → Made x (free 0)
freely {x = x} a = made a (free 0) (mono x outer (free 0) 0 (omega arith) refl (counted_in a)) (λ i. 0≢1 i)

same_writing : (m n : Nodes) → meaning m ≡ meaning n → writing m ≡ writing n
unfolding writing
same_writing m n e = ap (λ z. joined (pieces z)) e

pub rewritten : {K T : List ℕ} {x : Tree} → Accepted K T x → Rewritten x
rewritten {x = x} a = let m = freely a in
    record { tree = m.tree; derived = m.derived; fit = m.fit; meaning = m.same; own = same_writing (reading m.tree) (reading x) m.same }

-- ── as lists that are lent ──
lent_back : (ts : List Tok) → length ts ≤ TOKENS → Lent (kinds_of ts) (texts_of ts)
lent_back ts l = record { equal = length_kinds ts ∙ sym (length_texts ts); short = subst (λ n. n ≤ TOKENS) (sym (length_kinds ts)) l }

accepted_back : (ts : List Tok) (y : Tree) → length ts ≤ TOKENS → IsCommand ts y → AllZero (limits y) → AllFit ts → Accepted (kinds_of ts) (texts_of ts) y
accepted_back ts y l d z f =
    record { lent = lent_back ts l; fit = subst AllFit (sym (tokens_back ts)) f; derived = subst (λ us. IsCommand us y) (sym (tokens_back ts)) d; within = z }

pub canonical : {K T : List ℕ} {x : Tree} → Writable K T x → Canonical x
unfolding rewritten
canonical {x = x} w =
    let m = freely w.accepted in
    record {
      written = rewritten w.accepted;
      accepted = accepted_back (writing_of x) m.tree w.short m.derived (within_limits (writing_of x) m.tree m.derived (w.shallow m.tree m.derived) m.clean) m.fit;
    }

-- ── two commands ──
-- a list is one command at most
pub one_tree : (ts : List Tok) (x y : Tree) → IsCommand ts x → IsCommand ts y → x ≡ y
one_tree ts x y d e = unambiguous G (any Command) (FollowOf sql) sql_laws ts x y d e

pub equal_writings : {K T L U : List ℕ} {x y : Tree} → Accepted K T x → Accepted L U y → EqualWritings x y
equal_writings {x = x} {y = y} a b = (
  same_writing (reading x) (reading y),
  λ e.
      let c = rewritten a in
      let d = rewritten b in
      let i : IsCommand (writing_of x) d.tree = subst (λ z. IsCommand z d.tree) (sym e) d.derived in
      sym c.meaning ∙ ap (λ z. meaning (reading z)) (one_tree (writing_of x) c.tree d.tree c.derived i) ∙ d.meaning,
)

-- ── when a writing is accepted ──
-- a list of tokens whose one tree is within the limits
all_shallow : (ts : List Tok) (x : Tree) → IsCommand ts x → AllZero (limits x) → Shallow ts
all_shallow ts x c z y d = subst (λ v. WithinLevels (marks v)) (one_tree ts x y c d) (marks_within ts x c z)

-- exactly when it is no longer than a list that may be lent, and no deeper than 64 levels
pub accepted_exactly : {K T : List ℕ} {x : Tree} → Accepted K T x → Canonical x ↔ ((length (writing_of x) ≤ TOKENS) × Shallow (writing_of x))
accepted_exactly {x = x} a = (
  λ c. (
    subst (λ n. n ≤ TOKENS) (length_kinds (writing_of x)) c.accepted.lent.short,
    all_shallow (writing_of x) c.written.tree (subst (λ us. IsCommand us c.written.tree) (tokens_back (writing_of x)) c.accepted.derived) c.accepted.within,
  ),
  λ h. canonical (record { accepted = a; short = h.0; shallow = h.1 }),
)

-- with no NOT to the right it is no deeper than the command
pub shallow_without : {K T : List ℕ} {x : Tree} → Accepted K T x → NoneToTheRight x → Shallow (writing_of x)
unfolding faults_of
shallow_without {x = x} a n = let m = made a outer (counted_in a) (λ i. n) in
    all_shallow (writing_of x) m.tree m.derived (subst AllZero (sym (same_in m.tree outer 0 refl)) m.clean)
