-- What the reader's functions do, exactly: each does its walk (crate descent), which is to say that it answers as the walk does and that
-- the walk's records stand in the table from `made` on, where it has room for them. Definitions only; nothing published rests on them.
use Rattle.std.specs.Prelude.{Bool, true, List, [], ◌∷◌, ◌++◌, length, ◌≡◌, ℕ, zero, suc, ◌+◌, ◌*◌, ◌≤◌, ◌<◌, eqb, ltb, get_or}
use Rattle.theory.specs.Table.{both, mem}
use Rattle.kinds.specs.Kinds.{NOT, NOTNULL, NULL, RP, STAR, COMMA, JOIN, JOIN_KW}
use Rattle.kinds.specs.Classes.{begins_expr}
use Rattle.grammar.specs.Limits.{Around}
use Rattle.grammar.specs.Nodes.{Rec, rec}
use Rattle.grammar.specs.Reading.{choose}
use Rattle.grammar.specs.Promise.{AllFit, FirstUnfit, tokens as promised}
use Rattle.descent.proofs.Places.{wrong}
use Rattle.descent.proofs.Walk.{Walked, done, stop, bind, over, missing, opening, name_rec, rows_w}
use Rattle.descent.proofs.Fill.{Filled}
use Rattle.reader.specs.declared.ask.Ask.{Ask}
use Rattle.reader.specs.declared.lists.Lists.{Lists}
use Rattle.reader.specs.declared.table.Table.{Table}
use Rattle.reader.specs.Bounds.{kinds_of, texts_of}
use Rattle.reader.specs.Refusals.{number_of}
use Rattle.reader.specs.declared.refusal.Reason.{Reason}
use Rattle.reader.specs.declared.Step.{Step}
use Rattle.reader.specs.declared.Step.TheVariants as step

-- ── records in the table ──
-- from the table t to the table t' these records came, in the same list
pub record Fills (t t' : Table) (rs : List Rec) : Type 0 where
  pub same : t'.nodes.ghost_name ≡ t.nodes.ghost_name
  pub filled : Filled t.nodes.now t'.nodes.now t.made t'.made rs

-- the records from `mid` on came before those from `base`
pub record Swaps (base mid : ℕ) (t t' : Table) : Type 0 where
  pub kept : t'.made ≡ t.made
  pub turns : (t₀ : Table) (rs qs : List Rec) → t₀.made ≡ base → mid ≡ base + length rs → Fills t₀ t (rs ++ qs) → Fills t₀ t' (qs ++ rs)

-- ── one walk, one answer ──
abbrev pub LaidAt : Table → Table → Walked → Step → Type 0
LaidAt t t' w (step.Got said count at) = (rs : List Rec) × (w ≡ done at said count rs) × Fills t t' rs
LaidAt t t' w (step.Refused why p) = w ≡ stop (number_of why) p

pub record Laid (t t' : Table) (w : Walked) (r : Step) : Type 0 where
  pub holds : LaidAt t t' w r

-- of a walk over the lent lists
abbrev pub Lays : Table → Table → Lists → (List ℕ → List ℕ → Walked) → Step → Type 0
Lays t t' lists walk r = Laid t t' (walk (kinds_of lists) (texts_of lists)) r

-- .. that makes no record, so whatever the table
abbrev pub Still : Lists → (List ℕ → List ℕ → Walked) → Step → Type 0
Still lists walk r = (t : Table) → Lays t t lists walk r

-- ── fuel, and what is asked ──
-- with enough fuel
pub record Later (P : ℕ → Type 0) : Type 0 where
  pub least : ℕ
  pub holds : (f : ℕ) → least ≤ f → P f

-- what is asked says the level and the queries around, and the strength
pub record Packed (c : Around) (s : ℕ) (ask : Ask) : Type 0 where
  pub sum : ask.code ≡ 512 * c.level + 16 * c.opened + s
  pub weak : s < 16
  pub few : c.opened ≤ 16

-- r asks for strength s where the levels and queries are those of `ask`, changed so
pub record Passes (change : Around → Around) (ask : Ask) (s : ℕ) (r : Ask) : Type 0 where
  pub packs : (c : Around) (s₀ : ℕ) → Packed c s₀ ask → Packed (change c) s r

-- r is asked within a query that opens where `ask` is asked
pub record OpensOne (ask r : Ask) : Type 0 where
  pub opens : (c : Around) → Packed c 0 ask → c.opened < 16 → Packed (opening c) 1 r

-- a walk for which strength s is asked
pub record Does (s : ℕ) (ask : Ask) (t t' : Table) (lists : Lists) (walk : List ℕ → List ℕ → ℕ → Around → Walked) (r : Step) : Type 0 where
  pub does : (c : Around) → Packed c s ask → Later (λ f. Laid t t' (walk (kinds_of lists) (texts_of lists) f c) r)

-- a loop: whatever the walk w' comes to from here on, the walk w comes to from its beginning on
pub record Onward (t t₁ : Table) (w w' : ℕ → Walked) : Type 0 where
  pub on : (r : Step) (t' : Table) → Later (λ f. Laid t₁ t' (w' f) r) → Later (λ f. Laid t t' (w f) r)

-- ── answers and records that several functions make ──
-- a refusal with this number, at this place
pub record Says (n at : ℕ) (r : Step) : Type 0 where
  pub why : Reason
  pub is : r ≡ step.Refused why at
  pub number : number_of why ≡ n

abbrev pub Misfit : ℕ → ℕ → Step → Type 0
Misfit kind at r = Says (wrong kind) at r

-- 5, but 3 goes before it
abbrev pub TooDeep : ℕ → ℕ → ℕ → Step → Type 0
TooDeep kind s at r = Says (choose (begins_expr kind) (choose (both (eqb kind NOT) (ltb 10 s)) (wrong kind) 5) (wrong kind)) at r

abbrev pub one : ℕ → ℕ → ℕ → ℕ → List Rec
one code detail n size = rec code detail n size ∷ []

unfoldable pub absences : ℕ → List Rec
absences zero = []
absences (suc n) = missing ∷ absences n

-- the name at a place
abbrev pub name_at : Lists → ℕ → List Rec
name_at lists at = name_rec (kinds_of lists) (texts_of lists) at ∷ []

-- the text number of a literal; NULL has none
abbrev pub literal_text : Lists → ℕ → ℕ → ℕ
literal_text lists at kind = choose (eqb kind NULL) 0 (get_or (texts_of lists) at 0)

-- after NOT: NULL, before `next`
abbrev pub not_null_w : ℕ → ℕ → ℕ → ℕ → Walked
not_null_w word next before pre = choose (eqb word NULL) (done next 12 0 (one 40 NOTNULL 1 (pre + 1))) (stop (wrong word) before)

-- rows, and the record over them
abbrev pub all_rows_w : List ℕ → List ℕ → ℕ → ℕ → Around → Walked
all_rows_w K T f at c = bind (rows_w K T f at c 0 0) (λ a x n rs. done a 0 0 (over 3 0 n 0 rs))

unfoldable pub is_bare : ℕ → Bool
is_bare kind = choose (eqb kind STAR) true (eqb kind RP)

unfoldable pub begins_join : ℕ → Bool
begins_join kind = mem kind (COMMA ∷ JOIN ∷ JOIN_KW ∷ [])

-- ── tokens that are fit ──
abbrev pub FitLists : List ℕ → List ℕ → Type 0
FitLists K T = AllFit (promised K T)

-- the place of the lowest token that is unfit
abbrev pub UnfitAt : List ℕ → List ℕ → ℕ → Type 0
UnfitAt K T p = FirstUnfit (promised K T) p
