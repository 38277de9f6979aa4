-- From what the two walks of a call lay to the promise: of lists that are lent and fit. few_refused, few_got: from their bounds to what the
-- places are within. Assumes nothing.
use mathlib.Core.Bool.{Bool, true, false}
use mathlib.Core.List.{List, []}
use mathlib.Core.Path.{◌≡◌, sym, ap, ap₂, ◌∙◌, subst, subst⁻¹}
use Prim.Native.Nat.{ℕ, ◌+◌, ◌*◌, ◌≤◌, ◌<◌}
use lib.ListN.{length}
use native.Mathlib.Omega.{arith}
use Rattle.theory.proofs.Cases.{0≢1}
use Rattle.grammar.specs.Sizes.{WIDTH}
use Rattle.grammar.specs.Nodes.{Rec}
use Rattle.grammar.specs.Promise.{tokens, Lent, AllFit, Reads}
use Rattle.descent.proofs.Walk.{Walked, done, stop, spent, command_w}
use Rattle.descent.proofs.Fill.{fill}
use Rattle.descent.proofs.Answers.{stopped, stopped_some, walked, too_long}
use Rattle.reader.specs.Answers.{Few}
use Rattle.reader.specs.declared.lists.Lists.{Lists}
use Rattle.reader.specs.Bounds.{kinds_of, WithinAt, Within}
use Rattle.reader.specs.Laying.{LaidAt, Laid, Later}
use Rattle.reader.specs.Refusals.{number_of}
use Rattle.reader.specs.declared.refusal.Reason.{Reason}
use Rattle.reader.specs.declared.table.Table.{Table}
use Rattle.reader.specs.declared.Step.{Step}
use Rattle.reader.specs.declared.Step.TheVariants as step
use Rattle.reader.proofs.Laying.{laid_in, stopped_in}

-- the records of a walk that is done
records_in : Walked → List Rec
records_in (done a s n rs) = rs
records_in (stop m p) = []
records_in spent = []

is_done : Walked → Bool
is_done (done a s n rs) = true
is_done (stop m p) = false
is_done spent = false

-- two walks that are one lay the same records
filled_by : (t t' : Table) (w : Walked) (r : Step) {a s n : ℕ} {rs : List Rec} → t.made ≡ 0 → LaidAt t t' w r → w ≡ done a s n rs → WIDTH * length rs ≤ length t.nodes.now
    → (t'.nodes.ghost_name ≡ t.nodes.ghost_name) × (t'.nodes.now ≡ fill t.nodes.now 0 rs)
unfolding records_in is_done
filled_by t t' w (step.Got s n d) {rs = rs} z l e h =
    let same : l.0 ≡ rs = ap records_in (sym l.1 ∙ e) in
    let c = l.2.filled.counted in
    let k : length l.0 ≡ length rs = ap length same in
    (l.2.same, l.2.filled.stand (omega (arith, h, c, k, z)) ∙ ap₂ (λ (m : ℕ) (x : List Rec). fill t.nodes.now m x) z same)
filled_by t t' w (step.Refused m p) z l e h = 0≢1 (ap is_done (sym l ∙ e))

pub refused_some : {K T : List ℕ} (lent : Lent K T) (fit : AllFit (tokens K T)) {u u' : Table} {r : Step} (first : Later (λ f. Laid u u' (command_w K T f) r)) {m : Reason} {p : ℕ} → r ≡ step.Refused m p → 0 < number_of m
refused_some {K} {T} lent fit first e = let f : ℕ = first.least in stopped_some K T [] lent fit f (stopped_in (first.holds f (omega arith)) e)

module _ {K T N : List ℕ} (lent : Lent K T) (fit : AllFit (tokens K T)) {u u' : Table} {r : Step} (first : Later (λ f. Laid u u' (command_w K T f) r)) where
  pub refused_so : {m : Reason} {p : ℕ} → r ≡ step.Refused m p → Reads K T N (number_of m) p N
  refused_so {m} {p} e =
      let f : ℕ = first.least in
      stopped K T N lent fit f (stopped_in (first.holds f (omega arith)) e)

  module _ {s n d : ℕ} (e : r ≡ step.Got s n d) (z : u.made ≡ 0) where
    pub without_room : {p : ℕ} → p ≡ u'.made → length N < u'.made * 4 → Reads K T N 9 p N
    without_room {p} i h =
        let f : ℕ = first.least in
        let x = laid_in (first.holds f (omega arith)) e in
        let c = x.2.filled.counted in
        let k : length x.0 ≡ p = omega (arith, c, i, z) in
        subst (λ (q : ℕ). Reads K T N 9 q N) k (too_long K T N lent fit f x.1 (λ g. omega (arith, g, h, k, i)))

    pub accepted_so : {v v' : Table} {q : Step} {p : ℕ} → Later (λ f. Laid v v' (command_w K T f) q) → v.made ≡ 0 → v.nodes.now ≡ N → p ≡ u'.made → u'.made * 4 ≤ length N
        → (v'.nodes.ghost_name ≡ v.nodes.ghost_name) × Reads K T N 0 p v'.nodes.now
    accepted_so {v} {v'} {q} {p} second y i j h =
        let f : ℕ = first.least + second.least in
        let x = laid_in (first.holds f (omega arith)) e in
        let c = x.2.filled.counted in
        let k : length x.0 ≡ p = omega (arith, c, j, z) in
        let room : WIDTH * length x.0 ≤ length N = omega (arith, h, k, j) in
        let b = filled_by v v' (command_w K T f) q y (second.holds f (omega arith)).holds x.1 (subst⁻¹ (λ (l : List ℕ). WIDTH * length x.0 ≤ length l) i room) in
        let t : v'.nodes.now ≡ fill N 0 x.0 = b.1 ∙ ap (λ (l : List ℕ). fill l 0 x.0) i in
        (b.0, subst (λ (m : ℕ). Reads K T N 0 m v'.nodes.now) k (subst⁻¹ (λ (l : List ℕ). Reads K T N 0 (length x.0) l) t (walked K T N lent fit f x.1 room)))

-- what a walk of a list's tokens, from the first one on, is within: any list, whatever is lent
abbrev pub WithinFirstAt : List ℕ → ℕ → Step → Type 0
WithinFirstAt K made (step.Got said count at) = (at ≤ length K) × (made ≤ 8 * at + 4)
WithinFirstAt K made (step.Refused m p) = p ≤ length K

pub record WithinFirst (K : List ℕ) (made : ℕ) (r : Step) : Type 0 where
  pub holds : WithinFirstAt K made r

pub within_first : {lists : Lists} {made made' : ℕ} {r : Step} → made ≡ 0 → Within 1 4 lists 0 made made' r → WithinFirst (kinds_of lists) made' r
within_first {r = step.Got s n d} z w = record { holds = (w.holds.inside, omega (arith, w.holds.room, z)) }
within_first {r = step.Refused m p} z w = record { holds = w.holds }

module _ {K : List ℕ} {made : ℕ} {r : Step} (w : WithinFirst K made r) where
  pub few_refused : {m : Reason} {p : ℕ} → r ≡ step.Refused m p → Few K p
  few_refused {p = p} e = let h : p ≤ length K = subst (λ (s : Step). WithinFirstAt K made s) e w.holds in omega (arith, h)

  pub few_got : {s n d p : ℕ} → r ≡ step.Got s n d → p ≡ made → Few K p
  few_got {s} {n} {d} e i = let h : WithinFirstAt K made (step.Got s n d) = subst (λ (s : Step). WithinFirstAt K made s) e w.holds in omega (arith, h.0, h.1, i)
