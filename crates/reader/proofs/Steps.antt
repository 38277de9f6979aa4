-- What the proofs of the readers share: how the bounds of a callee's answer become those of its caller's.
-- Assumes nothing.
use mathlib.Core.Path.{◌≡◌, subst, subst⁻¹}
use Prim.Native.Nat.{ℕ, ◌+◌, ◌-◌, ◌*◌, ◌≤◌, ◌<◌}
use native.Mathlib.Omega.{arith}
use Rattle.reader.specs.declared.refusal.Reason.{Reason}
use Rattle.reader.specs.declared.Step.{Step}
use Rattle.reader.specs.declared.Step.TheVariants as step
use Rattle.reader.specs.declared.lists.Lists.{Lists}
use Rattle.reader.specs.declared.ask.Ask.{Ask}
use Rattle.reader.specs.Bounds.{tokens, queries_of, Seen, Ends, WithinAt, Within, Refuses, OneOnAt, OneOn, OpensAt, Opens, NullBeforeAt, NullBefore}

module _ {reads slack : ℕ} {lists : Lists} {at made made' : ℕ} {r : Step} where
  -- of an answer that is taken apart
  pub got_in : {said count : ℕ} {d : ℕ} → Within reads slack lists at made made' r → r ≡ step.Got said count d
      → Ends reads slack lists at made made' said count d
  got_in w e = subst (λ (s : Step). WithinAt reads slack lists at made made' s) e w.holds

  -- of an answer that is made
  pub ended : {said count : ℕ} {d : ℕ} → r ≡ step.Got said count d → Ends reads slack lists at made made' said count d
      → Within reads slack lists at made made' r
  ended e b = record { holds = subst⁻¹ (λ (s : Step). WithinAt reads slack lists at made made' s) e b }

  pub refused : {p : ℕ} → Refuses p r → p ≤ tokens lists → Within reads slack lists at made made' r
  refused h b = record { holds = subst⁻¹ (λ (s : Step). WithinAt reads slack lists at made made' s) h.is b }

  -- of a callee's refusal that is passed on
  pub passed_on : {reads₁ slack₁ at₁ made₁ made₂ p : ℕ} {n : Reason} → Within reads₁ slack₁ lists at₁ made₁ made₂ r → r ≡ step.Refused n p
      → Within reads slack lists at made made' r
  passed_on {reads₁} {slack₁} {at₁} {made₁} {made₂} w e =
      record { holds = subst⁻¹ (λ (s : Step). WithinAt reads slack lists at made made' s) e (subst (λ (s : Step). WithinAt reads₁ slack₁ lists at₁ made₁ made₂ s) e w.holds) }

  -- of the answer of one of two ways
  pub same_answer : {s : Step} {m : ℕ} → r ≡ s → made' ≡ m → Within reads slack lists at made m s → Within reads slack lists at made made' r
  same_answer {s = s} e d w = subst⁻¹ (λ (q : Step). Within reads slack lists at made made' q) e (subst⁻¹ (λ (z : ℕ). Within reads slack lists at made z s) d w)

-- a kind seen at a place
pub seen_as : {lists : Lists} {at at' kind kind' : ℕ} → Seen lists at kind → at' ≡ at → kind' ≡ kind → Seen lists at' kind'
seen_as {lists} {at} {at'} {kind} {kind'} s p q = subst⁻¹ (λ (a : ℕ). Seen lists a kind') p (subst⁻¹ (λ (k : ℕ). Seen lists at k) q s)

-- a callee that starts further on answers for the whole
further_at : (reads slack reads₁ slack₁ : ℕ) (lists : Lists) (at made made' at₁ made₁ : ℕ) (r : Step)
    → (at + reads ≤ at₁ + reads₁) × (made ≤ made₁) × (made₁ + 8 * at + slack₁ ≤ made + 8 * at₁ + slack)
    → WithinAt reads₁ slack₁ lists at₁ made₁ made' r → WithinAt reads slack lists at made made' r
further_at reads slack reads₁ slack₁ lists at made made' at₁ made₁ (step.Got said count d) h w = omega arith
further_at reads slack reads₁ slack₁ lists at made made' at₁ made₁ (step.Refused n p) h w = w

pub further : {reads slack reads₁ slack₁ : ℕ} {lists : Lists} {at made made' at₁ made₁ : ℕ} {r : Step} → Within reads₁ slack₁ lists at₁ made₁ made' r
    → (at + reads ≤ at₁ + reads₁) × (made ≤ made₁) × (made₁ + 8 * at + slack₁ ≤ made + 8 * at₁ + slack)
    → Within reads slack lists at made made' r
further {reads} {slack} {reads₁} {slack₁} {lists} {at} {made} {made'} {at₁} {made₁} {r} w h =
    record { holds = further_at reads slack reads₁ slack₁ lists at made made' at₁ made₁ r h w.holds }

-- one token read
module _ {at : ℕ} {r : Step} where
  pub one_on : {said count : ℕ} {d : ℕ} → OneOn at r → r ≡ step.Got said count d → d ≡ at + 1
  one_on w e = subst (λ (s : Step). OneOnAt at s) e w.holds

  pub one_on_got : {said count : ℕ} {d : ℕ} → r ≡ step.Got said count d → d ≡ at + 1 → OneOn at r
  one_on_got e b = record { holds = subst⁻¹ (λ (s : Step). OneOnAt at s) e b }

  pub one_on_refused : {p : ℕ} → Refuses p r → OneOn at r
  one_on_refused h = record { holds = subst⁻¹ (λ (s : Step). OneOnAt at s) h.is tt }

-- a query opened
module _ {ask : Ask} {r : Step} where
  pub opens_in : {said count : ℕ} {d : ℕ} → Opens ask r → r ≡ step.Got said count d → queries_of ask < 16
  opens_in w e = subst (λ (s : Step). OpensAt ask s) e w.holds

  pub opens_refused : {p : ℕ} → Refuses p r → Opens ask r
  opens_refused h = record { holds = subst⁻¹ (λ (s : Step). OpensAt ask s) h.is tt }

opens_at : (ask : Ask) (r : Step) → queries_of ask < 16 → OpensAt ask r
opens_at ask (step.Got said count d) h = h
opens_at ask (step.Refused n p) h = tt

pub opened : {ask : Ask} {r : Step} → queries_of ask < 16 → Opens ask r
opened {ask} {r} h = record { holds = opens_at ask r h }

-- NOT NULL
null_at : (reads slack : ℕ) (lists : Lists) (at made made' next word : ℕ) (r : Step) → (word ≡ 11 → next ≤ tokens lists) → (at + reads ≤ next) × (next - 1 ≤ tokens lists) × (1 + 8 * at ≤ 8 * next + slack)
    → NullBeforeAt next made made' word r → WithinAt reads slack lists at made made' r
null_at reads slack lists at made made' next word (step.Got said count d) k h w = let l : next ≤ tokens lists = k w.0 in omega arith
null_at reads slack lists at made made' next word (step.Refused n p) k h w = omega arith

pub null_before : {reads slack : ℕ} {lists : Lists} {at made made' next word : ℕ} {r : Step} → NullBefore next made made' word r → (word ≡ 11 → next ≤ tokens lists)
    → (at + reads ≤ next) × (next - 1 ≤ tokens lists) × (1 + 8 * at ≤ 8 * next + slack) → Within reads slack lists at made made' r
null_before {reads} {slack} {lists} {at} {made} {made'} {next} {word} {r} w k h =
    record { holds = null_at reads slack lists at made made' next word r k h w.holds }

module _ {next made made' word : ℕ} {r : Step} where
  pub null_refused : {p : ℕ} → Refuses p r → p ≡ next - 1 → NullBefore next made made' word r
  null_refused h e = record { holds = subst⁻¹ (λ (s : Step). NullBeforeAt next made made' word s) h.is e }

  pub null_got : {said count d : ℕ} → r ≡ step.Got said count d
      → (word ≡ 11) × (d ≡ next) × (made' ≡ made + 1) × (count ≡ 0) × (said ≡ 12) → NullBefore next made made' word r
  null_got e h = record { holds = subst⁻¹ (λ (s : Step). NullBeforeAt next made made' word s) e h }
