-- Tokens written one part before the other. Assumes nothing.
use mathlib.Core.List.{List, [], ◌∷◌, ◌++◌, append_assoc}
use mathlib.Core.Path.{◌≡◌, refl, sym, ap, ◌∙◌, subst⁻¹}
use Prim.Native.Nat.{ℕ, ◌+◌, ◌-◌, ◌≤◌, ◌<◌}
use lib.ListN.{length, set, length-append, drop}
use native.Mathlib.Omega.{arith}
use borrow.Author.Tests.{ne_eqb}
use Rattle.theory.specs.Trees.{Tok}
use Rattle.grammar.specs.Reading.{choose}
use Rattle.grammar.specs.Promise.{put}
use Rattle.descent.proofs.Filling.{set_on}
use Rattle.scribe.proofs.Standing.{lane_of, lanes, written, Wrote, Puts}

length_lanes : (lane : ℕ) (ts : List Tok) → length (lanes lane ts) ≡ length ts
length_lanes lane [] = refl
length_lanes lane (t ∷ ts) = let i = length_lanes lane ts in omega (arith, i)

lanes_on : (lane : ℕ) (ts us : List Tok) → lanes lane (ts ++ us) ≡ lanes lane ts ++ lanes lane us
lanes_on lane [] us = refl
lanes_on lane (t ∷ ts) us = ap (λ z. lane_of lane t ∷ z) (lanes_on lane ts us)

written_on : (A : List ℕ) (from mid : ℕ) (xs ys : List ℕ) → from + length xs ≡ mid → written (written A mid ys) from xs ≡ written A from (xs ++ ys)
unfolding written
written_on A from mid [] ys e = ap (λ z. written A z ys) (let k : mid ≡ from = omega (arith, e) in k)
written_on A from mid (x ∷ xs) ys e = ap (λ z. set z from x) (written_on A (from + 1) mid xs ys (omega (arith, e)))

-- nothing, one token, and one part before another
pub nothing_put : {lane : ℕ} {A : List ℕ} {to : ℕ} → Puts lane A A to to []
unfolding written
nothing_put = record { puts = λ h. record { counted = omega arith; stand = refl } }

infixr 5 ◌after◌
pub ◌after◌ : {lane : ℕ} {A A₁ A₂ : List ℕ} {from mid to : ℕ} {ts us : List Tok} → Puts lane A₁ A₂ from mid ts → Puts lane A A₁ mid to us → Puts lane A A₂ from to (ts ++ us)
◌after◌ {lane} {A} {A₁} {A₂} {from} {mid} {to} {ts} {us} p q =
    record {
      puts = λ h.
          let l = length-append ts us in
          let b = q.puts (omega (arith, h, l)) in
          let n = b.counted in
          let a = p.puts (omega (arith, h, l, n)) in
          let m = a.counted in
          let k = length_lanes lane ts in
          record {
            counted = omega (arith, l, n, m);
            stand = a.stand ∙ ap (λ z. written z from (lanes lane ts)) b.stand ∙ written_on A from mid (lanes lane ts) (lanes lane us) (omega (arith, m, k)) ∙ ap (written A from) (sym (lanes_on lane ts us));
          };
    }

-- the whole of it, put at the front of the list
written_front : (hs A xs : List ℕ) → length xs ≤ length A → written (hs ++ A) (length hs) xs ≡ hs ++ (xs ++ drop (length xs) A)
unfolding written
written_front hs A [] h = refl
written_front hs [] (x ∷ xs) h = absurd (omega (arith, h))
written_front hs (a ∷ A) (x ∷ xs) h =
    let one : List ℕ = a ∷ [] in
    let l : length (hs ++ one) ≡ length hs + 1 = length-append hs one in
    ap (λ z. set z (length hs) x)
    (ap (λ z. written z (length hs + 1) xs) (sym (append_assoc hs one A)) ∙ ap (λ z. written ((hs ++ one) ++ A) z xs) (sym l) ∙ written_front (hs ++ one) A xs (omega (arith, h)) ∙ append_assoc hs one (xs ++ drop (length xs) A))
    ∙ ap (λ z. set (hs ++ (a ∷ (xs ++ drop (length xs) A))) z x) (let e : length hs ≡ length hs + 0 = omega arith in e)
    ∙ set_on hs 0 (a ∷ (xs ++ drop (length xs) A)) x

-- a whole writing at the front of a lent list
pub wrote_front : {lane : ℕ} {A A' : List ℕ} {to : ℕ} {ts : List Tok} → Wrote lane A A' 0 to ts → length ts ≤ length A → A' ≡ put (lanes lane ts) A
unfolding put
wrote_front {lane} {A} {ts = ts} w h = w.stand ∙ written_front [] A (lanes lane ts) (let l = length_lanes lane ts in omega (arith, l, h))

-- one token
pub one_put : {lane : ℕ} {A : List ℕ} {to : ℕ} (t : Tok) {A' : List ℕ} {from : ℕ} → (0 < to → (from ≡ to - 1) × (A' ≡ set A (to - 1) (lane_of lane t))) → Puts lane A A' from to (t ∷ [])
unfolding written
one_put {lane} {A} {to} t {A'} {from} k =
    record {
      puts = λ h. let g = k (omega (arith, h)) in record { counted = let e = g.0 in omega (arith, e, h); stand = g.1 ∙ ap (λ z. set A z (lane_of lane t)) (sym g.0) };
    }

-- the same tokens, told otherwise
pub puts_as : {lane : ℕ} {A A' : List ℕ} {from to : ℕ} {ts us : List Tok} → us ≡ ts → Puts lane A A' from to ts → Puts lane A A' from to us
puts_as {lane} {A} {A'} {from} {to} e p = subst⁻¹ (λ z. Puts lane A A' from to z) e p

-- each lane but the first is that of the texts
lanes_text : (lane : ℕ) → (lane ≡ 0 → ⊥) → (ts : List Tok) → lanes lane ts ≡ lanes 1 ts
unfolding choose
lanes_text lane h [] = refl
lanes_text lane h (t ∷ ts) = ap (λ b. choose b t.kind t.text ∷ lanes lane ts) (ne_eqb lane 0 h) ∙ ap (λ z. t.text ∷ z) (lanes_text lane h ts)

pub puts_text : {lane : ℕ} {A A' : List ℕ} {from to : ℕ} {ts : List Tok} → 0 < lane → Puts lane A A' from to ts → Puts 1 A A' from to ts
puts_text {lane} {A} {from = from} {ts = ts} h p = record { puts = λ l. let w = p.puts l in record { counted = w.counted; stand = w.stand ∙ ap (written A from) (lanes_text lane (λ z. absurd (omega (arith, z, h))) ts) } }
