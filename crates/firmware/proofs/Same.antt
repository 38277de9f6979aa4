-- What holds of an answer's number and place holds of numbers that equal them.
use mathlib.Core.List.{List}
use mathlib.Core.Path.{◌≡◌, subst⁻¹}
use Prim.Native.Nat.{ℕ}
use Rattle.grammar.specs.Promise.{Reads, Writes}

both : {m m' p p' : ℕ} (R : ℕ → ℕ → Type 0) → m ≡ m' → p ≡ p' → R m' p' → R m p
both {p' = p'} R a b r = subst⁻¹ (R _) b (subst⁻¹ (λ z. R z p') a r)

pub same_reading : {K T N N' : List ℕ} {m m' p p' : ℕ} → m ≡ m' → p ≡ p' → Reads K T N m' p' N' → Reads K T N m p N'
same_reading {K} {T} {N} {N'} = both (λ m p. Reads K T N m p N')

pub same_writing : {K T N A B N' A' B' : List ℕ} {m m' p p' : ℕ} → m ≡ m' → p ≡ p' → Writes K T N A B m' p' N' A' B' → Writes K T N A B m p N' A' B'
same_writing {K} {T} {N} {A} {B} {N'} {A'} {B'} = both (λ m p. Writes K T N A B m p N' A' B')
