-- What the reader and the writer promise, and what is told of it, of lists that equal those that were lent.
-- Assumes nothing.
use Prim.Native.Nat.{ℕ}
use mathlib.Core.List.{List}
use mathlib.Core.Path.{◌≡◌}
use Rattle.grammar.specs.Promise.{Reads, Writes}
use Rattle.reader.specs.Answers.{Answer, number, place, Few, Plain}
use Rattle.reading.specs.declared.Reading.{Reading}
use Rattle.reading.specs.Readings.{ReadIn}

-- ── the reader's ──
pub reads_as : {K T N N' K' T' : List ℕ} (got : Answer) → K' ≡ K → T' ≡ T → Reads K T N (number got) (place got) N' × Few K (place got) × Plain got
    → Reads K' T' N (number got) (place got) N' × Few K' (place got) × Plain got
reads_as got e f h = rw (e, f) h

pub read_as : {K T N M K' T' N' M' : List ℕ} {r : Reading} → K' ≡ K → T' ≡ T → N' ≡ N → M' ≡ M → ReadIn K T N M r → ReadIn K' T' N' M' r
read_as e f g h i = rw (e, f, g, h) i

-- ── the writer's ──
pub writes_as : {K T N A B M C D K' T' N' A' B' M' C' D' : List ℕ} {m p : ℕ} → K' ≡ K → T' ≡ T → N' ≡ N → A' ≡ A → B' ≡ B → M' ≡ M → C' ≡ C → D' ≡ D
    → Writes K T N A B m p M C D → Writes K' T' N' A' B' m p M' C' D'
writes_as a b c d e f g h w = rw (a, b, c, d, e, f, g, h) w
