-- Demand 3 of the two calls: what must be so of every answer that `Reads` and `Writes` allow, whatever functions give them. Definitions only.
use Rattle.std.specs.Prelude.{List, ◌↔◌, ◌≡◌, ℕ, ◌*◌, ◌≤◌, ◌<◌, length, take}
use Rattle.theory.specs.Trees.{Tree}
use Rattle.grammar.specs.Sizes.{WIDTH}
use Rattle.grammar.specs.Nodes.{Nodes}
use Rattle.grammar.specs.Reading.{reading}
use Rattle.grammar.specs.Meaning.{meaning}
use Rattle.grammar.specs.Promise.{Accepted, Reads, Writes}

-- the command of these kinds and texts is an accepted one, and means n
pub record Means (K T : List ℕ) (n : Nodes) : Type 0 where
  pub tree : Tree
  pub accepted : Accepted K T tree
  pub meant : meaning (reading tree) ≡ n

-- "mean the same"
abbrev pub MeanTheSame : (K T L U : List ℕ) → Type 0
MeanTheSame K T L U = (n : Nodes) × Means K T n × Means L U n

-- "equal token for token": p tokens in the lists A and B, q tokens in C and D ("the writer's output beyond the writing" is no part of it)
pub record EqualTokens (p : ℕ) (A B : List ℕ) (q : ℕ) (C D : List ℕ) : Type 0 where
  pub count : p ≡ q
  pub kinds : take p A ≡ take q C
  pub texts : take p B ≡ take q D

-- "Two accepted commands mean the same exactly when their canonical writings are equal token for token": the commands K T and L U, written
-- as the first p numbers of A and B, and as the first q of C and D
abbrev pub SameMeaningEqualOutputs : (K T : List ℕ) (p : ℕ) (A B : List ℕ) (L U : List ℕ) (q : ℕ) (C D : List ℕ) → Type 0
SameMeaningEqualOutputs K T p A B L U q C D = MeanTheSame K T L U ↔ EqualTokens p A B q C D

-- every answer of the reader's call to these tokens: acceptance, where the table has room for so many records; else "9 .. | records needed"
pub record ReadAccepts (K T : List ℕ) (needed : ℕ) : Type 0 where
  pub roomy : {N N' : List ℕ} {m r : ℕ} → Reads K T N m r N' → WIDTH * needed ≤ length N → (m ≡ 0) × (r ≡ needed)
  pub tight : {N N' : List ℕ} {m r : ℕ} → Reads K T N m r N' → length N < WIDTH * needed → (m ≡ 9) × (r ≡ needed)

-- "each writing is accepted, keeps the meaning and is its own canonical writing": of the command K T, written as the first p numbers of A and B
pub record CanonicalOutput (K T : List ℕ) (p : ℕ) (A B : List ℕ) : Type 0 where
  pub needed : ℕ
  pub accepted : ReadAccepts (take p A) (take p B) needed
  pub meaning : MeanTheSame K T (take p A) (take p B)
  -- the writer's call to it accepts, where the table and the output have room, and whenever it accepts it writes the same again
  pub rewritten : {N C D N' C' D' : List ℕ} {m q : ℕ} → Writes (take p A) (take p B) N C D m q N' C' D'
      → WIDTH * needed ≤ length N → length C ≡ length D → p ≤ length C → m ≡ 0
  pub own : {N C D N' C' D' : List ℕ} {q : ℕ} → Writes (take p A) (take p B) N C D 0 q N' C' D' → EqualTokens p A B q C' D'
