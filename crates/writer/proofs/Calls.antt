-- From the walks of a table to the call's promise. Assumes nothing.
use mathlib.Core.List.{List}
use mathlib.Core.Path.{◌≡◌, subst}
use Prim.Native.Nat.{ℕ, ◌+◌, ◌-◌, ◌<◌, ◌≤◌}
use lib.ListN.{length}
use native.Mathlib.Omega.{arith}
use Rattle.grammar.specs.NodeNames.{node_query}
use Rattle.grammar.specs.Promise.{Reads}
use Rattle.shapes.specs.Shape.{a_query}
use Rattle.scribe.proofs.Whole.{Whole, piece_at}
use Rattle.scribe.proofs.Spelt.{query_is}
use Rattle.scribe.proofs.Parts.{coded_toks, Spells}
use Rattle.scribe.proofs.Length.{toks_few}
use Rattle.scribe.proofs.Command.{read_short, writes_whole, writes_short}
use Rattle.reader.specs.Answers.{Few}
use Rattle.writer.specs.Pages.{Walks, MOST}
use Rattle.writer.proofs.Moves.{coded}

-- the records of a command are few
pub few_records : {K T N : List ℕ} {p : ℕ} {N' : List ℕ} → Reads K T N 0 p N' → Few K p → p ≤ MOST
few_records r f = let s = read_short r in omega (arith, f, s)

module _ {N : List ℕ} {p : ℕ} (few : p ≤ MOST) where
  -- the walk that counts begins at 1048576
  pub counted : {lane : ℕ} {A A' : List ℕ} {r : ℕ} → Spells (coded_toks node_query) N lane A A' r 1048576 p → (w : Whole a_query N p) → r + length (piece_at w).toks ≡ 1048576
  counted s w = let f = toks_few w in ((s.told (coded w (query_is w))).puts (omega (arith, f, few))).counted

  module _ {lane : ℕ} {A₀ A₁ : List ℕ} {r c : ℕ} (first : Spells (coded_toks node_query) N lane A₀ A₁ r 1048576 p) (e : c ≡ 1048576 - r) where
    count_is : (w : Whole a_query N p) → c ≡ length (piece_at w).toks
    count_is w = let k = counted first w in omega (arith, e, k)

    pub walks_short : {A B : List ℕ} → length A ≡ length B → length A < c → Walks N p A B 10 c A B
    walks_short same h K T M read = writes_short same read count_is h

    pub walks_whole : {A B : List ℕ} → length A ≡ length B → c ≤ length A → {A' B' : List ℕ} {x y : ℕ} → Spells (coded_toks node_query) N 0 A A' x c p → Spells (coded_toks node_query) N 1 B B' y c p → Walks N p A B 0 c A' B'
    walks_whole same h kinds texts K T M read = writes_whole same read count_is h (λ w. kinds.told (coded w (query_is w))) (λ w. texts.told (coded w (query_is w)))

-- what was written in a list, told of the same list
pub spells_in : {N : List ℕ} {lane : ℕ} {A A₁ A' : List ℕ} {r to i : ℕ} → A₁ ≡ A → Spells (coded_toks node_query) N lane A₁ A' r to i → Spells (coded_toks node_query) N lane A A' r to i
spells_in {N} {lane} {A' = A'} {r} {to} {i} e s = subst (λ z. Spells (coded_toks node_query) N lane z A' r to i) e s
