-- Tokens that a pen wrote, one part before the other. Assumes nothing.
use mathlib.Core.List.{List, [], ◌++◌}
use mathlib.Core.Path.{◌≡◌, refl, ◌∙◌, subst}
use Prim.Native.Nat.{ℕ}
use Rattle.theory.specs.Trees.{Tok}
use Rattle.shapes.specs.Shape.{Class}
use Rattle.scribe.proofs.Tokens.{nothing_put, puts_as}
use Rattle.scribe.proofs.Tokens as tokens
use Rattle.scribe.proofs.Whole.{Whole}
use Rattle.scribe.proofs.Leading.{Led}
use Rattle.writer.specs.declared.lent.Pages.{Pages}
use Rattle.writer.specs.declared.spelling.Pen.{Pen}
use Rattle.writer.specs.Pages.{Wrote, Writ, Trailed, nodes_of}

pub nothing_wrote : {pages : Pages} {p : Pen} → Wrote pages p p []
nothing_wrote = record { same = refl; puts = nothing_put }

infixr 5 ◌after◌
pub ◌after◌ : {pages : Pages} {p q r : Pen} {ts us : List Tok} → Wrote pages q r ts → Wrote pages p q us → Wrote pages p r (ts ++ us)
◌after◌ b a = record { same = b.same ∙ a.same; puts = tokens.◌after◌ b.puts a.puts }

-- the same tokens, told otherwise
pub wrote_as : {pages : Pages} {p q : Pen} {ts us : List Tok} → us ≡ ts → Wrote pages p q ts → Wrote pages p q us
wrote_as e w = record { same = w.same; puts = puts_as e w.puts }

-- what was written of whatever ends at a place, where the place is known otherwise
pub writ_at : {X : List ℕ → ℕ → Type 0} {toks : (N : List ℕ) (i : ℕ) → X N i → List Tok} {pages : Pages} {p q : Pen} {i j : ℕ} → i ≡ j → Writ toks pages p q i → (w : X (nodes_of pages) j) → Wrote pages p q (toks (nodes_of pages) j w)
writ_at {toks = toks} {pages} {p} {q} e s = (subst (λ z. Writ toks pages p q z) e s).told

-- all of a node but its first child
pub trailed : {C : Class} {N : List ℕ} {i : ℕ} {w : Whole C N i} {pages : Pages} {p q : Pen} {ts : List Tok} → Led w ts → Wrote pages p q ts → Trailed w pages p q
trailed {ts = ts} l s = record { same = s.same; tail = record { ts = ts; led = l; puts = s.puts } }
