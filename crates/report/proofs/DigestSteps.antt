-- A digest of a list is that of each number after the other.
-- Assumes nothing.
use Rattle.std.proofs.Common.{ℕ, List, [], ◌∷◌, ◌≡◌, refl, fold}
use Rattle.report.specs.Digests.{mixed_of, digest_of}

pub digest_folds : (d : ℕ) (nodes : List ℕ) → fold mixed_of d nodes ≡ digest_of d nodes
digest_folds d [] = refl
digest_folds d (n ∷ ns) = digest_folds (mixed_of d n) ns
