-- Numbers tell reasons apart, and none is 0, which is for acceptance. Assumes nothing.
use mathlib.Core.Path.{◌≡◌, refl, sym, ap, ◌∙◌}
use mathlib.Core.Bool.{cond}
use Prim.Native.Nat.{ℕ, ◌<◌}
use native.Mathlib.Omega.{arith}
use lib.Dec.{eqb}
use Rattle.reader.specs.Refusals.{number_of}
use Rattle.reader.specs.declared.refusal.Reason.{Reason}
use Rattle.reader.specs.declared.refusal.Reason.TheVariants as reason

abbrev reason_of : ℕ → Reason
reason_of n = cond (eqb n 1) reason.Lengths (cond (eqb n 2) reason.Unfit (cond (eqb n 3) reason.CannotFollow (cond (eqb n 4) reason.Unfinished (cond (eqb n 5) reason.TooDeep
    (cond (eqb n 6) reason.TooManyQueries (cond (eqb n 7) reason.JoinFlags (cond (eqb n 8) reason.RowLength (cond (eqb n 9) reason.TableShort reason.OutputShort))))))))

told : (w : Reason) → reason_of (number_of w) ≡ w
told reason.Lengths = refl
told reason.Unfit = refl
told reason.CannotFollow = refl
told reason.Unfinished = refl
told reason.TooDeep = refl
told reason.TooManyQueries = refl
told reason.JoinFlags = refl
told reason.RowLength = refl
told reason.TableShort = refl
told reason.OutputShort = refl

pub same_reason : (v w : Reason) → number_of v ≡ number_of w → v ≡ w
same_reason v w e = sym (told v) ∙ ap reason_of e ∙ told w

pub counted : (w : Reason) → 0 < number_of w
counted reason.Lengths = omega arith
counted reason.Unfit = omega arith
counted reason.CannotFollow = omega arith
counted reason.Unfinished = omega arith
counted reason.TooDeep = omega arith
counted reason.TooManyQueries = omega arith
counted reason.JoinFlags = omega arith
counted reason.RowLength = omega arith
counted reason.TableShort = omega arith
counted reason.OutputShort = omega arith
