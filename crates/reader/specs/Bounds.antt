-- The bounds that the reader keeps: what each function needs of its caller, and what its answer is within.
-- They say nothing of what is read, only that no sum wraps, no index is past its list, and the reading ends.
use Rattle.std.specs.Prelude.{◌≡◌, List, ℕ, ◌+◌, ◌-◌, ◌*◌, ◌≤◌, ◌<◌, length, get_or}
use Rattle.reader.specs.Asked.{queries_in, strength_in}
use Rattle.reader.specs.declared.ask.Ask.{Ask}
use Rattle.reader.specs.declared.lists.Lists.{Lists}
use Rattle.reader.specs.declared.refusal.Reason.{Reason}
use Rattle.reader.specs.declared.Step.{Step}
use Rattle.reader.specs.declared.Step.TheVariants as step

-- of what the reader is lent
abbrev pub kinds_of : Lists → List ℕ
kinds_of lists = lists.kinds.now

abbrev pub texts_of : Lists → List ℕ
texts_of lists = lists.texts.now

-- how many tokens there are
abbrev pub tokens : Lists → ℕ
tokens lists = length (kinds_of lists)

-- of what is asked
abbrev pub queries_of : Ask → ℕ
queries_of ask = queries_in ask.code

abbrev pub strength_asked : Ask → ℕ
strength_asked ask = strength_in ask.code

-- the levels are fewer than 01's, so an expression may begin
abbrev pub Shallow : Ask → Type 0
Shallow ask = ask.code < 65 * 512

-- what a reader needs of its caller at a place, with so many records made: it is within the list, and there is room for the records
-- that the reader may make of absent parts, with no token read
pub record Ready (slack : ℕ) (lists : Lists) (at made : ℕ) : Type 0 where
  pub inside : at ≤ tokens lists
  pub room : made + slack ≤ 8 * (at + 1)

-- the kind at a place: 0 past the end of the list, so that another one stands within
pub record Seen (lists : Lists) (at kind : ℕ) : Type 0 where
  pub is : kind ≡ get_or (kinds_of lists) at 0
  pub there : kind ≤ 4294967295 * (tokens lists - at)

-- where a part ends that began at a place with so many records made: at least so many tokens on, within the list, with at most
-- eight records more for a token and those of absent parts
pub record Ends (reads slack : ℕ) (lists : Lists) (at made made' said count at' : ℕ) : Type 0 where
  pub on : at + reads ≤ at'
  pub inside : at' ≤ tokens lists
  pub more : made ≤ made'
  pub room : made' + 8 * at ≤ made + 8 * at' + slack
  pub counted : count ≤ at'
  pub small : said ≤ 127

abbrev pub WithinAt : ℕ → ℕ → Lists → ℕ → ℕ → ℕ → Step → Type 0
WithinAt reads slack lists at made made' (step.Got said count at') = Ends reads slack lists at made made' said count at'
WithinAt reads slack lists at made made' (step.Refused n p) = p ≤ tokens lists

-- what an answer is within: a part that ends so, or a refusal within the list
pub record Within (reads slack : ℕ) (lists : Lists) (at made made' : ℕ) (r : Step) : Type 0 where
  pub holds : WithinAt reads slack lists at made made' r

-- a refusal at a place
pub record Refuses (at : ℕ) (r : Step) : Type 0 where
  pub why : Reason
  pub is : r ≡ step.Refused why at

-- what is read is one token
abbrev pub OneOnAt : ℕ → Step → Type 0
OneOnAt at (step.Got said count at') = at' ≡ at + 1
OneOnAt at (step.Refused n p) = Unit {0}

pub record OneOn (at : ℕ) (r : Step) : Type 0 where
  pub holds : OneOnAt at r

-- what is read is a query, and there was room for one more
abbrev pub OpensAt : Ask → Step → Type 0
OpensAt ask (step.Got said count at') = queries_of ask < 16
OpensAt ask (step.Refused n p) = Unit {0}

pub record Opens (ask : Ask) (r : Step) : Type 0 where
  pub holds : OpensAt ask r

-- NULL before `next` and a record more, or a refusal there
abbrev pub NullBeforeAt : ℕ → ℕ → ℕ → ℕ → Step → Type 0
NullBeforeAt next made made' word (step.Got said count at') = (word ≡ 11) × (at' ≡ next) × (made' ≡ made + 1) × (count ≡ 0) × (said ≡ 12)
NullBeforeAt next made made' word (step.Refused n p) = p ≡ next - 1

pub record NullBefore (next made made' word : ℕ) (r : Step) : Type 0 where
  pub holds : NullBeforeAt next made made' word r

abbrev pub got_of : ℕ → ℕ → ℕ → Step
got_of said count at = step.Got said count at

abbrev pub refusal_of : Reason → ℕ → Step
refusal_of why at = step.Refused why at

-- the measure of the readers, which call one another: tokens left, then the rank of the reader
abbrev pub rank : ℕ → Lists → ℕ → ℕ
rank k lists at = (tokens lists - at) * 64 + k
