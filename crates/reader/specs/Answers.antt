-- 01's number and place of an answer. "Acceptance is number 0; its place is the count of records".
use Rattle.std.specs.Prelude.{List, ℕ, ◌+◌, ◌*◌, ◌≤◌, ◌<◌, length, Result, Ok, Err}
use Rattle.reader.specs.Refusals.{number_of}
use Rattle.reader.specs.declared.refusal.Refusal.{Refusal}

abbrev pub Answer : Type 0
Answer = Result ℕ Refusal

abbrev pub number : Answer → ℕ
number (Ok n) = 0
number (Err r) = number_of r.why

abbrev pub place : Answer → ℕ
place (Ok n) = n
place (Err r) = r.place

-- a place is small by the tokens' count: at most eight records for each token, and eight; so what a table must hold is known beforehand
abbrev pub Few : List ℕ → ℕ → Type 0
Few K p = p ≤ 8 * (length K + 1)

-- an answer is Ok exactly when its number is 0
abbrev pub Plain : Answer → Type 0
Plain (Ok n) = Unit {0}
Plain (Err r) = 0 < number_of r.why
