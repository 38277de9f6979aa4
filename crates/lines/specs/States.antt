-- Where a line stands, and where a byte takes it from there.
use Rattle.std.specs.Prelude.{ℕ, Bool, true, false, if◌then◌else◌, ◌==◌}
use Rattle.lines.specs.Bytes.{EQUALS_BYTE, COLON_BYTE}
use Rattle.lines.specs.declared.state.State.{State}
use Rattle.lines.specs.declared.state.State.TheVariants.{Wrong, Start, Gap, Kind, Dot, Text, Word, Equals, Size, Space, Colon, Between, Item}

-- a byte did not fit
abbrev pub is_wrong_state : State → Bool
is_wrong_state Wrong = true
is_wrong_state s = false

-- in the number after `=`
abbrev pub is_size : State → Bool
is_size Size = true
is_size s = false

-- a blank ends a number; it may stand before, between and after numbers and words
abbrev pub after_blank : State → State
after_blank Start = Start
after_blank Gap = Gap
after_blank Kind = Gap
after_blank Text = Gap
after_blank Space = Space
after_blank Size = Space
after_blank Between = Between
after_blank Colon = Between
after_blank Item = Between
after_blank s = Wrong

-- a dot stands between a kind and its text number
abbrev pub after_dot : State → State
after_dot Kind = Dot
after_dot s = Wrong

-- a word begins a line, or follows a size or a list
abbrev pub before_letter : State → Bool
before_letter Start = true
before_letter Word = true
before_letter Space = true
before_letter Between = true
before_letter s = false

-- a byte of a word; `=` and `:` end it
abbrev pub after_letter : ℕ → State
after_letter b = if b == EQUALS_BYTE then Equals else (if b == COLON_BYTE then Colon else Word)
