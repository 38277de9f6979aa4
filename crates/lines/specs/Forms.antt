-- Lines of commands, and what one byte more makes of them. Two forms:
--
--     kind[.text] kind[.text] ...
--     table=N outk=N outt=N kinds: K K .. texts: T T ..
use Rattle.std.specs.Prelude.{ℕ, ◌+◌, ◌%◌, ◌^◌, Bool, true, false, if◌then◌else◌, not, ◌&&◌, ◌||◌, Option, Some, None, List, length, ◌==◌, nat_le, nat_lt, slice_get}
use Rattle.lines.specs.declared.Line.{Line}
use Rattle.lines.specs.declared.state.State.{State}
use Rattle.lines.specs.declared.state.State.TheVariants.{Wrong, Start, Gap, Kind, Dot, Text, Equals, Size, Colon, Between, Item}
use Rattle.lines.specs.Numbers.{digit_of, with_digit, last_set, U32_MAX}
use Rattle.lines.specs.Bytes.{bytes_of, BLANK_BYTE, DOT_BYTE}
use Rattle.lines.specs.States.{is_wrong_state, is_size, after_blank, after_dot, after_letter, before_letter}

-- the most tokens of a line, and the longest output and node table that it may ask for
abbrev pub TOKENS : ℕ
TOKENS = 8192

abbrev pub OUTPUT : ℕ
OUTPUT = 8192

abbrev pub TABLE : ℕ
TABLE = 65536

-- the words of the second form, and how many of their bytes are behind after each
abbrev pub WORDS : List ℕ
WORDS = bytes_of "table=outk=outt=kinds:texts:"

abbrev pub AFTER_TABLE : ℕ
AFTER_TABLE = length (bytes_of "table=")

abbrev pub AFTER_OUTK : ℕ
AFTER_OUTK = length (bytes_of "table=outk=")

abbrev pub AFTER_OUTT : ℕ
AFTER_OUTT = length (bytes_of "table=outk=outt=")

abbrev pub AFTER_KINDS : ℕ
AFTER_KINDS = length (bytes_of "table=outk=outt=kinds:")

abbrev pub AFTER_TEXTS : ℕ
AFTER_TEXTS = length WORDS

-- ── what a line is ──
abbrev pub no_line : Line
no_line =
    record { state = Start; spelled = 0; number = 0; column = 0; kinds = 0; texts = 0; table = 0; out_kinds = 0; out_texts = 0 }

abbrev pub is_wrong : Line → Bool
is_wrong l = is_wrong_state l.state

-- it has the second form
abbrev pub is_room : Line → Bool
is_room l = nat_lt 0 l.spelled

-- a size that the second form asks for; the first has the largest
abbrev pub size_of : Line → ℕ → ℕ → ℕ
size_of l asked most = if is_room l then asked else most

-- the sizes of the node table and of the writer's output that it asks for
abbrev pub table_of : Line → ℕ
table_of l = size_of l l.table TABLE

abbrev pub out_kinds_of : Line → ℕ
out_kinds_of l = size_of l l.out_kinds OUTPUT

abbrev pub out_texts_of : Line → ℕ
out_texts_of l = size_of l l.out_texts OUTPUT

-- what was taken is a line of one of the forms: the second ends in its last list
abbrev pub may_end_in : State → ℕ → Bool
may_end_in Start spelled = true
may_end_in Gap spelled = true
may_end_in Kind spelled = true
may_end_in Text spelled = true
may_end_in Colon spelled = spelled == AFTER_TEXTS
may_end_in Between spelled = spelled == AFTER_TEXTS
may_end_in Item spelled = spelled == AFTER_TEXTS
may_end_in s spelled = false

abbrev pub may_end : Line → Bool
may_end l = may_end_in l.state l.spelled

-- ── what a byte changes ──
abbrev pub at_state : State → Line → Line
at_state s l = record l { state = s }

abbrev pub wrong_line : Line → Line
wrong_line l = at_state Wrong l

-- one byte more is behind
abbrev pub counted : Line → Line
counted l = record l { column = (l.column + 1) % 2 ^ 64 }

-- the number that a line is in, in state s, is one of the kinds: of a token, or of the list after `kinds:`
abbrev pub of_kinds : State → ℕ → Bool
of_kinds Kind spelled = true
of_kinds Item spelled = spelled == AFTER_KINDS
of_kinds s spelled = false

-- .. one of the list after `texts:`
abbrev pub of_texts : State → ℕ → Bool
of_texts Item spelled = not (spelled == AFTER_KINDS)
of_texts s spelled = false

-- how many kinds and text numbers it is, when it begins: a token has one of each
abbrev pub new_kinds : State → ℕ → ℕ
new_kinds s spelled = if of_kinds s spelled then 1 else 0

abbrev pub new_texts : State → ℕ → ℕ
new_texts Kind spelled = 1
new_texts s spelled = if of_texts s spelled then 1 else 0

-- a number begins, in state s
abbrev pub in_number : State → Line → Line
in_number s l =
    record l {
      state = s;
      number = 0;
      kinds = l.kinds + new_kinds s l.spelled;
      texts = l.texts + new_texts s l.spelled;
    }

-- .. where its lists have room for it
abbrev pub has_room : State → Line → Bool
has_room s l = nat_le (l.kinds + new_kinds s l.spelled) TOKENS && nat_le (l.texts + new_texts s l.spelled) TOKENS

abbrev pub entered : State → Line → Line
entered s l = if has_room s l then in_number s l else wrong_line l

-- the largest that the number may be that the line is in
abbrev pub most : Line → ℕ
most l = if is_size l.state then (if l.spelled == AFTER_TABLE then TABLE else OUTPUT) else U32_MAX

-- the number that the line is in is the size that this word asks for
abbrev pub sizes : ℕ → Line → Bool
sizes word l = is_size l.state && l.spelled == word

-- it is n now
abbrev pub numbered : ℕ → Line → Line
numbered n l =
    record l {
      number = n;
      table = if sizes AFTER_TABLE l then n else l.table;
      out_kinds = if sizes AFTER_OUTK l then n else l.out_kinds;
      out_texts = if sizes AFTER_OUTT l then n else l.out_texts;
    }

abbrev pub longer : Option ℕ → Line → Line
longer (Some n) l = numbered n l
longer None l = wrong_line l

abbrev pub grown : Line → ℕ → Line
grown l d = if is_wrong l then l else longer (with_digit l.number d (most l)) l

-- a byte of a word is behind, in state s
abbrev pub spelt : State → Line → Line
spelt s l = record l { state = s; spelled = l.spelled + 1 }

-- the byte is the next of the words
abbrev pub is_that : Option ℕ → ℕ → Bool
is_that (Some c) b = c == b
is_that None b = false

abbrev pub is_next : Line → ℕ → Bool
is_next l b = is_that (slice_get WORDS l.spelled) b

-- ── what each byte does: a blank, a dot, a digit, a letter ──
abbrev pub on_blank : Line → Line
on_blank l = at_state (after_blank l.state) l

abbrev pub on_dot : Line → Line
on_dot l = at_state (after_dot l.state) l

-- a digit begins a number, or stands in the one that the line is in; elsewhere it is wrong
abbrev pub begun_in : State → Line → Line
begun_in Start l = entered Kind l
begun_in Gap l = entered Kind l
begun_in Dot l = entered Text l
begun_in Equals l = entered Size l
begun_in Between l = entered Item l
begun_in Kind l = l
begun_in Text l = l
begun_in Size l = l
begun_in Item l = l
begun_in s l = wrong_line l

abbrev pub on_digit : Line → ℕ → Line
on_digit l d = grown (begun_in l.state l) d

abbrev pub spelt_by : Line → ℕ → Line
spelt_by l b = if is_next l b then spelt (after_letter b) l else wrong_line l

abbrev pub on_letter : Line → ℕ → Line
on_letter l b = if before_letter l.state then spelt_by l b else wrong_line l

abbrev pub on_other : Option ℕ → Line → ℕ → Line
on_other (Some d) l b = on_digit l d
on_other None l b = on_letter l b

abbrev pub on_byte : Line → ℕ → Line
on_byte l b =
    if b == BLANK_BYTE then on_blank l
    else (if b == DOT_BYTE then on_dot l
    else on_other (digit_of b) l b)

-- the line with a byte more; one that is wrong stays as it is
abbrev pub line_with : Line → ℕ → Line
line_with l b = if is_wrong l then l else on_byte (counted l) b

-- the line at its end: wrong, just after its last byte, where it is cut short
abbrev pub ended_line : Line → Line
ended_line l = if is_wrong l || may_end l then l else wrong_line (counted l)

-- ── the lists: the number that the line is in is the last of its list; a token's text number is 0 until it comes ──
abbrev pub kinds_with : Line → List ℕ → List ℕ
kinds_with l ks = if of_kinds l.state l.spelled then last_set ks l.kinds l.number else ks

abbrev pub texts_in : State → Line → List ℕ → List ℕ
texts_in Kind l ts = last_set ts l.texts 0
texts_in Text l ts = last_set ts l.texts l.number
texts_in s l ts = if of_texts s l.spelled then last_set ts l.texts l.number else ts

abbrev pub texts_with : Line → List ℕ → List ℕ
texts_with l ts = texts_in l.state l ts
