-- What the two calls promise: for each lent input, the number and place of the answer and every lent number at exit, by what the grammar
-- derives and begins, the limits' words on trees, and the records of readings. One constructor a line of 01's table. Definitions only.
use Rattle.std.specs.Prelude.{true, List, [], ◌∷◌, ◌++◌, map, ◌≡◌, ℕ, ◌≤◌, ◌<◌, ◌*◌, T, length, drop}
use Rattle.theory.specs.Trees.{Tok, Tree}
use Rattle.theory.specs.Judged.{AllZero}
use Rattle.theory.specs.Outcome.{Cannot, Unfinished, Faulty}
use Rattle.kinds.specs.Fit.{fits}
use Rattle.grammar.specs.Classes.{Command, any}
use Rattle.grammar.specs.Grammar.{G, IsCommand}
use Rattle.grammar.specs.Sizes.{TOKENS, WIDTH}
use Rattle.grammar.specs.Limits.{Around, outer, under, judge, limits}
use Rattle.grammar.specs.Nodes.{Rec, records, laid}
use Rattle.grammar.specs.Reading.{reading}
use Rattle.grammar.specs.Writing.{writing}

-- "Two lent lists of u32 of equal length, kind and text number."
unfoldable pub tokens : List ℕ → List ℕ → List Tok
tokens [] ts = []
tokens (k ∷ ks) [] = []
tokens (k ∷ ks) (t ∷ ts) = record { kind = k; text = t } ∷ tokens ks ts

-- neither "list lengths differ" nor "input over 4,096"
pub record Lent (K T : List ℕ) : Type 0 where
  pub equal : length K ≡ length T
  pub short : length K ≤ TOKENS

-- no "kind 0 or over 71, or unfit text number of JOIN_KW, LIKE_KW"
abbrev pub Fit : Tok → Type 0
Fit t = fits t.kind t.text ≡ true

abbrev pub AllFit : List Tok → Type 0
AllFit [] = Unit {0}
AllFit (t ∷ ts) = Fit t × AllFit ts

-- "lowest such token"
pub record FirstUnfit (ts : List Tok) (p : ℕ) : Type 0 where
  pub before : List Tok
  pub it : Tok
  pub after : List Tok
  pub parted : ts ≡ before ++ (it ∷ after)
  pub place : p ≡ length before
  pub fit : AllFit before
  pub unfit : ¬ Fit it

-- "3 | token can't follow: the tokens before it begin some command of the grammar, with it they begin none"
abbrev pub CannotFollow : List Tok → ℕ → Type 0
CannotFollow = Cannot Around under judge G outer (any Command)

-- "4 | the list begins a command and isn't one"
abbrev pub NotFinished : List Tok → ℕ → Type 0
NotFinished = Unfinished Around under judge G outer (any Command)

-- "5 | a level-65 expression starts", "6 | a 17th query opens", "7 | join flags refused", "8 | row length differs from the first":
-- the first token on which the limits have a word, in a command that begins so
abbrev pub PassesLimit : List Tok → ℕ → ℕ → Type 0
PassesLimit = Faulty Around under judge G outer (any Command)

-- a command within the limits
pub record Accepted (K T : List ℕ) (x : Tree) : Type 0 where
  pub lent : Lent K T
  pub fit : AllFit (tokens K T)
  pub derived : IsCommand (tokens K T) x
  pub within : AllZero (limits x)

abbrev pub records_of : Tree → List Rec
records_of x = records (reading x)

-- "9 | node table holds fewer than four numbers a record": it has room
abbrev pub Room : List ℕ → Tree → Type 0
Room N x = WIDTH * length (records_of x) ≤ length N

-- ── the reader's call: kinds, texts, node table; number, place, the table at exit ──
module _ (K T N : List ℕ) where
  pub data Reads : ℕ → ℕ → List ℕ → Type 0 where
    -- "Acceptance is number 0; its place is the count of records": and the table holds that derivation's reading
    accepted : {m p : ℕ} {N' : List ℕ} (x : Tree) → Accepted K T x → Room N x
        → m ≡ 0 → p ≡ length (records_of x) → N' ≡ laid N (records_of x) → Reads m p N'
    -- "1 | list lengths differ .., or input over 4,096 | 0"
    refusal_1 : {m p : ℕ} {N' : List ℕ} → ¬ Lent K T → m ≡ 1 → p ≡ 0 → N' ≡ N → Reads m p N'
    -- "2 | kind 0 or over 71, or unfit text number of JOIN_KW, LIKE_KW | lowest such token"
    refusal_2 : {m p : ℕ} {N' : List ℕ} → Lent K T → FirstUnfit (tokens K T) p → m ≡ 2 → N' ≡ N → Reads m p N'
    -- "Order: 1, 2, then the smallest place of 3 to 8": each of these asks that there is no word before its place
    refusal_3 : {m p : ℕ} {N' : List ℕ} → Lent K T → AllFit (tokens K T) → CannotFollow (tokens K T) p → m ≡ 3 → N' ≡ N → Reads m p N'
    refusal_4 : {m p : ℕ} {N' : List ℕ} → Lent K T → AllFit (tokens K T) → NotFinished (tokens K T) p → m ≡ 4 → N' ≡ N → Reads m p N'
    refusal_5_to_8 : {m p : ℕ} {N' : List ℕ} → Lent K T → AllFit (tokens K T) → PassesLimit (tokens K T) m p → N' ≡ N → Reads m p N'
    -- "9 | node table holds fewer than four numbers a record | records needed"
    refusal_9 : {m p : ℕ} {N' : List ℕ} (x : Tree) → Accepted K T x → ¬ Room N x → m ≡ 9 → p ≡ length (records_of x) → N' ≡ N → Reads m p N'

-- ── the writer's call: kinds, texts, node table, output kinds and texts; number, place, and the three at exit ──
abbrev pub writing_of : Tree → List Tok
writing_of x = writing (reading x)

-- a list of numbers at the front of a lent one; "the writer's output beyond the writing, keep their numbers"
unfoldable pub put : List ℕ → List ℕ → List ℕ
put front L = front ++ drop (length front) L

abbrev pub kinds_of : List Tok → List ℕ
kinds_of ts = map (λ t. t.kind) ts

abbrev pub texts_of : List Tok → List ℕ
texts_of ts = map (λ t. t.text) ts

module _ (K T N A B : List ℕ) where
  pub data Writes : ℕ → ℕ → List ℕ → List ℕ → List ℕ → Type 0 where
    -- "Acceptance is number 0; its place is .. from the writer the count of tokens"; "The writer's call first reads its input into the node table."
    written : {m p : ℕ} {N' A' B' : List ℕ} (x : Tree) → length A ≡ length B → Accepted K T x → Room N x → length (writing_of x) ≤ length A
        → m ≡ 0 → p ≡ length (writing_of x) → N' ≡ laid N (records_of x) → A' ≡ put (kinds_of (writing_of x)) A → B' ≡ put (texts_of (writing_of x)) B → Writes m p N' A' B'
    -- "1 | list lengths differ (input, or the writer's output), or input over 4,096 | 0"
    refusal_1w : {m p : ℕ} {N' A' B' : List ℕ} → ¬ (Lent K T × (length A ≡ length B)) → m ≡ 1 → p ≡ 0 → N' ≡ N → A' ≡ A → B' ≡ B → Writes m p N' A' B'
    -- the reader's refusals 2 to 9; "All refusals leave every lent list as found"
    refusal_2_to_9 : {m p : ℕ} {N' A' B' : List ℕ} → length A ≡ length B → Lent K T → Reads K T N m p N' → 0 < m → A' ≡ A → B' ≡ B → Writes m p N' A' B'
    -- "10 | writer's output short | tokens needed"; "10 leaves the reading in the node table"
    refusal_10 : {m p : ℕ} {N' A' B' : List ℕ} (x : Tree) → length A ≡ length B → Accepted K T x → Room N x → length A < length (writing_of x)
        → m ≡ 10 → p ≡ length (writing_of x) → N' ≡ laid N (records_of x) → A' ≡ A → B' ≡ B → Writes m p N' A' B'
