-- How far a run over records is, and how it ends.
use Rattle.std.specs.Prelude.{◌≡◌, ◌≢◌, ◌⊎◌, ℕ, ◌-◌, ◌^◌, Bool, List, [], ◌∷◌, ◌++◌, Option}
use Rattle.std.specs.Prelude.{true, false}
use Rattle.csv.specs.Machine.{Feeds, ends_at_end}
use Rattle.csv.specs.Records.{fields_of}
use Rattle.csv.specs.Writing.{escaped}
use Rattle.csv.specs.declared.parser.State.{State}
use Rattle.csv.specs.declared.parser.State.TheVariants as st
use Rattle.phone_device.specs.Passing.{Passes, Takes, TakesFront}
use Rattle.phone_csv.specs.Feeds.{counted, feeds_before, line_feeds, past_line_ends}
use Rattle.phone_csv.specs.Formats.{Record, reading, state_of, writing}
use Rattle.phone_csv.specs.Quotes.{IsBeforeField}
use Rattle.phone_csv.specs.Records.{AreCut, in_quotes}
use Rattle.phone_csv.specs.RecordReports.{IsReportOnFirst, Writes}
use Rattle.phone_csv.specs.declared.cutter.Cutter.{Cutter}

-- a record that isn't ended yet counts the line feeds of bytes, and, once it has begun, those in
-- front of it; until then the rest of the bytes are line ends
pub record Counts (cutter : Cutter) (state : State) (bytes rest : List ℕ) : Type 0 where
  pub feeds : cutter.feeds ≡ counted (line_feeds bytes)
  pub before : ends_at_end (state_of cutter.place) ≡ true →
      cutter.feeds_before ≡ counted (feeds_before state bytes rest)
  pub begun : ends_at_end (state_of cutter.place) ≡ true →
      (ends_at_end state ≡ true) ⊎ (past_line_ends rest ≢ [])
  pub closed : ends_at_end (state_of cutter.place) ≡ false → ends_at_end state ≡ false
  pub blank : ends_at_end (state_of cutter.place) ≡ false → past_line_ends rest ≡ []

-- behind a front of the bytes a quote opened a field, in front of which so many line feeds stand;
-- what follows are the field's bytes, each quote twice, and these last ones
pub record Opened (delimiter : ℕ) (start : State) (bytes last : List ℕ) (feeds : ℕ) : Type 0 where
  pub front : List ℕ
  pub field : List ℕ
  pub before : IsBeforeField delimiter start front
  pub whole : bytes ≡ front ++ 34 ∷ (escaped (writing delimiter) field ++ last)
  pub feeds_before : feeds ≡ counted (line_feeds front)

-- in this state a quote stands behind a field's bytes that may close it
abbrev pub after_quote : State → Bool
after_quote st.AfterQuote = true
after_quote other = false

-- a record that isn't ended yet counts the line feeds in front of the quote of its field
pub record Quotes (cutter : Cutter) (start : State) (bytes : List ℕ) : Type 0 where
  pub within : in_quotes (state_of cutter.place) ≡ true →
      Opened cutter.format.delimiter start bytes [] cutter.feeds_to_quote
  pub behind : after_quote (state_of cutter.place) ≡ true →
      Opened cutter.format.delimiter start bytes (34 ∷ []) cutter.feeds_to_quote

-- so far these bytes were read, of which the last record isn't ended yet, and these answers given
-- to the other ones
pub record IsSoFar (writes : List Record → List ℕ → Type 0) (start : State) (bytes : List ℕ)
    (cutter : Cutter) (answers : List ℕ) : Type 0 where
  pub records : List Record
  pub state : State
  pub rest : List ℕ
  pub cut : AreCut cutter.format.delimiter start bytes records state rest
  pub fed : Feeds (reading cutter.format.delimiter) state [] [] rest
      (state_of cutter.place) (fields_of cutter.fields) cutter.field.items false
  pub counts : Counts cutter state bytes rest
  pub quotes : ends_at_end start ≡ false → Quotes cutter start bytes
  pub answered : writes records answers

-- of such answers these are held back, and the others were taken by the sink
pub record Stands (writes : List Record → List ℕ → Type 0) (start : State) (bytes : List ℕ)
    (cutter : Cutter) (held : List ℕ) (before after : Option (List ℕ)) : Type 0 where
  pub written : List ℕ
  pub taken : Takes before written after
  pub so_far : IsSoFar writes start bytes cutter (written ++ held)

-- what is written for records, and then this for one more with these fields
abbrev pub Adds : (before after : Writes) → Record → List ℕ → Type 0
Adds before after fields added = (records : List Record) (text : List ℕ) → before records text →
    after (records ++ fields ∷ []) (text ++ added)

-- a sink took a beginning of the answers to some first records
abbrev pub BreaksOff : Writes → ℕ → State → List ℕ → Option (List ℕ) → Option (List ℕ) → Type 0
BreaksOff writes delimiter start bytes before after = (answers : List ℕ) ×
    IsReportOnFirst writes delimiter start bytes answers × TakesFront before answers after

-- this holds of the bytes that a source gave
abbrev pub OfRead : Option (List ℕ) → Option (List ℕ) → (List ℕ → Type 0) → Type 0
OfRead before after holds = (bytes : List ℕ) × Passes before bytes after × holds bytes

-- a sink took a text of which this holds
abbrev pub TakesA : (List ℕ → Type 0) → Option (List ℕ) → Option (List ℕ) → Type 0
TakesA is_text before after = (text : List ℕ) × is_text text × Takes before text after

-- as many bytes as a run reads at most
abbrev pub most_bytes : ℕ
most_bytes = 2 ^ 64 - 1

-- nothing is held yet, and nothing was read
abbrev pub IsFresh : Writes → State → Cutter → List ℕ → Option (List ℕ) → Type 0
IsFresh writes start cutter held taken = Stands writes start [] cutter held taken taken
