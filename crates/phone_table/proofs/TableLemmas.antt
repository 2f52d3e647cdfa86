-- The text for a table, put together from its header and what follows.
use Rattle.std.proofs.Common.{◌≡◌, inl, ℕ, ◌+◌, ◌-◌, Bool, List, [], ◌++◌, Option, Some, None, refl, sym, ap, ◌∙◌, append_assoc, subst, arith}
use Rattle.std.proofs.lemmas.List.{append-nil}
use Rattle.csv.specs.Machine.{next_record}
use Rattle.csv.specs.declared.parser.State.{State}
use Rattle.csv.specs.declared.parser.State.TheVariants as st
use Rattle.phone_device.specs.Passing.{Takes, TakesFront}
use Rattle.phone_device.proofs.PassingLemmas.{Passes-then}
use Rattle.phone_csv.specs.Feeds.{counted, line_feeds}
use Rattle.phone_csv.specs.Firsts.{begins_with_mark, first_in}
use Rattle.phone_csv.specs.Formats.{Record, format_after, state_behind, state_of}
use Rattle.phone_csv.specs.Quotes.{EndsInQuotes}
use Rattle.phone_csv.specs.Records.AreCut.{none as uncut}
use Rattle.phone_csv.specs.RecordReports.{IsReport, IsReportBefore, IsReportBeforeQuote, IsReportOnEnded, IsReportOnFirst, Writes}
use Rattle.phone_csv.specs.RecordReports as csv
use Rattle.phone_csv.specs.Runs.{OfRead, TakesA}
use Rattle.phone_csv.specs.declared.cutter.Start.{Start}
use Rattle.phone_csv.specs.declared.format.Format.{Format}
use Rattle.phone_csv.proofs.FeedLemmas.{line_feeds-append}
use Rattle.phone_csv.proofs.Progress.{IsReportBefore-counted, at_start, takes_then}
use Rattle.phone_table.specs.Ends.{by}
use Rattle.phone_table.specs.Tables.{IsBeginning, IsHeader, IsHeaderAlone, IsTable, head_text}

-- the line feeds of a header are those of all bytes but for those behind it
feeds_of_header : (hb rb : List ℕ) → line_feeds hb ≡ line_feeds (hb ++ rb) - line_feeds rb
feeds_of_header hb rb = omega (arith, line_feeds-append hb rb)

-- the line of a quote, the line feeds of a header counted too
line_from : (d : ℕ) (s : State) (earlier all line : ℕ) (rest : List ℕ) → earlier ≡ counted all → EndsInQuotes d s earlier line rest → EndsInQuotes d s all line rest
line_from d s earlier all line rest is (front, opened, told) = (front, opened, told ∙ ap (λ n. counted (n + line_feeds front + 1)) is ∙ once all (line_feeds front))
  where
    once : (m n : ℕ) → counted (counted m + n + 1) ≡ counted (m + n + 1)
    once m n = omega arith

module _ (d : ℕ) (header added : Record) (has_mark : Bool) where
  -- the text of the header that is written
  abbrev pub head : State → List ℕ
  head s = head_text (format_after d s) has_mark (header ++ added)

  -- the same by the bytes that were read
  marked : (s : State) (bytes body : List ℕ) → begins_with_mark bytes ≡ has_mark →
      head s ++ body ≡ head_text (format_after d s) (begins_with_mark bytes) (header ++ added) ++ body
  marked s bytes body e = ap (λ b. head_text (format_after d s) b (header ++ added) ++ body) (sym e)

  module _ (start : Start) (s0 s1 s2 w0 w1 w2 : Option (List ℕ)) (read : OfRead s0 s1 (λ bytes. IsHeader d header (Some start) has_mark bytes))
      (wrote : Takes w0 (head (state_of start.place)) w1) where
    -- a header, and what follows it
    pub table_whole : (is_body : Format → State → List ℕ → List ℕ → Type 0) →
        OfRead s1 s2 (λ bytes. TakesA (is_body (format_after d (state_of start.place)) (state_of start.place) bytes) w1 w2) →
        OfRead s0 s2 (λ bytes. TakesA (IsTable header added is_body d bytes) w0 w2)
    table_whole is_body (rb, rp, (body, on, took)) = (
      read.0 ++ rb,
      Passes-then s0 s1 s2 read.0 rb read.1 rp,
      (
        head (state_of start.place) ++ body,
        record {
          after = state_of start.place;
          rest = rb;
          body = body;
          begins = read.2.first rb;
          answered = on;
          whole = marked (state_of start.place) (read.0 ++ rb) body (read.2.marked rb);
        },
        takes_then w0 w1 w2 (head (state_of start.place)) body wrote took,
      ),
    )

    -- a header, and the records in front of one that is refused
    pub table_before : (writes : Format → Writes) (refuses : Record → Type 0) (feeds : ℕ) →
        OfRead s1 s2 (λ bytes. TakesA (IsReportBefore (writes (format_after d (state_of start.place))) refuses d (state_of start.place) start.feeds feeds s2 bytes) w1 w2) →
        OfRead s0 s2 (λ bytes. TakesA (IsTable header added (λ format state rest. IsReportBefore (writes format) refuses d state (line_feeds bytes - line_feeds rest) feeds s2 rest) d bytes) w0 w2)
    table_before writes refuses feeds (rb, rp, (body, on, took)) =
        let f = format_after d (state_of start.place) in (
          read.0 ++ rb,
          Passes-then s0 s1 s2 read.0 rb read.1 rp,
          (
            head (state_of start.place) ++ body,
            record {
              after = state_of start.place;
              rest = rb;
              body = body;
              begins = read.2.first rb;
              answered = subst (λ n. IsReportBefore (writes f) refuses d (state_of start.place) n feeds s2 rb body) (feeds_of_header read.0 rb)
                  (IsReportBefore-counted (writes f) refuses d (state_of start.place) start.feeds (line_feeds read.0) feeds s2 rb body read.2.line_feeds on);
              whole = marked (state_of start.place) (read.0 ++ rb) body (read.2.marked rb);
            },
            takes_then w0 w1 w2 (head (state_of start.place)) body wrote took,
          ),
        )

    -- a header, and the records in front of a quote that is never closed
    pub table_quote : (writes : Format → Writes) (line : ℕ) →
        OfRead s1 s2 (λ bytes. TakesA (IsReportBeforeQuote (writes (format_after d (state_of start.place))) d (state_of start.place) start.feeds line bytes) w1 w2) →
        OfRead s0 s2 (λ bytes. TakesA (IsTable header added
        (λ format state rest body. IsReportOnEnded (writes format) d state rest body × EndsInQuotes d state (line_feeds bytes - line_feeds rest) line rest) d bytes) w0 w2)
    table_quote writes line (rb, rp, (body, on, took)) = (
      read.0 ++ rb,
      Passes-then s0 s1 s2 read.0 rb read.1 rp,
      (
        head (state_of start.place) ++ body,
        record {
          after = state_of start.place;
          rest = rb;
          body = body;
          begins = read.2.first rb;
          answered = (
            on.0,
            subst (λ n. EndsInQuotes d (state_of start.place) n line rb) (feeds_of_header read.0 rb)
                (line_from d (state_of start.place) start.feeds (line_feeds read.0) line rb read.2.line_feeds (on.1 read.2.closed)),
          );
          whole = marked (state_of start.place) (read.0 ++ rb) body (read.2.marked rb);
        },
        takes_then w0 w1 w2 (head (state_of start.place)) body wrote took,
      ),
    )

    -- the same where a beginning of the report was taken
    pub table_begun : (writes : Format → Writes) →
        OfRead s1 s2 (λ bytes. TakesA (csv.IsBeginning (writes (format_after d (state_of start.place))) d (state_of start.place) s2 bytes) w1 w2) →
        OfRead s0 s2 (λ bytes. TakesA (IsBeginning writes header added d s2 bytes) w0 w2)
    table_begun writes (rb, rp, (text, (left, on), took)) = (
      read.0 ++ rb,
      Passes-then s0 s1 s2 read.0 rb read.1 rp,
      (
        head (state_of start.place) ++ text,
        (
          left,
          record {
            after = state_of start.place;
            rest = rb;
            body = text ++ left;
            begins = read.2.first rb;
            answered = on;
            whole = append_assoc (head (state_of start.place)) text left ∙ marked (state_of start.place) (read.0 ++ rb) (text ++ left) (read.2.marked rb);
          },
        ),
        takes_then w0 w1 w2 (head (state_of start.place)) text wrote took,
      ),
    )

  header_alone : (rest : Option Start) (bytes : List ℕ) → IsHeader d header rest has_mark bytes → first_in d bytes ≡ Some (header, state_behind rest, [])
  header_alone (Some start) bytes h = ap (first_in d) (sym (append-nil bytes)) ∙ h.first []
  header_alone None bytes h = h.first

  mark_alone : (rest : Option Start) (bytes : List ℕ) → IsHeader d header rest has_mark bytes → begins_with_mark bytes ≡ has_mark
  mark_alone (Some start) bytes h = ap begins_with_mark (sym (append-nil bytes)) ∙ h.marked []
  mark_alone None bytes h = h.marked

  nothing_answered : (writes : Writes) → writes [] [] → (s : State) → IsReportOnFirst writes d s [] []
  nothing_answered writes none s = ([], s, [], uncut s [], none)

  -- the header broken off
  pub header_begun : (writes : Format → Writes) → ((format : Format) → writes format [] []) → (rest : Option Start) (s0 s1 w0 w1 : Option (List ℕ)) →
      OfRead s0 s1 (λ bytes. IsHeader d header rest has_mark bytes) → TakesFront w0 (head (state_behind rest)) w1 →
      OfRead s0 s1 (λ bytes. TakesA (IsBeginning writes header added d s1 bytes) w0 w1)
  header_begun writes none rest s0 s1 w0 w1 (hb, hp, h) f = (
    hb,
    hp,
    (
      f.front,
      (
        f.rest,
        record {
          after = state_behind rest;
          rest = [];
          body = [];
          begins = header_alone rest hb h;
          answered = inl (nothing_answered (writes (format_after d (state_behind rest))) (none (format_after d (state_behind rest))) (state_behind rest));
          whole = sym f.whole ∙ sym (append-nil (head (state_behind rest))) ∙ marked (state_behind rest) hb [] (mark_alone rest hb h);
        },
      ),
      f.taken,
    ),
  )

  no_last : [] ≡ [] ++ csv.last_record d st.StartRecord []
  unfolding next_record
  no_last = refl

  -- the report where nothing follows
  pub no_records : (writes : Writes) (text : List ℕ) → writes [] text → IsReport writes d st.StartRecord [] text
  no_records writes text none = (
    [],
    ([], st.StartRecord, [], uncut st.StartRecord [], (st.StartRecord, [], [], at_start d st.StartRecord st.StartRecord [] [] refl refl refl, refl), no_last),
    none,
  )

  -- a header that nothing follows
  pub table_only : (writes : Format → Writes) → ((format : Format) → writes format [] []) → (s0 s1 w0 w1 : Option (List ℕ)) →
      OfRead s0 s1 (λ bytes. IsHeader d header None has_mark bytes) → Takes w0 (head st.StartRecord) w1 →
      OfRead s0 s1 (λ bytes. TakesA (IsTable header added (by IsReport writes) d bytes) w0 w1)
  table_only writes none s0 s1 w0 w1 (hb, hp, h) wrote = (
    hb,
    hp,
    (
      head st.StartRecord,
      record {
        after = st.StartRecord;
        rest = [];
        body = [];
        begins = h.first;
        answered = no_records (writes (format_after d st.StartRecord)) [] (none (format_after d st.StartRecord));
        whole = sym (append-nil (head st.StartRecord)) ∙ marked st.StartRecord hb [] h.marked;
      },
      wrote,
    ),
  )

  -- a header that was read, whether something follows it or not
  pub alone : (rest : Option Start) (s0 s1 : Option (List ℕ)) → OfRead s0 s1 (λ bytes. IsHeader d header rest has_mark bytes) → OfRead s0 s1 (IsHeaderAlone d header)
  alone rest s0 s1 (hb, hp, h) = (hb, hp, (state_behind rest, header_alone rest hb h))
