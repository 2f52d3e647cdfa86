-- A run that ends so ends in what follows from that.
use Rattle.std.proofs.Common.{◌⊎◌, inl, inr, ℕ, ◌-◌, List, ◌++◌, Option, Result}
use Rattle.std.specs.Prelude.{⊤}
use Rattle.csv.specs.declared.parser.State.{State}
use Rattle.phone_device.specs.Passing.{IsAtEnd}
use Rattle.phone_csv.specs.Feeds.{line_feeds}
use Rattle.phone_csv.specs.Formats.{Record}
use Rattle.phone_csv.specs.Quotes.{EndsInQuotes}
use Rattle.phone_csv.specs.RecordReports.{IsReport, IsReportBefore, IsReportOnEnded, IsReportOnFirst, Writes}
use Rattle.phone_csv.specs.Runs.{OfRead, TakesA}
use Rattle.phone_csv.specs.declared.blocks.RunError.{RunError}
use Rattle.phone_csv.specs.declared.format.Format.{Format}
use Rattle.phone_lines.specs.Ends.{Devices}
use Rattle.phone_table.specs.Ends.{Ends, by}
use Rattle.phone_table.specs.Ends.Ends.{input_failed, no_memory, output_failed, quote_open, record_refused, whole}
use Rattle.phone_table.specs.Ends.NoMemory.{at_header, at_record}
use Rattle.phone_table.specs.Tables.{IsBeginning, IsTable}

-- what follows of a text that was read and one that was taken
read_weaker : (s t w v : Option (List ℕ)) (is is' : List ℕ → List ℕ → Type 0) → ((bytes text : List ℕ) → is bytes text → is' bytes text) →
    OfRead s t (λ bytes. TakesA (is bytes) w v) → OfRead s t (λ bytes. TakesA (is' bytes) w v)
read_weaker s t w v is is' on (bytes, read, (text, h, taken)) = (bytes, read, (text, on bytes text h, taken))

module _ (header added : Record) (d : ℕ) where
  abbrev Body : Type 1
  Body = Format → State → List ℕ → List ℕ → Type 0

  table_weaker : (body body' : Body) → ((format : Format) (state : State) (rest text : List ℕ) → body format state rest text → body' format state rest text) →
      (bytes text : List ℕ) → IsTable header added body d bytes text → IsTable header added body' d bytes text
  table_weaker body body' on bytes text t = record {
    after = t.after;
    rest = t.rest;
    body = t.body;
    begins = t.begins;
    answered = on _ t.after t.rest t.body t.answered;
    whole = t.whole;
  }

  module _ (writes writes' some some' : Format → Writes) (refuses refuses' : Record → Type 0)
      (on : (format : Format) (records : List Record) (text : List ℕ) → writes format records text → writes' format records text)
      (on_some : (format : Format) (records : List Record) (text : List ℕ) → some format records text → some' format records text)
      (on_refused : (format : Format) (records : List Record) (text : List ℕ) (fields : Record) → writes format records text → refuses fields → refuses' fields) where
    pub ends_weaker : (before after : Devices) (r : Result ⊤ RunError) → Ends header added writes some refuses d before after r → Ends header added writes' some' refuses' d before after r
    ends_weaker before after r (whole h) = whole (record {
      end = h.end;
      table = read_weaker _ _ _ _ _ _ (table_weaker (by IsReport writes) (by IsReport writes')
          (λ format state rest text (records, all, w). (records, all, on format records text w))) h.table;
      handed_on = h.handed_on;
      no_fault = h.no_fault;
    })
    ends_weaker before after r (input_failed h) = input_failed (record {
      cause = h.cause;
      table = read_weaker _ _ _ _ _ _ (table_weaker (by IsReportOnEnded writes) (by IsReportOnEnded writes')
          (λ format state rest text (records, at, left, cut, unended, w). (records, at, left, cut, unended, on format records text w))) h.table;
      handed_on = h.handed_on;
      no_sink_fault = h.no_sink_fault;
    })
    ends_weaker before after r (output_failed h) = output_failed (record {
      beginning = read_weaker _ _ _ _ (IsBeginning some header added d after.to_come) (IsBeginning some' header added d after.to_come) begun h.beginning;
      sink_fault = h.sink_fault;
    })
      where
        either : (format : Format) (state : State) (rest text : List ℕ) →
            IsReportOnFirst (some format) d state rest text ⊎ (IsAtEnd after.to_come × IsReport (some format) d state rest text) →
            IsReportOnFirst (some' format) d state rest text ⊎ (IsAtEnd after.to_come × IsReport (some' format) d state rest text)
        either format state rest text (inl (records, at, left, cut, w)) = inl (records, at, left, cut, on_some format records text w)
        either format state rest text (inr (end, (records, all, w))) = inr (end, (records, all, on_some format records text w))

        begun : (bytes text : List ℕ) → IsBeginning some header added d after.to_come bytes text → IsBeginning some' header added d after.to_come bytes text
        begun bytes text (left, t) = (left, table_weaker _ _ either bytes (text ++ left) t)
    ends_weaker before after r (record_refused feeds h) = record_refused feeds (record {
      table = read_weaker _ _ _ _
          (λ bytes text. IsTable header added (λ format state rest. IsReportBefore (writes format) refuses d state (line_feeds bytes - line_feeds rest) feeds after.to_come rest) d bytes text)
          (λ bytes text. IsTable header added (λ format state rest. IsReportBefore (writes' format) refuses' d state (line_feeds bytes - line_feeds rest) feeds after.to_come rest) d bytes text)
          (λ bytes. table_weaker _ _ (λ format state rest text (records, at, left, fields, cut, next, counts, refused, w).
          (records, at, left, fields, cut, next, counts, on_refused format records text fields w refused, on format records text w)) bytes) h.table;
      handed_on = h.handed_on;
      no_fault = h.no_fault;
    })
    ends_weaker before after r (quote_open line h) = quote_open line (record {
      end = h.end;
      table = read_weaker _ _ _ _
          (λ bytes text. IsTable header added (λ format state rest body. IsReportOnEnded (writes format) d state rest body × EndsInQuotes d state (line_feeds bytes - line_feeds rest) line rest) d bytes text)
          (λ bytes text. IsTable header added (λ format state rest body. IsReportOnEnded (writes' format) d state rest body × EndsInQuotes d state (line_feeds bytes - line_feeds rest) line rest) d bytes text)
          (λ bytes. table_weaker _ _ (λ format state rest text ((records, at, left, cut, unended, w), quoted).
          ((records, at, left, cut, unended, on format records text w), quoted)) bytes) h.table;
      handed_on = h.handed_on;
      no_fault = h.no_fault;
    })
    ends_weaker before after r (no_memory (at_header read untouched same)) = no_memory (at_header read untouched same)
    ends_weaker before after r (no_memory (at_record table handed no_fault)) = no_memory (at_record
        (read_weaker _ _ _ _ _ _ (table_weaker (by IsReportOnFirst some) (by IsReportOnFirst some')
        (λ format state rest text (records, at, left, cut, w). (records, at, left, cut, on_some format records text w))) table) handed no_fault)
