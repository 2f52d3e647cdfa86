-- How a run over the rows of a table ends, by how that over its records does.
use Rattle.std.proofs.Common.{Bool, ◌≡◌, ◌≢◌, ◌⊎◌, inl, inr, ℕ, ◌+◌, List, [], ◌++◌, Option, None, Some, Result, Ok, Err, OnOk, length, length-append, refl, sym, arith}
use Rattle.std.specs.Prelude.{⊤}
use Rattle.std.proofs.lemmas.List.{append-nil}
use Rattle.phone_device.specs.Passing.{IsAtEnd, Takes, TakesFront}
use Rattle.phone_device.proofs.PassingLemmas.{Passes-then}
use Rattle.phone_csv.specs.Faults.{sink_faults_of}
use Rattle.phone_csv.specs.Formats.{Record, format_after, state_behind, state_of}
use Rattle.phone_csv.specs.RecordReports.{IsReport, IsReportBefore, IsReportBeforeQuote, IsReportOnEnded, IsReportOnFirst, Writes}
use Rattle.phone_csv.specs.RecordReports as csv
use Rattle.phone_csv.specs.Runs.{OfRead, TakesA, most_bytes}
use Rattle.phone_csv.specs.declared.blocks.RunError.{RunError}
use Rattle.phone_csv.specs.declared.blocks.RunError.TheVariants as error
use Rattle.phone_csv.specs.declared.cutter.Start.{Start}
use Rattle.phone_lines.specs.Ends.{seen}
use Rattle.csv.specs.declared.parser.State.TheVariants as st
use Rattle.phone_csv.specs.declared.format.Format.{Format}
use Rattle.phone_table.specs.Ends.{Ends, SourceFails, by}
use Rattle.phone_table.specs.Ends.Ends.{input_failed, no_memory, output_failed, quote_open, record_refused, whole}
use Rattle.phone_table.specs.Ends.NoMemory.{at_header, at_record}
use Rattle.phone_table.specs.Tables.{IsHeader}
use Rattle.phone_table.proofs.TableLemmas.{alone, head, header_begun, table_before, table_begun, table_only, table_quote, table_whole}

module _ (header added : Record) (writes some : Format → Writes) (some_nothing : (format : Format) → some format [] []) (refuses : Record → Type 0) (d : ℕ) (has_mark : Bool) (s0 s1 w0 w1 : Option (List ℕ)) (f0 k0 k1 u0 : ℕ) where
  -- the records behind a header were read and answered
  pub rows_end : (start : Start) (s2 w2 : Option (List ℕ)) (f2 k2 u2 : ℕ) (r : Result ⊤ RunError) →
      OfRead s0 s1 (λ bytes. IsHeader d header (Some start) has_mark bytes) → Takes w0 (head d header added has_mark (state_of start.place)) w1 → k1 ≡ k0 →
      OnOk r (IsAtEnd s2) → OnOk r (OfRead s1 s2 (λ bytes. TakesA (IsReport (writes (format_after d (state_of start.place))) d (state_of start.place) bytes) w1 w2)) → OnOk r (f2 ≡ f0) →
      (r ≡ Err error.Input → OfRead s1 s2 (λ bytes. TakesA (IsReportOnEnded (writes (format_after d (state_of start.place))) d (state_of start.place) bytes) w1 w2)) →
      (r ≡ Err error.Input → (f2 ≡ f0 + 1) ⊎ OfRead s1 s2 (λ bytes. length bytes ≡ most_bytes)) →
      (r ≡ Err error.Output → OfRead s1 s2 (λ bytes. TakesA (csv.IsBeginning (some (format_after d (state_of start.place))) d (state_of start.place) s2 bytes) w1 w2)) →
      ((feeds : ℕ) → r ≡ Err (error.Record feeds) →
      OfRead s1 s2 (λ bytes. TakesA (IsReportBefore (writes (format_after d (state_of start.place))) refuses d (state_of start.place) start.feeds feeds s2 bytes) w1 w2)) →
      ((line : ℕ) → r ≡ Err (error.Quote line) →
      OfRead s1 s2 (λ bytes. TakesA (IsReportBeforeQuote (writes (format_after d (state_of start.place))) d (state_of start.place) start.feeds line bytes) w1 w2)) →
      ((line : ℕ) → r ≡ Err (error.Quote line) → IsAtEnd s2) → ((line : ℕ) → r ≡ Err (error.Quote line) → f2 ≡ f0) →
      (r ≡ Err error.Memory → OfRead s1 s2 (λ bytes. TakesA (IsReportOnFirst (some (format_after d (state_of start.place))) d (state_of start.place) bytes) w1 w2)) →
      ((feeds : ℕ) → r ≡ Err (error.Record feeds) → f2 ≡ f0) → (r ≡ Err error.Memory → f2 ≡ f0) → k2 ≡ k1 + sink_faults_of r →
      (r ≢ Err error.Output → u2 ≡ 0) →
      Ends header added writes some refuses d (seen s0 f0 w0 k0 u0) (seen s2 f2 w2 k2 u2) r
  rows_end start s2 w2 f2 k2 u2 (Ok tt) h t same end report no_fault ended cause beginning refused quoted quote_end quote_same first at_record_same at_memory faults handed = whole (record {
    end = end;
    table = table_whole d header added has_mark start s0 s1 s2 w0 w1 w2 h t (by IsReport writes) report;
    handed_on = handed (λ e. cc e);
    no_fault = record { source = no_fault; sink = omega (arith, faults, same) };
  })
  rows_end start s2 w2 f2 k2 u2 (Err error.Input) h t same end report no_fault ended cause beginning refused quoted quote_end quote_same first at_record_same at_memory faults handed = input_failed (record {
    cause = caused (cause refl);
    table = table_whole d header added has_mark start s0 s1 s2 w0 w1 w2 h t (by IsReportOnEnded writes) (ended refl);
    handed_on = handed (λ e. cc e);
    no_sink_fault = omega (arith, faults, same);
  })
    where
      caused : (f2 ≡ f0 + 1) ⊎ OfRead s1 s2 (λ bytes. length bytes ≡ most_bytes) → SourceFails (seen s0 f0 w0 k0 u0) (seen s2 f2 w2 k2 u2)
      caused (inl f) = inl f
      caused (inr m) = inr (h.0 ++ m.0, Passes-then s0 s1 s2 h.0 m.0 h.1 m.1, omega (arith, length-append h.0 m.0, m.2))
  rows_end start s2 w2 f2 k2 u2 (Err error.Output) h t same end report no_fault ended cause beginning refused quoted quote_end quote_same first at_record_same at_memory faults handed = output_failed (record {
    beginning = table_begun d header added has_mark start s0 s1 s2 w0 w1 w2 h t some (beginning refl);
    sink_fault = omega (arith, faults, same);
  })
  rows_end start s2 w2 f2 k2 u2 (Err (error.Record feeds)) h t same end report no_fault ended cause beginning refused quoted quote_end quote_same first at_record_same at_memory faults handed =
      record_refused feeds (record {
        table = table_before d header added has_mark start s0 s1 s2 w0 w1 w2 h t writes refuses feeds (refused feeds refl);
        handed_on = handed (λ e. cc e);
        no_fault = record { source = at_record_same feeds refl; sink = omega (arith, faults, same) };
      })
  rows_end start s2 w2 f2 k2 u2 (Err (error.Quote line)) h t same end report no_fault ended cause beginning refused quoted quote_end quote_same first at_record_same at_memory faults handed =
      quote_open line (record {
        end = quote_end line refl;
        table = table_quote d header added has_mark start s0 s1 s2 w0 w1 w2 h t writes line (quoted line refl);
        handed_on = handed (λ e. cc e);
        no_fault = record { source = quote_same line refl; sink = omega (arith, faults, same) };
      })
  rows_end start s2 w2 f2 k2 u2 (Err error.Memory) h t same end report no_fault ended cause beginning refused quoted quote_end quote_same first at_record_same at_memory faults handed =
      no_memory (at_record (table_whole d header added has_mark start s0 s1 s2 w0 w1 w2 h t (by IsReportOnFirst some) (first refl)) (handed (λ e. cc e))
      (record { source = at_memory refl; sink = omega (arith, faults, same) }))

  -- the header was broken off
  pub header_ends : (u1 : ℕ) (rest : Option Start) → OfRead s0 s1 (λ bytes. IsHeader d header rest has_mark bytes) → TakesFront w0 (head d header added has_mark (state_behind rest)) w1 →
      k1 ≡ k0 + 1 → Ends header added writes some refuses d (seen s0 f0 w0 k0 u0) (seen s1 f0 w1 k1 u1) (Err error.Output)
  header_ends u1 rest h t fault = output_failed (record { beginning = header_begun d header added has_mark some some_nothing rest s0 s1 w0 w1 h t; sink_fault = fault })

  -- there was no memory for it
  pub header_refused : (u1 : ℕ) (rest : Option Start) → OfRead s0 s1 (λ bytes. IsHeader d header rest has_mark bytes) → w1 ≡ w0 → u1 ≡ u0 → k1 ≡ k0 →
      Ends header added writes some refuses d (seen s0 f0 w0 k0 u0) (seen s1 f0 w1 k1 u1) (Err error.Memory)
  header_refused u1 rest h taken held same = no_memory (at_header (alone d header added has_mark rest s0 s1 h) (record { taken = taken; unflushed = held; sink = same }) refl)

  -- the header is all that was read
  pub only_ends : ((format : Format) → writes format [] []) → (u1 : ℕ) → OfRead s0 s1 (λ bytes. IsHeader d header None has_mark bytes) → IsAtEnd s1 → Takes w0 (head d header added has_mark st.StartRecord) w1 →
      k1 ≡ k0 → u1 ≡ 0 → Ends header added writes some refuses d (seen s0 f0 w0 k0 u0) (seen s1 f0 w1 k1 u1) (Ok tt)
  only_ends nothing u1 h end t same handed = whole (record {
    end = end;
    table = table_only d header added has_mark writes nothing s0 s1 w0 w1 h t;
    handed_on = handed;
    no_fault = record { source = refl; sink = same };
  })

  all_taken : Takes w0 (head d header added has_mark st.StartRecord) w1 → TakesFront w0 (head d header added has_mark st.StartRecord) w1
  all_taken t = record { front = head d header added has_mark st.StartRecord; rest = []; whole = sym (append-nil (head d header added has_mark st.StartRecord)); taken = t }

  -- the same, but the sink did not hand it on
  pub only_held : (u1 : ℕ) → OfRead s0 s1 (λ bytes. IsHeader d header None has_mark bytes) → Takes w0 (head d header added has_mark st.StartRecord) w1 →
      k1 ≡ k0 + 1 → Ends header added writes some refuses d (seen s0 f0 w0 k0 u0) (seen s1 f0 w1 k1 u1) (Err error.Output)
  only_held u1 h t fault = header_ends u1 None h (all_taken t) fault
