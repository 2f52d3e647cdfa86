-- What the reading of a header says of a run.
use Rattle.std.proofs.Common.{Bool, ◌≡◌, ◌⊎◌, inl, inr, ℕ, ◌+◌, List, length, Option, Some, None, Result, Err, IfSome, IsNone, refl, subst, arith}
use Rattle.phone_device.specs.Passing.{IsAtEnd}
use Rattle.phone_csv.specs.Firsts.{EndsNoFirst, IsHead, IsOnly, first_in}
use Rattle.phone_csv.specs.Formats.{Record, state_of}
use Rattle.phone_csv.specs.Quotes.{IsOpenHeader}
use Rattle.phone_csv.specs.Runs.{OfRead, most_bytes}
use Rattle.phone_csv.specs.declared.blocks.RunError.{RunError}
use Rattle.phone_csv.specs.declared.cutter.Start.{Start}
use Rattle.phone_csv.specs.declared.first.FirstError.{FirstError}
use Rattle.phone_csv.specs.declared.first.FirstError.TheVariants.{Absent, Input, Memory, Quote}
use Rattle.phone_lines.specs.Ends.{Devices, seen}
use Rattle.phone_records.specs.declared.loader.Metadata.{Metadata}
use Rattle.phone_values.specs.declared.country.Id.{Id}
use Rattle.phone_values.specs.declared.rules.Rules.{Rules}
use Rattle.phone_table.specs.Ends.{SourceFails}
use Rattle.phone_table.specs.Runs.{NoHeader, RowsEnd}
use Rattle.phone_table.specs.Runs.NoHeader.{absent, input, memory, quote}
use Rattle.phone_table.specs.Tables.{IsHeader}
use Rattle.phone_table.specs.declared.header.Columns.{Columns}
use Rattle.phone_table.specs.declared.run.Asked.{Asked}
use Rattle.phone_table.specs.declared.summed.Totals.{Totals}

caused : (before after : Devices) → (after.source_faults ≡ before.source_faults + 1) ⊎ OfRead before.to_come after.to_come (λ bytes. length bytes ≡ most_bytes) →
    SourceFails before after
caused before after (inl f) = inl f
caused before after (inr m) = inr (m.0, m.1, omega (arith, m.2))

-- why no header was read
pub no_header_by : {T : Type 0} (d : ℕ) (before after : Devices) (e : FirstError) → OfRead before.to_come after.to_come (EndsNoFirst d) →
    (◌≡◌ {A = Result T FirstError} (Err e) (Err Absent) → OfRead before.to_come after.to_come (λ bytes. first_in d bytes ≡ None)) →
    (◌≡◌ {A = Result T FirstError} (Err e) (Err Absent) → IsAtEnd after.to_come) →
    (◌≡◌ {A = Result T FirstError} (Err e) (Err Absent) → after.source_faults ≡ before.source_faults) →
    (◌≡◌ {A = Result T FirstError} (Err e) (Err Input) → (after.source_faults ≡ before.source_faults + 1) ⊎ OfRead before.to_come after.to_come (λ bytes. length bytes ≡ most_bytes)) →
    (◌≡◌ {A = Result T FirstError} (Err e) (Err Memory) → after.source_faults ≡ before.source_faults) →
    ((line : ℕ) → ◌≡◌ {A = Result T FirstError} (Err e) (Err (Quote line)) → OfRead before.to_come after.to_come (IsOpenHeader d line)) →
    ((line : ℕ) → ◌≡◌ {A = Result T FirstError} (Err e) (Err (Quote line)) → IsAtEnd after.to_come) →
    ((line : ℕ) → ◌≡◌ {A = Result T FirstError} (Err e) (Err (Quote line)) → after.source_faults ≡ before.source_faults) → NoHeader d before after e
no_header_by d before after Absent unended none end same cause kept opened quote_end quote_same = absent (none refl) (end refl) (same refl)
no_header_by d before after Input unended none end same cause kept opened quote_end quote_same = input unended (caused before after (cause refl))
no_header_by d before after (Quote line) unended none end same cause kept opened quote_end quote_same = quote line (opened line refl) (quote_end line refl) (quote_same line refl)
no_header_by d before after Memory unended none end same cause kept opened quote_end quote_same = memory unended (kept refl)

-- a header was read, whether something follows it or not
pub header_read : (d : ℕ) (header : Record) (rest : Option Start) (has_mark : Bool) (s0 s1 : Option (List ℕ)) →
    IfSome rest (λ start. OfRead s0 s1 (λ bytes. IsHead d bytes header (state_of start.place) start.feeds has_mark)) →
    (IsNone rest → OfRead s0 s1 (λ bytes. IsOnly d bytes header has_mark)) → OfRead s0 s1 (λ bytes. IsHeader d header rest has_mark bytes)
header_read d header (Some start) has_mark s0 s1 ended only = ended
header_read d header None has_mark s0 s1 ended only = only refl

-- a run that begins where the reading of the header ended, which counted no fault
pub rows_from : {rules : Rules} {db : List Metadata} {hint : Option Id} {columns : Columns} {asked : Asked} {header : Record} {to_come taken : Option (List ℕ)}
    {n m faults held : ℕ} {after : Devices} {r : Result Totals RunError} → n ≡ m →
    RowsEnd rules db hint columns asked header (seen to_come n taken faults held) after r → RowsEnd rules db hint columns asked header (seen to_come m taken faults held) after r
rows_from {rules = rules} {db = db} {hint = hint} {columns = columns} {asked = asked} {header = header} {to_come = to_come} {taken = taken} {faults = faults} {held = held} {after = after} {r = r} same h =
    subst (λ n. RowsEnd rules db hint columns asked header (seen to_come n taken faults held) after r) same h
