use Rattle.std.proofs.Common.{rules, refl, Ok, Err}
use Rattle.csv.specs.Records.{fields_of}
use Rattle.phone_table.specs.Runs.{names_in}
use Rattle.phone_table.specs.Runs.RunEnds.{no_column, no_delimiter, no_header, no_names, answered}
use Rattle.phone_table.proofs.TableLemmas.{alone}
use Rattle.phone_table.proofs.RunLemmas.{header_read, no_header_by, rows_from}
use Rattle.phone_table.proofs.run.write_table.Goals as goal

pub returns-then-not-is_delimiter : goal.returns-then-not-is_delimiter
returns-then-not-is_delimiter g c = record { ends = no_delimiter (search rules) refl }

pub returns-in-Err : goal.returns-in-Err
returns-in-Err g c =
    let e = c.in-Err.ensures in
    record { ends = no_header c.in-Err.error (search rules) (no_header_by c.args.asked.delimiter _ _ c.in-Err.error e.unended e.absent e.absent_end e.absent_no_fault e.cause e.no_fault_without_memory e.quote e.quote_end e.quote_no_fault) (record { taken = refl; unflushed = refl; sink = refl }) }

pub returns-in-Err-columns_of : goal.returns-in-Err-columns_of
returns-in-Err-columns_of g c =
    let f = c.in-Ok.ensures in
    let first = c.in-Ok.first in
    let e = c.in-Err-columns_of in
    record {
      ends = no_column e.error first.fields (search rules) (record {
        read = alone c.args.asked.delimiter (fields_of first.fields) (names_in c.args.asked) first.has_mark first.rest _ _ (header_read c.args.asked.delimiter (fields_of first.fields) first.rest first.has_mark _ _ f.ended f.only);
        no_source_fault = f.no_fault;
        untouched = record { taken = refl; unflushed = refl; sink = refl };
      }) (search rules);
    }

pub returns-in-Err-names_behind : goal.returns-in-Err-names_behind
returns-in-Err-names_behind g c =
    let f = c.in-Ok.ensures in
    let first = c.in-Ok.first in
    record {
      ends = no_names (fields_of first.fields) c.in-Ok-columns_of.columns c.in-Err-names_behind.error (search rules) (record {
        read = alone c.args.asked.delimiter (fields_of first.fields) (names_in c.args.asked) first.has_mark first.rest _ _ (header_read c.args.asked.delimiter (fields_of first.fields) first.rest first.has_mark _ _ f.ended f.only);
        no_source_fault = f.no_fault;
        untouched = record { taken = refl; unflushed = refl; sink = refl };
      }) (search rules) c.in-Err-names_behind.ensures.refused;
    }

pub returns-in-Ok-write_records : goal.returns-in-Ok-write_records
returns-in-Ok-write_records g c =
    let f = c.in-Ok.ensures in
    let first = c.in-Ok.first in
    let n = c.new-table.ensures in
    let read = header_read c.args.asked.delimiter (fields_of first.fields) first.rest first.has_mark _ _ f.ended f.only in
    record {
      ends = answered (fields_of first.fields) c.in-Ok-columns_of.columns (Ok c.in-Ok-write_records.totals) (search rules) (search rules) c.in-Ok-names_behind.ensures.free
          (rows_from f.no_fault (rw (n.engine, n.columns, n.asked) at (c.in-Ok-write_records.ensures.ends (g.S.ByteSource.to_come c.args.source.now) (rw n.asked read))));
    }

pub returns : goal.returns
returns g c =
    let f = c.in-Ok.ensures in
    let first = c.in-Ok.first in
    let n = c.new-table.ensures in
    let read = header_read c.args.asked.delimiter (fields_of first.fields) first.rest first.has_mark _ _ f.ended f.only in
    record {
      ends = answered (fields_of first.fields) c.in-Ok-columns_of.columns (Err c.in-Err-write_records.error) (search rules) (search rules) c.in-Ok-names_behind.ensures.free
          (rows_from f.no_fault (rw (n.engine, n.columns, n.asked) at (c.in-Err-write_records.ensures.ends (g.S.ByteSource.to_come c.args.source.now) (rw n.asked read))));
    }
