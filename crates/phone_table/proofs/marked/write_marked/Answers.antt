use Rattle.std.proofs.Common.{◌++◌, ◌∙◌, ap, subst, refl}
use Rattle.csv.specs.Records.{fields_of}
use Rattle.phone_csv.specs.Formats.{format_after, state_behind}
use Rattle.phone_csv.specs.declared.blocks.RunError.TheVariants.{Memory}
use Rattle.phone_device.specs.Passing.{Takes, TakesFront}
use Rattle.phone_table.specs.Held.{answered}
use Rattle.phone_table.specs.Runs.{names_in}
use Rattle.phone_table.specs.Runs.RowsEnd.{unwritten}
use Rattle.phone_table.specs.Unwritten.IsUnwritten.{no_memory}
use Rattle.phone_table.specs.declared.holder.Holder.{Holder}
use Rattle.phone_table.proofs.MarkedLemmas.{kept_text, passed, rows_front, rows_whole, table_told, unwritten_by, whole_text}
use Rattle.phone_table.proofs.marked.write_marked.Goals as goal

pub returns-in_default : goal.returns-in_default
returns-in_default g c = record {
  ends = λ before h. unwritten Memory c.requires.marked (record { taken = refl; unflushed = refl; sink = refl }) (no_memory (h.0, h.1) refl);
}

pub returns-in-Err : goal.returns-in-Err
returns-in-Err g c =
    let first : Holder = record { table = c.args.table; held = c.new.result } in
    let fresh = ap answered c.new.ensures.items in
    let last = c.hold_all.new.holder in
    let header = fields_of c.args.first.fields in
    let names = names_in c.args.table.asked in
    record {
      ends = λ before h. let (u, ends) = c.in-Err.ensures.broken_off before header names c.args.first.has_mark h in
          unwritten c.in-Err.error c.requires.marked (record { taken = refl; unflushed = refl; sink = refl })
          (unwritten_by first fresh c.requires.counts c.requires.summary last header names c.args.table.asked.delimiter u _ _ c.in-Err.error ends);
    }

pub returns-in_default-marked_text : goal.returns-in_default-marked_text
returns-in_default-marked_text g c =
    let e = c.in-Ok-hold_all.ensures in
    record {
      ends = λ before h. unwritten Memory c.requires.marked (record { taken = refl; unflushed = refl; sink = refl })
          (no_memory (passed c.args.first.rest before _ _ _ _ h e.read (λ none. ap g.S.ByteSource.to_come (e.none none).1)) e.no_fault);
    }

pub returns-in-Ok-write_out : goal.returns-in-Ok-write_out
returns-in-Ok-write_out g c =
    let e = c.in-Ok-hold_all.ensures in
    let w = c.in-Ok-write_out.ensures in
    let first : Holder = record { table = c.args.table; held = c.new.result } in
    let fresh = ap answered c.new.ensures.items in
    let last = c.hold_all.new.holder in
    let d = c.args.table.asked.delimiter in
    let header = fields_of c.args.first.fields in
    let rest = c.args.first.rest in
    let mark = c.args.first.has_mark in
    let same = c.format_after-format.ensures in
    let s1 = g.S.ByteSource.to_come c.args.source.now in
    let s2 = g.S.ByteSource.to_come c.hold_all.new.source in
    let front = rw (same, c.requires.added) at c.in-Ok.ensures in
    let rows = rw (same, c.as_slice.ensures.value) at c.in-Ok-marked_text.ensures in
    let text = c.as_slice-2.ensures.value ∙ rows ∙ ap (λ f. f ++ kept_text first fresh c.requires.counts c.requires.summary (format_after d (state_behind rest)) last) front in
    record {
      ends = λ before h. rw c.told_whole.ensures (rows_whole first fresh c.requires.counts c.requires.summary c.requires.marked last header (whole_text first fresh c.requires.counts c.requires.summary c.requires.marked last header rest mark before s1 s2)
          before _ _ _ _ _ _ _ _ _ (table_told first fresh c.requires.counts c.requires.summary c.requires.marked last header rest mark before s1 s2 h e.read (λ none. ((e.none none).0, ap g.S.ByteSource.to_come (e.none none).1)))
          e.end (subst (λ t. Takes (g.W.ByteSink.taken c.args.sink.now) t (g.W.ByteSink.taken c.write_out.new.sink)) text w.all) e.no_fault w.no_fault w.handed_on);
    }

pub returns-in-Err-write_out : goal.returns-in-Err-write_out
returns-in-Err-write_out g c =
    let e = c.in-Ok-hold_all.ensures in
    let w = c.in-Err-write_out.ensures in
    let first : Holder = record { table = c.args.table; held = c.new.result } in
    let fresh = ap answered c.new.ensures.items in
    let last = c.hold_all.new.holder in
    let d = c.args.table.asked.delimiter in
    let header = fields_of c.args.first.fields in
    let rest = c.args.first.rest in
    let mark = c.args.first.has_mark in
    let same = c.format_after-format.ensures in
    let s1 = g.S.ByteSource.to_come c.args.source.now in
    let s2 = g.S.ByteSource.to_come c.hold_all.new.source in
    let front = rw (same, c.requires.added) at c.in-Ok.ensures in
    let rows = rw (same, c.as_slice.ensures.value) at c.in-Ok-marked_text.ensures in
    let text = c.as_slice-2.ensures.value ∙ rows ∙ ap (λ f. f ++ kept_text first fresh c.requires.counts c.requires.summary (format_after d (state_behind rest)) last) front in
    record {
      ends = λ before h. rows_front first fresh c.requires.counts c.requires.summary c.requires.marked last header (whole_text first fresh c.requires.counts c.requires.summary c.requires.marked last header rest mark before s1 s2)
          before _ _ _ _ _ _ _ _ _ (table_told first fresh c.requires.counts c.requires.summary c.requires.marked last header rest mark before s1 s2 h e.read (λ none. ((e.none none).0, ap g.S.ByteSource.to_come (e.none none).1)))
          e.end (subst (λ t. TakesFront (g.W.ByteSink.taken c.args.sink.now) t (g.W.ByteSink.taken c.write_out.new.sink)) text w.front) w.fault;
    }
