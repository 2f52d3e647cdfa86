use Rattle.std.proofs.Common.{◌∙◌, ◌+◌, ◌++◌, ap, Err, refl, subst, sym}
use Rattle.csv.specs.Records.{fields_of}
use Rattle.phone_device.specs.Passing.{Takes}
use Rattle.phone_csv.specs.Formats.{format_after, state_behind}
use Rattle.phone_csv.specs.Runs.{OfRead}
use Rattle.phone_table.specs.Tables.{IsHeader, head_text}
use Rattle.phone_table.proofs.Writing.{nothing_told, some_told, told, writes_nothing_by}
use Rattle.phone_table.proofs.EndLemmas.{header_ends, header_refused, only_ends, only_held, rows_end}
use Rattle.phone_table.proofs.rows.write_rows.Goals as goal

pub returns-in-Err-Output : goal.returns-in-Err-Output
returns-in-Err-Output g c =
    let e = c.in-Err-Output.ensures in
    let added = fields_of c.args.added.now in
    let is = ap Err c.in-Err-Output.field-0-is in
    let begun = rw c.format_after-format.ensures at (e.beginning is) in
    record {
      ends = λ before h. header_ends _ added (told g.A.Answers.gives c.args.answers.now c.args.answers.now) (some_told g.A.Answers.gives c.args.answers.now) (nothing_told g.A.Answers.gives c.args.answers.now) _ c.args.delimiter c.args.first.has_mark before _ _ _ _ _ _ _ _ c.args.first.rest h begun (e.fault is);
    }

pub returns-in-Err-Memory : goal.returns-in-Err-Memory
returns-in-Err-Memory g c =
    let e = c.in-Err-Memory.ensures in
    let added = fields_of c.args.added.now in
    let is = ap Err c.in-Err-Memory.field-0-is in
    record {
      ends = λ before h. header_refused _ added (told g.A.Answers.gives c.args.answers.now c.args.answers.now) (some_told g.A.Answers.gives c.args.answers.now) (nothing_told g.A.Answers.gives c.args.answers.now) _ c.args.delimiter c.args.first.has_mark before _ _ _ _ _ _ _ _ c.args.first.rest h (e.nothing is) (e.nothing_held is) (e.no_fault_without_memory is);
    }

pub returns-in-Some : goal.returns-in-Some
returns-in-Some g c =
    let t = c.in-Ok.ensures in
    let r = c.answer_records.ensures in
    let d = c.args.delimiter in
    let header = fields_of c.args.first.fields in
    let added = fields_of c.args.added.now in
    let mark = c.args.first.has_mark in
    let source = g.S.ByteSource.to_come c.args.source.now in
    let same = c.format_after-format.ensures ∙ ap (λ rest. format_after d (state_behind rest)) c.in-Some.is in
    record {
      ends = λ before h. rows_end header added (told g.A.Answers.gives c.args.answers.now c.answer_records.new.answers) (some_told g.A.Answers.gives c.args.answers.now) (nothing_told g.A.Answers.gives c.args.answers.now) (g.A.Answers.refuses c.answer_records.new.answers) d mark before source _ _ _ _ _ _ c.in-Some.start _ _ _ _ _ c.answer_records.result
          (subst (λ rest. OfRead before source (λ bytes. IsHeader d header rest mark bytes)) c.in-Some.is h)
          (rw same at t.written) t.no_fault r.end (rw same at r.report) r.no_fault (rw same at r.ended) r.cause (rw same at r.beginning) (rw same at r.before)
          (rw same at r.quote) r.quote_end r.no_fault_at_a_quote (rw same at r.first) r.no_fault_at_a_record r.no_fault_without_memory r.sink_faults r.handed_on;
    }

pub returns-in-Ok-flush : goal.returns-in-Ok-flush
returns-in-Ok-flush g c =
    let t = c.in-Ok.ensures in
    let f = c.in-Ok-flush.ensures in
    let d = c.args.delimiter in
    let header = fields_of c.args.first.fields in
    let added = fields_of c.args.added.now in
    let mark = c.args.first.has_mark in
    let source = g.S.ByteSource.to_come c.args.source.now in
    let end = rw c.in-None.is at c.requires.end in
    let same = c.format_after-format.ensures ∙ ap (λ rest. format_after d (state_behind rest)) c.in-None.is in
    let written = subst (λ w. Takes (g.W.ByteSink.taken c.args.sink.now) (head_text c.format_after-format.result mark (header ++ added)) w) (sym f.kept) t.written in
    record {
      ends = λ before h. only_ends header added (told g.A.Answers.gives c.args.answers.now c.args.answers.now) (some_told g.A.Answers.gives c.args.answers.now) (nothing_told g.A.Answers.gives c.args.answers.now) _ d mark before source _ _ _ _ _ _ (writes_nothing_by g.A.Answers.gives c.args.answers.now) _ (subst (λ rest. OfRead before source (λ bytes. IsHeader d header rest mark bytes)) c.in-None.is h)
          (end refl) (rw same at written) (f.no_fault ∙ t.no_fault) f.handed_on;
    }

pub returns-in-Err : goal.returns-in-Err
returns-in-Err g c =
    let t = c.in-Ok.ensures in
    let f = c.in-Err.ensures in
    let d = c.args.delimiter in
    let header = fields_of c.args.first.fields in
    let added = fields_of c.args.added.now in
    let mark = c.args.first.has_mark in
    let source = g.S.ByteSource.to_come c.args.source.now in
    let same = c.format_after-format.ensures ∙ ap (λ rest. format_after d (state_behind rest)) c.in-None.is in
    let written = subst (λ w. Takes (g.W.ByteSink.taken c.args.sink.now) (head_text c.format_after-format.result mark (header ++ added)) w) (sym f.kept) t.written in
    record {
      ends = λ before h. only_held header added (told g.A.Answers.gives c.args.answers.now c.args.answers.now) (some_told g.A.Answers.gives c.args.answers.now) (nothing_told g.A.Answers.gives c.args.answers.now) _ d mark before source _ _ _ _ _ _ _ (subst (λ rest. OfRead before source (λ bytes. IsHeader d header rest mark bytes)) c.in-None.is h)
          (rw same at written) (f.fault ∙ ap (λ n. n + 1) t.no_fault);
    }
