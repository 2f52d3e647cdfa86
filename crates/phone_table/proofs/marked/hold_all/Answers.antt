use Rattle.std.proofs.Common.{None, refl}
use Rattle.std.proofs.lemmas.Result.{on_ok_weaker}
use Rattle.phone_table.specs.Answers.{IsOfOtherWidth}
use Rattle.phone_table.specs.Held.{holds}
use Rattle.phone_table.proofs.EndLemmas.{rows_end}
use Rattle.phone_table.proofs.MarkedLemmas.{err_ends, if_err}
use Rattle.phone_table.proofs.Writing.{nothing_told, some_told, told}
use Rattle.phone_table.proofs.marked.hold_all.Goals as goal

pub returns-in-Some-clause-read : goal.returns-in-Some-clause-read
returns-in-Some-clause-read g c =
    rw c.in-Some.is (on_ok_weaker c.answer_records.result (λ (bytes, passed, (text, is, took)). (bytes, passed, (text, is))) (rw c.format_after-format.ensures at c.answer_records.ensures.report))

pub returns-in-Some-clause-broken_off : goal.returns-in-Some-clause-broken_off
returns-in-Some-clause-broken_off g c =
    let r = c.answer_records.ensures in
    let d = c.args.delimiter in
    let first = c.args.holder.now in
    let last = c.answer_records.new.answers in
    let same = c.format_after-format.ensures in
    if_err c.answer_records.result _ (λ e is before header added mark h. (
      _,
      err_ends header added _ _ _ d _ _ c.answer_records.result e is
          (rows_end header added (told holds first last) (some_told holds first) (nothing_told holds first) (IsOfOtherWidth last.table.columns last.table.asked) d mark before
          (g.S.ByteSource.to_come c.args.source.now) None None _ 0 0 0 c.in-Some.start _ None _ 0 _ c.answer_records.result
          (rw c.in-Some.is at h) refl refl r.end (rw same at r.report) r.no_fault (rw same at r.ended) r.cause (rw same at r.beginning) (rw same at r.before)
          (rw same at r.quote) r.quote_end r.no_fault_at_a_quote (rw same at r.first) r.no_fault_at_a_record r.no_fault_without_memory r.sink_faults r.handed_on),
    ))
