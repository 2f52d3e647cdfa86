use Rattle.phone_table.specs.Runs.RowsEnd.{broken_off, whole}
use Rattle.phone_table.specs.Summed.{totals_of}
use Rattle.phone_table.proofs.Kept.{plain_ends}
use Rattle.phone_table.proofs.run.write_plain.Goals as goal

pub returns-in-Ok : goal.returns-in-Ok
returns-in-Ok g c =
    let last = c.write_rows.new.answers in
    record { ends = λ before h. rw c.told_whole.ensures (whole (totals_of last) (plain_ends c.args.table c.requires.counts c.requires.keys c.requires.summary c.requires.plain last _ _ _ _ (rw c.requires.added at (c.in-Ok.ensures.ends before h)))) }

pub returns-in-Err : goal.returns-in-Err
returns-in-Err g c =
    let last = c.write_rows.new.answers in
    record { ends = λ before h. broken_off (totals_of last) c.in-Err.error (plain_ends c.args.table c.requires.counts c.requires.keys c.requires.summary c.requires.plain last _ _ _ _ (rw c.requires.added at (c.in-Err.ensures.ends before h))) }
