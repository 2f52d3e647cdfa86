use Rattle.phone_table.specs.Summaries.{row_of}
use Rattle.phone_table.proofs.Counting.{one_row}
use Rattle.phone_table.proofs.summary.Summary.add.Goals as goal

pub returns : goal.returns
returns c =
    let e = c.in_ok-count.ensures in
    one_row c.args.self.now c.count.new.self (row_of c.args.row) e.kinds e.regions e.refusals e.suspicions
