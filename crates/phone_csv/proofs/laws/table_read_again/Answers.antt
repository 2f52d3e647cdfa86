use Rattle.phone_csv.proofs.ReadAgain.{table_read_again}
use Rattle.phone_csv.proofs.laws.table_read_again.Goals as goal

pub returns : goal.returns
returns g c last end start bytes body first full (records, all, w) =
    (records, w.0, all, w.1, table_read_again g.A.Answers.gives c.args.answers.now last end start bytes records first body full all w)
