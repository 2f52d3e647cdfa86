use Rattle.phone_csv.proofs.ReadAgain.{report_read_again}
use Rattle.phone_csv.proofs.laws.read_again.Goals as goal

pub returns : goal.returns
returns g c last end start bytes text (records, all, w) =
    (records, w.0, all, w.1, report_read_again g.A.Answers.gives c.args.answers.now last end start bytes records text all w)
