use Rattle.phone_lines.proofs.TakenLemmas.{same_report}
use Rattle.phone_lines.proofs.laws.one_report_in_turn.Goals as goal

pub returns : goal.returns
returns g c begins_once gives_once bytes a b p q =
    same_report g.T.LineTaker.begins g.T.LineTaker.gives c.args.taker.now begins_once gives_once bytes a b p q
