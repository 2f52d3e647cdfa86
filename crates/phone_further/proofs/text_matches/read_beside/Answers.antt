use Rattle.std.proofs.Common.{ap, sym, ◌∙◌}
use Rattle.std.specs.Option.{option_copied}
use Rattle.phone_further.proofs.TextReads.{listed_so, unlisted_so}
use Rattle.phone_further.proofs.text_matches.read_beside.Goals as goal

pub returns-in-Some : goal.returns-in-Some
returns-in-Some c =
    listed_so c.args.database.now c.args.code c.args.written c.in-Some.main.now c.region.result (option_copied c.hint_territory.result) c.parse_written.result
    (sym c.first_by_code.ensures ∙ ap option_copied c.in-Some.is) c.region.ensures.region c.hint_territory.ensures c.parse_written.ensures

pub returns-in-None : goal.returns-in-None
returns-in-None c =
    unlisted_so c.args.database.now c.args.code c.args.written c.bare_number.result
    (sym c.first_by_code.ensures ∙ ap option_copied c.in-None.is) c.bare_number.ensures
