use Rattle.std.proofs.Common.{◌≡◌, rules, chars, sym, ◌∙◌}
use Rattle.phone_matches.proofs.Same.{same_if_read}
use Rattle.phone_matches.proofs.Told.{read_number}
use Rattle.phone_matches.proofs.marks.is_same_number.Goals as goal

pub returns-in-Ok : goal.returns-in-Ok
returns-in-Ok c =
    let db = c.args.db.now in
    let t = chars c.args.text.now in
    let same : c.value.result ≡ c.args.number.now.code.value = search rules in
    same_if_read c.one_reading.ensures db c.args.number.now t c.value.result same c.in-Some.region (sym c.main_region.ensures ∙ c.in-Some.is) c.in-Ok.other
    (read_number c.one_reading.ensures db _ t c.parse.result c.in-Ok.other c.in-Ok.is c.parse.ensures) c.are_same.result c.are_same.ensures
