use Rattle.std.proofs.Common.{string_bytes, ap, sym, ◌∙◌}
use Rattle.std.specs.Option.{option_copied}
use Rattle.phone_dialling.proofs.Answered.{told_so}
use Rattle.phone_dialling.specs.Lettered
use Rattle.phone_dialling.specs.Lettered.{IsKept}
use Rattle.phone_dialling.proofs.lettered.kept_text.Goals as goal

pub returns-in-Some : goal.returns-in-Some
returns-in-Some c =
    told_so string_bytes (IsKept c.args.first.now c.args.number.now c.args.text.now (option_copied c.args.from)) _ c.home_letters.result
    (Lettered.home c.in-Some.m.now (sym c.at_home.ensures ∙ ap option_copied c.in-Some.is)) c.home_letters.ensures
