use Rattle.std.proofs.Common.{◌≡◌, Some, None, string_bytes, ap, sym, ◌∙◌}
use Rattle.std.specs.Option.{option_copied}
use Rattle.phone_dialling.specs.Original
use Rattle.phone_dialling.specs.Original.{IsOriginal}
use Rattle.phone_dialling.proofs.Answered.{told_so}
use Rattle.phone_dialling.proofs.original.written_in.Goals as goal

pub returns-in_ok-text-in-Some : goal.returns-in_ok-text-in-Some
returns-in_ok-text-in-Some c =
    let raw = c.args.raw.now in
    let found = sym c.in_ok-layout.ensures ∙ ap option_copied c.in-Some.is in
    told_so string_bytes (IsOriginal c.args.database.now c.args.from c.args.number.now (Some raw)) _ c.unless_changed.result
    (Original.laid raw (string_bytes c.in_ok-text-in-Some.text) c.args.m.now c.in-Some.layout.now c.requires found c.in_ok-text-in-Some.ensures) c.unless_changed.ensures

pub returns-in-None : goal.returns-in-None
returns-in-None c =
    let raw = c.args.raw.now in
    told_so string_bytes (IsOriginal c.args.database.now c.args.from c.args.number.now (Some raw)) raw c.from_str.result
    (Original.unlaid raw c.args.m.now c.requires (sym c.in_ok-layout.ensures ∙ ap option_copied c.in-None.is)) c.from_str.ensures.ok
