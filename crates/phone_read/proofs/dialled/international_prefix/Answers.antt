use Rattle.std.proofs.Common.{option_map, true, false, ap}
use Rattle.std.specs.Cow.{cow_str_bytes}
use Rattle.std.specs.Option.{option_map_or}
use Rattle.std.specs.Str.{chars}
use Rattle.phone_read.proofs.BareParts.{bare_plain}
use Rattle.phone_read.proofs.dialled.international_prefix.Goals as goal

pub returns-clause-no_memory : goal.returns-clause-no_memory
returns-clause-no_memory c none bare =
    let n = chars (cow_str_bytes c.args.number.national) in
    let p = option_map (λ p. chars (cow_str_bytes p)) c.args.number.prefix in
    let e = option_map (λ e. chars (cow_str_bytes e)) c.args.number.extension in
    c.read_dialling.ensures.no_memory (ap (λ o. option_map_or (λ _. false) o true) none) (bare_plain n p e bare)
