use Rattle.std.proofs.Common.{rules, IsOk, option_map, subst}
use Rattle.std.proofs.lemmas.Bool.{false≢true}
use Rattle.std.specs.Cow.{cow_str_bytes}
use Rattle.std.specs.Str.{chars}
use Rattle.phone_read.proofs.BareParts.{plain_national, plain_prefix, plain_extension}
use Rattle.phone_read.proofs.LentParts.{keeps_lent}
use Rattle.phone_read.proofs.dialled.read_dialling.Goals as goal

pub returns-in_err-start-clause-no_memory : goal.returns-in_err-start-clause-no_memory
returns-in_err-start-clause-no_memory g c idle plain =
    let n = chars (cow_str_bytes c.args.number.national) in
    let p = option_map (λ p. chars (cow_str_bytes p)) c.args.number.prefix in
    let e = option_map (λ e. chars (cow_str_bytes e)) c.args.number.extension in
    let start = c.dialled_beside-start.ensures.no_memory idle (plain_national n p e plain) in
    let prefix = c.digits_if_any.ensures.no_memory (plain_prefix n p e plain) in
    let extension = c.digits_if_any-2.ensures.no_memory (plain_extension n p e plain) in
    let made = c.zip.ensures.not_refused start (c.zip-rest.ensures.not_refused prefix extension) in
    absurd (false≢true (subst IsOk c.in_err-start.ensures.refused made))

pub returns-clause-lent : goal.returns-clause-lent
returns-clause-lent g c lent = keeps_lent _ _ (search rules) (search rules) (search rules)
