use Rattle.std.proofs.Common.{◌≡◌, IfOk, chars, encode_utf8_all, string_bytes, rules, sym, subst}
use Rattle.std.proofs.lemmas.Str.{encodes-chars}
use Rattle.std.specs.Option.{option_copied}
use Rattle.phone_dialling.proofs.Answered.{told_so}
use Rattle.phone_dialling.specs.Lettered
use Rattle.phone_dialling.specs.Lettered.{IsKept, abroad_letters}
use Rattle.phone_dialling.proofs.lettered.abroad.Goals as goal

pub returns : goal.returns
returns c =
    let from = option_copied c.args.from in
    let first = c.args.first.now in
    let n = c.args.number.now in
    let kept = c.split_extension.result.0.now in
    let whole : encode_utf8_all (chars kept) ≡ kept = search (rules, encodes-chars) in
    told_so string_bytes (IsKept first n c.args.text.now from) (abroad_letters from first n (encode_utf8_all (chars kept))) c.abroad_letters.result
    (Lettered.abroad (chars kept) _ c.requires c.split_extension.ensures.read)
    (subst (λ k. IfOk c.abroad_letters.result (λ t. string_bytes t ≡ abroad_letters from first n k)) (sym whole) c.abroad_letters.ensures)
