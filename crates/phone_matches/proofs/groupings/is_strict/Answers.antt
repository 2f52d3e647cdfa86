use Rattle.std.proofs.Common.{rules, ◌≡◌, [], chars, encode_utf8_all, unwrap_or}
use Rattle.std.specs.Option.{option_copied}
use Rattle.std.specs.Fmt.{decimal}
use Rattle.phone_matches.specs.Strict.{behind_code}
use Rattle.phone_matches.proofs.Tested.{strict_same, if_same}
use Rattle.phone_matches.specs.Groupings.{main_territory, with_digits}
use Rattle.phone_matches.specs.Layouts.{alternates_of}
use Rattle.phone_values.specs.Numbers.{text_of}
use Rattle.phone_matches.proofs.groupings.is_strict.Goals as goal

pub returns : goal.returns
returns c =
    let db = c.args.db.now in
    let others = unwrap_or (option_copied c.args.alternates) [] in
    let n = c.args.number.now in
    let is_m : option_copied c.first_by_code-m.result ≡ main_territory c.args.db.now c.args.number.now = search rules in
    let are : c.alternates_of.result.now ≡ alternates_of (unwrap_or (option_copied c.args.alternates) []) c.args.number.now.code.value = search rules in
    let digits : c.as_str-4.result.now ≡ text_of c.args.number.now.national = search rules in
    let all : c.as_bytes.result.now ≡ text_of c.args.number.now.national = search rules in
    let text : c.behind_code.result.now ≡ behind_code c.args.number.now.code.source (decimal c.args.number.now.code.value) (encode_utf8_all (with_digits (chars c.args.text.now))) =
    search rules in
    if_same c.has_grouping.result _ _
    (strict_same db others n (chars c.args.text.now) (option_copied c.first_by_code-m.result) c.alternates_of.result.now c.as_str-4.result.now is_m are digits
    c.is_any_prefixed.result c.as_bytes.result.now c.extension_of.result.now c.behind_code.result.now c.is_any_prefixed.ensures all c.extension_of.ensures text)
    c.has_grouping.ensures
