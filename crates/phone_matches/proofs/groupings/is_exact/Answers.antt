use Rattle.std.proofs.Common.{rules, ◌≡◌, [], chars, is_some, unwrap_or, ap, ◌∙◌}
use Rattle.std.specs.Option.{option_copied}
use Rattle.phone_matches.proofs.Scalars.{read_digits}
use Rattle.phone_matches.specs.Exact.{digit_runs}
use Rattle.phone_matches.specs.Runs.{told}
use Rattle.phone_matches.proofs.Tested.{exact_same, if_same}
use Rattle.phone_matches.specs.Groupings.{main_territory, with_digits}
use Rattle.phone_matches.specs.Layouts.{alternates_of}
use Rattle.phone_values.specs.Numbers.{text_of}
use Rattle.phone_matches.proofs.groupings.is_exact.Goals as goal

pub returns : goal.returns
returns c =
    let db = c.args.db.now in
    let others = unwrap_or (option_copied c.args.alternates) [] in
    let n = c.args.number.now in
    let is_m : option_copied c.first_by_code-m.result ≡ main_territory c.args.db.now c.args.number.now = search rules in
    let are : c.alternates_of.result.now ≡ alternates_of (unwrap_or (option_copied c.args.alternates) []) c.args.number.now.code.value = search rules in
    let digits : c.as_str-3.result.now ≡ text_of c.args.number.now.national = search rules in
    let all : c.as_bytes.result.now ≡ text_of c.args.number.now.national = search rules in
    let extended : c.is_some.result ≡ is_some c.args.number.now.extension = search rules in
    let read = read_digits c.args.text.now c.as_str.result.now c.utf8.text (c.as_str.ensures.value ∙ c.in_ok-written.ensures) in
    let runs : told c.as_slice.result.now ≡ digit_runs (with_digits (chars c.args.text.now)) = ap told c.as_slice.ensures.value ∙ c.in_ok-runs.ensures ∙ ap digit_runs read in
    if_same c.has_grouping.result _ _
    (exact_same db others n (chars c.args.text.now) (option_copied c.first_by_code-m.result) c.alternates_of.result.now c.as_str-3.result.now is_m are digits
    c.is_some.result c.as_bytes.result.now (told c.as_slice.result.now) extended all runs)
    c.has_grouping.ensures
