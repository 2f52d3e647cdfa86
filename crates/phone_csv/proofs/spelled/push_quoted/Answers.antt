use Rattle.std.proofs.Common.{rules, ◌≤◌, length}
use Rattle.phone_csv.proofs.SpelledLemmas.{quoted_begun, quoted_more, quoted_whole}
use Rattle.phone_csv.proofs.spelled.push_quoted.Goals as goal

pub bytes-init : goal.bytes-init
bytes-init c = quoted_begun c.args.delimiter c.args.text.now.items _ c.args.field.now c.in_ok-push.ensures.items

pub bytes-preserved : goal.bytes-preserved
bytes-preserved c =
    quoted_more c.args.delimiter c.args.text.now.items c.bytes.text.items _ c.args.field.now c.bytes.byte-index c.bytes-test.true c.bytes.invariant c.in_ok-push_escaped.ensures

pub returns : goal.returns
returns c =
    let le : length c.args.field.now ≤ c.bytes.byte-index = search rules in
    quoted_whole c.args.delimiter c.args.text.now.items c.bytes.text.items _ c.args.field.now c.bytes.byte-index le c.bytes.invariant c.in_ok-push-2.ensures.items
