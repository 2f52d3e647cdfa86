use Rattle.std.proofs.Common.{ap, chars, encode_utf8_all, is_ok, string_bytes}
use Rattle.phone_print.specs.Texts.{hyphenated}
use Rattle.phone_print.proofs.Behinds.{behind-either, behind-same, done-also}
use Rattle.phone_print.proofs.appending.push_hyphens.Goals as goal

pub returns-in_err-done-clause-behind : goal.returns-in_err-done-clause-behind
returns-in_err-done-clause-behind c = behind-same _

pub returns-clause-text : goal.returns-clause-text
returns-clause-text c =
    done-also c.push_hyphenated.result (string_bytes c.args.out.now) (encode_utf8_all (hyphenated (chars c.args.text.now))) (string_bytes c.push_hyphenated.new.out)
    (ap is_ok c.in_ok-done.was) c.push_hyphenated.ensures.text

pub returns-clause-behind : goal.returns-clause-behind
returns-clause-behind c =
    behind-either c.push_hyphenated.result (string_bytes c.args.out.now) (encode_utf8_all (hyphenated (chars c.args.text.now))) (string_bytes c.push_hyphenated.new.out)
    c.push_hyphenated.ensures.text c.push_hyphenated.ensures.behind
