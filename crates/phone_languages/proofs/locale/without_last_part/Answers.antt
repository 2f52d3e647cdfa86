use Rattle.std.proofs.Common.{◌≡◌, Some, None, take, rules, arith}
use Rattle.std.proofs.lemmas.Str.Pattern.{rfind_char}
use Rattle.phone_languages.proofs.locale.without_last_part.Goals as goal

pub returns-in-Some-clause-cut : goal.returns-in-Some-clause-cut
returns-in-Some-clause-cut c =
    let (inside, hyphen, last) = rfind_char 45 c.args.text.now (Some c.in-Some.at) c.in-Some.ensures.cases (omega arith) in
    let front : c.range.result.now ≡ take c.in-Some.at c.args.text.now = search rules in
    (c.in-Some.at, record { inside = inside; hyphen = hyphen; last = last }, front)

pub returns-in-None-clause-cut : goal.returns-in-None-clause-cut
returns-in-None-clause-cut c = rfind_char 45 c.args.text.now None c.in-None.ensures.cases (omega arith)
