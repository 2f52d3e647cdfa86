use Rattle.std.specs.Option.{option_copied}
use Rattle.phone_doubts.specs.declared.doubt.Doubts.{Doubts}
use Rattle.phone_doubts.proofs.Reasons.{each}
use Rattle.phone_doubts.proofs.answer.doubts_of_text.Goals as goal

pub returns : goal.returns
returns c =
    let engine = c.args.engine in
    let number = option_copied c.args.number in
    let found : Doubts = record {
      float = c.says_float.result;
      no_plus = c.in_ok-no_plus.no_plus;
      zero_in_brackets = c.in_ok-zero_in_brackets.zero_in_brackets;
      letters = c.in_ok-letters.letters;
      two_numbers = c.in_ok-two_numbers.two_numbers;
      date = c.says_date.result;
      zero_lost = c.in_ok-zero_lost.zero_lost;
      other_region = c.in_ok-other_region.other_region;
    } in
    each engine.rules engine.database.now engine.hint c.args.text.now number found c.says_float.ensures c.in_ok-no_plus.ensures
    c.in_ok-zero_in_brackets.ensures c.in_ok-letters.ensures (c.in_ok-two_numbers.ensures number) c.says_date.ensures
    c.in_ok-zero_lost.ensures (c.in_ok-other_region.ensures c.args.text.now)
