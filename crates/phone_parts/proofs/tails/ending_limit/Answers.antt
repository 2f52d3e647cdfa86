use Rattle.std.proofs.Common.{refl}
use Rattle.phone_parts.specs.Suffixes.{IsSomeEnding}
use Rattle.phone_parts.proofs.Longest.{ends_up_to}
use Rattle.phone_parts.proofs.Closings.{longest_ending, ending_ends, front_of_front}
use Rattle.phone_parts.proofs.tails.ending_limit.Goals as goal

pub returns : goal.returns
returns c =
    let text = c.args.text.now in
    let cut = front_of_front text _ _ (front_of_front text _ _ (front_of_front text _ _ c.before_few-without_sign.ensures.front c.before_few-without_digits.ensures.front)
    c.before_run-without_gap.ensures.front) c.before_few-left.ensures.front in
    ends_up_to IsSomeEnding text c.before_few-left.result.now cut.0 c.utf8.text c.before_few-left.utf8 cut.1 ending_ends
    (longest_ending _ _ _ _ _ c.before_few-without_sign.ensures.read c.before_few-without_digits.ensures.read c.before_run-without_gap.ensures.read c.before_few-left.ensures.read)
    _ refl
