use Rattle.std.proofs.Common.{refl}
use Rattle.phone_parts.proofs.Closings.{front_of_front}
use Rattle.phone_parts.proofs.Longest.{ends_up_to}
use Rattle.phone_library_text.specs.Scans.{IsMarkGap}
use Rattle.phone_library_text.proofs.MarkGaps.{longest_mark_gap, mark_gap_ends}
use Rattle.phone_library_text.proofs.ends.mark_gap_limit.Goals as goal

pub returns : goal.returns
returns c =
    let text = c.args.text.now in
    let cut = front_of_front text _ _ c.before_run.ensures.front c.before_one-left.ensures.front in
    ends_up_to IsMarkGap text c.before_one-left.result.now cut.0 c.utf8.text c.before_one-left.utf8 cut.1 mark_gap_ends
    (longest_mark_gap _ _ _ c.before_run.ensures.read c.before_one-left.ensures.read) _ refl
