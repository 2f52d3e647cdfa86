use Rattle.std.proofs.Common.{◌≡◌, ◌+◌, chars, length, take, slice_range, ap, arith, ◌∙◌}
use Rattle.phone_csv.proofs.FeedLemmas.{counted-more-first}
use Rattle.phone_csv.specs.Feeds.{counted}
use Rattle.phone_commands.proofs.FoundLemmas.{chars-up_to}
use Rattle.phone_commands.proofs.finder.column_at.Goals as goal

pub returns : goal.returns
returns c =
    let text = c.args.text.now in
    let from = c.args.from in
    let to = c.args.to in
    let n = c.count_chars.result in
    let front = length (chars (take from text)) in
    let is : n ≡ length (chars (slice_range text from to)) =
    c.count_chars.ensures ∙ ap (λ t. length (chars t)) c.range.ensures.value in
    let all = chars-up_to text from to c.utf8.text c.requires.from_border c.requires.behind in
    c.saturating_add.ensures ∙ ap (λ m. counted (m + n)) c.requires.column ∙
    counted-more-first (front + 1) n ∙ ap counted (omega (arith, is, all))
