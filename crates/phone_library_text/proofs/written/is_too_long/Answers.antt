use Rattle.std.proofs.Common.{◌≡◌, ◌≤◌, length, arith, ltb-true}
use Rattle.std.proofs.lemmas.Bool.{lt-ltb}
use Rattle.std.proofs.lemmas.Iterator.{YieldsList-from_chars}
use Rattle.std.proofs.lemmas.Iterator.Consumers.{count_from_yields_List}
use Rattle.std.proofs.lemmas.Str.{encodes-chars, length-le-encodes}
use Rattle.std.specs.Str.{chars}
use Rattle.phone_library_text.proofs.written.is_too_long.Goals as goal

pub returns-then-text-gt-MOST_CHARACTERS : goal.returns-then-text-gt-MOST_CHARACTERS
returns-then-text-gt-MOST_CHARACTERS c =
    let text = c.args.text.now in
    let size : c.count.result ≡ length (chars text) =
    count_from_yields_List c.chars.result c.count.result c.count.ensures.ran (YieldsList-from_chars text c.utf8.text c.chars.ensures.rest) in
    (λ h. omega (arith, size, ltb-true 250 c.count.result h), λ less. lt-ltb 250 c.count.result (omega (arith, size, less)))

pub returns-else-text-gt-MOST_CHARACTERS : goal.returns-else-text-gt-MOST_CHARACTERS
returns-else-text-gt-MOST_CHARACTERS c =
    let text = c.args.text.now in
    let fewer : length (chars text) ≤ length text = rw (encodes-chars text c.utf8.text) at (length-le-encodes (chars text)) in (
      λ h. absurd (omega (arith, ltb-true 250 (length text) h, c.if-text-gt-MOST_CHARACTERS.false)),
      λ less. absurd (omega (arith, less, fewer, c.if-text-gt-MOST_CHARACTERS.false)),
    )
