use Rattle.std.proofs.Common.{slice_range}
use Rattle.phone_prefixes.proofs.Found.{prefix_utf8}
use Rattle.phone_prefixes.proofs.prefixes.entry_at.Goals as goal

pub from_utf8_unchecked-requires : goal.from_utf8_unchecked-requires
from_utf8_unchecked-requires c = prefix_utf8 (slice_range c.args.bytes.now c.args.span.now.start c.args.span.now.tab) c.requires.prefix
