use Rattle.phone_pattern.proofs.ReadTexts.{plain_read}
use Rattle.phone_pattern.proofs.reading.of_plain.Goals as goal

pub returns : goal.returns
returns c = plain_read c.args.pattern.now c.args.found c.requires
