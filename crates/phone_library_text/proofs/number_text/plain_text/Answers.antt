use Rattle.std.specs.Str.{chars}
use Rattle.phone_library_text.proofs.NumbersIn.{plain_number_text}
use Rattle.phone_library_text.proofs.number_text.plain_text.Goals as goal

pub returns : goal.returns
returns c = plain_number_text (chars c.args.text.now) c.extract.result c.extract.ensures.core
