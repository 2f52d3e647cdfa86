use Rattle.std.proofs.Common.{◌∙◌}
use Rattle.std.specs.Str.{chars}
use Rattle.phone_read.proofs.DigitTexts.{encode_utf8_all-norm}
use Rattle.phone_read.proofs.Results.{ok_again}
use Rattle.phone_engine.proofs.sides.digits.Goals as goal

pub returns : goal.returns
returns c = ok_again c.normalize.result _ _ (λ d h. h ∙ encode_utf8_all-norm (chars c.args.text.now)) c.normalize.ensures.text
