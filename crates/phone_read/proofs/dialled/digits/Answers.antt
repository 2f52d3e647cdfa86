use Rattle.std.proofs.Common.{◌∙◌}
use Rattle.std.specs.Cow.{cow_str_bytes}
use Rattle.std.specs.Str.{chars}
use Rattle.phone_read.proofs.DigitTexts.{encode_utf8_all-norm}
use Rattle.phone_read.proofs.Results.{ok_again}
use Rattle.phone_read.proofs.dialled.digits.Goals as goal

pub returns-clause-digits : goal.returns-clause-digits
returns-clause-digits c =
    ok_again c.normalize.result _ _ (λ d h. h ∙ encode_utf8_all-norm (chars (cow_str_bytes c.args.part))) c.normalize.ensures.text
