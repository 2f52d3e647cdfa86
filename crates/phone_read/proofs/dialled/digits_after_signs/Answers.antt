use Rattle.std.proofs.Common.{ap, ◌∙◌}
use Rattle.std.specs.List.{list_all}
use Rattle.std.specs.Cow.{cow_str_bytes}
use Rattle.std.specs.Str.{chars}
use Rattle.phone_chars.specs.Characters.{is_digit}
use Rattle.phone_chars.specs.Norm.{norm}
use Rattle.phone_read.proofs.BareParts.{norm-after_plus}
use Rattle.phone_read.proofs.Results.{ok_again}
use Rattle.phone_read.proofs.dialled.digits_after_signs.Goals as goal

pub returns-clause-same : goal.returns-clause-same
returns-clause-same c =
    ok_again c.digits.result _ _ (λ d h. h ∙ ap norm c.without_plus_signs.ensures.text ∙ norm-after_plus (chars (cow_str_bytes c.args.national))) c.digits.ensures.digits

pub returns-clause-lent : goal.returns-clause-lent
returns-clause-lent c =
    ok_again c.digits.result _ _
    (λ d h lent. h (c.without_plus_signs.ensures.borrowed lent.borrowed) (ap (list_all is_digit) c.without_plus_signs.ensures.text ∙ lent.digits))
    c.digits.ensures.borrowed
