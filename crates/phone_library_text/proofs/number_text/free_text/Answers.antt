use Rattle.std.proofs.Common.{Some, sym, subst}
use Rattle.std.specs.Str.{chars}
use Rattle.phone_library_text.specs.NumberTexts
use Rattle.phone_library_text.specs.NumberTexts.{HasNumberText}
use Rattle.phone_library_text.proofs.number_text.free_text.Goals as goal

pub returns-in-Some : goal.returns-in-Some
returns-in-Some c none =
    subst (λ n. HasNumberText (chars c.args.text.now) (Some n)) (sym c.without_subaddress.ensures)
    (NumberTexts.free (chars c.in-Some.core.now) none c.in-Some.ensures.core)

pub returns-in-None : goal.returns-in-None
returns-in-None c none = NumberTexts.nothing none c.in-None.ensures.core
