use Rattle.std.proofs.Common.{sym, true≢false}
use Rattle.std.specs.Str.{chars}
use Rattle.phone_library_text.proofs.Viables.{extended_iff, not_extended}
use Rattle.phone_library_text.proofs.viable.is_extended.Goals as goal

pub returns-in-Some : goal.returns-in-Some
returns-in-Some c =
    extended_iff (chars c.args.text.now) (chars c.in-Some.front.now) (chars c.in-Some.field-0-1.now) c.in-Some.ensures.read c.is_signed_digits.result c.is_signed_digits.ensures

pub returns-in-None : goal.returns-in-None
returns-in-None c = (λ h. absurd (true≢false (sym h)), λ x. absurd (not_extended (chars c.args.text.now) c.in-None.ensures.read x))
