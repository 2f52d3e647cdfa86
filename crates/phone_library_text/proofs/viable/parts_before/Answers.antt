use Rattle.std.proofs.Common.{inr, inl, sym, ◌∙◌, true≢false}
use Rattle.std.specs.Str.{chars}
use Rattle.phone_library_text.specs.Viable.{extended}
use Rattle.phone_library_text.proofs.Viables.{extended_of}
use Rattle.phone_library_text.proofs.viable.parts_before.Goals as goal

pub returns-then-is_signed_digits : goal.returns-then-is_signed_digits
returns-then-is_signed_digits c =
    let signed = c.is_signed_digits.ensures.0 c.if-is_signed_digits.true in (
      inr (inr (extended_of (chars c.args.text.now) (chars c.args.front.now) (chars c.args.digits.now) c.requires signed)),
      extended (chars c.args.front.now) (chars c.args.digits.now) c.requires (inr (inl signed)),
    )

pub returns-then-is_viable : goal.returns-then-is_viable
returns-then-is_viable c = (c.is_viable.ensures.0 c.if-is_viable.true, c.split_extension.ensures.read)

pub returns-else-is_viable : goal.returns-else-is_viable
returns-else-is_viable c = λ v. true≢false (sym (c.is_viable.ensures.1 v) ∙ c.if-is_viable.false)
