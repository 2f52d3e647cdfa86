use Rattle.std.proofs.Common.{[], append-nil, inl, refl, sym, ◌∙◌}
use Rattle.std.specs.Str.{chars}
use Rattle.phone_parts.proofs.Cores.{no_second_number}
use Rattle.phone_parts.proofs.helper.first_number.Goals as goal

pub returns-else-has_small_x-clause-read : goal.returns-else-has_small_x-clause-read
returns-else-has_small_x-clause-read c = record {
  after = [];
  whole = sym (append-nil _);
  ended = inl refl;
  earliest = λ k less. no_second_number (chars c.args.text.now) k (sym c.has_small_x.ensures ∙ c.if-has_small_x.false);
}
