use Rattle.std.proofs.Common.{encode_utf8_all, ap, sym, ◌∙◌}
use Rattle.std.proofs.lemmas.Str.{encodes-chars}
use Rattle.std.specs.Str.{chars}
use Rattle.phone_chars.proofs.Norms.{norm_digits, own_norm}
use Rattle.phone_chars.proofs.norm.is_normal.Goals as goal

pub returns-clause-own : goal.returns-clause-own
returns-clause-own c is =
    ap encode_utf8_all (norm_digits (chars c.args.text.now) (sym c.has_digits_alone.ensures ∙ is)) ∙ encodes-chars c.args.text.now c.utf8.text

pub returns-clause-only : goal.returns-clause-only
returns-clause-only c e = c.has_digits_alone.ensures ∙ own_norm c.args.text.now e
