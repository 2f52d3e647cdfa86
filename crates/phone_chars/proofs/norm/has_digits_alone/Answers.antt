use Rattle.std.proofs.Common.{rules}
use Rattle.phone_chars.proofs.Norms.{digits_by_bytes}
use Rattle.phone_chars.proofs.norm.has_digits_alone.Goals as goal

pub returns : goal.returns
returns c = search (rules, digits_by_bytes c.args.text.now c.utf8.text)
