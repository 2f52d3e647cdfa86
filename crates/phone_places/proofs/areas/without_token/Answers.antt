use Rattle.std.proofs.Common.{arith}
use Rattle.std.proofs.lemmas.Str.Pattern.{strip_prefix_char}
use Rattle.phone_places.proofs.Tokens.{without_so}
use Rattle.phone_places.proofs.areas.without_token.Goals as goal

pub returns : goal.returns
returns c = without_so c.args.digits.now c.strip_prefix.result (strip_prefix_char 57 _ _ c.strip_prefix.ensures.cases (omega arith))
