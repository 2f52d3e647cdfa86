use Rattle.std.proofs.Common.{arith}
use Rattle.phone_encodings.proofs.LeftOvers.{left_one, left_two}
use Rattle.phone_encodings.proofs.chars.left_over.Goals as goal

pub returns-in-len1-clause-some : goal.returns-in-len1-clause-some
returns-in-len1-clause-some c =
    (omega arith, c.in-len1.len_at_least, left_one _ c.in-len1.len_at_least c.in-len1.len_below)

pub returns-in_default-clause-some : goal.returns-in_default-clause-some
returns-in_default-clause-some c =
    (omega arith, c.in_default.len_at_least, left_two _ c.in_default.len_at_least)
