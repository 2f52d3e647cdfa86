use Rattle.std.proofs.Common.{rules, ◌≡◌, ℕ, suc, false, true, [], ◌∷◌, ◌++◌, chars, encode_utf8, append_assoc, append-nil, ap, sym, ◌∙◌, refl, arith}
use Rattle.std.proofs.lemmas.Str.{chars-nil}
use Rattle.phone_matches_text.proofs.Ends.{end_of_end}
use Rattle.phone_matches_text.specs.Sets.{is_in}
use Rattle.phone_matches_text.proofs.cuts.peel.Goals as goal

pub returns-in_err-c-clause-read : goal.returns-in_err-c-clause-read
returns-in_err-c-clause-read c = rw c.from_residual.ensures (ap chars c.in_err-c.ensures.cut ∙ chars-nil)
