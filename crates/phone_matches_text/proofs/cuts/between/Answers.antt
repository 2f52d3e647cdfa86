use Rattle.std.proofs.Common.{rules, ◌≡◌, ℕ, suc, false, true, [], ◌∷◌, ◌++◌, chars, encode_utf8, append_assoc, append-nil, ap, sym, ◌∙◌, refl, arith}
use Rattle.std.proofs.lemmas.Str.{chars-nil}
use Rattle.phone_matches_text.proofs.Ends.{before_end_front, end_of_end}
use Rattle.phone_matches_text.specs.Sets.{is_in}
use Rattle.phone_matches_text.proofs.cuts.between.Goals as goal

pub returns-clause-read : goal.returns-clause-read
returns-clause-read c =
    let read = c.before-2.ensures.read c.requires in
    sym (before_end_front _ _ _ read)
