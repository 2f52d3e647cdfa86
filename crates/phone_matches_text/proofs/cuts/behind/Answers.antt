use Rattle.std.proofs.lemmas.Str.{chars-append}
use Rattle.std.proofs.Common.{rules, ◌≡◌, ℕ, suc, ◌+◌, false, true, None, [], ◌∷◌, ◌++◌, chars, encode_utf8, append_assoc, append-nil, ap, sym, subst, ◌∙◌, refl, arith}
use Rattle.std.proofs.lemmas.Str.{chars-nil}
use Rattle.phone_matches_text.proofs.Ends.{before_end_front, end_if, end_of_end}
use Rattle.phone_matches_text.specs.Sets.{is_in}
use Rattle.phone_matches_text.proofs.cuts.behind.Goals as goal

pub returns-clause-whole : goal.returns-clause-whole
returns-clause-whole c =
    let v = c.requires in
    v.1 ∙ ap (λ t. c.args.front.now ++ t) (sym (c.after.ensures v.0 v.1))

pub returns-clause-read : goal.returns-clause-read
returns-clause-read c =
    let v = c.requires in
    let whole = v.1 ∙ ap (λ t. c.args.front.now ++ t) (sym (c.after.ensures v.0 v.1)) in
    ap chars whole ∙ chars-append _ _ c.utf8.front
