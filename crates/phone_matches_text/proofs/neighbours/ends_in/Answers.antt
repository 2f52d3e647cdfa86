use Rattle.std.proofs.Common.{rules, ◌≡◌, ℕ, suc, false, true, [], ◌∷◌, ◌++◌, chars, encode_utf8, append_assoc, append-nil, ap, sym, ◌∙◌, refl, arith}
use Rattle.std.proofs.lemmas.Str.{chars-nil}
use Rattle.phone_matches_text.proofs.Ends.{end_of_end}
use Rattle.phone_matches_text.specs.Sets.{is_in}
use Rattle.phone_parts.specs.Texts.{ends}
use Rattle.phone_parts.proofs.Cores.{ends-push}
use Rattle.phone_matches_text.proofs.neighbours.ends_in.Goals as goal

pub returns-in-None : goal.returns-in-None
returns-in-None c = rw (c.in-None.ensures.cut, chars-nil) refl

pub returns-in-Some : goal.returns-in-Some
returns-in-Some c =
    let p = is_in c.args.set in
    c.has.ensures ∙ sym (ap (ends p) c.in-Some.ensures.read ∙ ends-push p (chars c.in-Some.field-0-0.now) c.in-Some.c)
