use Rattle.std.proofs.Common.{◌≡◌, cond, Some, None, MatchOption, [], ap, sym, subst, ◌∙◌}
use Rattle.std.specs.Str.{chars}
use Rattle.phone_library_text.specs.Places.{parted}
use Rattle.phone_library_text.proofs.Literals.{chars-scheme}
use Rattle.phone_library_text.proofs.NumbersIn.{local_after, local_untold}
use Rattle.phone_library_text.proofs.number_text.local_part.Goals as goal

pub returns-in-Some : goal.returns-in-Some
returns-in-Some c =
    let front = chars c.args.front.now in
    sym (local_after (chars c.args.text.now) front (chars c.in-Some.field-0-0.now) (chars c.in-Some.local.now) (ap (λ w. parted w front) (sym chars-scheme) ∙ c.in-Some.ensures.parted))

pub returns-in-None : goal.returns-in-None
returns-in-None c =
    let text = chars c.args.text.now in
    let front = chars c.args.front.now in
    let told = subst (λ w. MatchOption c.split_at_word-in-None.result (parted w text ≡ None) (λ p. parted w text ≡ Some (chars p.0.now, chars p.1.now))) chars-scheme c.split_at_word-in-None.ensures.parted in
    c.unless_told.ensures ∙ ap (λ b. cond b [] front) c.is_some.ensures
    ∙ sym (local_untold text front c.split_at_word-in-None.result (ap (λ w. parted w front) (sym chars-scheme) ∙ c.in-None.ensures.parted) told)
