use Rattle.std.proofs.Common.{◌≡◌, ◌==◌, false, ap, sym, ◌∙◌}
use Rattle.std.proofs.lemmas.Str.{chars-nil}
use Rattle.std.specs.Str.{chars}
use Rattle.phone_chars.specs.Characters.{is_plus}
use Rattle.phone_chars.specs.Cuts.{after_front}
use Rattle.phone_library_text.proofs.Signed.{number_walk, signed_iff, walk_stopped}
use Rattle.phone_library_text.proofs.viable.is_signed_digits.Goals as goal

pub returns-then-not-may_stand : goal.returns-then-not-may_stand
returns-then-not-may_stand c =
    let none : number_walk 3 (after_front is_plus (chars c.args.text.now)) ≡ false =
    c.loop-c.invariant.1 ∙ ap (number_walk c.loop-c.missing) c.in-Some.ensures.read
    ∙ walk_stopped c.loop-c.missing c.in-Some.c (chars c.in-Some.after.now) (sym c.is_nd.ensures ∙ c.if-is_nd.false) (sym c.may_stand.ensures ∙ c.if-not-may_stand.true) in
    signed_iff (chars c.args.text.now) false none

pub returns : goal.returns
returns c =
    let all : number_walk 3 (after_front is_plus (chars c.args.text.now)) ≡ (c.loop-c.missing == 0) =
    c.loop-c.invariant.1 ∙ ap (λ t. number_walk c.loop-c.missing (chars t)) c.in_default.ensures.cut
    ∙ ap (number_walk c.loop-c.missing) chars-nil in
    signed_iff (chars c.args.text.now) (c.loop-c.missing == 0) all
