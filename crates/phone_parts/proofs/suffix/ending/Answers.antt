use Rattle.std.proofs.Common.{◌≡◌, ap, sym, ◌∙◌, true≢false}
use Rattle.std.specs.Str.{chars}
use Rattle.phone_chars.specs.Characters.{is_nd}
use Rattle.phone_chars.specs.Cuts.{front, after_front}
use Rattle.phone_parts.specs.Suffixes.{is_gap, is_sign}
use Rattle.phone_parts.specs.Texts.{after_one}
use Rattle.phone_parts.proofs.Endings.{ending_cut, ending_of, after_sign, digits_test, digits_of_test}
use Rattle.phone_parts.proofs.Slices.{slice_of_end, slice_from_front, end_of_end}
use Rattle.phone_parts.proofs.suffix.ending.Goals as goal

pub returns-then-not-is_nothing-clause-read : goal.returns-then-not-is_nothing-clause-read
returns-then-not-is_nothing-clause-read c = λ d h.
    let cut = ending_cut (chars c.args.text.now) d h in
    let from = c.after_run-from.ensures.rest ∙ ap (after_front is_gap) c.skip_one.ensures.read in
    let sign : chars c.split_run.result.1.now ≡ h.sign = c.split_run.ensures.rest ∙ ap (after_front is_nd) from ∙ sym cut.sign in
    c.is_nothing.ensures.something c.if-not-is_nothing.true (c.skip_one-2.ensures.read ∙ ap (after_one is_sign) sign ∙ after_sign h.sign h.signs)

pub returns-then-not-are_digits-clause-read : goal.returns-then-not-are_digits-clause-read
returns-then-not-are_digits-clause-read c = λ d h.
    let cut = ending_cut (chars c.args.text.now) d h in
    let from = c.after_run-from.ensures.rest ∙ ap (after_front is_gap) c.skip_one.ensures.read in
    let digits : d ≡ chars c.split_run.result.0.now = cut.digits ∙ sym (c.split_run.ensures.front ∙ ap (front is_nd) from) in
    true≢false (sym (digits_test 7 d h.digits) ∙ rw digits (sym c.are_digits.ensures ∙ c.if-not-are_digits.true))

pub returns-clause-read : goal.returns-clause-read
returns-clause-read c =
    let from = c.after_run-from.ensures.rest ∙ ap (after_front is_gap) c.skip_one.ensures.read in
    ending_of (chars c.args.text.now) (chars c.split_run.result.0.now) (chars c.split_run.result.1.now)
    (c.split_run.ensures.front ∙ ap (front is_nd) from) (c.split_run.ensures.rest ∙ ap (after_front is_nd) from)
    (sym c.skip_one-2.ensures.read ∙ c.is_nothing.ensures.nothing c.if-not-is_nothing.false)
    (digits_of_test 7 _ (sym c.are_digits.ensures ∙ c.if-not-are_digits.false))

pub returns-clause-slice : goal.returns-clause-slice
returns-clause-slice c =
    let from = end_of_end _ _ _ c.skip_one.ensures.end c.after_run-from.ensures.end in
    slice_of_end c.args.text.now from.0 c.after_run-from.result.now c.split_run.result.0.now from.1 (slice_from_front _ _ c.split_run.result.1.now c.split_run.ensures.whole)
