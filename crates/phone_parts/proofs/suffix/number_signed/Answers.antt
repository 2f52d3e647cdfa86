use Rattle.std.proofs.Common.{◌≡◌, ◌==◌, ◌∷◌, [], length, refl, ap, sym, ◌∙◌, true≢false, arith}
use Rattle.std.specs.Str.{chars}
use Rattle.phone_chars.specs.Characters.{is_nd}
use Rattle.phone_chars.specs.Cuts.{front, after_front}
use Rattle.phone_parts.specs.Texts.{begins}
use Rattle.phone_parts.proofs.Endings.{number_signed_cut, digits_test, digits_of_test, number_signed_of}
use Rattle.phone_parts.proofs.suffix.number_signed.Goals as goal

pub returns-then-is_nothing-clause-read : goal.returns-then-is_nothing-clause-read
returns-then-is_nothing-clause-read c = λ d h.
    let cut = number_signed_cut (chars c.args.text.now) d h in
    let nil : h.lead ≡ [] = cut.dashes ∙ sym c.split_run.ensures.front ∙ c.is_nothing.ensures.nothing c.if-is_nothing.true in
    absurd (omega (arith, h.some_lead, ap length nil))

pub returns-then-is_nothing-2-clause-read : goal.returns-then-is_nothing-2-clause-read
returns-then-is_nothing-2-clause-read c = λ d h.
    let cut = number_signed_cut (chars c.args.text.now) d h in
    let nil : d ≡ [] = cut.middle ∙ sym (c.split_run-2.ensures.front ∙ ap (front is_nd) c.split_run.ensures.rest) ∙ c.is_nothing-2.ensures.nothing c.if-is_nothing-2.true in
    absurd (omega (arith, h.some_digits, ap length nil))

pub returns-then-not-are_digits-clause-read : goal.returns-then-not-are_digits-clause-read
returns-then-not-are_digits-clause-read c = λ d h.
    let cut = number_signed_cut (chars c.args.text.now) d h in
    let same : d ≡ chars c.split_run-2.result.0.now = cut.middle ∙ sym (c.split_run-2.ensures.front ∙ ap (front is_nd) c.split_run.ensures.rest) in
    true≢false (sym (digits_test 5 d h.digits) ∙ rw same (sym c.are_digits.ensures ∙ c.if-not-are_digits.true))

pub returns-in_err-end-clause-read : goal.returns-in_err-end-clause-read
returns-in_err-end-clause-read c = rw c.from_residual.ensures (λ d h.
    let cut = number_signed_cut (chars c.args.text.now) d h in
    let back : 35 ∷ [] ≡ chars c.split_run-2.result.1.now = cut.back ∙ sym (c.split_run-2.ensures.rest ∙ ap (after_front is_nd) c.split_run.ensures.rest) in
    true≢false (ap (begins (λ x. x == 35)) back ∙ c.in_err-end.ensures.read))

pub returns-then-not-is_nothing-clause-read : goal.returns-then-not-is_nothing-clause-read
returns-then-not-is_nothing-clause-read c = λ d h.
    let cut = number_signed_cut (chars c.args.text.now) d h in
    let back : 35 ∷ [] ≡ 35 ∷ chars c.in_ok-end.end.now = cut.back ∙ sym (c.split_run-2.ensures.rest ∙ ap (after_front is_nd) c.split_run.ensures.rest) ∙ c.in_ok-end.ensures.read in
    let nil : chars c.in_ok-end.end.now ≡ [] = cc in
    c.is_nothing-3.ensures.something c.if-not-is_nothing.true nil

pub returns-clause-read : goal.returns-clause-read
returns-clause-read c =
    number_signed_of (chars c.args.text.now) (chars c.split_run.result.0.now) (chars c.split_run-2.result.0.now) (chars c.split_run-2.result.1.now)
    c.split_run.ensures.front (c.split_run-2.ensures.front ∙ ap (front is_nd) c.split_run.ensures.rest) (c.split_run-2.ensures.rest ∙ ap (after_front is_nd) c.split_run.ensures.rest)
    (c.in_ok-end.ensures.read ∙ ap (λ t. 35 ∷ t) (c.is_nothing-3.ensures.nothing c.if-not-is_nothing.false))
    (c.is_nothing.ensures.something c.if-is_nothing.false) (c.is_nothing-2.ensures.something c.if-is_nothing-2.false)
    (digits_of_test 5 _ (sym c.are_digits.ensures ∙ c.if-not-are_digits.false))

pub returns-then-text-limit-clause-read : goal.returns-then-text-limit-clause-read
returns-then-text-limit-clause-read c = λ d h. absurd (omega (arith, c.requires [] c.args.text.now refl c.utf8.text (d, h), c.if-text-limit.true))
