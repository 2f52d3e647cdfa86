use Rattle.std.proofs.Common.{◌≡◌, ℕ, ◌++◌, List, true, IsUtf8, length, ap, sym, subst, ◌∙◌}
use Rattle.std.proofs.lemmas.List.{append_cancel_left}
use Rattle.std.proofs.lemmas.Str.{chars-append}
use Rattle.std.specs.Str.{chars}
use Rattle.phone_parts.specs.Longest.{IsWithoutLongest}
use Rattle.phone_library_text.specs.Extensions.{HasLongestExtension}
use Rattle.phone_library_text.specs.Scans.{allowed, announces, is_nil}
use Rattle.phone_library_text.proofs.Extended.{longest_announced, none_unannounced, none_without_digits}
use Rattle.phone_library_text.proofs.Tests.{nil_of, some_of}
use Rattle.phone_library_text.proofs.extension.find_extension.Goals as goal

-- the digits are what follows the head
digits_read : (signless head digits end : List ℕ) → IsUtf8 head → ((v : List ℕ) × (signless ≡ head ++ v)) → ((w : List ℕ) → signless ≡ head ++ w → digits ≡ w) →
    chars signless ≡ chars head ++ end → end ≡ chars digits
digits_read signless head digits end utf8 cut after read =
    append_cancel_left (chars head) end (chars cut.0) (sym read ∙ ap chars cut.1 ∙ chars-append head cut.0 utf8) ∙ ap chars (sym (after cut.0 cut.1))

pub returns-then-is_nothing-clause-read : goal.returns-then-is_nothing-clause-read
returns-then-is_nothing-clause-read c =
    let s = c.split_sign-signed.ensures.read in
    let d = c.before_run-head.ensures.read in
    let same = digits_read c.split_sign-signed.result.0.now c.before_run-head.result.now c.after-digits.result.now d.end c.before_run-head.utf8
    c.before_run-head.ensures.front c.after-digits.ensures d.whole in
    none_without_digits (chars c.args.text.now) (chars c.split_sign-signed.result.0.now) (chars c.before_run-head.result.now) c.split_sign-signed.result.1 s d
    (same ∙ nil_of (chars c.after-digits.result.now) (sym c.is_nothing.ensures ∙ c.if-is_nothing.true))

pub returns-in_err-front-clause-read : goal.returns-in_err-front-clause-read
returns-in_err-front-clause-read c =
    let s = c.split_sign-signed.ensures.read in
    let d = c.before_run-head.ensures.read in
    let same = digits_read c.split_sign-signed.result.0.now c.before_run-head.result.now c.after-digits.result.now d.end c.before_run-head.utf8
    c.before_run-head.ensures.front c.after-digits.ensures d.whole in
    let size : length d.end ≡ c.count_chars.result = ap length same ∙ sym c.count_chars.ensures in
    rw c.from_residual.ensures
    (none_unannounced (chars c.args.text.now) (chars c.split_sign-signed.result.0.now) (chars c.before_run-head.result.now) c.split_sign-signed.result.1 s d
    (λ before other e k.
    c.in_err-front.ensures.read before other e (subst (λ n. announces (allowed n c.split_sign-signed.result.1) other ≡ true) size k)))

pub returns-clause-read : goal.returns-clause-read
returns-clause-read c =
    let s = c.split_sign-signed.ensures.read in
    let d = c.before_run-head.ensures.read in
    let same = digits_read c.split_sign-signed.result.0.now c.before_run-head.result.now c.after-digits.result.now d.end c.before_run-head.utf8
    c.before_run-head.ensures.front c.after-digits.ensures d.whole in
    let size : length d.end ≡ c.count_chars.result = ap length same ∙ sym c.count_chars.ensures in
    let some = some_of d.end (ap is_nil same ∙ sym c.is_nothing.ensures ∙ c.if-is_nothing.false) in
    subst (λ r. HasLongestExtension (chars c.args.text.now) (chars c.in_ok-front.front.now) r) same
    (longest_announced (chars c.args.text.now) (chars c.split_sign-signed.result.0.now) (chars c.before_run-head.result.now) c.split_sign-signed.result.1 s d
    (chars c.in_ok-front.front.now) some
    (subst (λ n. IsWithoutLongest (λ w. announces (allowed n c.split_sign-signed.result.1) w ≡ true) (chars c.before_run-head.result.now) (chars c.in_ok-front.front.now))
    (sym size) c.in_ok-front.ensures.read))
