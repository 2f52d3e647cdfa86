use Rattle.std.proofs.Common.{◌≡◌, cond, IfOk, string_bytes, ap, sym, subst, ◌∙◌}
use Rattle.std.proofs.lemmas.Str.{chars-IsAscii}
use Rattle.std.specs.List.{filter_map}
use Rattle.std.specs.Str.{chars}
use Rattle.phone_library_text.specs.Letters.{key_of, value_of}
use Rattle.phone_chars.proofs.Norms.{is_ascii_text}
use Rattle.phone_library_text.proofs.Digits.{are_unlettered, small_of_unlettered, unlettered_is_not}
use Rattle.phone_library_text.proofs.letters.own_digits.Goals as goal

pub ascii_values-requires : goal.ascii_values-requires
ascii_values-requires c =
    small_of_unlettered c.args.text.now
    (ap are_unlettered (sym c.as_bytes.ensures.value) ∙ sym c.are_unlettered.ensures ∙ c.if-are_unlettered.true)

pub returns-then-are_unlettered : goal.returns-then-are_unlettered
returns-then-are_unlettered c =
    let text = c.args.text.now in
    let all = ap are_unlettered (sym c.as_bytes.ensures.value) ∙ sym c.are_unlettered.ensures ∙ c.if-are_unlettered.true in
    let read = chars-IsAscii text (is_ascii_text text (small_of_unlettered text all)) in
    subst (λ b. IfOk c.ascii_values.result (λ s. string_bytes s ≡ filter_map (cond b key_of value_of) (chars text)))
    (sym (unlettered_is_not (chars text) (ap are_unlettered read ∙ all))) c.ascii_values.ensures

pub returns-then-is_lettered : goal.returns-then-is_lettered
returns-then-is_lettered c =
    subst (λ b. IfOk c.keys.result (λ s. string_bytes s ≡ filter_map (cond b key_of value_of) (chars c.args.text.now)))
    (sym (sym c.is_lettered.ensures ∙ c.if-is_lettered.true)) c.keys.ensures

pub returns-else-is_lettered : goal.returns-else-is_lettered
returns-else-is_lettered c =
    subst (λ b. IfOk c.digit_values.result (λ s. string_bytes s ≡ filter_map (cond b key_of value_of) (chars c.args.text.now)))
    (sym (sym c.is_lettered.ensures ∙ c.if-is_lettered.false)) c.digit_values.ensures
