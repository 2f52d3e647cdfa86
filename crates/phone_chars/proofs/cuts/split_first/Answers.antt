use Rattle.std.proofs.Common.{◌≡◌, ◌<◌, ◌∷◌, ◌++◌, ◌∙◌, encode_utf8, get_or, length, sym, subst, rules, arith}
use Rattle.std.proofs.lemmas.Str.{IsCharBoundary-after_ascii, chars_past_char}
use lib.Utf8.{encode}
use Rattle.phone_chars.proofs.cuts.split_first.Goals as goal

pub range_from-requires : goal.range_from-requires
range_from-requires c below =
    let whole : c.args.text.now ≡ c.in_ok-byte.byte.now ∷ c.in_ok-byte.field-0-1.now = sym c.as_bytes.ensures.value ∙ c.in_ok-byte.ensures.cases.0 in
    IsCharBoundary-after_ascii c.args.text.now 0 c.utf8.text (subst (λ t. 0 < length t) (sym whole) (omega arith))
    (subst (λ t. get_or t 0 0 < 128) (sym whole) c.if-byte-lt128.true)

pub returns-then-byte-lt128-clause-read : goal.returns-then-byte-lt128-clause-read
unfolding encode
returns-then-byte-lt128-clause-read c =
    let cut : c.args.text.now ≡ encode_utf8 c.from.result ++ c.range_from.result.now = search rules in
    chars_past_char _ _ _ c.utf8.text cut
