use Rattle.std.proofs.Common.{◌≡◌, All, ◌<◌, IsUtf8, encode_utf8_all, ap, sym, subst, ◌∙◌, rules}
use Rattle.std.proofs.lemmas.Str.{chars-IsAscii}
use Rattle.phone_chars.proofs.Norms.{is_ascii_text, norm_utf8, norm_written}
use Rattle.phone_chars.specs.Norm.{norm}
use Rattle.phone_chars.proofs.norm.digits.Goals as goal

pub from_utf8_unchecked-requires : goal.from_utf8_unchecked-requires
from_utf8_unchecked-requires c = subst IsUtf8 (sym c.in_ok-digits.ensures) (norm_utf8 c.as_bytes-then-is_ascii.result.now)

pub returns-then-is_ascii : goal.returns-then-is_ascii
returns-then-is_ascii c =
    let small : All (λ b. b < 128) c.args.text.now = search rules in
    let ascii = is_ascii_text c.args.text.now small in
    let items : c.in_ok-digits.digits.items ≡ norm c.args.text.now = search rules in
    ap (λ v. v.items) c.from_utf8_unchecked.ensures.value ∙ items ∙ sym (norm_written c.args.text.now)
    ∙ ap (λ t. encode_utf8_all (norm t)) (sym (chars-IsAscii c.args.text.now ascii))
