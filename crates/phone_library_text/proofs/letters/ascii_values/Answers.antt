use Rattle.std.proofs.Common.{◌≡◌, IsUtf8, ap, sym, subst, ◌∙◌, rules}
use Rattle.std.proofs.lemmas.Str.{chars-IsAscii}
use Rattle.std.specs.List.{filter_map}
use Rattle.phone_chars.proofs.Norms.{is_ascii_text}
use Rattle.phone_library_text.specs.Letters.{value_of}
use Rattle.phone_library_text.proofs.Digits.{values_utf8}
use Rattle.phone_library_text.proofs.letters.ascii_values.Goals as goal

pub from_utf8_unchecked-requires : goal.from_utf8_unchecked-requires
from_utf8_unchecked-requires c = subst IsUtf8 (sym c.in_ok-digits.ensures) (values_utf8 c.as_bytes.result.now)

pub returns : goal.returns
returns c =
    let ascii = is_ascii_text c.args.text.now c.requires in
    let items : c.in_ok-digits.digits.items ≡ filter_map value_of c.args.text.now = search rules in
    ap (λ v. v.items) c.from_utf8_unchecked.ensures.value ∙ items ∙ ap (filter_map value_of) (sym (chars-IsAscii c.args.text.now ascii))
