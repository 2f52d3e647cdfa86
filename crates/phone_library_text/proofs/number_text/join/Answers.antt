use Rattle.std.proofs.Common.{◌≡◌, ◌++◌, ap, ◌∙◌}
use Rattle.std.proofs.lemmas.Str.{chars-append}
use Rattle.std.specs.Str.{chars}
use Rattle.std.specs.String.{string_bytes}
use Rattle.phone_library_text.specs.Places.{before_first}
use Rattle.phone_library_text.proofs.Literals.{chars-subaddress}
use Rattle.phone_library_text.proofs.number_text.join.Goals as goal

pub returns : goal.returns
returns c =
    let context = c.args.context.now in
    let kept = c.before_first.result.now in
    let bytes : string_bytes c.push_str.new.self ≡ context ++ kept = search (c.push_str.ensures.bytes, c.in_ok-push_str.was, c.in_ok-whole.ensures.ok) in
    ap chars bytes ∙ chars-append context kept c.utf8.context
    ∙ ap (λ t. chars context ++ t) (c.before_first.ensures ∙ ap (λ w. before_first w (chars c.args.local.now)) chars-subaddress)
