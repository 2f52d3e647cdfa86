use Rattle.std.proofs.Common.{◌++◌, rules, subst, sym, drop, ap, ◌∙◌}
use Rattle.std.proofs.lemmas.Str.{IsAscii-drop, IsUtf8-append, IsUtf8-from_ascii}
use Rattle.std.specs.Str.{IsAscii, IsUtf8}
use Rattle.phone_automaton.proofs.Ascii.{digits_ascii}
use Rattle.phone_automaton.proofs.template.replace_in_digits.Goals as goal

pub from_utf8_unchecked-requires : goal.from_utf8_unchecked-requires
from_utf8_unchecked-requires c =
    let hay = c.args.hay.now in
    let ascii = digits_ascii hay c.requires in
    let written : IsUtf8 c.push_written.new.out.items = c.in_ok-push_written.ensures.utf8 c.if-not-branch.false
    (subst IsAscii (sym c.as_bytes-bytes.ensures.value) ascii)
    (subst (λ items. IsUtf8 (items ++ c.as_bytes.result.now)) (sym c.in_ok-out.ensures.items)
    (subst IsUtf8 (sym c.as_bytes.ensures.value) c.utf8.template)) in
    let behind : IsUtf8 c.after.result.now = subst IsUtf8 (sym (c.after.ensures ∙ ap (drop c.args.end) c.as_bytes-bytes.ensures.value))
    (IsUtf8-from_ascii (drop c.args.end hay) (IsAscii-drop hay c.args.end ascii)) in
    subst IsUtf8 (sym c.in_ok-push_all.ensures) (IsUtf8-append c.push_written.new.out.items c.after.result.now written behind)

pub returns : goal.returns
returns c =
    let (bytes, behind, written) = c.in_ok-push_written.ensures.written c.if-not-branch.false in
    let written = rw (c.as_bytes-bytes.ensures.value, c.as_bytes.ensures.value) at written in
    (bytes, search (rules, behind), written)
