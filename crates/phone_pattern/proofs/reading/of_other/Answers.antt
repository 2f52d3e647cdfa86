use Rattle.std.proofs.Common.{◌≡◌, length, option_map, string_bytes, rules, sym, ◌∙◌}
use Rattle.std.proofs.lemmas.List.{length-map}
use Rattle.phone_pattern.proofs.ReadTexts.{other_read}
use Rattle.regex_hir.specs.Meaning.{meaning}
use Rattle.phone_pattern.proofs.reading.of_other.Goals as goal

pub returns-in-Ok : goal.returns-in-Ok
returns-in-Ok c =
    let parsed = c.in_ok-parsed.parsed in
    let counted : c.len.result ≡ length parsed.names.items = search rules in
    let h = other_read c.args.pattern.now parsed.hir _ (meaning c.in-Ok.hir) c.in_ok-parsed.ensures c.in-Ok.ensures in
    (h.0, h.1, counted ∙ sym (length-map parsed.names.items (option_map string_bytes)) ∙ h.2)
