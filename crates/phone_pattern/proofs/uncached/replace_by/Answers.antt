use Rattle.std.proofs.Common.{string_bytes, ◌∙◌}
use Rattle.regex.proofs.ReplaceLemmas.{IfOk-weaker}
use Rattle.regex.specs.Strings.{IsWrittenBy}
use Rattle.phone_pattern.proofs.Matches.{replaced_by-replaced}
use Rattle.phone_pattern.proofs.uncached.replace_by.Goals as goal

pub returns : goal.returns
returns c = λ source is_read.
    IfOk-weaker (λ out. IsWrittenBy c.args.template.now _ _ (string_bytes out)) _
    (λ out written.
    written.read _ _ is_read
    ∙ rw c.in_ok-matcher.ensures.pattern
    (replaced_by-replaced c.args.re.now c.requires.0 c.requires.1 c.args.text.now (λ k. (c.type_inv.text k).fits) source))
    _ c.replace.ensures.written
