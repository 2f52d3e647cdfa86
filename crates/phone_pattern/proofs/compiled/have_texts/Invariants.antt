use Rattle.std.proofs.Common.{◌≡◌, length, map}
use Rattle.regex.specs.Strings.{regex_source}
use Rattle.phone_pattern.proofs.compiled.have_texts.Given as goal

abbrev pub invariant-loop-pattern : goal.invariant-loop-pattern
invariant-loop-pattern l = map regex_source l.patterns ≡ l.texts → map regex_source l.fn.patterns ≡ l.fn.texts

abbrev pub decreases-loop-pattern : goal.decreases-loop-pattern
decreases-loop-pattern l = length l.patterns
