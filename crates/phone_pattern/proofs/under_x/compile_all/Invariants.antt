use Rattle.std.proofs.Common.{◌≡◌, map, take}
use Rattle.std.specs.List.{AllByRecursion}
use Rattle.regex.specs.Strings.{regex_source}
use Rattle.phone_pattern.specs.First.{IsUnderX}
use Rattle.phone_pattern.proofs.Refused.{ArePatterns}
use Rattle.phone_pattern.proofs.under_x.compile_all.Given as goal

abbrev pub invariant-loop-text : goal.invariant-loop-text
invariant-loop-text l =
    (map regex_source l.patterns.items ≡ take l.text-index l.texts) ×
    AllByRecursion IsUnderX l.patterns.items ×
    ArePatterns (map regex_source l.patterns.items)
