use Rattle.std.proofs.Common.{◌==◌, Some, None}
use Rattle.std.specs.Str.{chars}
use Rattle.std.specs.Str.Pattern.{FindsCharPrefix}
use Rattle.phone_parts.proofs.Patterns.{one_char, strip-begins, stripped_char}
use Rattle.phone_library_text.proofs.Globals.{global_of_rest, none_global}
use Rattle.phone_library_text.proofs.contexts.is_global.Goals as goal

pub returns-in-Some : goal.returns-in-Some
returns-in-Some c =
    let text = c.args.text.now in
    global_of_rest (chars text) (chars c.in-Some.rest.now) c.are_global_digits.result
    (stripped_char 43 text (Some c.in-Some.rest) (strip-begins (λ d. d == 43) (FindsCharPrefix 43) (one_char 43) text (Some c.in-Some.rest) c.utf8.text c.in-Some.ensures.cases))
    c.are_global_digits.ensures

pub returns-in-None : goal.returns-in-None
returns-in-None c =
    none_global (chars c.args.text.now) (strip-begins (λ d. d == 43) (FindsCharPrefix 43) (one_char 43) c.args.text.now None c.utf8.text c.in-None.ensures.cases)
