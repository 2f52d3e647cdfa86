use Rattle.std.proofs.Common.{ℕ, Option, Ok, Err, Result, List, drop, length, sym, ap, ◌∙◌}
use Rattle.std.specs.Fmt.{decimal}
use Rattle.std.specs.Option.{option_map_or}
use Rattle.phone_values.specs.declared.country.Source.{Source}
use Rattle.phone_values.specs.declared.error.ParseError.{ParseError}
use Rattle.phone_values.specs.declared.error.ParseError.TheVariants.{InvalidCountryCode}
use Rattle.phone_read.specs.Hints.{Coded}
use Rattle.phone_parts.specs.Texts.{is_front}
use Rattle.phone_parts.proofs.Prefixes.{is_front-append}
use Rattle.phone_read.proofs.ListedFronts.{shortest-front}
use Rattle.phone_read.proofs.calling_code.shortest_code.Goals as goal

-- the code that was found, if one was, with what follows it
abbrev coded : Source → List ℕ → Option ℕ → Result Coded ParseError
coded source digits o = option_map_or (λ code. Ok (record { source = source; value = code; rest = drop (length (decimal code)) digits })) o (Err InvalidCountryCode)

pub returns-in-Some-clause-code : goal.returns-in-Some-clause-code
returns-in-Some-clause-code c = λ source. ap (coded source c.args.digits.now) (sym c.shortest.ensures ∙ c.in-Some.is)

pub returns-in-None-clause-code : goal.returns-in-None-clause-code
returns-in-None-clause-code c = λ source. ap (coded source c.args.digits.now) (sym c.shortest.ensures ∙ c.in-None.is)

pub returns-in-Some-clause-front : goal.returns-in-Some-clause-front
returns-in-Some-clause-front c =
    let at = shortest-front c.args.db.now c.args.digits.now c.in-Some.code (sym c.shortest.ensures ∙ c.in-Some.is) in
    ap (is_front (decimal c.in-Some.code)) at.1 ∙ is_front-append (decimal c.in-Some.code) at.0
