use Rattle.std.proofs.Common.{rules, not}
use Rattle.phone_chars.proofs.Trims.{trim_end-answers}
use Rattle.phone_parts.specs.Cores.{is_last}
use Rattle.phone_parts.proofs.Cores.{trimmed_without_end}
use Rattle.phone_parts.proofs.helper.trim_end.Goals as goal

pub returns-clause-read : goal.returns-clause-read
returns-clause-read c =
    trimmed_without_end c.args.text.now c.trim_end_matches.result.now
    (trim_end-answers _ _ (λ x. not (is_last x)) _ _ c.utf8.text c.trim_end_matches.ensures.matches (λ a r f k. search rules))

pub returns-clause-front : goal.returns-clause-front
returns-clause-front c =
    (trim_end-answers _ _ (λ x. not (is_last x)) _ _ c.utf8.text c.trim_end_matches.ensures.matches (λ a r f k. search rules)).end
