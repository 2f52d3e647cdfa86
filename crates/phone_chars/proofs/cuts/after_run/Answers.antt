use Rattle.std.proofs.Common.{rules}
use Rattle.phone_chars.proofs.Trims.{trim_start-answers}
use Rattle.phone_chars.proofs.cuts.after_run.Goals as goal

pub returns-clause-end : goal.returns-clause-end
returns-clause-end g c =
    (trim_start-answers _ _ (g.S.CharSet.members c.args.set.now) _ _ c.utf8.text c.trim_start_matches.ensures.matches (λ a r f k. search rules)).0

pub returns-clause-rest : goal.returns-clause-rest
returns-clause-rest g c =
    (trim_start-answers _ _ (g.S.CharSet.members c.args.set.now) _ _ c.utf8.text c.trim_start_matches.ensures.matches (λ a r f k. search rules)).1
