use Rattle.phone_pattern.proofs.Matches.{captures-captured, none-captured}
use Rattle.phone_pattern.proofs.uncached.captures.Goals as goal

pub returns-in-Some-clause-found : goal.returns-in-Some-clause-found
returns-in-Some-clause-found c =
    let m = rw c.in_ok-matcher.ensures.pattern at c.in-Some.ensures.found in
    let counted = rw c.captures_len.ensures.names at c.saturating_sub-last.ensures in
    let told = c.captured_in.ensures in
    captures-captured c.args.re.now c.requires.0 c.requires.1 c.args.text.now
    (λ k. (c.type_inv.text k).fits) m.0 c.in-Some.captures _ _ _ m.1 m.2 told.span (rw (← counted) told.first) (rw (← counted) told.last)

pub returns-clause-found : goal.returns-clause-found
returns-clause-found c =
    none-captured c.args.re.now c.requires.0 c.requires.1 c.args.text.now
    (λ k. (c.type_inv.text k).fits) (rw c.in_ok-matcher.ensures.pattern at c.in-None.ensures.found)
