use Rattle.phone_further.specs.Matches.{match_numbers}
use Rattle.phone_further.specs.TextMatches.{match_guessed}
use Rattle.phone_laws.proofs.OwnSwaps.{match_numbers-swap}
use Rattle.phone_laws.proofs.TextSwaps.{texts-swap}
use Rattle.phone_laws.proofs.own.swapped_texts.Goals as goal

pub returns : goal.returns
returns c db t u x h = texts-swap match_numbers match_guessed match_numbers-swap db c.some_written.ensures t u x h
