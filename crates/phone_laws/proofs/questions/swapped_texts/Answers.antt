use Rattle.phone_questions.specs.Matches.{match_of}
use Rattle.phone_further.specs.TextMatches.{match_unsure}
use Rattle.phone_laws.proofs.Swaps.{match_of-swap}
use Rattle.phone_laws.proofs.TextSwaps.{texts-swap}
use Rattle.phone_laws.proofs.questions.swapped_texts.Goals as goal

pub returns : goal.returns
returns c db t u x h = texts-swap match_of match_unsure match_of-swap db c.some_written.ensures t u x h
