use Rattle.phone_doubts.specs.Words.{holds}
use Rattle.phone_read.proofs.Results.{ok_again}
use Rattle.phone_doubts.proofs.answer.doubts.Goals as goal

pub returns : goal.returns
returns c = ok_again c.words.result _ _ (λ words e. record { holds = holds c.in_ok-found.found; doubts = c.in_ok-found.ensures; told = e })
    c.words.ensures
