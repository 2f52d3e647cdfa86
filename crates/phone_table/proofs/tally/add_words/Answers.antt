use Rattle.std.proofs.Common.{◌∙◌, ap, subst}
use Rattle.std.proofs.lemmas.Result.{on_ok_weaker}
use Rattle.phone_table.specs.Summaries.{texts_in}
use Rattle.phone_table.specs.Tallies.{CountsMore}
use Rattle.phone_table.proofs.tally.add_words.Goals as goal

pub returns : goal.returns
returns c = on_ok_weaker c.add_each.result
    (λ h. subst (λ ws. CountsMore c.args.tally.now ws c.add_each.new.tally)
    (ap texts_in c.as_slice.ensures.value ∙ c.in_ok-words.ensures) h)
    c.add_each.ensures
