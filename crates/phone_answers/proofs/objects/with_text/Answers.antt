use Rattle.phone_answers.proofs.objects.with_text.Goals as goal

pub returns : goal.returns
returns c ms h = c.with_value.ensures ms _ h c.try_from_str.ensures
