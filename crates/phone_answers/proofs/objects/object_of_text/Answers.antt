use Rattle.phone_answers.proofs.objects.object_of_text.Goals as goal

pub returns : goal.returns
returns c = c.object_of.ensures _ c.try_from_str-value.ensures
