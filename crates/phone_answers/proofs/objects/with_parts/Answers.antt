use Rattle.phone_answers.proofs.objects.with_parts.Goals as goal

pub returns-in-None : goal.returns-in-None
returns-in-None c ms h = rw c.in-None.is (c.without_parts.ensures c.args.engine.rules c.args.engine.database.now ms h)
