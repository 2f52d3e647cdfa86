use Rattle.phone_cli.specs.Streams.{joined}
use Rattle.phone_cli.proofs.WriteLemmas.{told_of}
use Rattle.phone_cli.proofs.say.say.Goals as goal

pub returns-clause-some : goal.returns-clause-some
returns-clause-some g c = (
  joined c.args.texts.now,
  told_of _ _ _ _ _ _ c.write_line-written.ensures,
)
