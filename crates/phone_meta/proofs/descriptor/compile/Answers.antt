use Rattle.phone_territory.specs.Kinds.{kinds_in}
use Rattle.phone_territory.proofs.EachKind.{all_told}
use Rattle.phone_meta.proofs.descriptor.compile.Goals as goal

pub returns : goal.returns
returns c = record {
  compiled = all_told c.compile.result (kinds_in c.args.given) c.compile.ensures.compiled;
  read = c.compile.ensures.read;
}
