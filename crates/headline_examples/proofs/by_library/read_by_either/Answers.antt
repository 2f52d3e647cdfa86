use Rattle.std.proofs.Common.{None}
use Rattle.std.specs.Str.{chars}
use Rattle.phone_library_laws.specs.Keys.IsReadByEither.{by_library}
use Rattle.phone_print.specs.Texts.{e164_text}
use Rattle.headline_examples.proofs.NewZealand.{nz_settled}
use Rattle.headline_examples.specs.Samples.{db_b, number}
use Rattle.headline_examples.proofs.by_library.read_by_either.Goals as goal

pub returns : goal.returns
returns c = by_library None (chars (e164_text (number 64 0 33316005 None)))
    (c.e164_again.ensures db_b None (number 64 0 33316005 None) (nz_settled None))
