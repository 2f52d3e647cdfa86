use Rattle.phone_values.specs.declared.mode.Mode.TheVariants.{Rfc3966}
use Rattle.phone_parts.proofs.PrintedTel.{rfc3966_parts}
use Rattle.phonenumber.proofs.AgainLaws.{again_by}
use Rattle.phonenumber.proofs.BackLaws.{rfc3966_back}
use Rattle.phonenumber.proofs.round_trip.rfc3966.Goals as goal

pub returns : goal.returns
returns c = record {
  read = c.read_of_printed.ensures;
  back = λ plain idle.
      again_by c.args.database.now Rfc3966 c.args.number.now plain.territory _ c.read_of_printed.result plain.plain.listed (λ text utf8 e. rfc3966_back rfc3966_parts c.args.database.now c.args.number.now text c.keeps_bounds.ensures plain e idle) c.read_of_printed.ensures;
}
