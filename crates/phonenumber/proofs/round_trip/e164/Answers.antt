use Rattle.phone_values.specs.declared.mode.Mode.TheVariants.{E164}
use Rattle.phone_parts.proofs.PrintedE164.{e164_parts}
use Rattle.phonenumber.proofs.AgainLaws.{again_by}
use Rattle.phonenumber.proofs.BackLaws.{e164_back}
use Rattle.phonenumber.proofs.round_trip.e164.Goals as goal

pub returns : goal.returns
returns c = record {
  read = c.read_of_printed.ensures;
  back = λ plain idle some few free.
      again_by c.args.database.now E164 c.args.number.now plain.0 _ c.read_of_printed.result plain.1.listed (λ text utf8 e. e164_back e164_parts c.args.database.now c.args.number.now text c.keeps_bounds.ensures plain some few free e idle) c.read_of_printed.ensures;
}
