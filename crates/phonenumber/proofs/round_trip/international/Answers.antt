use Rattle.phone_values.specs.declared.mode.Mode.TheVariants.{International}
use Rattle.phone_parts.proofs.AnnouncedParts.{announced_parts}
use Rattle.phone_parts.proofs.PrintedInternational.{international_parts}
use Rattle.phonenumber.proofs.AgainLaws.{again_by}
use Rattle.phonenumber.proofs.BackLaws.{international_back}
use Rattle.phonenumber.proofs.BackPrefixes.{announced_safely}
use Rattle.phonenumber.proofs.round_trip.international.Goals as goal

pub returns : goal.returns
returns c = record {
  read = c.read_of_printed.ensures;
  back = λ plain idle some few free benign.
      again_by c.args.database.now International c.args.number.now plain.territory _
      c.read_of_printed.result plain.plain.listed
      (λ text utf8 e. international_back international_parts announced_parts c.args.database.now
      c.args.number.now text c.keeps_bounds.ensures utf8 plain some few free
      (announced_safely plain.territory c.args.number.now benign) e idle)
      c.read_of_printed.ensures;
}
