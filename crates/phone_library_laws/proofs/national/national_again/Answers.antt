use Rattle.phone_library.specs.Facts.{region_of_number}
use Rattle.phone_library_laws.specs.Printed.{uncarried}
use Rattle.phone_library_laws.proofs.NationalBack.{national_back, national_inside}
use Rattle.phone_library_laws.proofs.national.national_again.Goals as goal

pub returns-clause-inside : goal.returns-clause-inside
returns-clause-inside c whose db hint m n text there plain e =
    national_back whose db m (uncarried n) plain.layout hint text there e plain.dialled

pub returns-clause-own_region : goal.returns-clause-own_region
returns-clause-own_region c whose db m n text there plain e =
    national_back whose db m (uncarried n) plain.layout (region_of_number db n) text there e
    plain.dialled

pub returns-clause-exactly : goal.returns-clause-exactly
returns-clause-exactly c whose db hint m n text there layout rules e = (
  national_inside whose db m (uncarried n) layout hint text there e rules,
  national_back whose db m (uncarried n) layout hint text there e,
)
