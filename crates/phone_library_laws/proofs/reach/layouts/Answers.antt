use Rattle.phone_library_laws.proofs.WithoutLayouts.{laid_alike, without_layout}
use Rattle.phone_library_laws.proofs.reach.layouts.Goals as goal

pub returns-clause-without : goal.returns-clause-without
returns-clause-without c whose m n held some none = without_layout whose m n held some none

pub returns-clause-alike : goal.returns-clause-alike
returns-clause-alike c whose m n digits laid = laid_alike whose m n digits laid
