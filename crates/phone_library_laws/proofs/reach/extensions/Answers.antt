use Rattle.phone_library_laws.proofs.ExtensionsRead.{extension_read}
use Rattle.phone_library_laws.proofs.Prefixes.{announced_by_default}
use Rattle.phone_library_laws.proofs.reach.extensions.Goals as goal

pub returns-clause-read : goal.returns-clause-read
returns-clause-read c db hint text n read = extension_read db hint text n read

pub returns-clause-by_default : goal.returns-clause-by_default
returns-clause-by_default c m e none digits = announced_by_default m e none digits
