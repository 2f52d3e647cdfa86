use Rattle.phone_library_laws.proofs.SignedCodes.{sign_again, sign_alike, sign_refused}
use Rattle.phone_library_laws.proofs.readings.plus_sign.Goals as goal

pub returns-clause-alike : goal.returns-clause-alike
returns-clause-alike c db = sign_alike c.one_written.ensures db

pub returns-clause-refused : goal.returns-clause-refused
returns-clause-refused c db = sign_refused c.one_written.ensures db

pub returns-clause-tried_again : goal.returns-clause-tried_again
returns-clause-tried_again c db = sign_again c.one_written.ensures db
