use Rattle.phone_chars.specs.Norm.{norm}
use Rattle.phone_chars.proofs.Norms.{norm_digits, list_all-norm}
use Rattle.phone_chars.proofs.laws.digits_stay.Goals as goal

pub returns-clause-digits : goal.returns-clause-digits
returns-clause-digits c = list_all-norm

pub returns-clause-again : goal.returns-clause-again
returns-clause-again c t = norm_digits (norm t) (list_all-norm t)
