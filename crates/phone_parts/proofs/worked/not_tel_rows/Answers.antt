use Rattle.phone_parts.proofs.TelRefusals.{all_in_run, space, sign_alone, other_letters}
use Rattle.phone_parts.proofs.worked.not_tel_rows.Goals as goal

pub returns : goal.returns
returns c = record { all_in_run = all_in_run; space = space; sign_alone = sign_alone; other_letters = other_letters }
