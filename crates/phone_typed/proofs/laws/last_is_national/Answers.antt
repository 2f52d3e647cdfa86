use Rattle.phone_typed.proofs.PrintedTexts.{typed_at_home}
use Rattle.phone_typed.proofs.laws.last_is_national.Goals as goal

pub returns : goal.returns
returns c db hint m n h = typed_at_home db hint m n h
