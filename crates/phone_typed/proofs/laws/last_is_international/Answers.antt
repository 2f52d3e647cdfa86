use Rattle.phone_typed.proofs.PrintedTexts.{typed_abroad}
use Rattle.phone_typed.proofs.laws.last_is_international.Goals as goal

pub returns : goal.returns
returns c db hint m n h = typed_abroad db hint m n h
