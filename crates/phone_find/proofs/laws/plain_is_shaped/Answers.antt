use Rattle.phone_find.proofs.PrintedFound.{plain_shaped}
use Rattle.phone_find.proofs.laws.plain_is_shaped.Goals as goal

pub returns : goal.returns
returns c db n text after bounded utf8 plain ended is short few free = plain_shaped db n text bounded utf8 plain
    ended is short few after free
