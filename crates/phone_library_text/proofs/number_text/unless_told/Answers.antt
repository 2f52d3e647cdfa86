use Rattle.std.proofs.lemmas.Str.{chars-nil}
use Rattle.phone_library_text.proofs.number_text.unless_told.Goals as goal

pub returns-then-is_told : goal.returns-then-is_told
returns-then-is_told c = rw c.if-is_told.true chars-nil
