use Rattle.std.proofs.lemmas.Fmt.{IsAscii-from_digits}
use Rattle.std.proofs.lemmas.Str.{chars-IsAscii, encodes-IsAscii}
use Rattle.phone_values.proofs.ReadBack.{all_digits}
use Rattle.phone_chars.proofs.laws.digits_are_bytes.Goals as goal

pub returns-clause-read : goal.returns-clause-read
returns-clause-read c t digits = chars-IsAscii t (IsAscii-from_digits t (all_digits t digits))

pub returns-clause-written : goal.returns-clause-written
returns-clause-written c t digits = encodes-IsAscii t (IsAscii-from_digits t (all_digits t digits))
