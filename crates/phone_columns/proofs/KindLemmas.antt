-- The number of a kind is small.
use Rattle.std.proofs.Common.{◌<◌, arith}
use Rattle.phone_values.specs.declared.kind.«Type».{«Type»}
use Rattle.phone_values.specs.declared.kind.«Type».TheVariants as kind
use Rattle.phone_c_base.specs.Answers.{kind_number}

pub kind_small : (k : «Type») → kind_number k < 256
kind_small kind.FixedLine = omega arith
kind_small kind.Mobile = omega arith
kind_small kind.FixedLineOrMobile = omega arith
kind_small kind.TollFree = omega arith
kind_small kind.PremiumRate = omega arith
kind_small kind.SharedCost = omega arith
kind_small kind.PersonalNumber = omega arith
kind_small kind.Voip = omega arith
kind_small kind.Pager = omega arith
kind_small kind.Uan = omega arith
kind_small kind.Emergency = omega arith
kind_small kind.Voicemail = omega arith
kind_small kind.ShortCode = omega arith
kind_small kind.StandardRate = omega arith
kind_small kind.Carrier = omega arith
kind_small kind.NoInternational = omega arith
kind_small kind.Unknown = omega arith
