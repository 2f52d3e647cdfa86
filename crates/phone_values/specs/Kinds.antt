-- The names of kinds.
use Rattle.std.specs.Prelude.{ℕ, List, codes}
use Rattle.phone_values.specs.declared.kind.«Type».{«Type»}
use Rattle.phone_values.specs.declared.kind.«Type».TheVariants.{FixedLine, Mobile}
use Rattle.phone_values.specs.declared.kind.«Type».TheVariants.{FixedLineOrMobile}
use Rattle.phone_values.specs.declared.kind.«Type».TheVariants.{TollFree, PremiumRate, SharedCost}
use Rattle.phone_values.specs.declared.kind.«Type».TheVariants.{PersonalNumber, Voip, Pager, Uan}
use Rattle.phone_values.specs.declared.kind.«Type».TheVariants.{Emergency, Voicemail, ShortCode}
use Rattle.phone_values.specs.declared.kind.«Type».TheVariants.{StandardRate, Carrier}
use Rattle.phone_values.specs.declared.kind.«Type».TheVariants.{NoInternational, Unknown}

-- a kind's name: that of its variant
abbrev pub kind_name : «Type» → List ℕ
kind_name FixedLine = codes "FixedLine"
kind_name Mobile = codes "Mobile"
kind_name FixedLineOrMobile = codes "FixedLineOrMobile"
kind_name TollFree = codes "TollFree"
kind_name PremiumRate = codes "PremiumRate"
kind_name SharedCost = codes "SharedCost"
kind_name PersonalNumber = codes "PersonalNumber"
kind_name Voip = codes "Voip"
kind_name Pager = codes "Pager"
kind_name Uan = codes "Uan"
kind_name Emergency = codes "Emergency"
kind_name Voicemail = codes "Voicemail"
kind_name ShortCode = codes "ShortCode"
kind_name StandardRate = codes "StandardRate"
kind_name Carrier = codes "Carrier"
kind_name NoInternational = codes "NoInternational"
kind_name Unknown = codes "Unknown"
