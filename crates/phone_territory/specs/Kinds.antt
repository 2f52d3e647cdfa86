-- The descriptors of a territory, by kind: after the original's `metadata/metadata`.
use Rattle.std.specs.Prelude.{◌≡◌, None, Option, option_map}
use Rattle.phone_values.specs.declared.kind.«Type».{«Type»}
use Rattle.phone_values.specs.declared.kind.«Type».TheVariants as kind
use Rattle.phone_records.specs.Kinds.{Four}
use Rattle.phone_records.specs.Missing.{missing_in_descriptor}
use Rattle.phone_records.specs.declared.loader.Descriptor.{Descriptor}
use Rattle.phone_records.specs.declared.loader.Metadata.{Metadata}

-- what there is of numbers of any kind, and of each kind, where it is given
pub record KindsOf (D : Type 0) : Type 0 where
  pub general : Option D
  pub fixed_line : Option D
  pub mobile : Option D
  pub toll_free : Option D
  pub premium_rate : Option D
  pub shared_cost : Option D
  pub personal_number : Option D
  pub voip : Option D
  pub pager : Option D
  pub uan : Option D
  pub emergency : Option D
  pub voicemail : Option D
  pub short_code : Option D
  pub standard_rate : Option D
  pub carrier : Option D
  pub no_international : Option D

-- the descriptors of a territory
abbrev pub Kinds : Type 0
Kinds = KindsOf Descriptor

-- the sixteen descriptors of a territory's record
abbrev pub kinds_of : Metadata → Kinds
kinds_of m = record {
  general = m.general;
  fixed_line = m.fixed_line;
  mobile = m.mobile;
  toll_free = m.toll_free;
  premium_rate = m.premium_rate;
  shared_cost = m.shared_cost;
  personal_number = m.personal_number;
  voip = m.voip;
  pager = m.pager;
  uan = m.uan;
  emergency = m.emergency;
  voicemail = m.voicemail;
  short_code = m.short_code;
  standard_rate = m.standard_rate;
  carrier = m.carrier;
  no_international = m.no_international;
}

-- four of several kinds, each where it is given
abbrev pub FourOf : Type 0 → Type 0
FourOf D = Option D × Option D × Option D × Option D

-- the same of what is given four at a time, in their order
abbrev pub kinds_in : {D : Type 0} → FourOf D × FourOf D × FourOf D × FourOf D → KindsOf D
kinds_in k = record {
  general = k.0.0;
  fixed_line = k.0.1;
  mobile = k.0.2;
  toll_free = k.0.3;
  premium_rate = k.1.0;
  shared_cost = k.1.1;
  personal_number = k.1.2;
  voip = k.1.3;
  pager = k.2.0;
  uan = k.2.1;
  emergency = k.2.2;
  voicemail = k.2.3;
  short_code = k.3.0;
  standard_rate = k.3.1;
  carrier = k.3.2;
  no_international = k.3.3;
}

-- what a function gives of each of four
abbrev pub map_four : {D E : Type 0} → (D → E) → FourOf D → FourOf E
map_four f g = (option_map f g.0, option_map f g.1, option_map f g.2, option_map f g.3)

-- what it gives of each kind
abbrev pub map_kinds : {D E : Type 0} → (D → E) → KindsOf D → KindsOf E
map_kinds f k = record {
  general = option_map f k.general;
  fixed_line = option_map f k.fixed_line;
  mobile = option_map f k.mobile;
  toll_free = option_map f k.toll_free;
  premium_rate = option_map f k.premium_rate;
  shared_cost = option_map f k.shared_cost;
  personal_number = option_map f k.personal_number;
  voip = option_map f k.voip;
  pager = option_map f k.pager;
  uan = option_map f k.uan;
  emergency = option_map f k.emergency;
  voicemail = option_map f k.voicemail;
  short_code = option_map f k.short_code;
  standard_rate = option_map f k.standard_rate;
  carrier = option_map f k.carrier;
  no_international = option_map f k.no_international;
}

-- none of four descriptors lacks its pattern
abbrev pub AreWhole : Four → Type 0
AreWhole d =
    (missing_in_descriptor d.0 ≡ None) × (missing_in_descriptor d.1 ≡ None) ×
    (missing_in_descriptor d.2 ≡ None) × (missing_in_descriptor d.3 ≡ None)

-- the descriptor of a kind: the general one where the kind is unknown, fixed line's where it may
-- also be mobile
abbrev pub descriptor_for : {D : Type 0} → «Type» → KindsOf D → Option D
descriptor_for kind.Unknown k = k.general
descriptor_for kind.FixedLineOrMobile k = k.fixed_line
descriptor_for kind.FixedLine k = k.fixed_line
descriptor_for kind.Mobile k = k.mobile
descriptor_for kind.TollFree k = k.toll_free
descriptor_for kind.PremiumRate k = k.premium_rate
descriptor_for kind.SharedCost k = k.shared_cost
descriptor_for kind.PersonalNumber k = k.personal_number
descriptor_for kind.Voip k = k.voip
descriptor_for kind.Pager k = k.pager
descriptor_for kind.Uan k = k.uan
descriptor_for kind.Emergency k = k.emergency
descriptor_for kind.Voicemail k = k.voicemail
descriptor_for kind.ShortCode k = k.short_code
descriptor_for kind.StandardRate k = k.standard_rate
descriptor_for kind.Carrier k = k.carrier
descriptor_for kind.NoInternational k = k.no_international
