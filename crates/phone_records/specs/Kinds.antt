-- The descriptors of a record.
use Rattle.std.specs.Prelude.{Option}
use Rattle.phone_records.specs.declared.loader.Descriptor.{Descriptor}
use Rattle.phone_records.specs.declared.loader.Metadata.{Metadata}

-- four descriptors
abbrev pub Four : Type 0
Four = Option Descriptor × Option Descriptor × Option Descriptor × Option Descriptor

-- the descriptors in their order, four at a time
abbrev pub kinds_of : Metadata → Four × Four × Four × Four
kinds_of m = (
  (m.general, m.fixed_line, m.mobile, m.toll_free),
  (m.premium_rate, m.shared_cost, m.personal_number, m.voip),
  (m.pager, m.uan, m.emergency, m.voicemail),
  (m.short_code, m.standard_rate, m.carrier, m.no_international),
)
