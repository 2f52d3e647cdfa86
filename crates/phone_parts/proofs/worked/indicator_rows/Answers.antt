use Rattle.std.proofs.Common.{refl}
use Rattle.phone_parts.proofs.IndicatorRows.{each_indicator, like_indicator}
use Rattle.phone_parts.proofs.worked.indicator_rows.Goals as goal

pub returns : goal.returns
returns c = record { count = refl; each = each_indicator; like = like_indicator }
