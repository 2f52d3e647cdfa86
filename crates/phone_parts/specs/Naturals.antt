-- What free text is read as: after the original's `parser/natural`.
use Rattle.std.specs.Prelude.{ℕ, List, Some, None, Result, Ok, Err}
use Rattle.phone_parts.specs.Cores.{IsCore}
use Rattle.phone_parts.specs.Parts.{Parts}
use Rattle.phone_parts.specs.Suffixes.{HasNoSuffix, HasLongestSuffix}
use Rattle.phone_parts.specs.declared.natural.NoReading.{NoReading}
use Rattle.phone_parts.specs.declared.natural.NoReading.TheVariants.{Error}

-- a text without a core is refused; a core is parted before its longest extension, if it has one
pub data IsNatural (t : List ℕ) : Result Parts NoReading → Type 0 where
  nothing : ((c : List ℕ) → ¬ (IsCore t c)) → IsNatural t (Err Error)
  extended : (c n d : List ℕ) → IsCore t c → HasLongestSuffix c n d →
      IsNatural t (Ok (record { national = n; prefix = None; extension = Some d }))
  plain : (c : List ℕ) → IsCore t c → HasNoSuffix c →
      IsNatural t (Ok (record { national = c; prefix = None; extension = None }))
