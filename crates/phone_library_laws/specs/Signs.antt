-- Where a plus sign tells a number's calling code by itself.
use Rattle.std.specs.Prelude.{◌&&◌, ◌||◌, nat_le, Bool, false, List, length}
use Rattle.std.specs.Option.{is_some}
use Rattle.phone_library_text.specs.declared.written.WrittenNumber.{WrittenNumber}
use Rattle.phone_plans.specs.CodeLookUps.{shortest}
use Rattle.phone_records.specs.declared.loader.Metadata.{Metadata}

-- a number is written with a plus sign, and a listed code stands after it; or at most two digits
-- do, which are too few for any
abbrev pub is_told_by_sign : List Metadata → WrittenNumber → Bool
is_told_by_sign db w =
    w.has_plus && (nat_le (length w.digits) 2 || is_some (shortest db w.digits))

-- the number as if no plus sign stood before it
abbrev pub without_sign : WrittenNumber → WrittenNumber
without_sign w = record {
  has_plus = false;
  digits = w.digits;
  extension = w.extension;
}
