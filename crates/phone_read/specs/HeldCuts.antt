-- A cut of digits as the code holds it.
use Rattle.std.specs.Prelude.{ℕ, List, IfSome, IsCharBoundary, option_map, string_bytes}
use Rattle.std.specs.Cow.{cow_str_bytes, IsBorrowedStr}
use Rattle.phone_read.specs.Strips.{Cut, stay, off_prefix, off_match, anew}
use Rattle.phone_read.specs.declared.stripping.Cut.{Cut as HeldCut}
use Rattle.phone_read.specs.declared.stripping.Cut.TheVariants as held

-- the cut that it is
abbrev pub told_by : HeldCut → Cut
told_by held.Stay = stay
told_by held.OffPrefix = off_prefix
told_by (held.OffMatch end name) = off_match end (option_map cow_str_bytes name)
told_by (held.Anew written name) = anew (string_bytes written) (option_map cow_str_bytes name)

-- what is cut off a text ends between two of its characters
abbrev pub EndsBetween : List ℕ → HeldCut → Type 0
EndsBetween text (held.OffMatch end name) = IsCharBoundary text end
EndsBetween text _ = Unit {0}

-- what names the carrier is borrowed
abbrev pub LendsName : HeldCut → Type 0
LendsName (held.OffMatch end name) = IfSome name (λ n. IsBorrowedStr n)
LendsName (held.Anew written name) = IfSome name (λ n. IsBorrowedStr n)
LendsName _ = Unit {0}
