-- Two numbers in the other order, by our own answer.
use Rattle.std.proofs.Common.{◌≡◌, ◌||◌, Bool, true, false, refl, ap₂}
use Rattle.phone_values.specs.Numbers.{text_of}
use Rattle.phone_values.specs.declared.reading.Reading.{Reading}
use Rattle.phone_laws.proofs.Swaps.{match_of-swap}
use Rattle.phone_further.specs.Matches.{if_shared, is_long_end, match_numbers}

or-swap : (a b : Bool) → (a || b) ≡ (b || a)
or-swap true true = refl
or-swap true false = refl
or-swap false true = refl
or-swap false false = refl

pub match_numbers-swap : (a b : Reading) → match_numbers a b ≡ match_numbers b a
match_numbers-swap a b =
    ap₂ if_shared (or-swap (is_long_end (text_of a.national) (text_of b.national)) (is_long_end (text_of b.national) (text_of a.national))) (match_of-swap a b)
