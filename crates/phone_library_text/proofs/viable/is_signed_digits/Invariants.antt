use Rattle.std.proofs.Common.{◌≡◌, chars, length}
use denote.Text.{Utf8}
use denote.Shadow.{shadow}
use Rattle.phone_chars.specs.Characters.{is_plus}
use Rattle.phone_chars.specs.Cuts.{after_front}
use Rattle.phone_library_text.proofs.Signed.{number_walk}
use Rattle.phone_library_text.proofs.viable.is_signed_digits.Given as goal

abbrev pub invariant-loop-c : goal.invariant-loop-c
invariant-loop-c l =
    shadow (Utf8 l.rest) × (number_walk 3 (after_front is_plus (chars l.text)) ≡ number_walk l.missing (chars l.rest))

abbrev pub decreases-loop-c : goal.decreases-loop-c
decreases-loop-c l = length l.rest
