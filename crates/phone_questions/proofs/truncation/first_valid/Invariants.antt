use Rattle.std.proofs.Common.{◌≡◌, ◌-◌}
use Rattle.std.specs.List.{find}
use Rattle.phone_library.specs.Facts.{is_valid_number}
use Rattle.phone_questions.specs.Truncation.{cuts, with_national}
use Rattle.phone_questions.proofs.truncation.first_valid.Given as goal

abbrev pub invariant-loop-i : goal.invariant-loop-i
invariant-loop-i l =
    find (is_valid_number l.database) (cuts l.database 17 l.number) ≡
    find (is_valid_number l.database) (cuts l.database (17 - l._i) (with_national l.number l.national))
