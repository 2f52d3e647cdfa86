use Rattle.phone_find.proofs.PrintedFound.{printed_found}
use Rattle.phone_find.proofs.laws.printed_is_found.Goals as goal

pub returns : goal.returns
returns c db l n before text after all bounded plain is shaped among found =
    printed_found db l n before text after all bounded plain is shaped among found
