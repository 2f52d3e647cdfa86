use Rattle.std.proofs.Common.{rules}
use Rattle.phone_places.proofs.countries.push_line.Goals as goal

pub returns-in_ok-push_entry-in-Ok-clause-taken : goal.returns-in_ok-push_entry-in-Ok-clause-taken
returns-in_ok-push_entry-in-Ok-clause-taken c =
    let (e, name, id, all) = c.in_ok-push_entry-in-Ok.ensures in
    record {
      entry = e;
      is_line = rw (name, id) c.in-Ok.ensures.line;
      above = rw (name, ← c.as_slice.ensures.value) c.in-Ok.ensures.above;
      whole = all;
    }

pub returns-in-Err-clause-refused : goal.returns-in-Err-clause-refused
returns-in-Err-clause-refused c = λ after. (search rules, rw c.as_slice.ensures.value at (c.in-Err.ensures.refused after))
