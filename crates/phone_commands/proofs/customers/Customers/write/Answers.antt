use Rattle.std.proofs.Common.{Err, Ok, refl}
use Rattle.phone_commands.specs.TableJobs.IsTableEnd.{refused, whole}
use Rattle.phone_commands.proofs.customers.Customers.write.Goals as goal

pub returns-in-Ok : goal.returns-in-Ok
returns-in-Ok g c = record {
  answered = (Ok c.in-Ok.totals, c.in-Ok.ensures.ends, whole);
  kept = refl;
}

pub returns-in-Err : goal.returns-in-Err
returns-in-Err g c = record {
  answered = (
    Err c.in-Err.error,
    c.in-Err.ensures.ends,
    rw c.table_error.ensures (refused c.in-Err.error),
  );
  kept = refl;
}
