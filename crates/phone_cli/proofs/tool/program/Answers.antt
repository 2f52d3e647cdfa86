use Rattle.std.proofs.Common.{inl, inr, refl}
use Rattle.phone_cli.specs.Programs.Acts.{called, no_call, no_memory}
use Rattle.phone_cli.proofs.tool.program.Goals as goal

pub returns-in-Ok : goal.returns-in-Ok
returns-in-Ok g c = called _ _ c.in-Ok.ensures.call c.on_call.ensures

pub returns-in-Err : goal.returns-in-Err
returns-in-Err g c = rw c.say_word_error.ensures.status (elim c.in-Err.ensures.refused [
  | inl m ↦ rw m (no_memory (refl, refl) record {
    idle = refl;
    said = c.say_word_error.ensures.memory m;
  })
  | inr n ↦ no_call c.in-Err.error n (refl, refl) (
    c.say_word_error.ensures.told.0,
    record {
      idle = refl;
      said = c.say_word_error.ensures.told.1;
    },
  )
])
