use Rattle.std.proofs.Common.{Bool, if◌then◌else◌, ap, sym}
use Rattle.std.proofs.lemmas.Bool.{false_from_ne_true}
use Rattle.std.proofs.lemmas.Str.{IsUtf8-from_is_utf8, is_utf8-from_IsUtf8}
use Rattle.phone_commands.specs.ObjectLines.{after_one}
use Rattle.phone_commands.specs.Strays.{next_place, with_stray}
use Rattle.phone_commands.specs.declared.strays.Tally.{Tally}
use Rattle.phone_commands.proofs.strays.Tally.after_line.Goals as goal

abbrev counted_by : Tally → Bool → Tally
counted_by t is = record t {
  taken = after_one t.taken;
  strays = if is then t.strays else with_stray t.strays (next_place t);
}

pub returns-in-Ok : goal.returns-in-Ok
returns-in-Ok c = rw c.saturating_add-taken.ensures
    (ap (counted_by c.args.self) (sym (is_utf8-from_IsUtf8 _ c.in-Ok.ensures.cases.1)))

pub returns-in-Err : goal.returns-in-Err
returns-in-Err c = rw (c.with.ensures, c.next_place.ensures, c.saturating_add-taken.ensures)
    (ap (counted_by c.args.self) (sym (false_from_ne_true _
    (λ e. c.in-Err.ensures.cases.0 (IsUtf8-from_is_utf8 _ e)))))
