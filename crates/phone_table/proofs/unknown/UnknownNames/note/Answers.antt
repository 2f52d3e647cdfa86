use Rattle.std.proofs.Common.{rules, subst, sym, ◌∙◌}
use Rattle.std.proofs.lemmas.Result.{on_ok_weaker}
use Rattle.phone_table.specs.Unknowns.{IsNoted}
use Rattle.phone_table.specs.Unknowns.IsNoted.{full, once_more}
use Rattle.phone_table.proofs.unknown.UnknownNames.note.Goals as goal

pub returns-then-is_full : goal.returns-then-is_full
returns-then-is_full c = full (sym c.is_full.ensures ∙ c.if-is_full.true)

pub returns : goal.returns
returns c = on_ok_weaker c.put.result
    (λ e. subst (IsNoted c.args.self.now.names.entries c.args.text.now) (sym (rw (c.counted_if.ensures, c.count-count.ensures) at e))
    (once_more c.in_ok-text.text (sym c.is_full.ensures ∙ c.if-is_full.false) (search rules)))
    c.put.ensures
