use Rattle.std.proofs.Common.{not, ap, sym, ◌∙◌}
use Rattle.phone_table.proofs.Numbers.{not_not, put_among}
use Rattle.phone_table.proofs.table.add.Goals as goal

pub returns-clause-new : goal.returns-clause-new
returns-clause-new c = not_not _ ∙ ap not (sym c.in-Ok.ensures.added)

pub returns-clause-added : goal.returns-clause-added
returns-clause-added c = put_among (λ k. k.items) c.args.texts.now.keys c.insert.new.self.keys c.args.text c.in-Ok.is_new c.in-Ok.ensures.added c.in-Ok.ensures.keys
