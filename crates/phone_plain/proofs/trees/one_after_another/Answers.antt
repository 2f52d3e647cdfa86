use Rattle.std.proofs.Common.{◌∙◌, sym}
use Rattle.phone_plain.proofs.Branching.{alone_cat}
use Rattle.phone_plain.proofs.trees.one_after_another.Goals as goal

pub returns-in-Some : goal.returns-in-Some
returns-in-Some c =
    alone_cat c.args.parts.items c.pop.new.self.items c.in-Some.only c.in-Some.ensures.items (sym c.args.parts.ok.0 ∙ (sym c.len.ensures ∙ c.if-len-eq1.true))
