use Rattle.std.proofs.Common.{◌∙◌, sym}
use Rattle.phone_plain.proofs.Branching.{alone_alt}
use Rattle.phone_plain.proofs.trees.first_that_works.Goals as goal

pub returns-in-Some : goal.returns-in-Some
returns-in-Some c =
    alone_alt c.args.branches.items c.pop.new.self.items c.in-Some.only c.in-Some.ensures.items (sym c.args.branches.ok.0 ∙ (sym c.len.ensures ∙ c.if-len-eq1.true))
