use Rattle.std.proofs.Common.{rules, sym, ap, subst, ◌∙◌}
use Rattle.phone_languages.proofs.NameFiles.{so_far_all, so_far_next}
use Rattle.phone_languages.proofs.locale.Locale.name_files.Goals as goal

pub loop-front-preserved : goal.loop-front-preserved
loop-front-preserved c = (
  search rules,
  so_far_next c.args.self.now c.loop-front.rest.now c.loop-front.files.items c.push-in-Some.new.self.items c.in-Some.front c.loop-front.invariant.1
      c.in-Some.ensures.cut (search rules),
)

pub returns : goal.returns
returns c = so_far_all c.args.self.now c.loop-front.rest.now c.loop-front.files.items c.loop-front.invariant.1 c.in_default.ensures.cut
