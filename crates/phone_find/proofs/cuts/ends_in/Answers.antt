use Rattle.std.proofs.Common.{refl, ap, sym, ◌∙◌}
use Rattle.std.proofs.lemmas.Str.{chars-nil}
use Rattle.std.specs.Str.{chars}
use Rattle.phone_parts.specs.Texts.{ends}
use Rattle.phone_parts.proofs.Cores.{ends-push}
use Rattle.phone_find.proofs.cuts.ends_in.Goals as goal

pub returns-in-None : goal.returns-in-None
returns-in-None g c = rw (c.in-None.ensures.cut, chars-nil) refl

pub returns-in-Some : goal.returns-in-Some
returns-in-Some g c =
    let p = g.S.CharSet.members c.args.set.now in
    c.has.ensures ∙ sym (ap (ends p) c.in-Some.ensures.read ∙ ends-push p (chars c.in-Some.field-0-0.now) c.in-Some.c)
