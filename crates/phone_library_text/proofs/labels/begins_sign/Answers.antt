use Rattle.std.proofs.Common.{ap, ◌∙◌}
use Rattle.std.specs.Str.{chars}
use Rattle.phone_library_text.specs.Scans.{follows_some}
use Rattle.phone_library_text.proofs.Beginnings.{sign_by_first}
use Rattle.phone_library_text.proofs.labels.begins_sign.Goals as goal

pub returns : goal.returns
returns c =
    c.follows_family.ensures ∙ ap (λ ws. follows_some ws (chars c.args.text.now)) c.signs_from.ensures
    ∙ sign_by_first c.args.folding (chars c.args.text.now) c.requires.first
