use Rattle.std.proofs.Common.{◌≡◌, Some, option_map, string_bytes, ap, sym, ◌∙◌}
use Rattle.phone_dialling.specs.Original.{own_prefix}
use Rattle.phone_dialling.proofs.Originals.{leaves_none}
use Rattle.phone_dialling.proofs.original.leaves_prefix.Goals as goal

pub leaves_own-requires : goal.leaves_own-requires
leaves_own-requires c =
    sym c.in_ok-prefix.ensures ∙ ap (option_map string_bytes) c.in-Some.is ∙ ap Some (sym c.as_str.ensures.value)

pub returns-in-None : goal.returns-in-None
returns-in-None c =
    leaves_none c.args.database.now c.args.m.now c.args.layout.now c.args.raw.now
    (sym c.in_ok-prefix.ensures ∙ ap (option_map string_bytes) c.in-None.is)
