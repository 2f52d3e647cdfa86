use Rattle.std.proofs.Common.{false, ap, sym, ◌∙◌}
use Rattle.std.specs.Option.{option_map_or}
use Rattle.std.specs.Str.{chars}
use Rattle.phone_parts.proofs.Longest.{up_to_of_end}
use Rattle.phone_library_text.specs.Scans.{IsMarkGap, follows_some}
use Rattle.phone_library_text.proofs.Beginnings.{some_behind}
use Rattle.phone_library_text.proofs.Tests.{texts_of}
use Rattle.phone_library_text.proofs.labels.follows_family.Goals as goal

pub follows_some-requires : goal.follows_some-requires
follows_some-requires c =
    let cut = c.in-Some.ensures.end in
    up_to_of_end IsMarkGap c.args.limit c.args.text.now cut.0 c.in-Some.rest.now cut.1 c.requires

pub returns-in-Some : goal.returns-in-Some
returns-in-Some c =
    let ends = texts_of c.args.family.ends.now in
    c.follows_some.ensures
    ∙ sym (some_behind (chars c.args.text.now) (chars c.args.family.front.now) ends ∙ ap (λ o. option_map_or (follows_some ends) o false) c.in-Some.ensures.read)

pub returns-in-None : goal.returns-in-None
returns-in-None c =
    let ends = texts_of c.args.family.ends.now in
    sym (some_behind (chars c.args.text.now) (chars c.args.family.front.now) ends ∙ ap (λ o. option_map_or (follows_some ends) o false) c.in-None.ensures.read)
