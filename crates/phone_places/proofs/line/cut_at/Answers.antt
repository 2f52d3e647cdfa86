use Rattle.std.proofs.lemmas.Str.Pattern.{split_parts}
use Rattle.phone_places.proofs.line.cut_at.Goals as goal

pub returns : goal.returns
returns c = split_parts c.args.at c.args.text.now _ c.split_once.ensures.cases c.requires
