use Rattle.std.proofs.Common.{map}
use Rattle.std.specs.Char.{to_ascii_lowercase}
use Rattle.std.proofs.lemmas.Slice.Eq.{bytes_eq-Decides}
use Rattle.phone_values.specs.Ids.{name}
use Rattle.phone_places.proofs.IdLemmas.{same_test}
use Rattle.phone_places.proofs.id.is_id.Goals as goal

pub returns : goal.returns
returns c =
    let small = map to_ascii_lowercase in
    let t = rw c.as_str.ensures at c.eq_ignore_ascii_case.ensures.test in
    let same = bytes_eq-Decides (small (name c.args.id)) (small c.args.text.now) in
    same_test c.eq_ignore_ascii_case.result _ t same.0 same.1
