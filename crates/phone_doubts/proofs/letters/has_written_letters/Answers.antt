use Rattle.std.proofs.Common.{◌↔◌, ◌<◌, ℕ, List, chars, IfOk, IsTrue, length, subst}
use Rattle.std.specs.List.{filter_map}
use Rattle.phone_library_text.specs.Letters.{value_of}
use Rattle.phone_doubts.proofs.Keys.{unwritten_so, written_so}
use Rattle.phone_doubts.proofs.letters.has_written_letters.Goals as goal

pub returns-in-Ok : goal.returns-in-Ok
returns-in-Ok c =
    let t = chars c.args.text.now in
    let r = c.has_fewer_digits.result in
    written_so t c.read_written.result c.in-Ok.number c.in-Ok.is c.read_written.ensures r
    (subst (λ (d : List ℕ). IfOk r (λ fewer. IsTrue fewer ↔ (length (filter_map value_of t) < length d))) c.as_str.ensures
    c.has_fewer_digits.ensures)

pub returns-in-Err : goal.returns-in-Err
returns-in-Err c =
    unwritten_so (chars c.args.text.now) c.read_written.result c.in-Err.error c.in-Err.is c.read_written.ensures
    c.without_letters.result c.without_letters.ensures
