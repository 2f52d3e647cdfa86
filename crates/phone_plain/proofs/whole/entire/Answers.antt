use Rattle.std.proofs.Common.{arith, refl}
use Rattle.std.proofs.lemmas.List.{nil_from_length}
use Rattle.phone_plain.proofs.Grouping.{whole_read}
use Rattle.phone_plain.proofs.whole.entire.Goals as goal

pub returns : goal.returns
returns c =
    let found = whole_read (record { rest = c.args.text; groups = 0 }) c.in_ok-hir.to c.in_ok-hir.hir c.in_ok-hir.ensures refl
    (nil_from_length c.in_ok-hir.to.rest.now (omega (arith, c.if-to-gt0.false))) in
    record { whole = found.0; reads = found.1; matches = found.2 }
