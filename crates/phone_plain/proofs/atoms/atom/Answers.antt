use Rattle.std.proofs.Common.{refl}
use Rattle.phone_plain.proofs.Parting.{atom_unit}
use Rattle.phone_plain.proofs.atoms.atom.Goals as goal

pub returns : goal.returns
returns c =
    atom_unit c.args.from (record { rest = c.in_ok-hir.rest; groups = c.args.from.groups }) c.in_ok-hir.hir c.in_ok-hir.ensures refl
