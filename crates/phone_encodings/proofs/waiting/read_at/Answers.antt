use Rattle.std.proofs.Common.{◌≤◌, arith, length, take}
use Rattle.std.proofs.lemmas.List.{length-take-le}
use Rattle.phone_encodings.proofs.RoomLemmas.{read_view}
use Rattle.phone_encodings.proofs.waiting.read_at.Goals as goal

pub returns-clause-passes : goal.returns-clause-passes
returns-clause-passes g c =
    let within : c.in_ok-n.n ≤ length c.read.new.buf =
    omega (arith, c.read.auto.buf, c.in_ok-n.ensures.within) in (
      take c.in_ok-n.n c.read.new.buf,
      length-take-le c.in_ok-n.n c.read.new.buf within,
      read_view c.args.room.now c.read.new.buf c.args.at _ c.in_ok-n.n c.requires within,
      c.in_ok-n.ensures.passes,
    )
