use Rattle.std.proofs.Common.{arith}
use Rattle.phone_encodings.proofs.RoomLemmas.{put_view}
use Rattle.phone_encodings.proofs.waiting.put.Goals as goal

pub returns-clause-put : goal.returns-clause-put
returns-clause-put c =
    rw c.copy_from_slice.ensures.after
    (put_view c.args.room.now c.args.bytes.now c.args.from c.args.to _ c.requires.0
    (omega (arith, c.requires.1)))
