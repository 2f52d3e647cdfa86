use denote.Param.Send.{sendable}
use Rattle.phone_c_base.proofs.Crossing.{Database-send}
use Rattle.phone_c_base.proofs.threads.database_crosses.Goals as goal

pub crosses-requires-send-T : goal.crosses-requires-send-T
crosses-requires-send-T c κs = search (Database-send, sendable)
