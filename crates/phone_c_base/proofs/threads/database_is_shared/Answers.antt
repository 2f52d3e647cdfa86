use denote.Param.Send.{sendable}
use Rattle.phone_c_base.proofs.Crossing.{Database-sync}
use Rattle.phone_c_base.proofs.threads.database_is_shared.Goals as goal

pub is_shared-requires-sync-T : goal.is_shared-requires-sync-T
is_shared-requires-sync-T c κs = search (Database-sync, sendable)
