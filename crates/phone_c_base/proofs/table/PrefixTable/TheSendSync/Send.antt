use mir.Raw.{raw}
use base.Shift.{Keyless}
use denote.Memory.{lone}
use denote.RawPtr.{Ptr, block_ptr, null_ptr}
use denote.Struct.Struct.{exits_of}
use denote.Struct.Owning.{shape, fields, to}
use denote.Param.Send.{IsSend, AllSend, owning_send, struct_send, sendable}
use Rattle.std.proofs.Common.{List}
use Rattle.std.proofs.Crossing as heap
use Rattle.std_alloc.proofs.SendSync.{quiet, lies}
use Rattle.phone_prefixes.specs.Tables.{Entry}
use Rattle.phone_c_base.specs.Owned.{c_heap, table_owns}
use Rattle.phone_c_base.specs.contracts.table.PrefixTable.{the_row, the_type}
use Rattle.phone_c_base.proofs.BehindTable.{behind}
use Rattle.phone_c_base.proofs.Crossing.{Prefixes-owner-send}

-- what a table owns says the same to every thread
owned : (p : Ptr) (entries : List Entry) → Keyless (table_owns p entries)
owned null_ptr entries = tt
owned (block_ptr b o) entries = (
  lies behind Prefixes-owner-send (block_ptr b o) entries,
  heap.frees.frees c_heap (raw (lone behind.mir)) (block_ptr b o),
)

pub send : IsSend the_row
send =
    let all : AllSend (fields the_type) = (search sendable, tt) in
    owning_send the_type all (λ t. owned t.at t.entries)
    (λ k. quiet (to the_type) (exits_of k (fields the_type)) ((struct_send (shape the_type) all).leaving k))
