use mir.Raw.{raw}
use base.Shift.{Keyless}
use denote.Memory.{lone}
use denote.RawPtr.{Ptr, block_ptr, null_ptr}
use denote.Struct.Struct.{exits_of}
use denote.Struct.Owning.{shape, fields, to}
use denote.Param.Send.{IsSend, AllSend, owning_send, struct_send, sendable}
use Rattle.std.proofs.Crossing as heap
use Rattle.std_alloc.proofs.SendSync.{quiet, lies}
use Rattle.phone_records.specs.declared.loader.Metadata.{Metadata}
use Rattle.phone_values.specs.declared.rules.Rules.{Rules}
use Rattle.phone_c_base.specs.Owned.{c_heap, handle_owns}
use Rattle.phone_c_base.specs.contracts.handle.Handle.{the_row, the_type}
use Rattle.phone_c_base.proofs.Behind.{behind}
use Rattle.phone_c_base.proofs.Crossing.{Opened-send}
use Rattle.std.proofs.Common.{List}

-- what a handle owns says the same to every thread
owned : (p : Ptr) (known : List Metadata × Rules) → Keyless (handle_owns p known)
owned null_ptr known = tt
owned (block_ptr b o) known = (
  lies behind Opened-send (block_ptr b o) known,
  heap.frees.frees c_heap (raw (lone behind.mir)) (block_ptr b o),
)

pub send : IsSend the_row
send =
    let all : AllSend (fields the_type) = (search sendable, tt) in
    owning_send the_type all (λ h. owned h.at (h.records, h.rules))
    (λ k. quiet (to the_type) (exits_of k (fields the_type)) ((struct_send (shape the_type) all).leaving k))
