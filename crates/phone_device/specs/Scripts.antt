-- A source that follows a script: the bytes that it gives, and where it fails.
use Rattle.std.specs.Prelude.{ℕ, ◌-◌, ◌==◌, Bool, false, if◌then◌else◌, List, take, Option, Some}
use Rattle.std.specs.Prelude.{None}
use Rattle.phone_device.specs.declared.script.At.{At}
use Rattle.phone_device.specs.declared.script.At.TheVariants.{Call, Byte}

-- what is left of a script: the bytes to come; where it fails, counted from the next call and the
-- next byte; its faults so far
pub record Scripted : Type 0 where
  pub rest : List ℕ
  pub fault : Option At
  pub faults : ℕ

-- the next read fails
abbrev pub is_at_fault : Option At → Bool
is_at_fault None = false
is_at_fault (Some (Call k)) = k == 0
is_at_fault (Some (Byte n)) = n == 0

-- of these bytes, those that come before the fault
abbrev pub before_fault : Option At → List ℕ → List ℕ
before_fault None bytes = bytes
before_fault (Some (Call _)) bytes = bytes
before_fault (Some (Byte n)) bytes = take n bytes

-- where it fails, counted from after a read that passed n bytes: a call that has failed is over, a
-- byte at which it fails isn't
abbrev pub fault_after : ℕ → Option At → Option At
fault_after n None = None
fault_after n (Some (Call k)) = if k == 0 then None else Some (Call (k - 1))
fault_after n (Some (Byte b)) = Some (Byte (b - n))
