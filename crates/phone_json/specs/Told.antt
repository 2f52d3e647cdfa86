-- What a fault tells.
use Rattle.std.specs.Prelude.{ℕ, List}
use Rattle.std.specs.Borrow.{Bor}
use Rattle.phone_json.specs.Faults.{Refusal, unknown_key, wrong_kind}
use Rattle.phone_json.specs.declared.fault.Fault.{Fault}
use Rattle.phone_json.specs.declared.fault.Fault.TheVariants as fault

-- a fault as it is told
abbrev pub refusal_of : Fault → Refusal
refusal_of (fault.UnknownKey phase key) = unknown_key phase.now key.now
refusal_of (fault.WrongKind phase name) = wrong_kind phase.now name.now

-- a lent text
abbrev pub shown : Bor (List ℕ) → List ℕ
shown text = text.now
