-- What follows where a part of a value was refused.
use Rattle.std.proofs.Common.{inl, inr, List, ℕ}
use Rattle.std.specs.Prelude.{true, false, Some, None, ◌++◌}
use Rattle.phone_compact.specs.Forms.{Form, truth, option, seen_as}
use Rattle.phone_compact.specs.Refusals.{IsRefused, BeginsNone}
use Rattle.phone_compact.specs.declared.error.NotRead.{NotRead}

none_option : {A : Type 0} (form : Form A) (bytes : List ℕ) → BeginsNone truth bytes →
    BeginsNone (option form) bytes
none_option form bytes none None rest held e = none false rest tt e
none_option form bytes none (Some x) rest held e = none true (form.written x ++ rest) tt e

-- it isn't told whether the value is there
pub refused_option : {A : Type 0} (form : Form A) (bytes : List ℕ) (e : NotRead) →
    IsRefused truth bytes e → IsRefused (option form) bytes e
refused_option form bytes e (inl memory) = inl memory
refused_option form bytes e (inr none) = inr (none_option form bytes none)

none_seen : {A B : Type 0} (fields : A → B) (form : Form B) (bytes : List ℕ) →
    BeginsNone form bytes → BeginsNone (seen_as fields form) bytes
none_seen fields form bytes none x rest held e = none (fields x) rest held e

-- the fields of a record are refused
pub refused_seen : {A B : Type 0} (fields : A → B) (form : Form B) (bytes : List ℕ) (e : NotRead) →
    IsRefused form bytes e → IsRefused (seen_as fields form) bytes e
refused_seen fields form bytes e (inl memory) = inl memory
refused_seen fields form bytes e (inr none) = inr (none_seen fields form bytes none)
