-- What holds where a step was done, and what follows where it was.
use Rattle.std.proofs.Common.{Result, Ok, Err, IsOk, OnOk, true≢false, refl, sym}

-- what holds where a step was done, from what follows where it was, and the other way round
pub where_done : {T E P : Type 0} (r : Result T E) → (IsOk r → P) → OnOk r P
where_done (Ok x) f = f refl
where_done (Err e) f = tt

pub of_done : {T E P : Type 0} (r : Result T E) → OnOk r P → IsOk r → P
of_done (Ok x) h ok = h
of_done (Err e) h ok = absurd (true≢false (sym ok))
