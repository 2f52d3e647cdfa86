-- What holds of an answer or of a refusal, told in other words.
use Rattle.std.proofs.Common.{Result, Ok, Err, IfOk, IfErr}

pub ok_again : {T E : Type 0} (r : Result T E) (P Q : T → Type 0) → ((x : T) → P x → Q x) → IfOk r P → IfOk r Q
ok_again (Ok x) P Q f h = f x h
ok_again (Err e) P Q f h = tt

pub err_again : {T E : Type 0} (r : Result T E) (P Q : E → Type 0) → ((e : E) → P e → Q e) → IfErr r P → IfErr r Q
err_again (Ok x) P Q f h = tt
err_again (Err e) P Q f h = f e h
