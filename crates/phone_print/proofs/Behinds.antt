-- Texts that are put behind a text one after another.
use Rattle.std.proofs.Common.{◌≡◌, List, [], ℕ, ◌++◌, Result, Ok, Err, is_ok, if◌then◌else◌, OnErr, OnOk, append_assoc, append-nil, ap, sym, ◌∙◌}
use Rattle.std.specs.Prelude.{⊤}
use Rattle.phone_print.specs.Behind.{IsBehind}

-- what stands behind a text that stands behind another stands behind that one
pub behind-then : (a b c : List ℕ) → IsBehind a b → IsBehind b c → IsBehind a c
behind-then a b c (m, p) (n, q) = (m ++ n, q ∙ ap (λ t. t ++ n) p ∙ append_assoc a m n)

-- a text stands behind itself
pub behind-same : (a : List ℕ) → IsBehind a a
behind-same a = ([], sym (append-nil a))

-- where nothing was put behind a text, it is as it was
pub refused-unchanged : {E : Type 0} (r : Result ⊤ E) (a : List ℕ) → OnErr r (IsBehind a a)
refused-unchanged (Ok x) a = tt
refused-unchanged (Err e) a = behind-same a

-- what was put behind a text, or refused, leaves the text in front
pub behind-either : {E : Type 0} (r : Result ⊤ E) (a t b : List ℕ) → OnOk r (b ≡ a ++ t) → OnErr r (IsBehind a b) → IsBehind a b
behind-either (Ok x) a t b done refused = (t, done)
behind-either (Err e) a t b done refused = refused

-- a text put behind another, and one behind that
pub append-then : (a x b y c : List ℕ) → b ≡ a ++ x → c ≡ b ++ y → c ≡ a ++ (x ++ y)
append-then a x b y c p q = q ∙ ap (λ t. t ++ y) p ∙ append_assoc a x y

pub where_refused : {T E P : Type 0} (r : Result T E) → P → OnErr r P
where_refused (Ok x) p = tt
where_refused (Err e) p = p

-- what a push says of the text, whether it was refused or not
pub done-kept : {E P : Type 0} (r : Result ⊤ E) (a t b : List ℕ) → P → b ≡ (if is_ok r then a ++ t else a) → OnOk r (P × (b ≡ a ++ t))
done-kept (Ok x) a t b p e = (p, e)
done-kept (Err y) a t b p e = tt

pub behind-kept : {E : Type 0} (r : Result ⊤ E) (a t b : List ℕ) → b ≡ (if is_ok r then a ++ t else a) → IsBehind a b
behind-kept (Ok x) a t b e = (t, e)
behind-kept (Err y) a t b e = ([], e ∙ sym (append-nil a))

-- the same of a push that says so apart
pub done-also : {E P : Type 0} (r : Result ⊤ E) (a t b : List ℕ) → P → OnOk r (b ≡ a ++ t) → OnOk r (P × (b ≡ a ++ t))
done-also (Ok x) a t b p e = (p, e)
done-also (Err y) a t b p e = tt
