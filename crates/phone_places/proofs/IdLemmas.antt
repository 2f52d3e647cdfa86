-- A test that says the same as another.
use Rattle.std.proofs.Common.{◌≡◌, ◌↔◌, Bool, IsTrue, true, false, refl, sym}

pub same_test : (a b : Bool) {P : Type 0} → (IsTrue a ↔ P) → (b ≡ true → P) → (P → b ≡ true) → a ≡ b
same_test true b t f g = sym (g (t.0 refl))
same_test false true t f g = t.1 (f refl)
same_test false false t f g = refl
