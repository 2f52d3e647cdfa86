-- How a text may begin: each of these is a test of a text, made of the test of what follows. A run
-- is as long as it can be.
use Rattle.std.specs.Prelude.{ℕ, zero, suc, Bool, true, false, ◌&&◌, ◌||◌, if◌then◌else◌}
use Rattle.std.specs.Prelude.{List, [], ◌∷◌, length, take, ◌-◌}
use Rattle.phone_chars.specs.Cuts.{after_front}

-- a test of a text
abbrev pub Test : Type 0
Test = List ℕ → Bool

-- whatever the text is
abbrev pub always : Test
always t = true

-- the text ends here
abbrev pub at_end : Test
at_end [] = true
at_end (c ∷ cs) = false

-- a character of the set, and behind it what the test asks
abbrev pub one : (ℕ → Bool) → Test → Test
one p q [] = false
one p q (c ∷ cs) = p c && q cs

-- perhaps a character of the set
abbrev pub perhaps : (ℕ → Bool) → Test → Test
perhaps p q t = one p q t || q t

-- characters of the set, or none
abbrev pub any : (ℕ → Bool) → Test → Test
any p q t = q (after_front p t)

-- characters of the set, at least one
abbrev pub some : (ℕ → Bool) → Test → Test
some p q t = one p (any p q) t

-- what follows at most so many characters of the set
abbrev pub after_few : (ℕ → Bool) → ℕ → List ℕ → List ℕ
after_few p zero t = t
after_few p (suc n) [] = []
after_few p (suc n) (c ∷ cs) = if p c then after_few p n cs else c ∷ cs

-- at most so many characters of the set
abbrev pub few : (ℕ → Bool) → ℕ → Test → Test
few p n q t = q (after_few p n t)

-- at most so many characters of the set, no more than it takes
abbrev pub within : (ℕ → Bool) → ℕ → Test → Test
within p zero q t = q t
within p (suc n) q t = q t || one p (within p n q) t

-- one test or the other is passed
abbrev pub either : Test → Test → Test
either q r t = q t || r t

-- the test is passed somewhere in the text
abbrev pub somewhere : Test → Test
somewhere q [] = q []
somewhere q (c ∷ cs) = q (c ∷ cs) || somewhere q cs

-- the text from the first place on where the test is passed; nothing where it is nowhere
abbrev pub from_first : Test → List ℕ → List ℕ
from_first q [] = []
from_first q (c ∷ cs) = if q (c ∷ cs) then c ∷ cs else from_first q cs

-- what stands before an end of a text
abbrev pub before_end : (text end : List ℕ) → List ℕ
before_end text end = take (length text - length end) text
