-- What the `x` of a text announce, one step at a time.
use Rattle.std.proofs.Common.{◌≡◌, ℕ, Bool, true, false, if◌then◌else◌, List, [], ◌∷◌, chars, refl, sym, subst}
use Rattle.std.specs.List.{AllByRecursion}
use Rattle.phone_matches.specs.Marks.{HasGoodMarks, IsGood, announced, is_x}
use Rattle.phone_records.specs.declared.loader.Metadata.{Metadata}
use Rattle.phone_values.specs.declared.reading.Reading.{Reading}

pub announced_last : (c : ℕ) (t : List ℕ) → t ≡ [] → announced (c ∷ t) ≡ announced t
announced_last c [] e = refl
announced_last c (d ∷ cs) e = cc

pub announced_other : (c d : ℕ) (t cs : List ℕ) → t ≡ d ∷ cs → is_x c ≡ false → announced (c ∷ t) ≡ announced t
announced_other c d t cs e h = rw (e, h) refl

-- an `x` before a text that begins with d
pub announced_mark : (c d : ℕ) (after rest on from : List ℕ) (double : Bool) → chars after ≡ d ∷ chars rest → is_x c ≡ true → double ≡ is_x d →
    from ≡ after → on ≡ (if is_x d then rest else after) → announced (c ∷ chars after) ≡ (double, chars from) ∷ announced (chars on)
announced_mark c d after rest on from double e h is f o = rw (is, f, o) (by_next (is_x d) refl)
  where
    by_next : (b : Bool) → is_x d ≡ b → announced (c ∷ chars after) ≡ (is_x d, chars after) ∷ announced (chars (if is_x d then rest else after))
    by_next true k = rw (e, h, k) refl
    by_next false k = rw (k) (rw (e, h, k) refl)

module _ (db : List Metadata) (n : Reading) where
  -- marks are good where the first is and the others are
  pub good_first : (t from rest : List ℕ) (double : Bool) → announced t ≡ (double, from) ∷ announced rest → HasGoodMarks db n t →
      IsGood db n double from × HasGoodMarks db n rest
  good_first t from rest double e h = subst (AllByRecursion (λ (m : Bool × List ℕ). IsGood db n m.0 m.1)) e h

  pub good_both : (t from rest : List ℕ) (double : Bool) → announced t ≡ (double, from) ∷ announced rest → IsGood db n double from →
      HasGoodMarks db n rest → HasGoodMarks db n t
  good_both t from rest double e g h = subst (AllByRecursion (λ (m : Bool × List ℕ). IsGood db n m.0 m.1)) (sym e) (g, h)

  pub good_none : (t : List ℕ) → announced t ≡ [] → HasGoodMarks db n t
  good_none t e = subst (AllByRecursion (λ (m : Bool × List ℕ). IsGood db n m.0 m.1)) (sym e) tt
