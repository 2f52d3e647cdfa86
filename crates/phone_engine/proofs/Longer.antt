-- Where a count is less than each length, one of the lengths is greater.
use Rattle.std.proofs.Common.{◌≡◌, ℕ, ◌<◌, ◌==◌, ◌||◌, nat_lt, Bool, true, false, cond, List, [], ◌∷◌, length, refl, ap, sym, ltb-true, rules, true≢false}
use Rattle.std.proofs.lemmas.Bool.{and_parts, cond-true}
use Rattle.std.specs.List.{list_all}
use Rattle.phone_engine.specs.Possibilities.{is_among, possibility_by}
use Rattle.phone_engine.specs.declared.possibilities.Possibility.{Possibility}
use Rattle.phone_engine.specs.declared.possibilities.Possibility.TheVariants.{Possible, PossibleLocally, TooShort, TooLong, WrongLength}

abbrev is_short : Possibility → Bool
is_short TooShort = true
is_short _ = false

-- too short is told by one test alone
told_short : (a b e c d : Bool) →
    cond a Possible (cond b PossibleLocally (cond e WrongLength (cond c TooShort (cond d TooLong WrongLength)))) ≡ TooShort → c ≡ true
told_short a b e true d h = refl
told_short true b e false d h = absurd (true≢false (sym (ap is_short h)))
told_short false true e false d h = absurd (true≢false (sym (ap is_short h)))
told_short false false true false d h = absurd (true≢false (sym (ap is_short h)))
told_short false false false false true h = absurd (true≢false (sym (ap is_short h)))
told_short false false false false false h = absurd (true≢false (sym (ap is_short h)))

-- where no length is listed, nothing is too short
told_none : (b : Bool) → ¬ (cond b PossibleLocally WrongLength ≡ TooShort)
told_none true h = true≢false (sym (ap is_short h))
told_none false h = true≢false (sym (ap is_short h))

pub too_short_goes_on : (lengths local : List ℕ) (n : ℕ) → possibility_by lengths local n ≡ TooShort →
    (longer : ℕ) × (n < longer) × (possibility_by lengths local longer ≡ Possible)
too_short_goes_on [] local n h = absurd (told_none (is_among n local) h)
too_short_goes_on (l ∷ ls) local n h =
    let each = told_short (is_among n (l ∷ ls)) (is_among n local) (length (l ∷ ls) == 0) (list_all (λ k. nat_lt n k) (l ∷ ls)) (list_all (λ k. nat_lt k n) (l ∷ ls)) h in
    let less : nat_lt n l ≡ true = (and_parts (nat_lt n l) (list_all (λ k. nat_lt n k) ls) each).0 in
    let same : (l == l) ≡ true = search rules in
    (l, ltb-true n l less, cond-true _ _ _ (ap (λ b. b || is_among l ls) same))
