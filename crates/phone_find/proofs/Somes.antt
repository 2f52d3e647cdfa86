-- A text of which each place is decided has an answer.
use Rattle.std.proofs.Common.{◌≡◌, ◌⊎◌, inl, inr, ℕ, suc, zero, ◌+◌, ◌<◌, ◌≤◌, List, [], ◌∷◌}
use Rattle.std.proofs.Common.{length, Option, None, Some, MatchOption, IsCharBoundary, refl, subst}
use Rattle.std.proofs.Common.{sym, arith}
use Rattle.std.proofs.Math.Nat.{eq-or-lt_of_le}
use Rattle.phone_find.specs.Founds
use Rattle.phone_find.specs.Founds.{Accepts, AreFound, IsDecided, IsFirst, Stands, StandsAt}
use Rattle.phone_find.specs.Founds.{most_bytes}
use Rattle.phone_find.specs.declared.search.Found.{Found}
use Rattle.phone_find.proofs.Searches.{EndsUpTo, NoneAt, ends_lower, first_of_longest, none_at}
use Rattle.phone_find.proofs.Searches.{none_from, skipped}

module _ {N : Type 0} (accepts : Accepts N) (text : List ℕ) where
  -- a piece that is accepted or not decides its place
  pub decided : (start end : ℕ) → IsCharBoundary text start → IsCharBoundary text end →
      start < end → end ≤ start + most_bytes → (told : Option N) →
      MatchOption told ((n : N) → ¬ (accepts start end n)) (λ n. accepts start end n) →
      IsDecided accepts text start end
  decided start end from to some short (Some n) at = inl (record {
    found = record { start = start; end = end; number = n };
    stands = record {
      from_border = from;
      to_border = to;
      some = some;
      short = short;
      accepted = at;
    };
    begins = refl;
    ends = refl;
  })
  decided start end from to some short None none = inr (λ at. none at.found.number (subst (λ i.
      accepts i end at.found.number) at.begins (subst (λ i. accepts at.found.start i
      at.found.number) at.ends at.stands.accepted)))

  -- what begins at `start`: the first and longest, or none
  abbrev IsTold : ℕ → Type 0
  IsTold start = NoneAt accepts text start ⊎ ((f : Found N) × IsFirst accepts text start f)

  -- some answer from a place on
  abbrev HasFound : ℕ → Type 0
  HasFound from = (all : List (Found N)) × AreFound accepts text from all

  longest : (start end : ℕ) → EndsUpTo accepts text start end → StandsAt accepts text start end →
      IsTold start
  longest start end up at =
      let f = at.found in
      let up_to = subst (λ i. EndsUpTo accepts text i f.end) (sym at.begins)
      (subst (λ i. EndsUpTo accepts text start i) (sym at.ends) up) in
      inr (
        f,
        subst (λ i. IsFirst accepts text i f) at.begins (first_of_longest accepts text f
            at.stands up_to),
      )

  none_ends : (start end : ℕ) → ¬ (StandsAt accepts text start end) → (f : Found N) →
      Stands accepts text f → f.start ≡ start → ¬ (f.end ≡ end)
  none_ends start end none f s begins ends = none (record {
    found = f;
    stands = s;
    begins = begins;
    ends = ends;
  })

  module _ (decided : (start end : ℕ) → start < length text → end < length text →
      IsDecided accepts text start (end + 1)) where
    told_by : (start end : ℕ) → EndsUpTo accepts text start (end + 1) →
        (EndsUpTo accepts text start end → IsTold start) →
        IsDecided accepts text start (end + 1) → IsTold start
    told_by start end up shorter (inl at) = longest start (end + 1) up at
    told_by start end up shorter (inr none) =
        let lower = ends_lower accepts text start (end + 1) up (none_ends start (end + 1) none) in
        shorter (subst (λ i. EndsUpTo accepts text start i) (omega arith) lower)

    told_up_to : (start end : ℕ) → start < length text → end ≤ length text →
        EndsUpTo accepts text start end → IsTold start
    told_up_to start zero before within up = inl (none_at accepts text start 0 up (omega arith))
    told_up_to start (suc end) before within up =
        told_by start end (subst (λ i. EndsUpTo accepts text start i) (omega arith) up)
        (told_up_to start end before (omega (arith, within))) (decided start end before (omega (
          arith,
          within,
        )))

    told : (start : ℕ) → start < length text → IsTold start
    told start before = told_up_to start (length text) before (omega arith)
        (λ f s begins. s.to_border.0)

    found_by : (from : ℕ) → ((f : Found N) → IsFirst accepts text from f → HasFound f.end) →
        HasFound (from + 1) → IsTold from → HasFound from
    found_by from behind later (inl none) =
        (later.0, skipped accepts text from later.0 none later.1)
    found_by from behind later (inr f) =
        let rest = behind f.0 f.1 in (f.0 ∷ rest.0, Founds.next from f.0 rest.0 f.1 rest.1)

    some_from : (steps from : ℕ) → from ≤ length text → length text ≤ from + steps →
        HasFound from
    some_from zero from within few = ([], none_from accepts text from (omega (arith, few)))
    some_from (suc steps) from within few = by_place (eq-or-lt_of_le within) (λ next. some_from
        steps next)
      where
        by_place : (from ≡ length text) ⊎ (from < length text) →
            ((next : ℕ) → next ≤ length text → length text ≤ next + steps → HasFound next) →
            HasFound from
        by_place (inl end) on = ([], none_from accepts text from (omega (arith, end)))
        by_place (inr before) on =
            found_by from (λ f first. on f.end first.stands.to_border.0 (omega (
              arith,
              few,
              first.behind,
              first.stands.some,
            ))) (on (from + 1) (omega (arith, before)) (omega (arith, few))) (told from before)

    pub some_found : (all : List (Found N)) × AreFound accepts text 0 all
    some_found = some_from (length text) 0 (omega arith) (omega arith)

-- what holds below a place and at it
pub below_next : (P : ℕ → Type 0) (n : ℕ) → ((i : ℕ) → i < n → P i) → P n →
    (i : ℕ) → i < n + 1 → P i
below_next P n below at i before = by_place (eq-or-lt_of_le (omega (arith, before)))
  where
    by_place : (i ≡ n) ⊎ (i < n) → P i
    by_place (inl e) = subst P (sym e) at
    by_place (inr less) = below i less
