-- What the lengths of matches rule out.
use Rattle.std.proofs.Common.{◌≡◌, ◌<◌, ◌≤◌, ◌+◌, ◌==◌, ℕ, Bool, true, false, cond, List, length, Option, None, Some, All, IfSome, IsSome, is_some, option_map, refl, sym, ap, ◌∙◌, arith, true≢false, eqb-true, eq-eqb}
use Rattle.std.proofs.lemmas.Bool.{cond-true}
use Rattle.std.proofs.lemmas.List.{get_or_default}
use Rattle.std.proofs.lemmas.Option.{none-some, same_Some}
use Rattle.std.specs.Option.{IsSomeAnd}
use Rattle.std.specs.Str.{IsAscii}
use Rattle.phone_automaton.proofs.Bridge.{begins_nowhere, ends_at_front}
use Rattle.phone_automaton.specs.Ascii.{AsciiSame}
use Rattle.phone_automaton.specs.Finds.{at_front, front_end}
use Rattle.phone_automaton.specs.Lengths.{Bounds, HasLengths, IsMaxLenInAscii, IsTooLong, IsTooShort}
use Rattle.regex_extract.specs.Bounds.{IsMaxLen}
use Rattle.regex_hir.proofs.AttemptLemmas.{attempt_complete, attempt_sound, cond_some}
use Rattle.regex_hir.proofs.MatchesLemmas.{Matches-IsSpan}
use Rattle.regex_hir.specs.Find.{find_str}
use Rattle.regex_hir.specs.Matches.{IsMinLen, Matches}
use Rattle.regex_hir.specs.Re.{Re, Rest, Trace, attempt, accept}
use Rattle.regex_hir.specs.Text.{is_boundary}

-- each byte of a text of ASCII is small
pub ascii_bytes : (hay : List ℕ) → IsAscii hay → All (λ x. x < 128) hay
ascii_bytes hay ok k d h = rw (get_or_default hay k d 0 h) (ok k)

-- what follows ends at this position alone
abbrev only_at : ℕ → Rest
only_at j l = cond (l == j) (accept l) None

module _ (cut whole : Re) (n : ℕ) (same : AsciiSame cut whole) (longest : IsMaxLen cut n) where
  -- where two trees match ASCII text alike, what no match of one exceeds no match of the other does there
  pub longest_alike : IsMaxLenInAscii whole n
  longest_alike hay ok i j m = go (attempt hay cut (only_at j) i) refl
    where
      small : All (λ x. x < 128) hay
      small = ascii_bytes hay ok

      there : IsSome (attempt hay cut (only_at j) i)
      there =
          ap (λ (f : Rest → Rest). is_some (f (only_at j) i)) (same hay small)
          ∙ attempt_complete hay whole (only_at j) i j m (ap is_some (cond-true (j == j) (accept j) None (eq-eqb j j refl)))

      go : (o : Option Trace) → attempt hay cut (only_at j) i ≡ o → j ≤ i + n
      go None none = absurd (true≢false (sym there ∙ ap is_some none))
      go (Some t) some =
          let c = attempt_sound hay cut (only_at j) i t some in
          let end : c.at ≡ j = eqb-true c.at j (cond_some (c.at == j) (accept c.at) c.rest c.gave).0 in
          let short = longest hay (λ k d h. let b = small k d h in omega arith) i c.at c.leads in
          omega (arith, end, short)

-- what an attempt finds is a match
attempted : (re : Re) (hay : List ℕ) (t : Trace) → attempt hay re accept 0 ≡ Some t → Matches hay re 0 t.end
attempted re hay t is =
    let c = attempt_sound hay re accept 0 t is in
    let same : t.end ≡ c.at = c.same_end ∙ ap (λ (t : Trace). t.end) (sym (same_Some _ _ c.gave)) in
    rw same c.leads

module _ (b : Bounds) (re : Re) (lengths : HasLengths b re) (hay : List ℕ) where
  -- a text that is shorter than each match has none at its front
  pub too_short : IsTooShort b (length hay) → at_front (find_str re hay 0) ≡ false
  unfolding find_str IsMinLen
  too_short short =
      sym (begins_nowhere (λ i. cond (is_boundary hay i) (attempt hay re accept i) None) (length hay)
      (ap (option_map (λ (t : Trace). t.end)) (step (is_boundary hay 0))))
    where
      nothing : (o : Option Trace) → attempt hay re accept 0 ≡ o → o ≡ None
      nothing None is = refl
      nothing (Some t) is =
          let m = attempted re hay t is in
          let least = lengths.0 hay 0 t.end m in
          let within = Matches-IsSpan hay re 0 t.end m in
          absurd (omega (arith, short, least, within))

      step : (b : Bool) → cond b (attempt hay re accept 0) None ≡ None
      step true = nothing (attempt hay re accept 0) refl
      step false = refl

  longest : (o : Option ℕ) → IfSome o (IsMaxLenInAscii re) → IsSomeAnd o (λ n. n < length hay) → IsAscii hay → Matches hay re 0 (length hay) → ⊥
  longest None most long ascii m = long
  longest (Some n) most long ascii m = let short = most hay ascii 0 (length hay) m in omega (arith, short, long)

  -- a text of ASCII that is longer than each match isn't one
  pub too_long : IsTooLong b hay → front_end (find_str re hay 0) ≡ Some (length hay) → ⊥
  unfolding find_str
  too_long long e =
      go (is_boundary hay 0) (attempt hay re accept 0) refl
      (sym (ends_at_front (λ i. cond (is_boundary hay i) (attempt hay re accept i) None) (length hay)) ∙ e)
    where
      go : (b : Bool) (o : Option Trace) → attempt hay re accept 0 ≡ o → option_map (λ (t : Trace). t.end) (cond b o None) ≡ Some (length hay) → ⊥
      go false o is e = absurd (none-some (length hay) e)
      go true None is e = absurd (none-some (length hay) e)
      go true (Some t) is e = longest b.most lengths.1 long.0 long.1 (rw (sym (same_Some _ _ e)) (attempted re hay t is))
