-- A text whose first byte no match begins with has no match at its front.
use Rattle.std.proofs.Common.{◌≡◌, ◌<◌, ℕ, Bool, true, false, cond, List, length, Option, None, Some, All, IfSome, slice_get, option_map, refl, sym, ap, ◌∙◌, true≢false, ⊎_elim}
use Rattle.std.specs.Option.{option_map_or}
use Rattle.std.specs.Prelude.{slice_index_or}
use Rattle.phone_automaton.proofs.Bridge.{begins_nowhere}
use Rattle.phone_automaton.specs.Finds.{at_front}
use Rattle.phone_automaton.specs.Fronts.{BeginsIn, may_begin}
use Rattle.regex_extract.proofs.SidesLemmas.{Marks-any}
use Rattle.regex_extract.specs.Frames.{Has, Marks}
use Rattle.regex_hir.proofs.AttemptLemmas.{attempt_sound}
use Rattle.regex_hir.specs.Find.{find_str}
use Rattle.regex_hir.specs.Re.{Re, Trace, attempt, accept}
use Rattle.regex_hir.specs.Text.{is_boundary}

-- no match is silent of the byte with which it begins
pub begins_in : (set : List Bool) (re : Re) → Marks true false set false re → BeginsIn set re
begins_in set re h hay ok i j m =
    ⊎_elim (λ has. has) (λ none. absurd (true≢false (sym none.0))) (h.at hay ok i j m (λ word. absurd (true≢false (sym word))))

pub begins_in_any : (set : List Bool) (re : Re) → ((b : ℕ) → b < 256 → Has set b) → BeginsIn set re
begins_in_any set re all = begins_in set re (Marks-any true false set re all)

module _ (set : List Bool) (hay : List ℕ) (other : may_begin set hay ≡ false) where
  not_there : IfSome (slice_get hay 0) (Has set) → ⊥
  not_there = go (slice_get hay 0) other
    where
      go : (o : Option ℕ) → option_map_or (λ b. slice_index_or set b false) o true ≡ false → IfSome o (Has set) → ⊥
      go None e h = true≢false e
      go (Some b) e h = true≢false (sym h ∙ e)

  pub barred : (re : Re) → BeginsIn set re → All (λ b. b < 256) hay → at_front (find_str re hay 0) ≡ false
  unfolding find_str
  barred re begins ok =
      sym (begins_nowhere (λ i. cond (is_boundary hay i) (attempt hay re accept i) None) (length hay)
      (ap (option_map (λ (t : Trace). t.end)) (step (is_boundary hay 0))))
    where
      nothing : (o : Option Trace) → attempt hay re accept 0 ≡ o → o ≡ None
      nothing None is = refl
      nothing (Some t) is = absurd (not_there (begins hay ok 0 _ (attempt_sound hay re accept 0 t is).leads))

      step : (b : Bool) → cond b (attempt hay re accept 0) None ≡ None
      step true = nothing (attempt hay re accept 0) refl
      step false = refl
