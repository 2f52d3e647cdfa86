-- A number before a space is found alone, where nothing before it is a candidate.
use Rattle.std.proofs.Common.{◌≡◌, ℕ, ◌<◌, ◌&&◌, ◌||◌, not, Bool, true, false, cond, List, [], ◌∷◌, ◌++◌, length, Some, refl, ap, ap₂, sym, subst, ◌∙◌}
use Rattle.std.proofs.Math.Seq.{drop-append-add, drop-append_seam}
use Rattle.ucd_category.proofs.Computing.{ucd_category}
use Rattle.phone_matches_text.proofs.Ends.{before_end_front}
use Rattle.phone_matches_text.specs.Brackets.{has_pages}
use Rattle.phone_matches_text.specs.Candidates.{begins_candidate, candidate_at, from_candidate}
use Rattle.phone_matches_text.specs.Dates.{is_dated}
use Rattle.phone_matches_text.specs.Neighbours.{stands_free}
use Rattle.phone_matches_text.specs.Pieces.{Piece}
use Rattle.phone_matches_text.specs.Sets.{is_lead, is_sticking}
use Rattle.phone_matches_text.specs.Shapes.{Test, before_end, from_first}
use Rattle.phone_parts.specs.Texts.{begins, ends}
use Rattle.phone_matches.specs.Leniencies.{is_free}
use Rattle.phone_matches.specs.Numbers.{may_be_number}
use Rattle.phone_matches.specs.Spaced.{StandsWhole, scheme, space}
use Rattle.phone_matches.specs.declared.leniency.Leniency.{Leniency}
use Rattle.phone_matches.specs.declared.leniency.Leniency.TheVariants.{ExactGrouping, Possible, StrictGrouping, Valid}
use Rattle.phone_matches.specs.Searches
use Rattle.phone_matches.specs.Searches.{Accepts, AreMatches, IsStep, IsTried, behind, candidate_in}

-- what stands before a text ends in no character that sticks to it
abbrev pub IsLoose : List ℕ → Type 0
IsLoose before = ends is_sticking before ≡ false

-- in what stands before a text no candidate begins
abbrev pub IsIdle : List ℕ → Type 0
IsIdle before = (t : List ℕ) → from_candidate (before ++ t) ≡ from_candidate t

past : (c : ℕ) (t : List ℕ) → begins_candidate (c ∷ t) ≡ false → from_candidate (c ∷ t) ≡ from_candidate t
past c t h = ap (λ (b : Bool). cond b (c ∷ t) (from_first begins_candidate t)) h

none_at_space : (t : List ℕ) → begins_candidate (32 ∷ t) ≡ false
unfolding ucd_category
none_at_space t = refl

none_at_t : (t : List ℕ) → begins_candidate (116 ∷ t) ≡ false
unfolding ucd_category
none_at_t t = refl

none_at_e : (t : List ℕ) → begins_candidate (101 ∷ t) ≡ false
unfolding ucd_category
none_at_e t = refl

none_at_l : (t : List ℕ) → begins_candidate (108 ∷ t) ≡ false
unfolding ucd_category
none_at_l t = refl

none_at_colon : (t : List ℕ) → begins_candidate (58 ∷ t) ≡ false
unfolding ucd_category
none_at_colon t = refl

pub space_idle : IsIdle space
space_idle t = past 32 t (none_at_space t)

pub scheme_idle : IsIdle scheme
scheme_idle t =
    past 32 (116 ∷ 101 ∷ 108 ∷ 58 ∷ t) (none_at_space (116 ∷ 101 ∷ 108 ∷ 58 ∷ t))
    ∙ past 116 (101 ∷ 108 ∷ 58 ∷ t) (none_at_t (101 ∷ 108 ∷ 58 ∷ t))
    ∙ past 101 (108 ∷ 58 ∷ t) (none_at_e (108 ∷ 58 ∷ t))
    ∙ past 108 (58 ∷ t) (none_at_l (58 ∷ t))
    ∙ past 58 t (none_at_colon t)

pub space_loose : IsLoose space
unfolding ucd_category
space_loose = refl

pub scheme_loose : IsLoose scheme
unfolding ucd_category
scheme_loose = refl

no_sticking : begins is_sticking space ≡ false
unfolding ucd_category
no_sticking = refl

free_before : (before t : List ℕ) → IsLoose before → stands_free before t space ≡ true
free_before before t loose =
    ap₂ (λ (a b : Bool). not a && (begins is_lead t || not b)) no_sticking loose
    ∙ by_lead (begins is_lead t)
  where
    by_lead : (b : Bool) → (not false && (b || not false)) ≡ true
    by_lead true = refl
    by_lead false = refl

free_by : (l : Leniency) (before t : List ℕ) → IsLoose before → is_free l before t space ≡ true
free_by Possible before t loose = refl
free_by Valid before t loose = free_before before t loose
free_by StrictGrouping before t loose = free_before before t loose
free_by ExactGrouping before t loose = free_before before t loose

-- before a space a text that stands whole may be a number
pub may_stand : (l : Leniency) (before t : List ℕ) → IsLoose before → StandsWhole t → may_be_number l before t space ≡ true
may_stand l before t loose w =
    ap (λ (b : Bool). b && not (has_pages t) && is_free l before t space) w.brackets
    ∙ ap (λ (b : Bool). true && not b && is_free l before t space) w.no_pages
    ∙ ap (λ (b : Bool). true && not false && b) (free_by l before t loose)

first_here : (q : Test) (t : List ℕ) → q t ≡ true → from_first q t ≡ t
first_here q [] h = refl
first_here q (c ∷ cs) h = ap (λ (b : Bool). cond b (c ∷ cs) (from_first q cs)) h

some_end : (t : List ℕ) → ¬ (t ++ space ≡ [])
some_end [] e = cc
some_end (c ∷ cs) e = cc

module _ {N : Type 0} (accepts : Accepts N) (before t : List ℕ) (idle : IsIdle before) (w : StandsWhole t) where
  abbrev text : List ℕ
  text = before ++ (t ++ space)

  first_is : from_candidate text ≡ t ++ space
  first_is = idle (t ++ space) ∙ first_here begins_candidate (t ++ space) w.begins

  candidate_is : candidate_in text text ≡ (before, t)
  candidate_is =
      ap (λ (r : List ℕ). (before_end text r, candidate_at r)) first_is
      ∙ ap₂ (λ (a b : List ℕ). (a, b)) (before_end_front text before (t ++ space) refl) w.whole

  behind_is : behind text (before, t) ≡ space
  behind_is = drop-append-add before (t ++ space) (length t) ∙ drop-append_seam t space

  tried_whole : (tries : ℕ) (n : N) → accepts before t space n →
      IsTried accepts text (before, t) tries (Some ((before, t), n)) tries
  tried_whole tries n h =
      Searches.whole n (ap (is_dated t) behind_is ∙ w.no_date)
      (subst (λ (a : List ℕ). accepts before t a n) (sym behind_is) h)

  nothing_behind : (tries : ℕ) → AreMatches accepts text tries (behind text (before, t)) []
  nothing_behind tries =
      Searches.none tries (behind text (before, t)) (ap from_candidate behind_is ∙ space_idle [])

  step : (tries : ℕ) (n : N) → accepts before t space n →
      IsStep accepts text tries text (Some ((before, t), n)) tries (behind text (before, t))
  step tries n h = record {
    there = λ e. some_end t (sym first_is ∙ e);
    tried =
        subst (λ (c : Piece). IsTried accepts text c tries (Some ((before, t), n)) tries)
        (sym candidate_is) (tried_whole tries n h);
    goes_on = refl;
  }

  pub alone : (tries : ℕ) (n : N) → 0 < tries → accepts before t space n →
      AreMatches accepts text tries text (((before, t), n) ∷ [])
  alone tries n some h =
      Searches.next tries text (Some ((before, t), n)) tries (behind text (before, t)) [] some
      (step tries n h) (nothing_behind tries)
