-- Runs of a text, one after another.
use Rattle.std.proofs.Common.{◌≡◌, ◌<◌, ◌⊎◌, inl, inr, ℕ, Bool, true, false, cond, not, List, [], ◌∷◌, ◌++◌, map, chars, IsUtf8, encode_utf8_all, Bor, length, length-append, arith, refl, ap, ap₂, sym, ◌∙◌, true≢false}
use Rattle.std.proofs.lemmas.List.{map-append}
use Rattle.std.proofs.lemmas.Str.{chars-nil, encodes-chars}
use Rattle.phone_chars.specs.Cuts.{after_front, front}
use Rattle.phone_parts.specs.Texts.{begins}
use Rattle.phone_matches.specs.Runs.{groups, runs, runs_behind, told}

module _ (p : ℕ → Bool) where
  -- what isn't of the set
  abbrev pub is_other : ℕ → Bool
  is_other c = not (p c)

  -- what stands before the first run counts for nothing
  pub runs_from : (t : List ℕ) → runs_behind p false (after_front is_other t) ≡ runs_behind p false t
  runs_from [] = refl
  runs_from (c ∷ cs) = by_test (p c) refl (runs_from cs)
    where
      by_test : (b : Bool) → p c ≡ b → runs_behind p false (after_front is_other cs) ≡ runs_behind p false cs →
          runs_behind p false (cond (not b) (after_front is_other cs) (c ∷ cs)) ≡ runs_behind p false (c ∷ cs)
      by_test true e h = refl
      by_test false e h = h ∙ rw e refl

  -- within a run the next one begins behind it
  pub runs_within : (t : List ℕ) → runs_behind p true t ≡ runs_behind p false (after_front p t)
  runs_within [] = refl
  runs_within (c ∷ cs) = by_test (p c) refl (runs_within cs)
    where
      by_test : (b : Bool) → p c ≡ b → runs_behind p true cs ≡ runs_behind p false (after_front p cs) →
          runs_behind p true (c ∷ cs) ≡ runs_behind p false (cond b (after_front p cs) (c ∷ cs))
      by_test true e h = rw e h
      by_test false e h = rw e refl

  -- the first run, and those behind it
  pub first_run : (t : List ℕ) → begins p t ≡ true → runs p t ≡ front p t ∷ runs p (after_front is_other (after_front p t))
  first_run [] h = absurd (true≢false (sym h))
  first_run (c ∷ cs) h =
      first_here h ∙ ap (λ rs. front p (c ∷ cs) ∷ rs) (runs_within cs ∙ passed h ∙ sym (runs_from (after_front p (c ∷ cs))))
    where
      first_here : p c ≡ true → runs p (c ∷ cs) ≡ front p (c ∷ cs) ∷ runs_behind p true cs
      first_here e = rw e refl

      passed : p c ≡ true → runs_behind p false (after_front p cs) ≡ runs_behind p false (after_front p (c ∷ cs))
      passed e = rw e refl

  -- where something is left, a run begins there
  pub begins_run : (t : List ℕ) → (after_front is_other t ≡ []) ⊎ (begins p (after_front is_other t) ≡ true)
  begins_run [] = inl refl
  begins_run (c ∷ cs) = by_test (p c) refl (begins_run cs)
    where
      by_test : (b : Bool) → p c ≡ b → (after_front is_other cs ≡ []) ⊎ (begins p (after_front is_other cs) ≡ true) →
          (cond (not b) (after_front is_other cs) (c ∷ cs) ≡ []) ⊎ (begins p (cond (not b) (after_front is_other cs) (c ∷ cs)) ≡ true)
      by_test true e h = inr e
      by_test false e h = h

  -- a text without a run
  pub no_group : (from t : List ℕ) → from ≡ after_front is_other t → from ≡ [] → groups p t ≡ []
  no_group from t e none = ap (map encode_utf8_all) (sym (runs_from t) ∙ ap (runs p) (sym e ∙ none))

  -- its first group, and those behind it
  pub some_group : (from t rest : List ℕ) (run : List ℕ) → from ≡ after_front is_other t → begins p from ≡ true →
      run ≡ encode_utf8_all (front p from) → rest ≡ after_front p from → groups p t ≡ run ∷ groups p rest
  some_group from t rest run e h r a =
      ap (map encode_utf8_all) (sym (runs_from t) ∙ ap (runs p) (sym e) ∙ first_run from h ∙ ap (λ rs. front p from ∷ rs) (runs_from (after_front p from)))
      ∙ ap₂ (λ g u. g ∷ groups p u) (sym r) (sym a)

  -- where something is left a run begins
  pub begins_where : (from t : List ℕ) → from ≡ after_front is_other t → ¬ (from ≡ []) → begins p from ≡ true
  begins_where from t e some = by_cases (begins_run t)
    where
      by_cases : (after_front is_other t ≡ []) ⊎ (begins p (after_front is_other t) ≡ true) → begins p from ≡ true
      by_cases (inl none) = absurd (some (e ∙ none))
      by_cases (inr h) = ap (begins p) e ∙ h

  front_some : (t : List ℕ) → begins p t ≡ true → ¬ (front p t ≡ [])
  front_some [] h e = true≢false (sym h)
  front_some (c ∷ cs) h e = (let here : front p (c ∷ cs) ≡ c ∷ front p cs = rw h refl in let bad : [] ≡ c ∷ front p cs = sym e ∙ here in cc)

  -- behind it less is left
  pub group_shorter : (from run after : List ℕ) → from ≡ run ++ after → chars run ≡ front p (chars from) → begins p (chars from) ≡ true →
      length after < length from
  group_shorter from [] after e r h = absurd (front_some (chars from) h (sym r ∙ chars-nil))
  group_shorter from (b ∷ bs) after e r h = let l = ap length e ∙ length-append (b ∷ bs) after in omega (arith, l)

-- the bytes of a text are those of its characters
pub bytes_of_chars : (bs cs : List ℕ) → IsUtf8 bs → chars bs ≡ cs → bs ≡ encode_utf8_all cs
bytes_of_chars bs cs u e = sym (encodes-chars bs u) ∙ ap encode_utf8_all e

-- one more group
pub told_push : (done new : List (Bor (List ℕ))) (g : Bor (List ℕ)) → new ≡ done ++ g ∷ [] → told new ≡ told done ++ g.now ∷ []
told_push done new g e = ap told e ∙ map-append (λ (b : Bor (List ℕ)). b.now) done (g ∷ [])

pub no_chars : (bs : List ℕ) → IsUtf8 bs → chars bs ≡ [] → bs ≡ []
no_chars bs u e = sym (encodes-chars bs u) ∙ ap encode_utf8_all e

module _ (p : ℕ → Bool) where
  pub other_stays : (c : ℕ) (cs : List ℕ) → p c ≡ true → after_front (is_other p) (c ∷ cs) ≡ c ∷ cs
  other_stays c cs h = rw h refl

  pub other_passed : (c : ℕ) (cs : List ℕ) → p c ≡ false → after_front (is_other p) (c ∷ cs) ≡ after_front (is_other p) cs
  other_passed c cs h = rw h refl
