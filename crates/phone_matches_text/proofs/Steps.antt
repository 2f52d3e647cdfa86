-- One step of each scan.
use Rattle.std.proofs.Common.{◌≡◌, ℕ, suc, ◌&&◌, ◌||◌, Bool, true, false, cond, List, [], ◌∷◌, ◌++◌, Option, None, Some, refl, ap, sym, ◌∙◌}
use Rattle.std.proofs.lemmas.Bool.{or_right}
use Rattle.std.proofs.lemmas.List.Folds.{list_any-append}
use Rattle.std.specs.List.{list_any}
use Rattle.phone_parts.specs.Cores.{begins_second_number, is_last}
use Rattle.phone_matches_text.specs.Candidates.{after_group, after_groups, before_second}
use Rattle.phone_matches_text.specs.Pieces.{after_spaces, goes_on, trimmed}
use Rattle.phone_matches_text.specs.Sets.{is_in}
use Rattle.phone_matches_text.specs.Shapes.{Test, after_few, from_first}
use Rattle.phone_matches_text.specs.declared.sets.Set.{Set}
use Rattle.phone_matches_text.specs.declared.sets.Set.TheVariants as set

pub first_later : (q : Test) (c : ℕ) (cs : List ℕ) → q (c ∷ cs) ≡ false → from_first q (c ∷ cs) ≡ from_first q cs
first_later q c cs h = rw h refl

pub few_more : (p : ℕ → Bool) (n m c : ℕ) (cs : List ℕ) → n ≡ suc m → p c ≡ true → after_few p n (c ∷ cs) ≡ after_few p m cs
few_more p n m c cs e h = rw (e, h) refl

pub groups_more : (n m : ℕ) (t u : List ℕ) → n ≡ suc m → Some u ≡ after_group t → after_groups n t ≡ after_groups m u
groups_more n m t u e h = rw (e, ← h) refl

pub second_stops : (t : List ℕ) → begins_second_number t ≡ true → before_second t ≡ []
second_stops [] h = refl
second_stops (c ∷ cs) h = rw h refl

pub second_later : (c : ℕ) (cs : List ℕ) → begins_second_number (c ∷ cs) ≡ false → before_second (c ∷ cs) ≡ c ∷ before_second cs
second_later c cs h = rw h refl

pub spaces_more : (stop : Set) (c : ℕ) (cs : List ℕ) → (is_in set.Space c && goes_on stop cs) ≡ true → after_spaces stop (c ∷ cs) ≡ after_spaces stop cs
spaces_more stop c cs h = rw h refl

any_at_end : (t : List ℕ) (c : ℕ) → is_last c ≡ true → list_any is_last (t ++ c ∷ []) ≡ true
any_at_end [] c h = rw h refl
any_at_end (x ∷ xs) c h = or_right (is_last x) _ (any_at_end xs c h)

pub trimmed_kept : (t : List ℕ) (c : ℕ) → is_last c ≡ true → trimmed (t ++ c ∷ []) ≡ t ++ c ∷ []
trimmed_kept [] c h = rw h refl
trimmed_kept (x ∷ xs) c h = rw (any_at_end (x ∷ xs) c h) (ap (λ t. x ∷ t) (trimmed_kept xs c h))

-- without a last character that isn't counted
any_without : (t : List ℕ) (c : ℕ) → is_last c ≡ false → list_any is_last (t ++ c ∷ []) ≡ list_any is_last t
any_without [] c h = rw h refl
any_without (x ∷ xs) c h = ap (λ b. is_last x || b) (any_without xs c h)

pub trimmed_more : (t : List ℕ) (c : ℕ) → is_last c ≡ false → trimmed (t ++ c ∷ []) ≡ trimmed t
trimmed_more [] c h = rw h refl
trimmed_more (x ∷ xs) c h =
    ap (λ b. cond b (x ∷ trimmed (xs ++ c ∷ [])) []) (any_without (x ∷ xs) c h)
    ∙ ap (λ t. cond (list_any is_last (x ∷ xs)) (x ∷ t) []) (trimmed_more xs c h)
