-- A pattern of a part of a record is refused as one of the record's, where what is compiled before it
-- are patterns.
use Rattle.std.proofs.Common.{◌⊎◌, inl, inr, ◌≡◌, ℕ, List, [], ◌∷◌, ◌++◌, Option, Some, Result, Ok, Err, IfOk, IfErr, refl, subst, sym}
use Rattle.std.proofs.lemmas.Bool.{false≢true}
use Rattle.std.specs.List.{flat_map}
use Rattle.std.specs.Option.{option_to_list}
use Rattle.std.specs.Result.{IsOk}
use Rattle.phone_records.specs.Missing.{descriptors_of}
use Rattle.phone_territory.specs.First.{IsPattern}
use Rattle.phone_territory.specs.Refusals.{AreRead, IsPatternRefusal, patterns_in, patterns_besides, patterns_in_descriptor}
use Rattle.phone_pattern.proofs.Refused.{ArePatterns, HavePatterns, Texts, both-patterns, refused-left, refused-right}
use Rattle.phone_base.specs.declared.error.LoadMetadata.{LoadMetadata}
use Rattle.phone_records.specs.declared.loader.Format.{Format}
use Rattle.phone_records.specs.declared.loader.Metadata.{Metadata}

between : {X : Type 0} (f : X → Texts) (xs ys : List X) (x : X) (e : LoadMetadata) → HavePatterns f xs → IsPatternRefusal (f x) e → IsPatternRefusal (flat_map f (xs ++ x ∷ ys)) e
between f [] ys x e are h = refused-left (f x) (flat_map f ys) e h
between f (y ∷ xs) ys x e are h = refused-right (f y) (flat_map f (xs ++ x ∷ ys)) e are.0 (between f xs ys x e are.1 h)

-- what is refused of one item of a list is refused of the list
pub refused_between : {X : Type 0} (f : X → Texts) (xs ys all : List X) (x : X) (e : LoadMetadata) → xs ++ x ∷ ys ≡ all → HavePatterns f xs → IsPatternRefusal (f x) e → IsPatternRefusal (flat_map f all) e
refused_between f xs ys all x e is are h = subst (λ zs. IsPatternRefusal (flat_map f zs) e) is (between f xs ys x e are h)

-- what was compiled of the one text that is given
pub one-read : {A : Type 0} (given : Option (List ℕ)) (text : List ℕ) (made : Result A LoadMetadata) → given ≡ Some text →
    IfOk made (λ _. IsPattern text) → IfErr made (IsPatternRefusal (text ∷ [])) → AreRead (option_to_list given) made
one-read given text (Ok a) is ok err = (subst (λ o. ArePatterns (option_to_list o)) (sym is) (ok, tt), tt)
one-read given text (Err e) is ok err = (tt, subst (λ o. IsPatternRefusal (option_to_list o) e) (sym is) err)

-- of what two steps made together, where it was made and where it was refused: it is read as the patterns of both
pub both-read : {A B : Type 0} (ps qs : Texts) (first : Result A LoadMetadata) (second : Result B LoadMetadata) (made : Result (A × B) LoadMetadata) →
    IfOk made (λ all. (first ≡ Ok all.0) × (second ≡ Ok all.1)) → IfErr made (λ e. (first ≡ Err e) ⊎ (IsOk first × (second ≡ Err e))) →
    AreRead ps first → AreRead qs second → AreRead (ps ++ qs) made
both-read ps qs first second (Ok all) ok err p q =
    (both-patterns ps qs (subst (λ r. IfOk r (λ _. ArePatterns ps)) ok.0 p.0) (subst (λ r. IfOk r (λ _. ArePatterns qs)) ok.1 q.0), tt)
both-read ps qs first second (Err e) ok (inl is) p q = (tt, refused-left ps qs e (subst (λ r. IfErr r (IsPatternRefusal ps)) is p.1))
both-read ps qs (Ok a) second (Err e) ok (inr is) p q = (tt, refused-right ps qs e p.0 (subst (λ r. IfErr r (IsPatternRefusal qs)) is.1 q.1))
both-read ps qs (Err x) second (Err e) ok (inr is) p q = absurd (false≢true is.0)

-- what was made of something that was read, or refused as it is, is read as the same patterns
pub still-read : {A B : Type 0} (f : B → A) (ps : Texts) (first : Result A LoadMetadata) (made : Result B LoadMetadata) →
    IfOk made (λ b. first ≡ Ok (f b)) → IfErr made (λ e. first ≡ Err e) → AreRead ps first → AreRead ps made
still-read f ps first (Ok b) ok err p = (subst (λ r. IfOk r (λ _. ArePatterns ps)) ok p.0, tt)
still-read f ps first (Err e) ok err p = (tt, subst (λ r. IfErr r (IsPatternRefusal ps)) err p.1)

-- a territory's patterns are those of its descriptors, and then its others
pub in_order : (m : Metadata) →
    flat_map patterns_in_descriptor (descriptors_of m) ++ patterns_besides m.international_prefix m.national_prefix_for_parsing m.leading_digits m.formats m.international_formats ≡ patterns_in m
unfolding patterns_in
in_order m = refl

-- what was compiled of a territory's patterns besides its descriptors', by lists that are its layouts
pub besides-read : {A : Type 0} (m : Metadata) (made : Result A LoadMetadata) (national international : List Format) → national ≡ m.formats → international ≡ m.international_formats →
    AreRead (patterns_besides m.international_prefix m.national_prefix_for_parsing m.leading_digits national international) made →
    AreRead (patterns_besides m.international_prefix m.national_prefix_for_parsing m.leading_digits m.formats m.international_formats) made
besides-read m made national international n i h =
    subst (λ xs. AreRead (patterns_besides m.international_prefix m.national_prefix_for_parsing m.leading_digits m.formats xs) made) i
    (subst (λ xs. AreRead (patterns_besides m.international_prefix m.national_prefix_for_parsing m.leading_digits xs international) made) n h)
