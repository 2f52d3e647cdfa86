-- The example of a kind, where its number is told and where it isn't.
use Rattle.std.proofs.Common.{◌≡◌, ◌⊎◌, inl, inr, ℕ, List, Option, None, Some, Result, Ok, Err, IsSomeAnd, ap, sym, subst, ◌∙◌}
use Rattle.phone_values.specs.Refusals.{refusal_number}
use Rattle.phone_values.specs.declared.error.ParseError.{ParseError}
use Rattle.phone_values.specs.declared.error.ParseError.TheVariants.{Memory}
use Rattle.phone_values.specs.declared.kind.«Type».{«Type»}
use Rattle.phone_values.specs.declared.reading.Reading.{Reading}
use Rattle.phone_records.specs.declared.loader.Metadata.{Metadata}
use Rattle.phone_further.specs.Lowest.{AnswersAny, IsAnyExample}
use Rattle.phone_c_base.specs.Kinds.{kind_of}
use Rattle.phone_c_questions.specs.KindExamples.{HasNoneOfKind, IsKindRefused, IsOfKind}

-- what is answered is no want of memory
clash : (r : Result (Option Reading) ParseError) (f : Option Reading) → r ≡ Ok f → ¬ (r ≡ Err Memory)
clash r f e g = cc

-- an error is one
error_of : ParseError → Result (Option Reading) ParseError → ParseError
error_of d (Ok f) = d
error_of d (Err e) = e

error_one : (d e : ParseError) (r : Result (Option Reading) ParseError) → r ≡ Err d → r ≡ Err e → d ≡ e
unfolding error_of
error_one d e r h g = ap (error_of d) (sym h ∙ g)

module _ (db : List Metadata) (k : «Type») (r : Result (Option Reading) ParseError) where
  told : (f g : Option Reading) → r ≡ Ok f → f ≡ g → AnswersAny db k r → IsAnyExample db k (Ok g)
  told f g e h (inl m) = absurd (clash r f e m)
  told f g e h (inr x) = subst (IsAnyExample db k) (e ∙ ap (λ o. Ok o) h) x

  refused : (d : ParseError) (status : ℕ) → r ≡ Err d → status ≡ refusal_number d → AnswersAny db k r →
      (status ≡ refusal_number Memory) ⊎ ((e : ParseError) × IsAnyExample db k (Err e) × (status ≡ refusal_number e))
  refused d status e s (inl m) = inl (s ∙ ap refusal_number (error_one d Memory r e m))
  refused d status e s (inr x) = inr (d, subst (IsAnyExample db k) e x, s)

module _ (db : List Metadata) (kind : ℕ) (k : «Type») (r : Result (Option Reading) ParseError) (is : kind_of kind ≡ Some k) where
  under : (P : «Type» → Type 0) → P k → IsSomeAnd (kind_of kind) P
  under P h = subst (λ (o : Option «Type»). IsSomeAnd o P) (sym is) h

  pub some_so : (f : Option Reading) (n : Reading) → r ≡ Ok f → f ≡ Some n → AnswersAny db k r → IsOfKind db kind n
  some_so f n e h a = under (λ t. IsAnyExample db t (Ok (Some n))) (told db k r f (Some n) e h a)

  pub none_so : (f : Option Reading) → r ≡ Ok f → f ≡ None → AnswersAny db k r → HasNoneOfKind db kind
  none_so f e h a = under (λ t. IsAnyExample db t (Ok None)) (told db k r f None e h a)

  refused_by : (status : ℕ) → (status ≡ refusal_number Memory) ⊎ ((e : ParseError) × IsAnyExample db k (Err e) × (status ≡ refusal_number e)) →
      (status ≡ refusal_number Memory) ⊎ IsKindRefused db kind status
  refused_by status (inl h) = inl h
  refused_by status (inr h) = inr (under (λ t. (e : ParseError) × IsAnyExample db t (Err e) × (status ≡ refusal_number e)) h)

  pub refused_so : (d : ParseError) (status : ℕ) → r ≡ Err d → status ≡ refusal_number d → AnswersAny db k r →
      (status ≡ refusal_number Memory) ⊎ IsKindRefused db kind status
  refused_so d status e s a = refused_by status (refused db k r d status e s a)
