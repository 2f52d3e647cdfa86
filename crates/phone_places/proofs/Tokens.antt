-- What stands behind a token, and what it is read as.
use Rattle.std.proofs.Common.{◌≡◌, ◌≢◌, ◌==◌, ◌⊎◌, inl, inr, ℕ, Bool, true, false, cond, List, [], ◌∷◌, Option, None, Some, Result, Ok, Err, IfOk, OnOk, MatchOption, Bor, refl, ap, sym}
use Rattle.std.proofs.lemmas.Bool.{eqb-true}
use Rattle.std.specs.Option.{option_copied}
use Rattle.phone_library.specs.Readings.{ReadsByLibrary}
use Rattle.phone_places.specs.Areas.{IsReadInArgentina, without_token}
use Rattle.phone_records.specs.declared.loader.Metadata.{Metadata}
use Rattle.phone_values.specs.declared.country.Id.TheVariants.{AR}
use Rattle.phone_values.specs.declared.error.ParseError.{ParseError}
use Rattle.phone_values.specs.declared.error.ParseError.TheVariants.{Memory}
use Rattle.phone_values.specs.declared.reading.Reading.{Reading}

no_nine : (c : ℕ) (cs : List ℕ) (b : Bool) → (c == 57) ≡ b → ((rest : List ℕ) → c ∷ cs ≢ 57 ∷ rest) → cond b (Some cs) None ≡ None
no_nine c cs true e h = absurd (h cs (ap (λ d. d ∷ cs) (eqb-true c 57 e)))
no_nine c cs false e h = refl

without_none : (bs : List ℕ) → ((rest : List ℕ) → bs ≢ 57 ∷ rest) → without_token bs ≡ None
without_none [] h = refl
without_none (c ∷ cs) h = no_nine c cs (c == 57) refl h

pub without_so : (bs : List ℕ) (r : Option (Bor (List ℕ))) → MatchOption r ((rest : List ℕ) → bs ≢ 57 ∷ rest) (λ x. bs ≡ 57 ∷ x.now) → option_copied r ≡ without_token bs
without_so bs None h = sym (without_none bs h)
without_so bs (Some x) h = sym (ap without_token h)

-- memory was refused
abbrev pub IsMemory : Result Reading ParseError → Type 0
IsMemory r = r ≡ Err Memory

refusal : ParseError → Result Reading ParseError → ParseError
refusal d (Ok n) = d
refusal d (Err e) = e

memory_alone : (e : ParseError) → IsMemory (Err e) → e ≡ Memory
unfolding refusal
memory_alone e h = ap (refusal e) h

module _ (db : List Metadata) (t : List ℕ) where
  pub read_so : (n : Reading) → IsMemory (Ok n) ⊎ ReadsByLibrary db (Some AR) t (Ok n) → IsReadInArgentina db t (Some n)
  read_so n (inl e) = cc
  read_so n (inr h) = (Ok n, h, refl)

  pub refused_so : {E : Type 0} (e : ParseError) (x : Result (Option Reading) E) → IsMemory (Err e) ⊎ ReadsByLibrary db (Some AR) t (Err e) →
      IfOk x (λ m. m ≡ None) → OnOk x (¬ (e ≡ Memory)) → IfOk x (IsReadInArgentina db t)
  refused_so e (Ok m) (inl f) g other = absurd (other (memory_alone e f))
  refused_so e (Ok m) (inr h) g other = (Err e, h, g)
  refused_so e (Err d) h g other = g
