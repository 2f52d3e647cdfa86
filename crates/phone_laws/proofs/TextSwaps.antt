-- Two texts in the other order, by what two numbers are in either.
use Rattle.std.proofs.Common.{◌≡◌, inl, inr, ◌⊎◌, List, ℕ, None, Some, Result, Ok, Err, refl, ap, sym, subst, ◌∙◌}
use Rattle.phone_values.specs.declared.error.ParseError.{ParseError}
use Rattle.phone_values.specs.declared.error.ParseError.TheVariants as error
use Rattle.phone_values.specs.declared.reading.Reading.{Reading}
use Rattle.phone_library.specs.Readings
use Rattle.phone_library.specs.Readings.{ReadsByLibrary, reading_under}
use Rattle.phone_library_text.specs.Written.{IsWritten}
use Rattle.phone_library_text.specs.declared.written.WrittenNumber.{WrittenNumber}
use Rattle.phone_read.specs.Hints.{hinted}
use Rattle.phone_records.specs.declared.loader.Metadata.{Metadata}
use Rattle.phone_further.specs.TextMatches
use Rattle.phone_further.specs.TextMatches.{AreBareMatch, AreTextsMatch, IsBare, IsTextMatch, bare_number, match_read}
use Rattle.phone_questions.specs.declared.matches.NumberMatch.{NumberMatch}
use Rattle.phone_questions.specs.declared.matches.NumberMatch.TheVariants.{NotANumber}

-- a refusal is for want of a calling code, or for another reason
uncoded_or : (e : ParseError) → (e ≡ error.InvalidCountryCode) ⊎ (¬ (e ≡ error.InvalidCountryCode))
uncoded_or error.InvalidCountryCode = inl refl
uncoded_or error.NoNumber = inr (λ e. cc)
uncoded_or error.TooShortAfterIdd = inr (λ e. cc)
uncoded_or error.TooShortNsn = inr (λ e. cc)
uncoded_or error.TooLong = inr (λ e. cc)
uncoded_or error.MalformedInteger = inr (λ e. cc)
uncoded_or error.Memory = inr (λ e. cc)

module _ (like guessed : Reading → Reading → NumberMatch) (swap : (a b : Reading) → like a b ≡ like b a)
    (db : List Metadata) (written : (t : List ℕ) → (w : Result WrittenNumber ParseError) × IsWritten t w) where
  -- each text is read as something
  read_by : (t : List ℕ) (w : Result WrittenNumber ParseError) → IsWritten t w → (r : Result Reading ParseError) × ReadsByLibrary db None t r
  read_by t (Ok w) h = (reading_under db (hinted db None) w, Readings.written w h)
  read_by t (Err e) h = (Err e, Readings.refused e h)

  some_read : (t : List ℕ) → (r : Result Reading ParseError) × ReadsByLibrary db None t r
  some_read t = read_by t (written t).0 (written t).1

  some_bare : (t : List ℕ) → (r : Result Reading ParseError) × IsBare t r
  some_bare t = (bare_number (written t).0, record { written = (written t).0; is_written = (written t).1; read = refl })

  -- a text that is refused, beside any other
  refused_second : (t u : List ℕ) (e : ParseError) → ¬ (e ≡ error.InvalidCountryCode) → ReadsByLibrary db None t (Err e) →
      (r : Result Reading ParseError) → ReadsByLibrary db None u r → AreTextsMatch like guessed db u t NotANumber
  refused_second t u e other ht (Ok n) hu = TextMatches.first n NotANumber hu (TextMatches.refused e other ht)
  refused_second t u e other ht (Err d) hu = elim (uncoded_or d) [
    | inl why ↦ TextMatches.second_refused e other (subst (λ (x : ParseError). ReadsByLibrary db None u (Err x)) why hu) ht
    | inr another ↦ TextMatches.first_refused d another hu
  ]

  bare_second : (t u : List ℕ) (e : ParseError) → IsBare t (Err e) → (r : Result Reading ParseError) → IsBare u r → AreBareMatch like u t NotANumber
  bare_second t u e bt (Ok n) bu = TextMatches.both n (Err e) bu bt
  bare_second t u e bt (Err d) bu = TextMatches.refused d bu

  both_bare : (t u : List ℕ) (n : Reading) (r : Result Reading ParseError) → IsBare t (Ok n) → IsBare u r → AreBareMatch like u t (match_read like n r)
  both_bare t u n (Ok m) bt bu = subst (AreBareMatch like u t) (swap m n) (TextMatches.both m (Ok n) bu bt)
  both_bare t u n (Err e) bt bu = TextMatches.refused e bu

  bare-swap : (t u : List ℕ) (x : NumberMatch) → AreBareMatch like t u x → AreBareMatch like u t x
  bare-swap t u x (TextMatches.both n r bt bu) = both_bare t u n r bt bu
  bare-swap t u x (TextMatches.refused e bt) = bare_second t u e bt (some_bare u).0 (some_bare u).1

  first-swap : (t u : List ℕ) (n : Reading) (x : NumberMatch) → ReadsByLibrary db None t (Ok n) → IsTextMatch like guessed db n u x → AreTextsMatch like guessed db u t x
  first-swap t u n x ht (TextMatches.read m hu) = subst (AreTextsMatch like guessed db u t) (swap m n) (TextMatches.first m (like m n) hu (TextMatches.read n ht))
  first-swap t u n x ht (TextMatches.beside r hu b) = TextMatches.second n x hu ht (TextMatches.beside r hu b)
  first-swap t u n x ht (TextMatches.refused e other hu) = TextMatches.first_refused e other hu

  pub texts-swap : (t u : List ℕ) (x : NumberMatch) → AreTextsMatch like guessed db t u x → AreTextsMatch like guessed db u t x
  texts-swap t u x (TextMatches.first n y ht m) = first-swap t u n y ht m
  texts-swap t u x (TextMatches.second n y ht hu m) = TextMatches.first n y hu m
  texts-swap t u x (TextMatches.neither y ht hu b) = TextMatches.neither y hu ht (bare-swap t u y b)
  texts-swap t u x (TextMatches.first_refused e other ht) = refused_second t u e other ht (some_read u).0 (some_read u).1
  texts-swap t u x (TextMatches.second_refused e other ht hu) = TextMatches.first_refused e other hu
