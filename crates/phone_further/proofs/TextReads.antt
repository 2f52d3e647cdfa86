-- How like a number and a text are, from what is read.
use Rattle.std.proofs.Common.{◌≡◌, ◌⊎◌, inl, inr, ℕ, Bool, false, List, Option, None, Some, Result, Ok, Err, IfOk, OnOk, refl, ap, sym, subst, ◌∙◌}
use Rattle.std.specs.Option.{option_and_then}
use Rattle.phone_values.specs.Ids.{id_of}
use Rattle.phone_values.specs.declared.country.Id.{Id}
use Rattle.phone_values.specs.declared.error.ParseError.{ParseError}
use Rattle.phone_values.specs.declared.error.ParseError.TheVariants.{InvalidCountryCode, Memory}
use Rattle.phone_values.specs.declared.reading.Reading.{Reading}
use Rattle.phone_library.specs.LibraryCodes.{code_in}
use Rattle.phone_library.specs.Readings
use Rattle.phone_library.specs.Readings.{ReadsByLibrary, after_code_if_any, reading_under}
use Rattle.phone_library_text.specs.Written
use Rattle.phone_library_text.specs.Written.{IsWritten, IsWrittenIn}
use Rattle.phone_library_text.specs.declared.written.WrittenNumber.{WrittenNumber}
use Rattle.phone_plans.specs.CodeLookUps.{first_of, territories}
use Rattle.phone_records.specs.declared.loader.Metadata.{Metadata}
use Rattle.phone_read.proofs.Results.{ok_again}
use Rattle.phone_read.specs.Hints.{hinted}
use Rattle.phone_further.specs.TextMatches
use Rattle.phone_further.specs.TextMatches.{AreBareMatch, AreTextsMatch, IsBare, IsBeside, IsTextMatch, bare_number, match_read}
use Rattle.phone_questions.specs.declared.matches.NumberMatch.{NumberMatch}
use Rattle.phone_questions.specs.declared.matches.NumberMatch.TheVariants.{NotANumber}

-- memory was refused
abbrev pub IsMemory : Result Reading ParseError → Type 0
IsMemory r = r ≡ Err Memory

refusal : ParseError → Result Reading ParseError → ParseError
refusal d (Ok n) = d
refusal d (Err e) = e

memory_alone : (e : ParseError) → IsMemory (Err e) → e ≡ Memory
unfolding refusal
memory_alone e h = ap (refusal e) h

-- memory was refused for what is written
abbrev pub IsNotWritten : Result WrittenNumber ParseError → Type 0
IsNotWritten w = w ≡ Err Memory

pub is_written : (t : List ℕ) (w : WrittenNumber) → IsNotWritten (Ok w) ⊎ IsWritten t (Ok w) → IsWritten t (Ok w)
is_written t w (inl e) = absurd (cc)
is_written t w (inr h) = h

-- no text is refused for its code before that is looked for
no_code_in : (n : List ℕ) (r : Result WrittenNumber ParseError) → IsWrittenIn n r → ¬ (r ≡ Err InvalidCountryCode)
no_code_in n r (Written.not_viable h) e = cc
no_code_in n r (Written.number front extension viable h) e = cc

no_code : (t : List ℕ) (r : Result WrittenNumber ParseError) → IsWritten t r → ¬ (r ≡ Err InvalidCountryCode)
no_code t r (Written.too_long h) e = cc
no_code t r (Written.nothing le h) e = cc
no_code t r (Written.something n w le h i) e = no_code_in n r i e

module _ (t : List ℕ) (e : ParseError) where
  pub other_refusal : IsNotWritten (Err e) ⊎ IsWritten t (Err e) → ¬ (e ≡ InvalidCountryCode)
  other_refusal (inl m) f = cc
  other_refusal (inr h) f = no_code t (Err e) h (ap Err f)

  same_refusal : IsNotWritten (Err e) → e ≡ Memory
  same_refusal m = cc

  pub refused_reads : (db : List Metadata) (hint : Option Id) → IsNotWritten (Err e) ⊎ IsWritten t (Err e) → IsMemory (Err e) ⊎ ReadsByLibrary db hint t (Err e)
  refused_reads db hint (inl m) = inl (ap Err (same_refusal m))
  refused_reads db hint (inr h) = inr (Readings.refused e h)

  beside_refused : (db : List Metadata) (code : ℕ) → IsWritten t (Err e) → IsBeside db code t (Err e)
  beside_refused db code h = at (first_of (territories code db)) refl
    where
      at : (o : Option Metadata) → first_of (territories code db) ≡ o → IsBeside db code t (Err e)
      at None f = TextMatches.unlisted (Err e) f (record { written = Err e; is_written = h; read = refl })
      at (Some m) f = TextMatches.listed m (Err e) f (Readings.refused e h)

  pub refused_beside : (db : List Metadata) (code : ℕ) → IsNotWritten (Err e) ⊎ IsWritten t (Err e) → IsMemory (Err e) ⊎ IsBeside db code t (Err e)
  refused_beside db code (inl m) = inl (ap Err (same_refusal m))
  refused_beside db code (inr h) = inr (beside_refused db code h)

module _ (db : List Metadata) (t : List ℕ) (w : WrittenNumber) (is : IsWritten t (Ok w)) where
  -- what is written is read as its text is
  pub written_reads : (hint : Option Id) (m : Option Metadata) (r : Result Reading ParseError) → m ≡ hinted db hint →
      IsMemory r ⊎ (r ≡ reading_under db m w) → IsMemory r ⊎ ReadsByLibrary db hint t r
  written_reads hint m r under (inl e) = inl e
  written_reads hint m r under (inr e) = inr (subst (ReadsByLibrary db hint t) (sym (e ∙ ap (λ x. reading_under db x w) under)) (Readings.written w is))

  -- without a plus sign and a hint there is no code
  pub uncoded : w.has_plus ≡ false → ReadsByLibrary db None t (Err InvalidCountryCode)
  uncoded sign = subst (λ b. ReadsByLibrary db None t (after_code_if_any db None w.extension (code_in db None b w.digits))) sign (Readings.written w is)

module _ {E : Type 0} (like guessed : Reading → Reading → NumberMatch) (db : List Metadata) (n : Reading) (t : List ℕ) where
  pub read_so : (m : Reading) (x : Result NumberMatch E) → IsMemory (Ok m) ⊎ ReadsByLibrary db None t (Ok m) →
      IfOk x (λ k. k ≡ like n m) → IfOk x (IsTextMatch like guessed db n t)
  read_so m x (inl e) f = cc
  read_so m x (inr h) f = ok_again x _ _ (λ k e. subst (IsTextMatch like guessed db n t) (sym e) (TextMatches.read m h)) f

  pub beside_so : (e : ParseError) (x : Result NumberMatch E) → e ≡ InvalidCountryCode → IsMemory (Err e) ⊎ ReadsByLibrary db None t (Err e) →
      IfOk x (λ k. (r : Result Reading ParseError) × IsBeside db n.code.value t r × (k ≡ match_read guessed n r)) → IfOk x (IsTextMatch like guessed db n t)
  beside_so e x why (inl f) g = cc
  beside_so e x why (inr h) g =
      let reads = subst (λ (d : ParseError). ReadsByLibrary db None t (Err d)) why h in
      ok_again x _ _ (λ k (r, b, f). subst (IsTextMatch like guessed db n t) (sym f) (TextMatches.beside r reads b)) g

  pub unsigned_so : (w : WrittenNumber) (x : Result NumberMatch E) → IsWritten t (Ok w) → w.has_plus ≡ false →
      IfOk x (λ k. (s : List ℕ) → IsWritten s (Ok w) → (r : Result Reading ParseError) × IsBeside db n.code.value s r × (k ≡ match_read guessed n r)) →
      IfOk x (IsTextMatch like guessed db n t)
  unsigned_so w x is sign g =
      ok_again x _ _ (λ k f. let (r, b, e) = f t is in subst (IsTextMatch like guessed db n t) (sym e) (TextMatches.beside r (uncoded db t w is sign) b)) g

  pub refused_so : (e : ParseError) (x : Result NumberMatch E) → ¬ (e ≡ InvalidCountryCode) → IsMemory (Err e) ⊎ ReadsByLibrary db None t (Err e) →
      IfOk x (λ k. k ≡ NotANumber) → OnOk x (¬ (e ≡ Memory)) → IfOk x (IsTextMatch like guessed db n t)
  refused_so e (Ok k) other (inl f) g no_memory = absurd (no_memory (memory_alone e f))
  refused_so e (Ok k) other (inr h) g no_memory = subst (IsTextMatch like guessed db n t) (sym g) (TextMatches.refused e other h)
  refused_so e (Err d) other h g no_memory = g

module _ (db : List Metadata) (code : ℕ) (w : WrittenNumber) where
  -- what a number that is written without a code is beside one of this code
  abbrev pub IsBesideAll : Result Reading ParseError → Type 0
  IsBesideAll r = (t : List ℕ) → IsWritten t (Ok w) → IsBeside db code t r

  pub listed_so : (m : Metadata) (region : Option Id) (under : Option Metadata) (r : Result Reading ParseError) →
      first_of (territories code db) ≡ Some m → region ≡ option_and_then id_of m.id → under ≡ hinted db region →
      IsMemory r ⊎ (r ≡ reading_under db under w) → IsMemory r ⊎ IsBesideAll r
  listed_so m region under r first is at (inl e) = inl e
  listed_so m region under r first is at (inr e) = inr (λ t written. TextMatches.listed m r first
      (subst (λ (o : Option Id). ReadsByLibrary db o t r) is
      (subst (ReadsByLibrary db region t) (sym (e ∙ ap (λ x. reading_under db x w) at)) (Readings.written w written))))

  pub unlisted_so : (r : Result Reading ParseError) → first_of (territories code db) ≡ None → r ≡ bare_number (Ok w) → IsMemory r ⊎ IsBesideAll r
  unlisted_so r first e = inr (λ t written. TextMatches.unlisted r first (record { written = Ok w; is_written = written; read = e }))

-- a text that is refused, but not for want of memory
refused_as : {E : Type 0} (P : NumberMatch → Type 0) (Reads : Result Reading ParseError → Type 0) (e : ParseError) (x : Result NumberMatch E) →
    IsMemory (Err e) ⊎ Reads (Err e) → (Reads (Err e) → P NotANumber) → IfOk x (λ k. k ≡ NotANumber) → OnOk x (¬ (e ≡ Memory)) → IfOk x P
refused_as P Reads e (Ok k) (inl f) so g no_memory = absurd (no_memory (memory_alone e f))
refused_as P Reads e (Ok k) (inr h) so g no_memory = subst P (sym g) (so h)
refused_as P Reads e (Err d) h so g no_memory = g

-- the second text's match, where the first tells no code
abbrev IsUncodedMatch : (Reading → Reading → NumberMatch) → (Reading → Reading → NumberMatch) → List Metadata → List ℕ → List ℕ → NumberMatch → Type 0
IsUncodedMatch like guessed db t u m = ReadsByLibrary db None t (Err InvalidCountryCode) → AreTextsMatch like guessed db t u m

module _ {E : Type 0} (like guessed : Reading → Reading → NumberMatch) (db : List Metadata) (t u : List ℕ) where
  pub first_so : (n : Reading) (x : Result NumberMatch E) → IsMemory (Ok n) ⊎ ReadsByLibrary db None t (Ok n) →
      IfOk x (IsTextMatch like guessed db n u) → IfOk x (AreTextsMatch like guessed db t u)
  first_so n x (inl e) f = cc
  first_so n x (inr h) f = ok_again x _ _ (λ k m. TextMatches.first n k h m) f

  pub uncoded_so : (e : ParseError) (x : Result NumberMatch E) → e ≡ InvalidCountryCode → IsMemory (Err e) ⊎ ReadsByLibrary db None t (Err e) →
      IfOk x (λ m. ReadsByLibrary db None t (Err InvalidCountryCode) → AreTextsMatch like guessed db t u m) → IfOk x (AreTextsMatch like guessed db t u)
  uncoded_so e x why (inl f) g = cc
  uncoded_so e x why (inr h) g = ok_again x _ _ (λ k f. f (subst (λ (d : ParseError). ReadsByLibrary db None t (Err d)) why h)) g

  pub first_refused_so : (e : ParseError) (x : Result NumberMatch E) → ¬ (e ≡ InvalidCountryCode) → IsMemory (Err e) ⊎ ReadsByLibrary db None t (Err e) →
      IfOk x (λ k. k ≡ NotANumber) → OnOk x (¬ (e ≡ Memory)) → IfOk x (AreTextsMatch like guessed db t u)
  first_refused_so e x other h g no_memory =
      refused_as (AreTextsMatch like guessed db t u) (ReadsByLibrary db None t) e x h (λ reads. TextMatches.first_refused e other reads) g no_memory

  pub unsigned_first_so : (w : WrittenNumber) (x : Result NumberMatch E) → IsWritten t (Ok w) → w.has_plus ≡ false →
      IfOk x (λ m. (s : List ℕ) → IsWritten s (Ok w) → IsUncodedMatch like guessed db s u m) → IfOk x (AreTextsMatch like guessed db t u)
  unsigned_first_so w x is sign g = ok_again x _ _ (λ k f. f t is (uncoded db t w is sign)) g

  pub unlisted_first_so : (w : WrittenNumber) (x : Result NumberMatch E) → IsWritten t (Ok w) →
      IfOk x (λ m. (s : List ℕ) → IsWritten s (Ok w) → IsUncodedMatch like guessed db s u m) → IfOk x (IsUncodedMatch like guessed db t u)
  unlisted_first_so w x is g = ok_again x _ _ (λ k f. f t is) g

  pub unlisted_refused_so : (e : ParseError) (x : Result NumberMatch E) → ¬ (e ≡ InvalidCountryCode) → IsMemory (Err e) ⊎ ReadsByLibrary db None t (Err e) →
      IfOk x (λ k. k ≡ NotANumber) → OnOk x (¬ (e ≡ Memory)) → IfOk x (IsUncodedMatch like guessed db t u)
  unlisted_refused_so e x other h g no_memory =
      refused_as (IsUncodedMatch like guessed db t u) (ReadsByLibrary db None t) e x h (λ reads uncoded. TextMatches.first_refused e other reads) g no_memory

-- the first of two texts is one in which a number is written without a code
module _ (like guessed : Reading → Reading → NumberMatch) (db : List Metadata) (w : WrittenNumber) (u : List ℕ) where
  abbrev pub IsWrittenMatch : NumberMatch → Type 0
  IsWrittenMatch m = (t : List ℕ) → IsWritten t (Ok w) → IsUncodedMatch like guessed db t u m

  pub second_so : {E : Type 0} (n : Reading) (x : Result NumberMatch E) → IsMemory (Ok n) ⊎ ReadsByLibrary db None u (Ok n) →
      IfOk x (λ k. (t : List ℕ) → IsWritten t (Ok w) → (r : Result Reading ParseError) × IsBeside db n.code.value t r × (k ≡ match_read guessed n r)) →
      IfOk x IsWrittenMatch
  second_so n x (inl e) f = cc
  second_so n x (inr h) f =
      ok_again x _ _ (λ k g t is reads. let (r, b, e) = g t is in
      TextMatches.second n k reads h (subst (IsTextMatch like guessed db n t) (sym e) (TextMatches.beside r reads b))) f

  pub neither_so : {E : Type 0} (e : ParseError) (x : Result NumberMatch E) → e ≡ InvalidCountryCode → IsMemory (Err e) ⊎ ReadsByLibrary db None u (Err e) →
      IfOk x (λ k. (t : List ℕ) → IsWritten t (Ok w) → AreBareMatch like t u k) → IfOk x IsWrittenMatch
  neither_so e x why (inl f) g = cc
  neither_so e x why (inr h) g =
      ok_again x _ _ (λ k bare t is reads. TextMatches.neither k reads (subst (λ (d : ParseError). ReadsByLibrary db None u (Err d)) why h) (bare t is)) g

  pub second_refused_so : {E : Type 0} (e : ParseError) (x : Result NumberMatch E) → ¬ (e ≡ InvalidCountryCode) → IsMemory (Err e) ⊎ ReadsByLibrary db None u (Err e) →
      IfOk x (λ k. k ≡ NotANumber) → OnOk x (¬ (e ≡ Memory)) → IfOk x IsWrittenMatch
  second_refused_so e x other h g no_memory =
      refused_as IsWrittenMatch (ReadsByLibrary db None u) e x h (λ reads t is uncoded. TextMatches.second_refused e other uncoded reads) g no_memory

module _ (like : Reading → Reading → NumberMatch) (w : WrittenNumber) (u : List ℕ) where
  abbrev pub IsBareMatch : NumberMatch → Type 0
  IsBareMatch m = (t : List ℕ) → IsWritten t (Ok w) → AreBareMatch like t u m

  pub bare_so : {E : Type 0} (n : Reading) (x : Result NumberMatch E) → Ok n ≡ bare_number (Ok w) →
      IfOk x (λ k. (r : Result Reading ParseError) × IsBare u r × (k ≡ match_read like n r)) → IfOk x IsBareMatch
  bare_so n x read f =
      ok_again x _ _ (λ k (r, b, e) t is. subst (AreBareMatch like t u) (sym e)
      (TextMatches.both n r (record { written = Ok w; is_written = is; read = read }) b)) f

  pub bare_refused_so : {E : Type 0} (e : ParseError) (x : Result NumberMatch E) → Err e ≡ bare_number (Ok w) → IfOk x (λ k. k ≡ NotANumber) → IfOk x IsBareMatch
  bare_refused_so e x read g =
      ok_again x _ _ (λ k same t is. subst (AreBareMatch like t u) (sym same) (TextMatches.refused e (record { written = Ok w; is_written = is; read = read }))) g

-- how like a number and what is read are
abbrev IsMatchOf : (Result Reading ParseError → Type 0) → (Result Reading ParseError → NumberMatch) → NumberMatch → Type 0
IsMatchOf Reads answer k = (r : Result Reading ParseError) × Reads r × (k ≡ answer r)

module _ {E : Type 0} (Reads : Result Reading ParseError → Type 0) (answer : Result Reading ParseError → NumberMatch) where
  pub matched_so : (m : Reading) (x : Result NumberMatch E) → IsMemory (Ok m) ⊎ Reads (Ok m) →
      IfOk x (λ k. k ≡ answer (Ok m)) → IfOk x (IsMatchOf Reads answer)
  matched_so m x (inl e) f = cc
  matched_so m x (inr h) f = ok_again x _ _ (λ k e. (Ok m, h, e)) f

  pub unmatched_so : (e : ParseError) (x : Result NumberMatch E) → answer (Err e) ≡ NotANumber →
      IsMemory (Err e) ⊎ Reads (Err e) → IfOk x (λ k. k ≡ NotANumber) → OnOk x (¬ (e ≡ Memory)) → IfOk x (IsMatchOf Reads answer)
  unmatched_so e x none h g no_memory = refused_as (IsMatchOf Reads answer) Reads e x h (λ reads. (Err e, reads, sym none)) g no_memory

-- the same of each text in which something is written
module _ (IsFrom : List ℕ → Type 0) (Reads : List ℕ → Result Reading ParseError → Type 0) (answer : Result Reading ParseError → NumberMatch) where
  abbrev pub AreMatchesOf : NumberMatch → Type 0
  AreMatchesOf k = (t : List ℕ) → IsFrom t → IsMatchOf (Reads t) answer k

  pub all_matched : {E : Type 0} (m : Reading) (x : Result NumberMatch E) → IsMemory (Ok m) ⊎ ((t : List ℕ) → IsFrom t → Reads t (Ok m)) →
      IfOk x (λ k. k ≡ answer (Ok m)) → IfOk x AreMatchesOf
  all_matched m x (inl e) f = cc
  all_matched m x (inr h) f = ok_again x _ _ (λ k e t is. (Ok m, h t is, e)) f

  pub all_unmatched : {E : Type 0} (e : ParseError) (x : Result NumberMatch E) → answer (Err e) ≡ NotANumber →
      IsMemory (Err e) ⊎ ((t : List ℕ) → IsFrom t → Reads t (Err e)) → IfOk x (λ k. k ≡ NotANumber) → OnOk x (¬ (e ≡ Memory)) → IfOk x AreMatchesOf
  all_unmatched e x none h g no_memory =
      refused_as AreMatchesOf (λ r. (t : List ℕ) → IsFrom t → Reads t r) e x h (λ reads t is. (Err e, reads t is, sym none)) g no_memory

-- what is written in a text, where it tells no calling code
pub bare_written : (t : List ℕ) (w : Result WrittenNumber ParseError) (r : Result Reading ParseError) → r ≡ bare_number w →
    IsNotWritten w ⊎ IsWritten t w → IsMemory r ⊎ IsBare t r
bare_written t w r e (inl m) = inl (e ∙ ap bare_number m)
bare_written t w r e (inr h) = inr (record { written = w; is_written = h; read = e })
