-- What a text is read as decides whether it is a number that suffices, since it has one reading.
use Rattle.std.proofs.Common.{◌≡◌, ◌⊎◌, inl, inr, ℕ, Bool, true, false, List, [], Option, None, Some, Result, Ok, Err, IfOk, IfSome, MatchOption, chars, refl, ap, sym, subst, ◌∙◌, true≢false}
use Rattle.std.proofs.lemmas.Str.{chars-nil}
use Rattle.phone_library.specs.Readings.{ReadsByLibrary}
use Rattle.phone_matches.specs.Leniencies.{Suffices}
use Rattle.phone_matches.specs.Numbers.{IsNumberBy, IsReadWell, may_be_number}
use Rattle.phone_matches.specs.declared.leniency.Leniency.{Leniency}
use Rattle.phone_records.specs.declared.loader.Metadata.{Metadata}
use Rattle.phone_values.specs.declared.country.Id.{Id}
use Rattle.phone_values.specs.declared.error.ParseError.{ParseError}
use Rattle.phone_values.specs.declared.error.ParseError.TheVariants.{Memory}
use Rattle.phone_values.specs.declared.reading.Reading.{Reading}

-- a text has one reading
abbrev pub OneReading : Type 0
OneReading = (db : List Metadata) (hint : Option Id) (text : List ℕ) (a b : Result Reading ParseError) → ReadsByLibrary db hint text a →
    ReadsByLibrary db hint text b → a ≡ b

module _ (one : OneReading) (db : List Metadata) (hint : Option Id) (t : List ℕ) where
  pub read_number : (x : Result Reading ParseError) (m : Reading) → x ≡ Ok m → (x ≡ Err Memory) ⊎ ReadsByLibrary db hint t x →
      ReadsByLibrary db hint t (Ok m)
  read_number x m is (inl e) = let bad : Ok m ≡ Err Memory = sym is ∙ e in cc
  read_number x m is (inr reads) = subst (λ (y : Result Reading ParseError). ReadsByLibrary db hint t y) is reads

  pub read_error : (x : Result Reading ParseError) (e : ParseError) → x ≡ Err e → ¬ (e ≡ Memory) → (x ≡ Err Memory) ⊎ ReadsByLibrary db hint t x →
      ReadsByLibrary db hint t (Err e)
  read_error x e is other (inl f) = absurd (other (let same : Err e ≡ Err Memory = sym is ∙ f in cc))
  read_error x e is other (inr reads) = subst (λ (y : Result Reading ParseError). ReadsByLibrary db hint t y) is reads

  pub same_number : (m n : Reading) → ReadsByLibrary db hint t (Ok m) → ReadsByLibrary db hint t (Ok n) → m ≡ n
  same_number m n reads other = let same : Ok m ≡ Ok n = one db hint t (Ok m) (Ok n) reads other in cc

  pub not_read : (e : ParseError) (n : Reading) → ReadsByLibrary db hint t (Err e) → ¬ (ReadsByLibrary db hint t (Ok n))
  not_read e n reads other = let same : Err e ≡ Ok n = one db hint t (Err e) (Ok n) reads other in cc

  module _ (alternates : List Metadata) (l : Leniency) where
    -- the number that the text is read as where it suffices; none where it isn't read as one
    abbrev pub Told : Option Reading → Type 0
    Told told = MatchOption told ((n : Reading) → ¬ (IsReadWell db alternates hint l t n)) (λ n. IsReadWell db alternates hint l t n)

    pub if_unread : {E : Type 0} (x : Result Reading ParseError) (e : ParseError) → x ≡ Err e → (x ≡ Err Memory) ⊎ ReadsByLibrary db hint t x →
        (r : Result (Option Reading) E) → IfOk r (λ told. (told ≡ None) × ¬ (e ≡ Memory)) → IfOk r (λ told. Told told)
    if_unread x e is h (Ok told) k =
        subst (λ (o : Option Reading). Told o) (sym k.0) (λ n v. not_read e n (read_error x e is k.1 h) v.read)
    if_unread x e is h (Err f) k = k

    told_as : (m : Reading) → ReadsByLibrary db hint t (Ok m) → (told : Option Reading) →
        MatchOption told (¬ (Suffices db alternates m t l)) (λ n. (n ≡ m) × Suffices db alternates m t l) → Told told
    told_as m reads None refused =
        λ n v. refused (subst (λ (k : Reading). Suffices db alternates k t l) (sym (same_number m n reads v.read)) v.enough)
    told_as m reads (Some n) h = record {
      read = subst (λ (k : Reading). ReadsByLibrary db hint t (Ok k)) (sym h.0) reads;
      enough = subst (λ (k : Reading). Suffices db alternates k t l) (sym h.0) h.1;
    }

    pub if_told : {E : Type 0} (m : Reading) → ReadsByLibrary db hint t (Ok m) → (r : Result (Option Reading) E) →
        IfOk r (λ told. MatchOption told (¬ (Suffices db alternates m t l)) (λ n. (n ≡ m) × Suffices db alternates m t l)) → IfOk r (λ told. Told told)
    if_told m reads (Ok told) h = told_as m reads told h
    if_told m reads (Err e) h = h

-- an empty piece is no number
empty_refused : (l : Leniency) (before after : List ℕ) → may_be_number l before [] after ≡ false
empty_refused l before after = refl

pub nonempty : (l : Leniency) (before piece after : List ℕ) → may_be_number l before piece after ≡ true → ¬ (piece ≡ [])
nonempty l before piece after h e = true≢false (sym h ∙ ap (λ (t : List ℕ). may_be_number l before t after) e ∙ empty_refused l before after)

pub some_piece : (l : Leniency) (before piece after : List ℕ) → may_be_number l before (chars piece) after ≡ true → ¬ (piece ≡ [])
some_piece l before piece after h e =
    true≢false (sym h ∙ ap (λ (t : List ℕ). may_be_number l before t after) (ap chars e ∙ chars-nil) ∙ empty_refused l before after)

module _ (db alternates : List Metadata) (hint : Option Id) (l : Leniency) (before piece after : List ℕ) where
  -- the number that a piece is; none where it is none
  abbrev pub ToldBetween : Option Reading → Type 0
  ToldBetween told = MatchOption told ((n : Reading) → ¬ (IsNumberBy db alternates hint l before piece after n)) (λ n. IsNumberBy db alternates hint l before piece after n)

  pub told_none : (b : Bool) → b ≡ may_be_number l before piece after → b ≡ false → ToldBetween None
  told_none b told refused n at = true≢false (sym at.candidate ∙ sym told ∙ refused)

  told_piece : may_be_number l before piece after ≡ true → (told : Option Reading) →
      MatchOption told ((n : Reading) → ¬ (IsReadWell db alternates hint l piece n)) (λ n. IsReadWell db alternates hint l piece n) → ToldBetween told
  told_piece candidate None h = λ n at. h n at.number
  told_piece candidate (Some n) h = record { candidate = candidate; number = h }

  pub if_told_piece : {E : Type 0} (b : Bool) → b ≡ may_be_number l before piece after → b ≡ true → (r : Result (Option Reading) E) →
      IfOk r (λ told. MatchOption told ((n : Reading) → ¬ (IsReadWell db alternates hint l piece n)) (λ n. IsReadWell db alternates hint l piece n)) →
      IfOk r (λ told. ToldBetween told)
  if_told_piece b is passed (Ok told) h = told_piece (sym is ∙ passed) told h
  if_told_piece b is passed (Err e) h = h

pub if_all : {A E : Type 0} (r : Result (Option A) E) (P : Type 0) → P → IfOk r (λ told. IfSome told (λ _. P))
if_all (Ok None) P p = tt
if_all (Ok (Some x)) P p = p
if_all (Err e) P p = tt
