-- What a text is read as decides whether it is a number that suffices, since it has one reading.
use Rattle.std.proofs.Common.{◌≡◌, ℕ, Bool, true, false, if◌then◌else◌, List, Option, None, Some}
use Rattle.std.proofs.Common.{Result, Ok, Err, IfOk, MatchOption, inl, inr, ◌⊎◌, refl, sym, subst}
use Rattle.std.proofs.Common.{◌∙◌, true≢false}
use Rattle.std.specs.Str.{chars}
use Rattle.phone_values.specs.declared.country.Id.{Id}
use Rattle.phone_values.specs.declared.error.ParseError.{ParseError}
use Rattle.phone_values.specs.declared.error.ParseError.TheVariants.{Memory}
use Rattle.phone_records.specs.declared.loader.Metadata.{Metadata}
use Rattle.phone_engine.proofs.OneReading.{reading_same}
use Rattle.phone_find.proofs.Begins.{candidate_end, candidate_shape}
use Rattle.phone_find.specs.Standing.{is_candidate, is_end, is_plain}
use Rattle.phone_engine.specs.Readings.{ReadsBy}
use Rattle.phone_values.specs.declared.rules.Rules.{Rules}
use Rattle.phone_values.specs.declared.reading.Reading.{Reading}
use Rattle.phone_find.specs.Leniencies.{suffices_in}
use Rattle.phone_find.specs.Numbers.{IsNumberBetween, IsReadWell}
use Rattle.phone_find.specs.declared.leniency.Leniency.{Leniency}

module _ (rules : Rules) (db : List Metadata) (hint : Option Id) (l : Leniency) (t : List ℕ) where
  -- the number that the text is read as where it suffices; none where it isn't read as one
  abbrev pub Told : Option Reading → Type 0
  Told told = MatchOption told ((n : Reading) → ¬ (IsReadWell rules db hint l t n)) (λ n. IsReadWell rules db
      hint l t n)

  pub told_refused : (e : ParseError) → ReadsBy rules db hint (chars t) (Err e) → Told None
  told_refused e reads n v = let same : Err e ≡ Ok n = reading_same rules db hint (chars t) (Err e) (Ok n)
      reads v.read in cc

  pub read_number : (x : Result Reading ParseError) (m : Reading) → x ≡ Ok m →
      (x ≡ Err Memory) ⊎ ReadsBy rules db hint (chars t) x →
      ReadsBy rules db hint (chars t) (Ok m)
  read_number x m is (inl e) = let bad : Ok m ≡ Err Memory = sym is ∙ e in cc
  read_number x m is (inr reads) = subst (λ y. ReadsBy rules db hint (chars t) y) is reads

  read_error : (x : Result Reading ParseError) (e : ParseError) → x ≡ Err e → ¬ (e ≡ Memory) →
      (x ≡ Err Memory) ⊎ ReadsBy rules db hint (chars t) x → ReadsBy rules db hint (chars t) (Err e)
  read_error x e is other (inl f) = absurd (other (let same : Err e ≡ Err Memory = sym is ∙ f in
      cc))
  read_error x e is other (inr reads) = subst (λ y. ReadsBy rules db hint (chars t) y) is reads

  pub if_unread : {E : Type 0} (x : Result Reading ParseError) (e : ParseError) → x ≡ Err e →
      (x ≡ Err Memory) ⊎ ReadsBy rules db hint (chars t) x → (r : Result (Option Reading) E) →
      IfOk r (λ told. (told ≡ None) × ¬ (e ≡ Memory)) → IfOk r (λ told. Told told)
  if_unread x e is h (Ok told) k = subst (λ (o : Option Reading). Told o) (sym k.0) (told_refused e
      (read_error x e is k.1 h))
  if_unread x e is h (Err f) k = k

  same_number : (m n : Reading) → ReadsBy rules db hint (chars t) (Ok m) → IsReadWell rules db hint l t n → m ≡ n
  same_number m n reads v = let same : Ok m ≡ Ok n = reading_same rules db hint (chars t) (Ok m) (Ok n)
      reads v.read in cc

  told_invalid : (m : Reading) → ReadsBy rules db hint (chars t) (Ok m) → suffices_in rules db l (chars t) m ≡ false →
      Told None
  told_invalid m reads e n v = true≢false (sym v.enough ∙ subst (λ k. suffices_in rules db l (chars t) k ≡ false)
      (same_number m n reads v) e)

  told_from : (m : Reading) → ReadsBy rules db hint (chars t) (Ok m) → (b : Bool) → suffices_in rules db l (chars t) m ≡ b →
      Told (if b then Some m else None)
  told_from m reads true e = record { read = reads; enough = e }
  told_from m reads false e = told_invalid m reads e

  told_number : (m : Reading) → ReadsBy rules db hint (chars t) (Ok m) → (told : Option Reading) →
      told ≡ (if suffices_in rules db l (chars t) m then Some m else None) → Told told
  told_number m reads told e = subst (λ (o : Option Reading). Told o) (sym e) (told_from m reads
      (suffices_in rules db l (chars t) m) refl)

  pub if_told : {E : Type 0} (m : Reading) → ReadsBy rules db hint (chars t) (Ok m) →
      (r : Result (Option Reading) E) →
      IfOk r (λ told. told ≡ (if suffices_in rules db l (chars t) m then Some m else None)) →
      IfOk r (λ told. Told told)
  if_told m reads (Ok told) e = told_number m reads told e
  if_told m reads (Err e) h = h

  -- a reading tells
  pub some_told : (r : Result Reading ParseError) → ReadsBy rules db hint (chars t) r →
      (told : Option Reading) × Told told
  some_told (Ok m) reads =
      (if suffices_in rules db l (chars t) m then Some m else None, told_from m reads (suffices_in rules db l (chars t) m) refl)
  some_told (Err e) reads = (None, told_refused e reads)

module _ (rules : Rules) (db : List Metadata) (hint : Option Id) (l : Leniency) where
  -- the number that a piece is; none where it is none
  abbrev pub ToldBetween : (before piece after : List ℕ) → Option Reading → Type 0
  ToldBetween before piece after told =
      MatchOption told ((n : Reading) → ¬ (IsNumberBetween rules db hint l before piece after n)) (λ n.
      IsNumberBetween rules db hint l before piece after n)

  told_none : (before piece after : List ℕ) → is_candidate (chars before) (chars piece) (chars after) ≡ false →
      ToldBetween before piece after None
  told_none before piece after refused n at = true≢false (sym at.candidate ∙ refused)

  -- where it may not end it is none
  pub told_endless : (before piece after : List ℕ) (b : Bool) → b ≡ is_end (chars piece) (chars after) → b ≡ false →
      ToldBetween before piece after None
  told_endless before piece after b told refused n at =
      true≢false (sym (candidate_end (chars before) (chars piece) (chars after) at.candidate) ∙ sym told ∙ refused)

  -- nor where it isn't plain
  pub told_rough : (before piece after : List ℕ) (b : Bool) → b ≡ is_plain (chars piece) → b ≡ false →
      ToldBetween before piece after None
  told_rough before piece after b told refused n at =
      true≢false (sym (candidate_shape (chars before) (chars piece) (chars after) at.candidate).1 ∙ sym told ∙ refused)

  -- nor where it isn't read as one
  pub told_unread : (before piece after : List ℕ) → ((n : Reading) → ¬ (IsReadWell rules db hint l piece n)) → ToldBetween before piece after None
  told_unread before piece after none n at = none n at.number

  -- else its characters decide
  pub told_read : (before piece after : List ℕ) (n : Reading) → IsReadWell rules db hint l piece n → (told : Option Reading) →
      told ≡ (if is_candidate (chars before) (chars piece) (chars after) then Some n else None) → ToldBetween before piece after told
  told_read before piece after n read told e = by_candidate (is_candidate (chars before) (chars piece) (chars after)) refl told e
    where
      by_candidate : (b : Bool) → is_candidate (chars before) (chars piece) (chars after) ≡ b → (told : Option Reading) →
          told ≡ (if b then Some n else None) → ToldBetween before piece after told
      by_candidate true c told e = subst (λ o. ToldBetween before piece after o) (sym e) (record { candidate = c; number = read })
      by_candidate false c told e = subst (λ o. ToldBetween before piece after o) (sym e) (told_none before piece after c)

  -- what the piece alone tells, its place tells
  pub some_told_piece : (before piece after : List ℕ) →
      (told : Option Reading) × Told rules db hint l piece told →
      (told : Option Reading) × ToldBetween before piece after told
  some_told_piece before piece after (None, h) = (None, told_unread before piece after h)
  some_told_piece before piece after (Some n, h) =
      let told = if is_candidate (chars before) (chars piece) (chars after) then Some n else None in
      (told, told_read before piece after n h told refl)
