-- What a thin text is read as under a thin database is what it is read as.
use Rattle.std.proofs.Common.{◌≡◌, ⊎_elim, ℕ, ◌==◌, ◌≤◌, if◌then◌else◌, Bool, true, false, List, [], ◌∷◌, ◌++◌, Option, option_map, Some, None, Result, Ok, Err, length, refl, ap, sym, subst, ◌∙◌, true≢false, arith}
use Rattle.std.specs.List.{list_any, count_by}
use Rattle.phone_chars.specs.Characters.{is_digit, is_plus}
use Rattle.phone_values.specs.Ids.{name}
use Rattle.phone_chars.specs.Cuts.{after_front}
use Rattle.phone_chars.specs.Norm.{norm}
use Rattle.phone_chars.specs.Viable.{IsViable}
use Rattle.phone_values.specs.declared.country.Id.{Id}
use Rattle.phone_values.specs.declared.error.ParseError.{ParseError}
use Rattle.phone_values.specs.declared.error.ParseError.TheVariants.{InvalidCountryCode}
use Rattle.phone_records.specs.declared.loader.Metadata.{Metadata}
use Rattle.phone_records.specs.Empty.{no_metadata}
use Rattle.phone_plans.specs.Records.{last_with, has_id}
use Rattle.phone_read.specs.CallingCodes.{code_by, code_of, international_prefix_of}
use Rattle.phone_read.specs.Dialling.{found_in}
use Rattle.phone_parts.specs.Cores.{IsCore, is_start}
use Rattle.phone_read.specs.Hints.{Coded, hinted, code_by_hint}
use Rattle.phone_parts.specs.Naturals
use Rattle.phone_read.specs.Numbering.{reading_of}
use Rattle.phone_read.specs.Readings
use Rattle.phone_parts.specs.Readers
use Rattle.phone_parts.specs.Readers.{HasParts}
use Rattle.phone_read.specs.Readings.{Reads, stripping_territory}
use Rattle.phone_read.specs.Strips.{Stripped, strip, stripped}
use Rattle.phone_parts.specs.Parts.{Parts}
use Rattle.phone_parts.specs.Tel.{IsTel, is_phonedigit}
use Rattle.phone_parts.specs.Texts.{begins, without_front}
use Rattle.phone_read.specs.Verdicts.{verdict, is_too_short}
use Rattle.phone_values.specs.declared.country.Source.TheVariants.{Default}
use Rattle.phone_parts.specs.declared.natural.NoReading.TheVariants.{Error}
use Rattle.phone_values.specs.declared.reading.Reading.{Reading}
use Rattle.phone_parts.proofs.OneParts.{parts_same}
use Rattle.phonenumber.specs.Thin
use Rattle.phonenumber.specs.Thin.{IsThinDatabase, ThinReads, is_thin, thin_rest}
use Rattle.phonenumber.proofs.ThinTexts.{IsThinText, thin_text, thin_natural, thin_tel, digit_unsigned}

-- a text that is its own national part
abbrev whole_part : List ℕ → Parts
whole_part t = record { national = t; prefix = None; extension = None }

-- both readers leave a thin text whole
thin_parts : (t : List ℕ) → IsThinText t → HasParts t (Some (whole_part t))
thin_parts t h = by_space (list_any (λ c. c == 32) t) refl
  where
    by_space : (b : Bool) → list_any (λ c. c == 32) t ≡ b → HasParts t (Some (whole_part t))
    by_space false e = Readers.as_tel (whole_part t) (thin_tel t h e)
    by_space true e =
        Readers.as_natural (record { national = t; prefix = None; extension = None }) (λ q g. true≢false (sym e ∙ g.no_space)) (thin_natural t h)

unsigned : (t : List ℕ) → begins is_digit t ≡ true → begins is_plus t ≡ false
unsigned [] h = refl
unsigned (c ∷ cs) h = digit_unsigned c h

no_signs : (t : List ℕ) → begins is_digit t ≡ true → after_front is_plus t ≡ t
no_signs [] h = refl
no_signs (c ∷ cs) h = rw (digit_unsigned c h)

-- the record of a thin database
abbrev the_record : (db : List Metadata) → IsThinDatabase db → Metadata
the_record db h = record no_metadata { general = Some h.general; id = Some h.id; country_code = Some h.code; national_prefix = h.national_prefix }

-- the territory of a hint is that record
thin_hinted : (db : List Metadata) (h : IsThinDatabase db) (id : Id) (m : Metadata) → hinted db (Some id) ≡ Some m → m ≡ the_record db h
thin_hinted db h id m e = found (has_id (name id) (the_record db h)) (the_record db h) (sym (ap (last_with (name id)) h.whole) ∙ e)
  where
    found : (b : Bool) (x : Metadata) → (if b then Some x else None) ≡ Some m → m ≡ x
    found true x f = cc
    found false x f = cc

-- without an international prefix the digits are all there, and the hint tells the code
thin_code : (db : List Metadata) (hint : Option Id) (t : List ℕ) (o : Option Metadata) → begins is_digit t ≡ true → hinted db hint ≡ o →
    found_in (international_prefix_of o) (norm t) ≡ None → code_of db hint t None ≡ code_by db o None Default (norm t)
thin_code db hint t o first e none = rw (no_signs t first, unsigned t first, e, none)

-- without a parsing pattern the national prefix is cut off twice
thin_strip : (db : List Metadata) (h : IsThinDatabase db) (digits : List ℕ) →
    strip (the_record db h) digits ≡ record { national = thin_rest (the_record db h) digits; carrier = None }
thin_strip db h digits =
    let m = the_record db h in
    let rest = without_front m.national_prefix (without_front m.national_prefix digits) in
    by (is_too_short (verdict m (length rest))) digits rest
  where
    stripped_to : List ℕ → Stripped
    stripped_to x = record { national = x; carrier = None }

    by : (b : Bool) (x y : List ℕ) → (if b then stripped_to x else stripped_to y) ≡ stripped_to (if b then x else y)
    by true x y = refl
    by false x y = refl

thin_strip_of : (db : List Metadata) (h : IsThinDatabase db) (m : Metadata) → m ≡ the_record db h → (digits : List ℕ) →
    strip m digits ≡ record { national = thin_rest m digits; carrier = None }
thin_strip_of db h m same digits =
    subst (λ x. strip x digits ≡ record { national = thin_rest x digits; carrier = None }) (sym same) (thin_strip db h digits)

not_tel_nil : (q : Parts) → ¬ (IsTel [] q)
not_tel_nil q h = nothing q.national h.scheme h.signed_run h.tail h.whole h.some_national
  where
    nothing : (n s r t : List ℕ) → [] ≡ s ++ (r ++ (n ++ t)) → begins is_phonedigit n ≡ true → ⊥
    nothing [] s r t e f = true≢false (sym f)
    nothing (c ∷ cs) [] [] t e f = cc
    nothing (c ∷ cs) [] (x ∷ xs) t e f = cc
    nothing (c ∷ cs) (x ∷ xs) r t e f = cc

no_core_nil : (c : List ℕ) → ¬ (IsCore [] c)
no_core_nil c h = nothing h.before h.from h.whole h.starts
  where
    nothing : (b f : List ℕ) → [] ≡ b ++ f → begins is_start f ≡ true → ⊥
    nothing b [] e g = true≢false (sym g)
    nothing [] (x ∷ xs) e g = cc
    nothing (y ∷ ys) (x ∷ xs) e g = cc

-- the empty text has no parts
nil_parts : HasParts [] None
nil_parts = Readers.as_neither Error not_tel_nil (Naturals.nothing no_core_nil)

not_viable_nil : ¬ (IsViable [])
not_viable_nil v = ⊎_elim (λ two. apart 0 refl two.two) (λ signed. few signed.signs signed.body signed.whole signed.three_digits) v
  where
    apart : (n : ℕ) → n ≡ 0 → n ≡ 2 → ⊥
    apart n e f = absurd (omega arith)

    few : (s b : List ℕ) → [] ≡ s ++ b → 3 ≤ count_by is_digit b → ⊥
    few s [] e f = absurd (omega arith)
    few [] (x ∷ xs) e f = cc
    few (y ∷ ys) (x ∷ xs) e f = cc

of_text : (db : List Metadata) → IsThinDatabase db → (hint : Option Id) (t : List ℕ) → IsThinText t → (r : Result Reading ParseError) → ThinReads db hint t r → Reads db hint t r
of_text db h hint t thin r (Thin.not_viable n) = Readings.not_viable (whole_part t) (thin_parts t thin) n
of_text db h hint t thin r (Thin.no_territory v e) =
    Readings.no_code (whole_part t) InvalidCountryCode (thin_parts t thin) v (thin_code db hint t None thin.first e refl)
of_text db h None t thin r (Thin.by_hint m v e) = absurd (nowhere e)
  where
    nowhere : None ≡ Some m → ⊥
    nowhere f = cc
of_text db h (Some id) t thin r (Thin.by_hint m v e) =
    let same : m ≡ the_record db h = thin_hinted db h id m e in
    let dialled : found_in (international_prefix_of (Some m)) (norm t) ≡ None = rw same in
    let c = code_by_hint m (norm t) in
    let cut : stripped (hinted db (Some id)) c.rest ≡ record { national = thin_rest m c.rest; carrier = None } = ap (λ o. stripped o c.rest) e ∙ thin_strip_of db h m same c.rest in
    subst (λ s. Reads db (Some id) t (reading_of c None s)) cut
    (Readings.coded (whole_part t) c (thin_parts t thin) v (thin_code db (Some id) t (Some m) thin.first e dialled))

-- under a thin database each thin text is read so
pub thin_reads : (db : List Metadata) → IsThinDatabase db → (hint : Option Id) (t : List ℕ) → is_thin t ≡ true → (r : Result Reading ParseError) →
    ThinReads db hint t r → Reads db hint t r
thin_reads db h hint [] thin r (Thin.not_viable n) = Readings.no_parts nil_parts
thin_reads db h hint [] thin r (Thin.no_territory v e) = absurd (not_viable_nil v)
thin_reads db h hint [] thin r (Thin.by_hint m v e) = absurd (not_viable_nil v)
thin_reads db h hint (c ∷ cs) thin r reads = of_text db h hint (c ∷ cs) (thin_text c cs thin) r reads

-- the refusal of a code, or what is read with it
abbrev read_with : (Coded → Result Reading ParseError) → Result Coded ParseError → Result Reading ParseError
read_with f (Ok c) = f c
read_with f (Err e) = Err e

abbrev numbered : List Metadata → Option Id → Coded → Result Reading ParseError
numbered db hint c = reading_of c None (stripped (stripping_territory db hint c) c.rest)

-- the parts of a thin text are these
part_of : (t : List ℕ) (thin : IsThinText t) (p : Parts) → HasParts t (Some p) → p ≡ whole_part t
part_of t thin p g =
    let same : Some p ≡ Some (whole_part t) = parts_same t (Some p) (Some (whole_part t)) g (thin_parts t thin) in cc

some_part : (t : List ℕ) (thin : IsThinText t) → ¬ (HasParts t None)
some_part t thin g =
    apart None (whole_part t) refl (parts_same t None (Some (whole_part t)) g (thin_parts t thin))
  where
    apart : (o : Option Parts) (p : Parts) → o ≡ None → o ≡ Some p → ⊥
    apart o p e f = cc

none_of_nil : (p : Parts) → ¬ (HasParts [] (Some p))
none_of_nil p g = let same : Some p ≡ None = parts_same [] (Some p) None g nil_parts in cc

-- a viable thin text is read by its code
by_code : (db : List Metadata) → IsThinDatabase db → (hint : Option Id) (t : List ℕ) (thin : IsThinText t) → IsViable t →
    (r : Result Coded ParseError) → code_of db hint t None ≡ r →
    ThinReads db hint t (read_with (numbered db hint) r)
by_code db h None t thin v r e =
    let told : r ≡ Err InvalidCountryCode = sym e ∙ thin_code db None t None thin.first refl refl in
    subst (λ x. ThinReads db None t (read_with (numbered db None) x)) (sym told) (Thin.no_territory v refl)
by_code db h (Some id) t thin v r e = at (hinted db (Some id)) refl
  where
    at : (o : Option Metadata) → hinted db (Some id) ≡ o → ThinReads db (Some id) t (read_with (numbered db (Some id)) r)
    at None f =
        let told : r ≡ Err InvalidCountryCode = sym e ∙ thin_code db (Some id) t None thin.first f refl in
        subst (λ x. ThinReads db (Some id) t (read_with (numbered db (Some id)) x)) (sym told) (Thin.no_territory v f)
    at (Some m) f =
        let same : m ≡ the_record db h = thin_hinted db h id m f in
        let dialled : found_in (international_prefix_of (Some m)) (norm t) ≡ None = rw same in
        let c = code_by_hint m (norm t) in
        let told : r ≡ Ok c = sym e ∙ thin_code db (Some id) t (Some m) thin.first f dialled in
        let cut : stripped (hinted db (Some id)) c.rest ≡ record { national = thin_rest m c.rest; carrier = None } = ap (λ o. stripped o c.rest) f ∙ thin_strip_of db h m same c.rest in
        subst (λ x. ThinReads db (Some id) t (read_with (numbered db (Some id)) x)) (sym told)
        (subst (λ s. ThinReads db (Some id) t (reading_of c None s)) (sym cut) (Thin.by_hint m v f))

back_text : (db : List Metadata) → IsThinDatabase db → (hint : Option Id) (t : List ℕ) → IsThinText t → (r : Result Reading ParseError) → Reads db hint t r → ThinReads db hint t r
back_text db h hint t thin r (Readings.no_parts g) = absurd (some_part t thin g)
back_text db h hint t thin r (Readings.not_viable p g n) =
    Thin.not_viable (subst (λ (x : Parts). ¬ (IsViable x.national)) (part_of t thin p g) n)
back_text db h hint t thin r (Readings.no_code p e g v c) =
    let same = part_of t thin p g in
    by_code db h hint t thin (subst (λ (x : Parts). IsViable x.national) same v) (Err e)
    (subst (λ (x : Parts). code_of db hint x.national x.prefix ≡ Err e) same c)
back_text db h hint t thin r (Readings.coded p c g v e) =
    let same = part_of t thin p g in
    subst (λ (x : Parts). ThinReads db hint t (reading_of c (option_map norm x.extension) (stripped (stripping_territory db hint c) c.rest))) (sym same)
    (by_code db h hint t thin (subst (λ (x : Parts). IsViable x.national) same v) (Ok c)
    (subst (λ (x : Parts). code_of db hint x.national x.prefix ≡ Ok c) same e))

-- and each reading of a thin text is that one
pub thin_reads_back : (db : List Metadata) → IsThinDatabase db → (hint : Option Id) (t : List ℕ) → is_thin t ≡ true → (r : Result Reading ParseError) →
    Reads db hint t r → ThinReads db hint t r
thin_reads_back db h hint [] thin r (Readings.no_parts g) = Thin.not_viable not_viable_nil
thin_reads_back db h hint [] thin r (Readings.not_viable p g n) = absurd (none_of_nil p g)
thin_reads_back db h hint [] thin r (Readings.no_code p e g v c) = absurd (none_of_nil p g)
thin_reads_back db h hint [] thin r (Readings.coded p c g v e) = absurd (none_of_nil p g)
thin_reads_back db h hint (c ∷ cs) thin r reads = back_text db h hint (c ∷ cs) (thin_text c cs thin) r reads
