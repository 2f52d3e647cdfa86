-- What holds of every number that is read: its code is listed, and its national text has 2 to 17 digits.
use Rattle.std.proofs.Common.{◌≡◌, ℕ, suc, ◌-◌, ◌≤◌, ◌^◌, ◌==◌, ◌&&◌, not, nat_lt, Bool, true, false, if◌then◌else◌, List, [], ◌∷◌, ◌++◌, length, take, drop, replicate, All, Option, None, Some, IfSome, Result, Ok, Err, IfOk, refl, ap, sym, subst, ◌∙◌, arith, eq-eqb, eqb-true, ltb-true}
use Rattle.std.proofs.lemmas.Bool.{and_parts, cond_both, ltb-false}
use Rattle.std.proofs.lemmas.Fmt.{decimal_digit}
use Rattle.std.proofs.lemmas.List.Elements.{All-drop, All-weaker}
use Rattle.std.proofs.lemmas.List.Sums.{AllPass-from_list_all}
use Rattle.std.specs.Fmt.{decimal}
use Rattle.std.specs.List.{list_all}
use Rattle.std.specs.Option.{option_map_or, option_or}
use Rattle.std.specs.Result.{result_map_both}
use Rattle.phone_values.specs.Ids.{name}
use Rattle.phone_values.specs.Numbers.{IsHeld, National, leading_zeros, national_with, number_in, text_of}
use Rattle.phone_values.specs.declared.country.Id.{Id}
use Rattle.phone_values.specs.declared.country.Source.{Source}
use Rattle.phone_values.specs.declared.country.Source.TheVariants.{Plus, Idd, Number, Default}
use Rattle.phone_values.specs.declared.error.ParseError.{ParseError}
use Rattle.phone_values.specs.declared.error.ParseError.TheVariants as refusal
use Rattle.phone_values.specs.declared.reading.Reading.{Reading}
use Rattle.phone_library.specs.LibraryCodes.{behind_code, code_after_sign, code_by_hint, code_by_territory, code_in, has_code}
use Rattle.phone_library.specs.Readings
use Rattle.phone_library.specs.Readings.{ReadsByLibrary, after_code, after_code_if_any, national_number, reading_of, reading_under, stripping_territory}
use Rattle.phone_library.specs.Stripping.{stripped}
use Rattle.phone_library_laws.specs.Again.{IsSettled, IsSettledIfRead}
use Rattle.phone_library_text.specs.Written
use Rattle.phone_library_text.specs.Written.{IsWritten, IsWrittenIn}
use Rattle.phone_library_text.specs.declared.written.WrittenNumber.{WrittenNumber}
use Rattle.phone_plans.specs.CodeLookUps.{is_listed}
use Rattle.phone_plans.specs.Records.{has_id, last_where}
use Rattle.phone_plans.specs.Records as records
use Rattle.phone_parts.specs.Texts.{begins}
use Rattle.phone_read.specs.Dialling.{after_match, found_in}
use Rattle.phone_read.specs.Strips.{Stripped}
use Rattle.phone_read.proofs.ListedFronts.{shortest-listed}
use Rattle.phone_read.proofs.ReadNumbers.{nsn-own}
use Rattle.phone_read.specs.Hints.{Coded, hinted}
use Rattle.phone_read.specs.TransformRules.{rules_have_no_plus}
use Rattle.phone_records.specs.declared.loader.Metadata.{Metadata}
use Rattle.phone_territory.specs.Records.{code_of}
use Rattle.phone_library_laws.proofs.NationalTexts.{national_number-nsn, national_number-text_of}
use Rattle.phone_library_laws.proofs.PlusSigns.{All-strip, All-stripped, IfSome-first, IsNoPlus, is_no_plus, written_no_plus}
use Rattle.phone_library_laws.proofs.TakenCodes.{IfOk-code_after_sign, IfOk-code_in, last_any}

-- the number is held, and its text has 2 to 17 digits
pub record IsNational (n : National) : Type 0 where
  pub held : IsHeld n
  pub long_enough : 2 ≤ length (text_of n)
  pub short_enough : length (text_of n) ≤ 17

-- answers of tests
else_ok : (b : Bool) (e : ParseError) (r : Result National ParseError) (n : National) → (if b then Err e else r) ≡ Ok n → (b ≡ false) × (r ≡ Ok n)
else_ok true e r n h = cc
else_ok false e r n h = (refl, h)

then_ok : (b : Bool) (e : ParseError) (v n : National) → (if b then Ok v else Err e) ≡ Ok n → (b ≡ true) × (v ≡ n)
then_ok true e v n h = (refl, cc)
then_ok false e v n h = cc

with_held : (count : ℕ) (o : Option ℕ) (n : National) → national_with count o ≡ Ok n → IsHeld n
with_held count None n e = cc
with_held count (Some value) n e =
    let told = then_ok (nat_lt count 256 && nat_lt value (2 ^ 56)) refusal.TooLong (record { zeros = count; value = value }) n e in
    let both = and_parts (nat_lt count 256) (nat_lt value (2 ^ 56)) told.0 in
    subst IsHeld told.1 (ltb-true count 256 both.0, ltb-true value (2 ^ 56) both.1)

-- zeros alone are the text of a number of value 0
zeros_text : (s : List ℕ) → list_all (λ d. d == 48) s ≡ true → 1 ≤ length s → replicate (length s - 1) 48 ++ 48 ∷ [] ≡ s
zeros_text [] h some = absurd (omega (arith, some))
zeros_text (c ∷ []) h some = let zero : c ≡ 48 = eqb-true c 48 (and_parts (c == 48) true h).0 in ap (λ x. x ∷ []) (sym zero)
zeros_text (c ∷ d ∷ ds) h some =
    let both = and_parts (c == 48) (list_all (λ d. d == 48) (d ∷ ds)) h in
    let zero : c ≡ 48 = eqb-true c 48 both.0 in
    let counted : length (c ∷ d ∷ ds) - 1 ≡ suc (length (d ∷ ds) - 1) = omega arith in
    let all_zeros : 48 ∷ (replicate (length (d ∷ ds) - 1) 48 ++ 48 ∷ []) ≡ c ∷ d ∷ ds =
    subst (λ x. 48 ∷ (replicate (length (d ∷ ds) - 1) 48 ++ 48 ∷ []) ≡ x ∷ d ∷ ds) (sym zero) (ap (λ t. 48 ∷ t) (zeros_text (d ∷ ds) both.1 (omega arith))) in
    subst (λ k. replicate k 48 ++ 48 ∷ [] ≡ c ∷ d ∷ ds) (sym counted) all_zeros

-- what is read as a national number has 2 to 17 digits, and so has the number
module _ (s : List ℕ) (n : National) (plain : All IsNoPlus s) (read : national_number s ≡ Ok n) where
  abbrev told : Result National ParseError
  told = let zeros = leading_zeros (take (length s - 1) s) in national_with zeros (number_in 64 (drop zeros s))

  past_short : (nat_lt (length s) 2 ≡ false) × ((if nat_lt 17 (length s) then Err refusal.TooLong else told) ≡ Ok n)
  past_short = else_ok (nat_lt (length s) 2) refusal.TooShortNsn (if nat_lt 17 (length s) then Err refusal.TooLong else told) n read

  past_long : (nat_lt 17 (length s) ≡ false) × (told ≡ Ok n)
  past_long = else_ok (nat_lt 17 (length s)) refusal.TooLong told n past_short.1

  long : 2 ≤ length s
  long = ltb-false (length s) 2 past_short.0

  short : length s ≤ 17
  short = ltb-false 17 (length s) past_long.0

  held : IsHeld n
  held = with_held (leading_zeros (take (length s - 1) s)) (number_in 64 (drop (leading_zeros (take (length s - 1) s)) s)) n past_long.1

  -- of zeros alone
  by_zeros : list_all (λ d. d == 48) s ≡ true → IsNational n
  by_zeros zeros =
      let nothing : National = record { zeros = length s - 1; value = 0 } in
      let text : text_of nothing ≡ s = ap (λ t. replicate (length s - 1) 48 ++ t) (decimal_digit 0 (omega arith)) ∙ zeros_text s zeros (omega (arith, long)) in
      let has_room : IsHeld nothing = (omega (arith, short), omega arith) in
      let itself : national_number (text_of nothing) ≡ Ok nothing =
      national_number-text_of nothing has_room (omega (arith, ap length text, long)) (omega (arith, ap length text, short)) in
      let both : Ok nothing ≡ Ok n = sym itself ∙ ap national_number text ∙ read in
      let same : nothing ≡ n = cc in
      subst IsNational same (record { held = has_room; long_enough = omega (arith, ap length text, long); short_enough = omega (arith, ap length text, short) })

  by_value : list_all (λ d. d == 48) s ≡ false → IsNational n
  by_value some =
      let own = nsn-own s n plain (national_number-nsn s some ∙ read) in
      record { held = held; long_enough = own.long_enough; short_enough = own.short_enough }

  national_if_read : (b : Bool) → list_all (λ d. d == 48) s ≡ b → IsNational n
  national_if_read true e = by_zeros e
  national_if_read false e = by_value e

  pub national_of_digits : IsNational n
  national_of_digits = national_if_read (list_all (λ d. d == 48) s) refl

-- what all pass is passed by the last that passes another test
last_has : {X : Type 0} (passes q : X → Bool) (xs : List X) (x : X) → list_all q xs ≡ true → last_where passes xs ≡ Some x → q x ≡ true
last_has {X = X} passes q [] x all e = cc
last_has {X = X} passes q (y ∷ ys) x all e =
    let both = and_parts (q y) (list_all q ys) all in
    at (λ f. last_has passes q ys x both.1 f) both.0 (last_where passes ys) refl (passes y) e
  where
    at : (last_where passes ys ≡ Some x → q x ≡ true) → q y ≡ true → (o : Option X) → last_where passes ys ≡ o → (b : Bool) → option_or o (if b then Some y else None) ≡ Some x → q x ≡ true
    at again here (Some z) f b g = again (f ∙ g)
    at again here None f true g = let same : y ≡ x = cc in subst (λ z. q z ≡ true) same here
    at again here None f false g = cc

-- the transform rule of a territory has no plus sign
abbrev rule_is_plain : Metadata → Bool
rule_is_plain m = option_map_or (list_all is_no_plus) m.national_prefix_transform_rule true

abbrev IsPlainRule : Metadata → Type 0
IsPlainRule m = IfSome m.national_prefix_transform_rule (All IsNoPlus)

plain_rule : (m : Metadata) → rule_is_plain m ≡ true → IsPlainRule m
plain_rule m e = at m.national_prefix_transform_rule e
  where
    at : (o : Option (List ℕ)) → option_map_or (list_all is_no_plus) o true ≡ true → IfSome o (All IsNoPlus)
    at None e = tt
    at (Some rule) e = AllPass-from_list_all is_no_plus rule e

-- of a territory of a database whose rules have no plus sign
record IsOfDatabase (db : List Metadata) (m : Metadata) : Type 0 where
  pub listed : is_listed (code_of m) db ≡ true
  pub plain : IsPlainRule m

hint_of_database : (db : List Metadata) (hint : Option Id) → rules_have_no_plus db ≡ true → IfSome (hinted db hint) (IsOfDatabase db)
hint_of_database db None rules = tt
hint_of_database db (Some id) rules = at (hinted db (Some id)) refl
  where
    at : (o : Option Metadata) → hinted db (Some id) ≡ o → IfSome o (IsOfDatabase db)
    at None e = tt
    at (Some m) e = record {
      listed = last_any (has_id (name id)) (records.has_code (code_of m)) db m e (eq-eqb (code_of m) (code_of m) refl);
      plain = plain_rule m (last_has (has_id (name id)) rule_is_plain db m rules e);
    }

-- a code that is found is listed, and no plus sign stands among the digits after it
record IsPlainCode (db : List Metadata) (c : Coded) : Type 0 where
  pub listed : is_listed c.value db ≡ true
  pub plain : All IsNoPlus c.rest

-- the number that is read
pub record IsFine (db : List Metadata) (n : Reading) : Type 0 where
  pub listed : is_listed n.code.value db ≡ true
  pub national : IsNational n.national

-- the digits that are written in a text
plain_digits_in : (n : List ℕ) (r : Result WrittenNumber ParseError) → IsWrittenIn n r → IfOk r (λ (w : WrittenNumber). All IsNoPlus w.digits)
plain_digits_in n r (Written.not_viable v) = tt
plain_digits_in n r (Written.number front extension v h) = written_no_plus front

plain_digits : (t : List ℕ) (r : Result WrittenNumber ParseError) → IsWritten t r → IfOk r (λ (w : WrittenNumber). All IsNoPlus w.digits)
plain_digits t r (Written.too_long h) = tt
plain_digits t r (Written.nothing h none) = tt
plain_digits t r (Written.something n w h text written) = plain_digits_in n w written

module _ (db : List Metadata) where
  abbrev PlainIfFound : Result Coded ParseError → Type 0
  PlainIfFound r = IfOk r (IsPlainCode db)

  plain_after_sign : (source : Source) (digits : List ℕ) → All IsNoPlus digits → PlainIfFound (code_after_sign db source digits)
  plain_after_sign source digits plain =
      IfOk-code_after_sign db (IsPlainCode db) source digits
      (λ code e. record { listed = shortest-listed db digits code e; plain = All-drop IsNoPlus (length (decimal code)) digits plain })

  plain_by_territory : (m : Metadata) (digits : List ℕ) → IsOfDatabase db m → All IsNoPlus digits → IsPlainCode db (code_by_territory m digits)
  plain_by_territory m digits h plain =
      let after = drop (length (decimal (code_of m))) digits in
      cond_both (has_code m digits) (record { source = Number; value = code_of m; rest = behind_code m digits }) (record { source = Default; value = code_of m; rest = digits })
      (IsPlainCode db)
      (λ _. record { listed = h.listed; plain = All-strip IsNoPlus after (All-drop IsNoPlus (length (decimal (code_of m))) digits plain) m h.plain })
      (λ _. record { listed = h.listed; plain = plain })

  plain_after_match : (digits : List ℕ) (o : Option (ℕ × ℕ)) → All IsNoPlus digits → IfSome (after_match digits o) (All IsNoPlus)
  plain_after_match digits None plain = tt
  plain_after_match digits (Some (start, end)) plain =
      cond_both ((start == 0) && not (begins (λ d. d == 48) (drop end digits))) (Some (drop end digits)) None (λ o. IfSome o (All IsNoPlus))
      (λ _. All-drop IsNoPlus end digits plain) (λ _. tt)

  plain_by_hint : (o : Option Metadata) (digits : List ℕ) → IfSome o (IsOfDatabase db) → All IsNoPlus digits → PlainIfFound (code_by_hint db o digits)
  plain_by_hint None digits h plain = tt
  plain_by_hint (Some m) digits h plain =
      at (after_match digits (found_in m.international_prefix digits)) (plain_after_match digits (found_in m.international_prefix digits) plain)
    where
      at : (o : Option (List ℕ)) → IfSome o (All IsNoPlus) → PlainIfFound (option_map_or (λ after. code_after_sign db Idd after) o (Ok (code_by_territory m digits)))
      at None none = plain_by_territory m digits h plain
      at (Some after) some = plain_after_sign Idd after some

  plain_code_in : (o : Option Metadata) (has_plus : Bool) (digits : List ℕ) → IfSome o (IsOfDatabase db) → All IsNoPlus digits → PlainIfFound (code_in db o has_plus digits)
  plain_code_in o has_plus digits h plain =
      IfOk-code_in db (IsPlainCode db) o has_plus digits (plain_after_sign Plus digits plain) (plain_by_hint o digits h plain)

  abbrev FineIfRead : Result Reading ParseError → Type 0
  FineIfRead r = IfOk r (IsFine db)

  module _ (rules : rules_have_no_plus db ≡ true) where
    all_plain : All IsPlainRule db
    all_plain = All-weaker (λ (m : Metadata). rule_is_plain m ≡ true) IsPlainRule plain_rule db (AllPass-from_list_all rule_is_plain db rules)

    of_hint : (o : Option Metadata) → IfSome o (IsOfDatabase db) → IfSome o IsPlainRule
    of_hint None h = tt
    of_hint (Some m) h = h.plain

    -- the territory that strips
    plain_territory : (o : Option Metadata) → IfSome o (IsOfDatabase db) → (source : Source) (value : ℕ) (rest : List ℕ) →
        IfSome (stripping_territory db o (record { source = source; value = value; rest = rest })) IsPlainRule
    plain_territory o h Default value rest = of_hint o h
    plain_territory o h Plus value rest = IfSome-first IsPlainRule db all_plain value
    plain_territory o h Idd value rest = IfSome-first IsPlainRule db all_plain value
    plain_territory o h Number value rest = IfSome-first IsPlainRule db all_plain value

    fine_after_code : (o : Option Metadata) (extension : Option (List ℕ)) (c : Coded) → IfSome o (IsOfDatabase db) → IsPlainCode db c →
        FineIfRead (after_code db o extension c)
    fine_after_code o extension c hint h =
        cond_both (nat_lt (length c.rest) 2) (Err refusal.TooShortNsn) (reading_of c extension s) FineIfRead (λ _. tt) (λ _. at (national_number s.national) refl)
      where
        s : Stripped
        s = stripped (stripping_territory db o c) c.rest

        left : All IsNoPlus s.national
        left = All-stripped IsNoPlus c.rest h.plain (stripping_territory db o c) (plain_territory o hint c.source c.value c.rest)

        at : (r : Result National ParseError) → national_number s.national ≡ r →
            FineIfRead (result_map_both (λ n. record { code = record { value = c.value; source = c.source }; national = n; extension = extension; carrier = s.carrier }) (λ e. e) r)
        at (Err e) f = tt
        at (Ok n) f = record { listed = h.listed; national = national_of_digits s.national n left f }

    fine_if_found : (o : Option Metadata) (extension : Option (List ℕ)) (r : Result Coded ParseError) → IfSome o (IsOfDatabase db) → PlainIfFound r →
        FineIfRead (after_code_if_any db o extension r)
    fine_if_found o extension (Err e) hint h = tt
    fine_if_found o extension (Ok c) hint h = fine_after_code o extension c hint h

    fine_under : (hint : Option Id) (w : WrittenNumber) → All IsNoPlus w.digits → FineIfRead (reading_under db (hinted db hint) w)
    fine_under hint w plain =
        let of = hint_of_database db hint rules in
        fine_if_found (hinted db hint) w.extension (code_in db (hinted db hint) w.has_plus w.digits) of
        (plain_code_in (hinted db hint) w.has_plus w.digits of plain)

    fine_reading : (hint : Option Id) (t : List ℕ) (r : Result Reading ParseError) → ReadsByLibrary db hint t r → FineIfRead r
    fine_reading hint t r (Readings.refused e h) = tt
    fine_reading hint t r (Readings.written w h) = fine_under hint w (plain_digits t (Ok w) h)

    pub what_is_read : (hint : Option Id) (t : List ℕ) (n : Reading) → ReadsByLibrary db hint t (Ok n) → IsFine db n
    what_is_read hint t n h = fine_reading hint t (Ok n) h

-- what was read is settled
pub settled_if_read : (db : List Metadata) (hint : Option Id) (t : List ℕ) (n : Reading) → rules_have_no_plus db ≡ true → IsSettledIfRead db n →
    ReadsByLibrary db hint t (Ok n) → IsSettled db n
settled_if_read db hint t n rules h read =
    let fine = what_is_read db rules hint t n read in
    record {
      prefix_free = h.prefix_free;
      listed = fine.listed;
      some_code = h.some_code;
      short_code = h.short_code;
      held = fine.national.held;
      long_enough = fine.national.long_enough;
      short_enough = fine.national.short_enough;
      idle = h.idle;
    }
