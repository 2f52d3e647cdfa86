-- What holds of every number that is read, whatever the text.
use Rattle.std.proofs.Common.{◌≡◌, ◌≢◌, ◌⊎◌, inl, inr, ℕ, zero, suc, ◌<◌, ◌≤◌, ◌^◌, ◌==◌, ◌&&◌, not, nat_lt, nat_le, Bool, true, false, if◌then◌else◌, List, [], ◌∷◌, ◌++◌, length, take, drop, replicate, get_or, All, slice_index, Option, Some, None, IfSome, option_map, unwrap_or, Result, Ok, Err, IfOk, refl, ap, ap₂, sym, subst, ◌∙◌, true≢false, chars, arith, eqb-true, ne_eqb, leb-true, ltb-true}
use Rattle.std.proofs.lemmas.Bool.{and_parts, cases_lt, cond_both, eqb-false, ltb-false, not-false, not-true}
use Rattle.std.proofs.lemmas.Fmt.{decimal_digit, decimal-digits_value}
use Rattle.std.proofs.lemmas.List.Elements.{All-append, All-cons, All-drop, All-head, All-nil, All-tail, All-take, All-weaker}
use Rattle.std.proofs.lemmas.List.Sums.{AllPass-from_list_all}
use Rattle.std.proofs.lemmas.Str.Parse.{numerals_by_value, tells_digits, without_leading_plus_none}
use Rattle.std.specs.Char.{is_digit as is_digit_in}
use Rattle.std.specs.Fmt.{decimal}
use Rattle.std.specs.List.{list_all}
use Rattle.std.specs.Option.{option_and_then, option_map_or}
use Rattle.std.specs.Result.{result_map_both}
use Rattle.std.specs.Str.Parse.{AllDigits, IsNumeral, digits_value, without_leading_plus}
use Rattle.either.specs.declared.Either.{Either}
use Rattle.either.specs.declared.Either.TheVariants.{Left, Right}
use Rattle.regex.specs.Replace.{bytes_of}
use Rattle.regex.specs.Templates.{at_dollar, group_called, name_at, text_or_nothing, written_after}
use Rattle.phone_chars.specs.Characters.{is_digit, is_plus}
use Rattle.phone_chars.specs.Cuts.{after_front}
use Rattle.phone_values.specs.Ids.{name}
use Rattle.phone_chars.specs.Norm.{norm}
use Rattle.phone_values.specs.Nsn.{nsn}
use Rattle.phone_values.specs.Numbers.{National, leading_zeros, national_in, national_with, number_in, text_of}
use Rattle.phone_values.specs.declared.country.Id.{Id}
use Rattle.phone_values.specs.declared.country.Source.{Source}
use Rattle.phone_values.specs.declared.country.Source.TheVariants.{Plus, Idd, Number, Default}
use Rattle.phone_values.specs.declared.error.ParseError.{ParseError}
use Rattle.phone_values.specs.declared.error.ParseError.TheVariants.{InvalidCountryCode, MalformedInteger, TooLong, TooShortNsn}
use Rattle.phone_values.proofs.Finds.{IfSome-option_or}
use Rattle.phone_chars.proofs.Norms.{list_all-norm}
use Rattle.phone_values.proofs.ReadBack.{after_zeros_of}
use Rattle.phone_plans.proofs.InOrder.{All-territories}
use Rattle.phone_plans.specs.CodeLookUps.{first_of, is_listed, shortest, territories}
use Rattle.phone_territory.specs.First.{Captured, Seen, captured, first_match, group_in, names_in, replaced, with_first_replaced}
use Rattle.phone_territory.specs.Records.{code_of as code_of_territory}
use Rattle.phone_plans.specs.Records.{has_id, last_where, last_with}
use Rattle.phone_records.specs.declared.loader.Metadata.{Metadata}
use Rattle.phone_parts.specs.Parts.{Parts}
use Rattle.phone_parts.specs.Texts.{is_front, without_front}
use Rattle.phone_read.specs.Dialling.{after_match, dialled, found_in, unsigned}
use Rattle.phone_read.specs.CallingCodes.{code_by, code_by_front, code_by_prefix, code_of, dialled_under, international_prefix_of, with_three}
use Rattle.phone_read.specs.Hints.{Coded, code_by_hint, hinted, looks_national}
use Rattle.phone_read.specs.Kinds.{is_of}
use Rattle.phone_read.specs.Readings
use Rattle.phone_read.specs.Readings.{Reads, stripping_territory, without_zeros}
use Rattle.phone_read.specs.Regions.{home, region_of, territory_of}
use Rattle.phone_read.specs.Strips.{Cut, Stripped, anew, by_match, held, left_by, off_prefix, stay, step, strip, stripped}
use Rattle.phone_read.specs.TransformRules.{rules_have_no_plus}
use Rattle.phone_read.specs.Verdicts.{is_too_short, verdict}
use Rattle.phone_values.specs.declared.reading.Reading.{Reading}
use Rattle.phone_read.proofs.ListedCodes.{code_of-listed}
use Rattle.phone_read.proofs.ListedFronts.{listed_none}

-- what a number is read from: parts, their code, and the digits after it
pub record IsReadFrom (db : List Metadata) (hint : Option Id) (n : Reading) : Type 0 where
  pub parts : Parts
  pub code : Coded
  pub coded : code_of db hint parts.national parts.prefix ≡ Ok code
  pub value : n.code.value ≡ code.value
  pub extension : n.extension ≡ option_map norm parts.extension
  pub national : nsn (stripped (stripping_territory db hint code) code.rest).national ≡ Ok n.national

IfOk-mapped : {T U E : Type 0} (f : T → U) (P : U → Type 0) (r : Result T E) → ((x : T) → r ≡ Ok x → P (f x)) → IfOk (result_map_both f (λ e. e) r) P
IfOk-mapped f P (Ok x) h = h x refl
IfOk-mapped f P (Err e) h = tt

IfOk-read : (db : List Metadata) (hint : Option Id) (t : List ℕ) (r : Result Reading ParseError) → Reads db hint t r → IfOk r (IsReadFrom db hint)
IfOk-read db hint t r (Readings.no_parts h) = tt
IfOk-read db hint t r (Readings.not_viable p h v) = tt
IfOk-read db hint t r (Readings.no_code p e h v f) = tt
IfOk-read db hint t r (Readings.coded p c h v f) =
    IfOk-mapped _ (IsReadFrom db hint) (nsn (stripped (stripping_territory db hint c) c.rest).national)
    (λ n e. record { parts = p; code = c; coded = f; value = refl; extension = refl; national = e })

pub read_from : (db : List Metadata) (hint : Option Id) (t : List ℕ) (n : Reading) → Reads db hint t (Ok n) → IsReadFrom db hint n
read_from db hint t n h = IfOk-read db hint t (Ok n) h

-- its code is listed
pub number-listed : (db : List Metadata) (hint : Option Id) (t : List ℕ) (n : Reading) → Reads db hint t (Ok n) → is_listed n.code.value db ≡ true
number-listed db hint t n h =
    let from = read_from db hint t n h in
    ap (λ v. is_listed v db) from.value ∙ code_of-listed db hint from.parts.national from.parts.prefix from.code from.coded

-- so there is a first territory of it
pub has_territory : (db : List Metadata) (hint : Option Id) (t : List ℕ) (n : Reading) → Reads db hint t (Ok n) → ¬ (first_of (territories n.code.value db) ≡ None)
has_territory db hint t n h none = true≢false (sym (number-listed db hint t n h) ∙ listed_none n.code.value db (sym none))

-- a reader that may refuse for memory answers a number, of a text with these bytes
pub number_reads : {db : List Metadata} {hint : Option Id} {bytes text : List ℕ} {n : Reading} {e : ParseError} → text ≡ bytes →
    (◌≡◌ {A = Result Reading ParseError} (Ok n) (Err e)) ⊎ Reads db hint (chars text) (Ok n) → Reads db hint (chars bytes) (Ok n)
number_reads same (inl other) = absurd (cc)
number_reads {db = db} {hint = hint} {n = n} same (inr h) = subst (λ t. Reads db hint (chars t) (Ok n)) same h

norm_if_some : (o : Option (List ℕ)) → option_map_or (list_all is_digit) (option_map norm o) true ≡ true
norm_if_some None = refl
norm_if_some (Some t) = list_all-norm t

-- the extension is absent or digits alone
pub extension-digits : (db : List Metadata) (hint : Option Id) (t : List ℕ) (n : Reading) → Reads db hint t (Ok n) →
    option_map_or (list_all is_digit) n.extension true ≡ true
extension-digits db hint t n h =
    let from = read_from db hint t n h in
    ap (λ e. option_map_or (list_all is_digit) e true) from.extension ∙ norm_if_some from.parts.extension

-- what holds of each answer, with a value and without
map_or_both : {X Y : Type 0} (o : Option X) (f : X → Y) (y : Y) (P : Y → Type 0) → ((x : X) → P (f x)) → P y → P (option_map_or f o y)
map_or_both None f y P some none = none
map_or_both (Some x) f y P some none = some x

-- what every element of a list has, what is taken from it has
module _ {X : Type 0} (Q : X → Type 0) where
  IfSome-last_where : (p : X → Bool) (xs : List X) → All Q xs → IfSome (last_where p xs) Q
  IfSome-last_where p [] h = tt
  IfSome-last_where p (x ∷ xs) h =
      IfSome-option_or Q (last_where p xs) (if p x then Some x else None) (IfSome-last_where p xs (All-tail Q x xs h))
      (cond_both (p x) (Some x) None (λ o. IfSome o Q) (λ _. All-head Q x xs h) (λ _. tt))

  IfSome-first_of : (xs : List X) → All Q xs → IfSome (first_of xs) Q
  IfSome-first_of [] h = tt
  IfSome-first_of (x ∷ xs) h = All-head Q x xs h

  IfSome-option_and_then : {Y : Type 0} (f : Y → Option X) (o : Option Y) → ((y : Y) → IfSome (f y) Q) → IfSome (option_and_then f o) Q
  IfSome-option_and_then f None h = tt
  IfSome-option_and_then f (Some y) h = h y

-- what every record of a database has, the territory that strips has
module _ (Q : Metadata → Type 0) (db : List Metadata) (h : All Q db) where
  IfSome-territory_of : (region : Either Id ℕ) → IfSome (territory_of db region) Q
  IfSome-territory_of (Left id) = IfSome-last_where Q (has_id (name id)) db h
  IfSome-territory_of (Right code) = IfSome-first_of Q (territories code db) (All-territories Q db h code)

  IfSome-home : (code : ℕ) (digits : List ℕ) → IfSome (home db code digits) Q
  IfSome-home code digits = IfSome-option_and_then Q (territory_of db) (region_of db code digits) IfSome-territory_of

  IfSome-hinted : (hint : Option Id) → IfSome (hinted db hint) Q
  IfSome-hinted hint = IfSome-option_and_then Q (λ id. last_with (name id) db) hint (λ id. IfSome-last_where Q (has_id (name id)) db h)

  pub IfSome-stripping_territory : (hint : Option Id) (c : Coded) → IfSome (stripping_territory db hint c) Q
  IfSome-stripping_territory (Some id) c = IfSome-hinted (Some id)
  IfSome-stripping_territory None c = IfSome-home c.value (without_zeros c.rest)

-- what every byte of a template and of its groups has, every byte that is written has
module _ (P : ℕ → Type 0) where
  module _ (names : List (Option (List ℕ))) (group : ℕ → List ℕ) (groups : (n : ℕ) → All P (group n)) where
    All-text_or_nothing : (o : Option ℕ) → All P (text_or_nothing names group o)
    All-text_or_nothing None = All-nil P
    All-text_or_nothing (Some n) = groups n

    All-at_dollar : (o : Option (List ℕ × ℕ)) (after : ℕ → List ℕ) → P 36 → ((n : ℕ) → All P (after n)) → All P (at_dollar names group o after)
    All-at_dollar None after dollar h = All-cons P 36 (after 0) dollar (h 0)
    All-at_dollar (Some reference) after dollar h =
        All-append P (text_or_nothing names group (group_called names reference.0)) (after reference.1)
        (All-text_or_nothing (group_called names reference.0)) (h reference.1)

    pub All-written_after : (template : List ℕ) (skipped : ℕ) → All P template → All P (written_after names group template skipped)
    unfolding written_after
    All-written_after [] skipped h = All-nil P
    All-written_after (b ∷ rest) (suc skipped) h = All-written_after rest skipped (All-tail P b rest h)
    All-written_after (b ∷ rest) zero h =
        let later : (n : ℕ) → All P (written_after names group rest n) = λ n. All-written_after rest n (All-tail P b rest h) in
        let first : P b = All-head P b rest h in
        cond_both (not (b == 36)) _ _ (All P) (λ _. All-cons P b (written_after names group rest 0) first (later 0))
        (λ e.
        let dollar : P 36 = subst P (eqb-true b 36 (not-false (b == 36) e)) first in
        cond_both (slice_index rest 0 == 36) _ _ (All P) (λ _. All-cons P 36 (written_after names group rest 1) dollar (later 1))
        (λ _. All-at_dollar (name_at rest) (written_after names group rest) dollar later))

  All-bytes_of : (hay : List ℕ) (s : Option (ℕ × ℕ)) → All P hay → All P (bytes_of hay s)
  All-bytes_of hay None h = All-nil P
  All-bytes_of hay (Some s) h = All-take P _ (drop s.0 hay) (All-drop P s.0 hay h)

  All-with_first_replaced : (names : List (Option (List ℕ))) (template hay : List ℕ) (o : Option Seen) → All P template → All P hay →
      All P (with_first_replaced names template hay o)
  All-with_first_replaced names template hay None t h = h
  All-with_first_replaced names template hay (Some s) t h =
      let group : ℕ → List ℕ = λ n. bytes_of hay (group_in s n) in
      let written : All P (written_after names group template 0) = All-written_after names group (λ n. All-bytes_of hay (group_in s n) h) template 0 t in
      All-append P (take s.0 hay ++ written_after names group template 0) (drop s.1 hay)
      (All-append P (take s.0 hay) (written_after names group template 0) (All-take P s.0 hay h) written) (All-drop P s.1 hay h)

  pub All-replaced : (pattern template hay : List ℕ) → All P template → All P hay → All P (replaced pattern template hay)
  All-replaced pattern template hay t h = All-with_first_replaced (names_in pattern) template hay (first_match pattern hay) t h

  All-without_front : (front : Option (List ℕ)) (text : List ℕ) → All P text → All P (without_front front text)
  All-without_front None text h = h
  All-without_front (Some front) text h = cond_both (is_front front text) _ _ (All P) (λ _. All-drop P (length front) text h) (λ _. h)

  -- what every byte of the digits and of the transform rule has, every byte of what stripping leaves has
  module _ (m : Metadata) (digits : List ℕ) (h : All P digits) (of_rule : IfSome m.national_prefix_transform_rule (All P)) where
    abbrev AllLeft : Stripped → Type 0
    AllLeft s = All P s.national

    abbrev AllCut : Cut → Type 0
    AllCut cut = AllLeft (left_by m digits None cut)

    left_by_match : (pattern : List ℕ) (rule : Option (List ℕ)) (found : Captured) (last : Option (ℕ × ℕ)) → IfSome rule (All P) →
        AllCut (by_match m pattern rule digits found last)
    left_by_match pattern (Some rule) found (Some last) r =
        let written = replaced pattern rule digits in
        cond_both (is_of m.general digits && not (is_of m.general written)) stay (anew written (held digits found.first)) AllCut
        (λ _. h) (λ _. All-replaced pattern rule digits r h)
    left_by_match pattern (Some rule) found None r = All-drop P found.span.1 digits h
    left_by_match pattern None found (Some last) r = All-drop P found.span.1 digits h
    left_by_match pattern None found None r = All-drop P found.span.1 digits h

    left_at_front : (pattern : List ℕ) (found : Captured) →
        AllCut (if found.span.0 == 0 then by_match m pattern m.national_prefix_transform_rule digits found found.last else stay)
    left_at_front pattern found =
        cond_both (found.span.0 == 0) _ stay AllCut (λ _. left_by_match pattern m.national_prefix_transform_rule found found.last of_rule) (λ _. h)

    All-step : All P (step m digits None).national
    All-step =
        map_or_both m.national_prefix_for_parsing _ off_prefix AllCut
        (λ pattern. map_or_both (captured pattern digits) _ stay AllCut (left_at_front pattern) h) (All-without_front m.national_prefix digits h)

    All-strip : All P (strip m digits).national
    All-strip =
        let national = without_front m.national_prefix (step m digits None).national in
        cond_both (is_too_short (verdict m (length national))) _ _ AllLeft
        (λ _. h) (λ _. All-without_front m.national_prefix (step m digits None).national All-step)

  pub All-stripped : (o : Option Metadata) (digits : List ℕ) → All P digits →
      IfSome o (λ (m : Metadata). IfSome m.national_prefix_transform_rule (All P)) → All P (stripped o digits).national
  All-stripped None digits h r = h
  All-stripped (Some m) digits h r = All-strip m digits h r

  -- what every byte of the digits has, every byte after the code has
  abbrev AllAfter : Coded → Type 0
  AllAfter c = All P c.rest

  IfOk-option_map_or : {Y : Type 0} (f : Y → Result Coded ParseError) (o : Option Y) (e : ParseError) → ((y : Y) → IfOk (f y) AllAfter) →
      IfOk (option_map_or f o (Err e)) AllAfter
  IfOk-option_map_or f o e h = map_or_both o f (Err e) (λ r. IfOk r AllAfter) h tt

  module _ (digits : List ℕ) (h : All P digits) where
    after_by_hint : (m : Metadata) → AllAfter (code_by_hint m digits)
    after_by_hint m =
        let code = decimal (code_of_territory m) in
        cond_both (is_front code digits && not (looks_national m digits)) _ _ AllAfter (λ _. All-drop P (length code) digits h) (λ _. h)

    after_by_front : (db : List Metadata) (source : Source) → IfOk (code_by_front db source digits) AllAfter
    after_by_front db source = IfOk-option_map_or _ (shortest db digits) InvalidCountryCode (λ code. All-drop P (length (decimal code)) digits h)

    after_by_prefix : (db : List Metadata) (prefix : List ℕ) → IfOk (code_by_prefix db prefix digits) AllAfter
    after_by_prefix db prefix =
        IfOk-option_map_or _ (number_in 16 prefix) MalformedInteger
        (λ code. cond_both (is_listed code db) _ _ (λ (r : Result Coded ParseError). IfOk r AllAfter) (λ _. h) (λ _. tt))

    after_with_three : (r : Result Coded ParseError) → IfOk r AllAfter → IfOk (with_three digits r) AllAfter
    after_with_three r held = cond_both (nat_le (length digits) 2) _ _ (λ (r : Result Coded ParseError). IfOk r AllAfter) (λ _. tt) (λ _. held)

    after_by : (db : List Metadata) (m : Option Metadata) (p : Option (List ℕ)) (source : Source) → IfOk (code_by db m p source digits) AllAfter
    after_by db m (Some p) source = after_with_three (code_by_prefix db p digits) (after_by_prefix db p)
    after_by db m None Default = IfOk-option_map_or _ m InvalidCountryCode after_by_hint
    after_by db m None Plus = after_with_three (code_by_front db Plus digits) (after_by_front db Plus)
    after_by db m None Idd = after_with_three (code_by_front db Idd digits) (after_by_front db Idd)
    after_by db m None Number = after_with_three (code_by_front db Number digits) (after_by_front db Number)

    All-after_match : (o : Option (ℕ × ℕ)) → All P (unwrap_or (after_match digits o) digits)
    All-after_match None = h
    All-after_match (Some (start, end)) =
        cond_both _ (Some (drop end digits)) None (λ (o : Option (List ℕ)). All P (unwrap_or o digits)) (λ _. All-drop P end digits h) (λ _. h)

  -- what every digit has, every byte of what stripping leaves has, where every byte of the transform rules has it
  module _ (digit : (c : ℕ) → is_digit c ≡ true → P c) where
    All-norm : (t : List ℕ) → All P (norm t)
    All-norm t = All-weaker (λ c. is_digit c ≡ true) P digit (norm t) (AllPass-from_list_all is_digit (norm t) (list_all-norm t))

    All-dialled : (found : List ℕ → Option (ℕ × ℕ)) (n : List ℕ) (p : Option (List ℕ)) → All P (dialled found n p).digits
    All-dialled found n (Some p) = All-norm n
    All-dialled found n None = All-after_match (unsigned n) (All-norm (after_front is_plus n)) (found (unsigned n))

    after_code : (db : List Metadata) (hint : Option Id) (n : List ℕ) (p : Option (List ℕ)) → IfOk (code_of db hint n p) AllAfter
    after_code db hint n p =
        let told = dialled_under db hint n p in
        after_by told.digits (All-dialled (found_in (international_prefix_of (hinted db hint))) n p) db (hinted db hint) (option_map norm p) told.source

    pub All-left : (db : List Metadata) (hint : Option Id) (n : List ℕ) (p : Option (List ℕ)) (c : Coded) → code_of db hint n p ≡ Ok c →
        All (λ (m : Metadata). IfSome m.national_prefix_transform_rule (All P)) db → All P (stripped (stripping_territory db hint c) c.rest).national
    All-left db hint n p c e rules =
        All-stripped (stripping_territory db hint c) c.rest (subst (λ (r : Result Coded ParseError). IfOk r AllAfter) e (after_code db hint n p))
        (IfSome-stripping_territory (λ (m : Metadata). IfSome m.national_prefix_transform_rule (All P)) db rules hint c)

-- a test whose answer is told by what comes of it
then_some : (b : Bool) (v x : ℕ) → (if b then Some v else None) ≡ Some x → (b ≡ true) × (v ≡ x)
then_some true v x e = (refl, cc)
then_some false v x e = cc

then_ok : (b : Bool) (e : ParseError) (v n : National) → (if b then Ok v else Err e) ≡ Ok n → (b ≡ true) × (v ≡ n)
then_ok true e v n h = (refl, cc)
then_ok false e v n h = cc

else_ok : (b : Bool) (e : ParseError) (r : Result National ParseError) (n : National) → (if b then Err e else r) ≡ Ok n → (b ≡ false) × (r ≡ Ok n)
else_ok true e r n h = cc
else_ok false e r n h = (refl, h)

AllDigits-from_list_all : (ds : List ℕ) → list_all (λ c. is_digit_in c 10) ds ≡ true → AllDigits 10 ds
AllDigits-from_list_all [] h = tt
AllDigits-from_list_all (d ∷ ds) h =
    let both = and_parts (is_digit_in d 10) (list_all (λ c. is_digit_in c 10) ds) h in (ltb-true _ 10 both.0, AllDigits-from_list_all ds both.1)

number_parts : (k : ℕ) (t : List ℕ) (n : ℕ) → number_in k t ≡ Some n →
    IsNumeral 10 (without_leading_plus t) × (digits_value 10 (without_leading_plus t) ≡ n)
number_parts k t n e =
    let ds = without_leading_plus t in
    let some = nat_lt 0 (length ds) in
    let digits = list_all (λ c. is_digit_in c 10) ds in
    let found = then_some (some && digits && nat_lt (digits_value 10 ds) (2 ^ k)) (digits_value 10 ds) n e in
    let outer = and_parts (some && digits) (nat_lt (digits_value 10 ds) (2 ^ k)) found.0 in
    let inner = and_parts some digits outer.0 in
    ((ltb-true 0 (length ds) inner.0, AllDigits-from_list_all ds inner.1), found.1)

national_parts : (count : ℕ) (o : Option ℕ) (n : National) → national_with count o ≡ Ok n →
    (o ≡ Some n.value) × (n.zeros ≡ count) × (n.value < 2 ^ 56)
national_parts count None n e = cc
national_parts count (Some value) n e =
    let found = then_ok (nat_lt count 256 && nat_lt value (2 ^ 56)) TooLong (record { zeros = count; value = value }) n e in
    let both = and_parts (nat_lt count 256) (nat_lt value (2 ^ 56)) found.0 in
    let same : value ≡ n.value = ap (λ (m : National). m.value) found.1 in
    (ap Some same, sym (ap (λ (m : National). m.zeros) found.1), subst (λ v. v < 2 ^ 56) same (ltb-true value (2 ^ 56) both.1))

-- the byte is no plus sign
abbrev IsNoPlus : ℕ → Type 0
IsNoPlus b = not (b == 43) ≡ true

digit_no_plus : (c : ℕ) → is_digit c ≡ true → IsNoPlus c
digit_no_plus c h =
    let low : 48 ≤ c = leb-true 48 c (and_parts (nat_le 48 c) (nat_le c 57) h).0 in
    let other : c ≢ 43 = λ e. absurd (omega (arith, low, e)) in
    ap not (ne_eqb c 43 other)

first_no_plus : (t : List ℕ) → All IsNoPlus t → get_or t 0 0 ≢ 43
first_no_plus [] h e = absurd (omega (arith, e))
first_no_plus (c ∷ cs) h e = eqb-false c 43 (not-true (c == 43) (All-head IsNoPlus c cs h)) e

-- a text is the text of the number that it is read as, and that isn't 0
pub record IsOwnText (t : List ℕ) (n : National) : Type 0 where
  pub not_zero : 0 < n.value
  pub text : text_of n ≡ t

-- a text without a plus sign
pub national_in-own : (t : List ℕ) (n : National) → All IsNoPlus t → national_in t ≡ Ok n → IsOwnText t n
national_in-own t n h e =
    let zeros = leading_zeros t in
    let ds = drop zeros t in
    let after = after_zeros_of t in
    let told = national_parts zeros (number_in 64 ds) n e in
    let plain : without_leading_plus ds ≡ ds = without_leading_plus_none ds (first_no_plus ds (All-drop IsNoPlus zeros t h)) in
    let numeral = subst (λ cs. IsNumeral 10 cs × (digits_value 10 cs ≡ n.value)) plain (number_parts 64 ds n.value told.0) in
    let below : digits_value 10 ds < 2 ^ 64 = omega (arith, numeral.1, told.2) in
    let one : get_or ds 0 0 ≡ 48 → length ds ≡ 1 = λ z. absurd (after.first z) in
    let printed : decimal (digits_value 10 ds) ≡ ds = decimal-digits_value (numerals_by_value (AllDigits 10) tells_digits) ds numeral.0.1 numeral.0.0 one below in
    let itself : decimal n.value ≡ ds = ap decimal (sym numeral.1) ∙ printed in
    let no_zero : n.value ≡ 0 → ⊥ = λ z.
    let alone : 48 ∷ [] ≡ ds = sym (decimal_digit 0 (omega arith)) ∙ ap decimal (sym z) ∙ itself in
    after.first (sym (ap (λ cs. get_or cs 0 0) alone)) in
    record {
      not_zero = elim (cases_lt 0 n.value) [
        | inl some ↦ some
        | inr none ↦ absurd (no_zero (omega (arith, none)))
      ];
      text = ap₂ (λ k cs. replicate k 48 ++ cs) told.1 itself ∙ sym after.whole;
    }

-- the number isn't 0, and its text has 2 to 17 bytes
pub record IsNsn (n : National) : Type 0 where
  pub not_zero : 0 < n.value
  pub long_enough : 2 ≤ length (text_of n)
  pub short_enough : length (text_of n) ≤ 17

pub nsn-own : (t : List ℕ) (n : National) → All IsNoPlus t → nsn t ≡ Ok n → IsNsn n
nsn-own t n h e =
    let short = nat_lt (length t) 2 in
    let long = nat_lt 17 (length t) in
    let first = else_ok short TooShortNsn (if long then Err TooLong else national_in t) n e in
    let second = else_ok long TooLong (national_in t) n first.1 in
    let own = national_in-own t n h second.1 in
    let same : length (text_of n) ≡ length t = ap length own.text in
    record {
      not_zero = own.not_zero;
      long_enough = omega (arith, same, ltb-false (length t) 2 first.0);
      short_enough = omega (arith, same, ltb-false 17 (length t) second.0);
    }

rule_no_plus : (o : Option (List ℕ)) → option_map_or (list_all (λ b. not (b == 43))) o true ≡ true → IfSome o (All IsNoPlus)
rule_no_plus None h = tt
rule_no_plus (Some rule) h = AllPass-from_list_all (λ b. not (b == 43)) rule h

-- where no transform rule has a plus sign, what stripping leaves of the digits after a code has none
left_no_plus : (db : List Metadata) (hint : Option Id) (n : List ℕ) (p : Option (List ℕ)) (c : Coded) → rules_have_no_plus db ≡ true → code_of db hint n p ≡ Ok c →
    All IsNoPlus (stripped (stripping_territory db hint c) c.rest).national
left_no_plus db hint n p c plain coded =
    let of_rule : Metadata → Bool = λ m. option_map_or (list_all (λ b. not (b == 43))) m.national_prefix_transform_rule true in
    let rules = All-weaker (λ (m : Metadata). of_rule m ≡ true) (λ (m : Metadata). IfSome m.national_prefix_transform_rule (All IsNoPlus))
    (λ m. rule_no_plus m.national_prefix_transform_rule) db (AllPass-from_list_all of_rule db plain) in
    All-left IsNoPlus digit_no_plus db hint n p c coded rules

-- then it is the text of the number that it is read as
pub nsn-left : (db : List Metadata) (hint : Option Id) (n : List ℕ) (p : Option (List ℕ)) (c : Coded) (number : National) → rules_have_no_plus db ≡ true →
    code_of db hint n p ≡ Ok c → nsn (stripped (stripping_territory db hint c) c.rest).national ≡ Ok number →
    text_of number ≡ (stripped (stripping_territory db hint c) c.rest).national
nsn-left db hint n p c number plain coded read =
    let t = (stripped (stripping_territory db hint c) c.rest).national in
    let first = else_ok (nat_lt (length t) 2) TooShortNsn (if nat_lt 17 (length t) then Err TooLong else national_in t) number read in
    let second = else_ok (nat_lt 17 (length t)) TooLong (national_in t) number first.1 in
    (national_in-own t number (left_no_plus db hint n p c plain coded) second.1).text

-- and the number has 2 to 17 digits and a value
pub national-digits : (db : List Metadata) (hint : Option Id) (t : List ℕ) (n : Reading) → rules_have_no_plus db ≡ true → Reads db hint t (Ok n) → IsNsn n.national
national-digits db hint t n plain h =
    let from = read_from db hint t n h in
    nsn-own _ n.national (left_no_plus db hint from.parts.national from.parts.prefix from.code plain from.coded) from.national
