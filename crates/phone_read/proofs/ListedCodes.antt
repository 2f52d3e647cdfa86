-- A code that was found is listed.
use Rattle.std.proofs.Common.{◌≡◌, ℕ, ◌||◌, Bool, true, false, nat_le, if◌then◌else◌, List, [], ◌∷◌, drop, length, Option, Some, None, option_map, Result, Ok, Err, refl, ap, sym, subst, ◌∙◌}
use Rattle.std.proofs.lemmas.Bool.{eq-eqb, or_left, or_right}
use Rattle.std.specs.Fmt.{decimal}
use Rattle.std.specs.List.{list_any}
use Rattle.std.specs.Option.{option_or, option_map_or}
use Rattle.phone_values.specs.Ids.{name}
use Rattle.phone_chars.specs.Norm.{norm}
use Rattle.phone_values.specs.Numbers.{number_in}
use Rattle.phone_values.specs.declared.country.Id.{Id}
use Rattle.phone_values.specs.declared.country.Source.{Source}
use Rattle.phone_values.specs.declared.country.Source.TheVariants.{Plus, Idd, Number, Default}
use Rattle.phone_values.specs.declared.error.ParseError.{ParseError}
use Rattle.phone_values.specs.declared.error.ParseError.TheVariants.{InvalidCountryCode, MalformedInteger, TooShortNsn}
use Rattle.phone_plans.specs.CodeLookUps.{is_listed, shortest}
use Rattle.phone_territory.specs.Records.{code_of}
use Rattle.phone_plans.specs.Records.{has_code, has_id, last_where}
use Rattle.phone_records.specs.declared.loader.Metadata.{Metadata}
use Rattle.phone_read.specs.CallingCodes
use Rattle.phone_read.specs.CallingCodes.{code_by, code_by_front, code_by_prefix, dialled_under, with_three}
use Rattle.phone_read.specs.Hints.{Coded, hinted, code_by_hint}
use Rattle.phone_read.proofs.ListedFronts.{shortest-listed}

-- what the last that passes is, one of the list is
last_where-any : {X : Type 0} (passes q : X → Bool) (xs : List X) (x : X) → last_where passes xs ≡ Some x → q x ≡ true → list_any q xs ≡ true
last_where-any {X = X} passes q [] x e h = cc
last_where-any {X = X} passes q (y ∷ ys) x e h = at (λ f. last_where-any passes q ys x f h) (last_where passes ys) refl (passes y) e
  where
    at : (last_where passes ys ≡ Some x → list_any q ys ≡ true) → (o : Option X) → last_where passes ys ≡ o → (b : Bool) → option_or o (if b then Some y else None) ≡ Some x → (q y || list_any q ys) ≡ true
    at again (Some z) f b g = or_right (q y) (list_any q ys) (again (f ∙ g))
    at again None f true g = let same : y ≡ x = cc in or_left (q y) (list_any q ys) (ap q same ∙ h)
    at again None f false g = cc

-- the code of a hint's territory
hinted-listed : (db : List Metadata) (hint : Option Id) (m : Metadata) → hinted db hint ≡ Some m → is_listed (code_of m) db ≡ true
hinted-listed db None m e = cc
hinted-listed db (Some id) m e = last_where-any (has_id (name id)) (has_code (code_of m)) db m e (eq-eqb (code_of m) (code_of m) refl)

-- by the hint it is the code of the territory, cut off or not
by_hint-value : (m : Metadata) (digits : List ℕ) → (code_by_hint m digits).value ≡ code_of m
by_hint-value m digits = at _
  where
    at : (b : Bool) → (if b then (let c : Coded = record { source = Number; value = code_of m; rest = drop (length (decimal (code_of m))) digits } in c)
        else (let c : Coded = record { source = Default; value = code_of m; rest = digits } in c)).value ≡ code_of m
    at true = refl
    at false = refl

past_three : (digits : List ℕ) (r : Result Coded ParseError) (c : Coded) → with_three digits r ≡ Ok c → r ≡ Ok c
past_three digits r c e = at (nat_le (length digits) 2) e
  where
    at : (b : Bool) → (if b then Err TooShortNsn else r) ≡ Ok c → r ≡ Ok c
    at true f = cc
    at false f = f

front-listed : (db : List Metadata) (source : Source) (digits : List ℕ) (c : Coded) → code_by_front db source digits ≡ Ok c → is_listed c.value db ≡ true
front-listed db source digits c e = at (shortest db digits) refl e
  where
    at : (o : Option ℕ) → shortest db digits ≡ o →
        option_map_or (λ code. Ok (record { source = source; value = code; rest = drop (length (decimal code)) digits })) o (Err InvalidCountryCode) ≡ Ok c →
        is_listed c.value db ≡ true
    at None f g = cc
    at (Some code) f g =
        let same : record { source = source; value = code; rest = drop (length (decimal code)) digits } ≡ c = cc in
        subst (λ x. is_listed x.value db ≡ true) same (shortest-listed db digits code f)

prefix-listed : (db : List Metadata) (p digits : List ℕ) (c : Coded) → code_by_prefix db p digits ≡ Ok c → is_listed c.value db ≡ true
prefix-listed db p digits c e = at (number_in 16 p) e
  where
    by : (code : ℕ) (b : Bool) → is_listed code db ≡ b → (if b then Ok (record { source = Plus; value = code; rest = digits }) else Err InvalidCountryCode) ≡ Ok c →
        is_listed c.value db ≡ true
    by code true f g =
        let same : record { source = Plus; value = code; rest = digits } ≡ c = cc in
        subst (λ x. is_listed x.value db ≡ true) same f
    by code false f g = cc

    at : (o : Option ℕ) →
        option_map_or (λ code. if is_listed code db then Ok (record { source = Plus; value = code; rest = digits }) else Err InvalidCountryCode) o (Err MalformedInteger) ≡ Ok c →
        is_listed c.value db ≡ true
    at None g = cc
    at (Some code) g = by code (is_listed code db) refl g

hint-listed : (db : List Metadata) (hint : Option Id) (digits : List ℕ) (c : Coded) (o : Option Metadata) → hinted db hint ≡ o →
    option_map_or (λ m. Ok (code_by_hint m digits)) o (Err InvalidCountryCode) ≡ Ok c → is_listed c.value db ≡ true
hint-listed db hint digits c None f g = cc
hint-listed db hint digits c (Some m) f g =
    let same : code_by_hint m digits ≡ c = cc in
    subst (λ x. is_listed x db ≡ true) (sym (by_hint-value m digits) ∙ ap (λ (x : Coded). x.value) same) (hinted-listed db hint m f)

code_by-listed : (db : List Metadata) (hint : Option Id) (q : Option (List ℕ)) (source : Source) (digits : List ℕ) (c : Coded) →
    code_by db (hinted db hint) q source digits ≡ Ok c → is_listed c.value db ≡ true
code_by-listed db hint (Some p) source digits c e = prefix-listed db p digits c (past_three digits _ c e)
code_by-listed db hint None Plus digits c e = front-listed db Plus digits c (past_three digits _ c e)
code_by-listed db hint None Idd digits c e = front-listed db Idd digits c (past_three digits _ c e)
code_by-listed db hint None Number digits c e = front-listed db Number digits c (past_three digits _ c e)
code_by-listed db hint None Default digits c e = hint-listed db hint digits c (hinted db hint) refl e

-- a code that was found is listed
pub code_of-listed : (db : List Metadata) (hint : Option Id) (n : List ℕ) (p : Option (List ℕ)) (c : Coded) → CallingCodes.code_of db hint n p ≡ Ok c → is_listed c.value db ≡ true
code_of-listed db hint n p c e = code_by-listed db hint (option_map norm p) (dialled_under db hint n p).source (dialled_under db hint n p).digits c e
