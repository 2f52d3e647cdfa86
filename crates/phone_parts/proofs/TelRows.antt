-- Readings of `tel:` texts, put together from their parts.
use Rattle.std.proofs.Common.{◌≡◌, ◌⊎◌, ℕ, ◌==◌, true, false, List, [], ◌∷◌, ◌++◌, Option, codes, refl}
use Rattle.std.specs.List.{list_any, list_all}
use Rattle.std.specs.Option.{option_or, option_map}
use Rattle.phone_parts.specs.Tel
use Rattle.phone_parts.specs.Tel.{IsTel, Parameter, IsSignedRun, HasParameters, is_name_char, is_phonedigit, is_value_char, value_of, without_plus}
use Rattle.phone_parts.specs.Texts.{begins, is_like}

pub no_parameters : HasParameters [] []
no_parameters = Tel.no_more [] (λ p rest h. let e : [] ≡ 59 ∷ (p.name ++ 61 ∷ (p.value ++ rest)) = h.whole in cc)

-- a parameter, and more of them
pub and_more : {rest : List ℕ} {ps : List Parameter} (name value : List ℕ) → HasParameters rest ps → list_all is_name_char name ≡ true →
    list_all is_value_char value ≡ true → begins is_value_char rest ≡ false →
    HasParameters (59 ∷ (name ++ 61 ∷ (value ++ rest))) (record { name = name; value = value } ∷ ps)
and_more {rest = rest} {ps = ps} name value more named valued longest =
    Tel.one_more (record { name = name; value = value }) ps (59 ∷ (name ++ 61 ∷ (value ++ rest))) rest
    (record { whole = refl; named = named; valued = valued; longest = longest }) more

-- scheme, plus sign and run, national part and parameters
pub tel_of : {signs tail : List ℕ} {run : Option (List ℕ)} {ps : List Parameter} (scheme national : List ℕ) →
    (scheme ≡ []) ⊎ (is_like scheme (codes "tel:") ≡ true) → HasParameters tail ps → (tail ≡ []) ⊎ (begins (λ c. c == 59) tail ≡ true) →
    IsSignedRun (national ++ tail) signs run → list_any (λ c. c == 32) (scheme ++ (signs ++ (national ++ tail))) ≡ false →
    begins is_phonedigit national ≡ true → list_all is_phonedigit national ≡ true → begins is_phonedigit tail ≡ false →
    IsTel (scheme ++ (signs ++ (national ++ tail))) (record {
      national = national;
      prefix = option_or run (option_map without_plus (value_of (codes "phone-context") ps));
      extension = value_of (codes "ext") ps;
    })
tel_of {signs = signs} {tail = tail} {run = run} {ps = ps} scheme national is_scheme has_parameters is_tail is_run no_space some all longest = record {
  scheme = scheme;
  signed_run = signs;
  run = run;
  tail = tail;
  parameters = ps;
  no_space = no_space;
  whole = refl;
  is_scheme = is_scheme;
  is_run = is_run;
  some_national = some;
  all_national = all;
  longest = longest;
  is_tail = is_tail;
  has_parameters = has_parameters;
  prefix = refl;
  extension = refl;
}
