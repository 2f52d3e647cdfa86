-- What a user elsewhere is told, and whose digits an area is that of.
use Rattle.std.proofs.Common.{◌≡◌, ◌≢◌, ◌==◌, ℕ, Bool, true, false, cond, List, Option, None, Some, refl, ap, sym, subst, ◌∙◌}
use Rattle.std.proofs.lemmas.Bool.{eqb-true}
use Rattle.std.specs.Prelude.{unwrap_or}
use Rattle.phone_languages.specs.Atlases.{IsArea, name_in}
use Rattle.phone_languages.specs.declared.atlas.Atlas.{Atlas}
use Rattle.phone_library.specs.Facts.{region_of_number}
use Rattle.phone_places.specs.Maps.{digits_of}
use Rattle.phone_places.specs.Areas.{IsAreaOf, IsOther, behind_token, without_token}
use Rattle.phone_places.specs.Descriptions
use Rattle.phone_places.specs.Descriptions.{IsDescribed, IsDescribedIn, is_elsewhere}
use Rattle.phone_records.specs.declared.loader.Metadata.{Metadata}
use Rattle.phone_values.specs.Ids.{name}
use Rattle.phone_values.specs.Numbers.{text_of}
use Rattle.phone_values.specs.declared.country.Id.{Id}
use Rattle.phone_values.specs.declared.reading.Reading.{Reading}

module _ (db : List Metadata) (atlas : Atlas) (user : Option (List ℕ)) (n : Reading) where
  named_in : (region : Id) (text : List ℕ) → is_elsewhere user region ≡ true → IsDescribedIn region db atlas user n text → text ≡ name_in atlas (name region)
  named_in region text far (Descriptions.elsewhere e) = refl
  named_in region text far (Descriptions.here t near h) = let never : true ≡ false = sym far ∙ near in cc

  one_region : (a b : Id) → Some a ≡ Some b → a ≡ b
  one_region a b e = ap (λ o. unwrap_or o a) e

  pub elsewhere_named : (region : Id) (text : List ℕ) → region_of_number db n ≡ Some region → is_elsewhere user region ≡ true → IsDescribed db atlas user n text →
      text ≡ name_in atlas (name region)
  elsewhere_named region text at far (Descriptions.nowhere none) = let never : None ≡ Some region = sym none ∙ at in cc
  elsewhere_named region text at far (Descriptions.somewhere other t is told) =
      let same : other ≡ region = one_region other region (sym is ∙ at) in
      named_in region t far (subst (λ r. IsDescribedIn r db atlas user n t) same told)

no_token : (code : ℕ) (digits : List ℕ) (b : Bool) → (code == 54) ≡ b → code ≢ 54 → cond b (without_token digits) None ≡ None
no_token code digits true e other = absurd (other (eqb-true code 54 e))
no_token code digits false e other = refl

pub own_digits : (db : List Metadata) (atlas : Atlas) (n : Reading) (text : List ℕ) → n.code.value ≢ 54 → IsAreaOf db atlas n text → IsArea atlas (digits_of n) text
own_digits db atlas n text other (m, is, area) =
    let none : behind_token n.code.value (text_of n.national) ≡ None = no_token n.code.value (text_of n.national) (n.code.value == 54) refl other in
    let itself : m ≡ None = subst (λ o. IsOther db o m) none is in
    subst (λ (o : Option Reading). IsArea atlas (digits_of (unwrap_or o n)) text) itself area
