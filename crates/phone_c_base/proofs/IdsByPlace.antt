-- An id is found by its place among all ids.
use Rattle.std.proofs.Common.{◌≡◌, ℕ, Bool, true, false, if◌then◌else◌, List, Option, None, Some}
use Rattle.std.proofs.Common.{IfSome, get_or, refl, ap, ap₂, sym, subst, ◌∙◌}
use Rattle.std.proofs.lemmas.Slice.Eq.{bytes_eq-Decides}
use Rattle.std.specs.List.{list_all}
use Rattle.std.specs.Str.{bytes_eq}
use Rattle.phone_values.proofs.Finds.{IfSome-find}
use Rattle.phone_values.proofs.Texts.{id_of-name, name-id_of}
use Rattle.phone_values.specs.Ids.{name, id_of}
use Rattle.phone_values.specs.declared.country.Id.{Id}
use Rattle.phone_values.specs.declared.country.Id.TheVariants.{AC}
use Rattle.phone_values.specs.declared.country.TheConstants.{ALL}
use Rattle.phone_c_base.specs.Hints.{place_of}

-- the id at the place where these bytes would stand
abbrev pub id_there : List ℕ → Id
id_there bytes = get_or ALL (place_of bytes) AC

-- bytes are the name of the id that stands there
abbrev stand_there : List ℕ → Bool
stand_there bytes = bytes_eq (name (id_there bytes)) bytes

all_stand : list_all (λ id. stand_there (name id)) ALL ≡ true
unfolding name
all_stand = refl

-- the bytes that are an id stand there
named_stand : (bytes : List ℕ) (i : Id) → id_of bytes ≡ Some i → stand_there bytes ≡ true
unfolding id_of
named_stand bytes i e =
    let found = subst (λ o. IfSome o (λ i. (bytes_eq (name i) bytes ≡ true) × (stand_there (name i) ≡ true))) e
    (IfSome-find (λ id. bytes_eq (name id) bytes) (λ id. stand_there (name id)) ALL all_stand) in
    subst (λ (bs : List ℕ). stand_there bs ≡ true) (sym (name-id_of bytes i e)) found.1

id_of-there : (bytes : List ℕ) → (if stand_there bytes then Some (id_there bytes) else None) ≡ id_of bytes
id_of-there bytes = at (stand_there bytes) refl
  where
    unnamed : (o : Option Id) → id_of bytes ≡ o → stand_there bytes ≡ false → None ≡ o
    unnamed None e f = refl
    unnamed (Some i) e f = let wrong : true ≡ false = sym (named_stand bytes i e) ∙ f in cc

    at : (b : Bool) → stand_there bytes ≡ b → (if b then Some (id_there bytes) else None) ≡ id_of bytes
    at true e = sym (ap id_of (sym ((bytes_eq-Decides (name (id_there bytes)) bytes).0 e)) ∙ id_of-name (id_there bytes))
    at false e = unnamed (id_of bytes) refl e

-- what is told of the id that stands there
pub told-id_of : (bytes : List ℕ) (id : Id) (b : Bool) → id ≡ id_there bytes → b ≡ bytes_eq (name id) bytes →
    (if b then Some id else None) ≡ id_of bytes
told-id_of bytes id b same e =
    ap₂ (λ (c : Bool) (i : Id). if c then Some i else None) (e ∙ ap (λ (i : Id). bytes_eq (name i) bytes) same) same
    ∙ id_of-there bytes
