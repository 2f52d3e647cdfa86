-- What is said of plain numbers is said of one number.
use Rattle.std.proofs.Common.{◌≡◌, ℕ, ◌==◌, if◌then◌else◌, List, [], Option, None, Some, IsSomeAnd, refl, ap, sym, ◌∙◌}
use Rattle.phone_values.specs.Ids.{id_of}
use Rattle.phone_values.specs.declared.country.Id.{Id}
use Rattle.phone_values.specs.declared.mode.Mode.{Mode}
use Rattle.phone_values.specs.declared.mode.Mode.TheVariants.{E164, International, National, Rfc3966}
use Rattle.phone_values.specs.declared.reading.Reading.{Reading}
use Rattle.phone_records.specs.declared.loader.Metadata.{Metadata}
use Rattle.phone_short.specs.declared.rates.Cost.{Cost}
use Rattle.phone_further.specs.Services.{is_sms_service}
use Rattle.phone_dialling.specs.Abroad.{dialled_text, if_some}
use Rattle.phone_further.specs.OwnLayouts.{text_by_layouts}
use Rattle.phone_dialling.specs.Texts.{text_in}
use Rattle.phone_c_base.proofs.OneAnswers.{one_number}
use Rattle.phone_c_base.specs.Answers.{mode_number}
use Rattle.phone_c_base.specs.Hints.{hint_of}
use Rattle.phone_c_base.specs.Numbers.{HasNumbers, IsNumber}
use Rattle.phone_c_base.specs.ShortNumbers.{flag}
use Rattle.phone_c_base.specs.declared.number.Number as plain
use Rattle.phone_c_base.specs.declared.number.Part.{Part}
use Rattle.phone_c_questions.specs.Formats.{IsMobileText, IsTextFrom, IsTextIn, mobile_text_of}
use Rattle.phone_c_questions.specs.Layouts.{IsTextBy, layouts_of}
use Rattle.phone_c_questions.specs.Services.{IsServiceOf}
use Rattle.phone_c_questions.specs.ShortNumbers.{AreFactsAnywhere, HasExample, cost_asked, example_of, facts_anywhere}
use Rattle.phone_c_questions.specs.declared.short.FactsAnywhere.{FactsAnywhere}

-- what is told of the number of plain numbers with their bytes is one
one_of : {A : Type 0} (f : Reading → A) (x : plain.Number) (bytes : List ℕ) (a b : A) →
    (n : Reading) × IsNumber x bytes n × (a ≡ f n) → (n : Reading) × IsNumber x bytes n × (b ≡ f n) →
    a ≡ b
one_of f x bytes a b h g = h.2 ∙ ap f (one_number x bytes h.0 g.0 h.1 g.1) ∙ sym g.2

pub one_mobile : (db : List Metadata) (id : List ℕ) (symbols : ℕ) (raw : List ℕ) (x : plain.Number)
    (bytes t u : List ℕ) → IsMobileText db id symbols raw x bytes t →
    IsMobileText db id symbols raw x bytes u → t ≡ u
one_mobile db id symbols raw x bytes t u h g =
    one_of (λ n. mobile_text_of db id symbols raw n) x bytes t u h g

pub one_from : (db : List Metadata) (region raw : List ℕ) (x : plain.Number) (bytes t u : List ℕ) →
    IsTextFrom db region raw x bytes t → IsTextFrom db region raw x bytes u → t ≡ u
one_from db region raw x bytes t u = at (hint_of region)
  where
    IsSo : Option (Option Id) → List ℕ → Type 0
    IsSo o text = IsSomeAnd o (λ from. (n : Reading) × IsNumber x bytes n ×
        (text ≡ dialled_text db from (if_some raw) n))

    at : (o : Option (Option Id)) → IsSo o t → IsSo o u → t ≡ u
    at None h g = absurd h
    at (Some from) h g = one_of (λ n. dialled_text db from (if_some raw) n) x bytes t u h g

-- a mode of its number
abbrev mode_at : ℕ → Mode
mode_at k =
    if k == 0 then E164 else if k == 1 then International else if k == 2 then National else Rfc3966

mode_back : (m : Mode) → mode_at (mode_number m) ≡ m
mode_back E164 = refl
mode_back International = refl
mode_back National = refl
mode_back Rfc3966 = refl

one_mode : (a b : Mode) → mode_number a ≡ mode_number b → a ≡ b
one_mode a b e = sym (mode_back a) ∙ ap mode_at e ∙ mode_back b

pub one_text : (db : List Metadata) (mode : ℕ) (raw : List ℕ) (x : plain.Number) (bytes t u : List ℕ) →
    IsTextIn db mode raw x bytes t → IsTextIn db mode raw x bytes u → t ≡ u
one_text db mode raw x bytes t u h g =
    let number = one_number x bytes h.0 g.0 h.2 g.2 in
    let same = one_mode h.1 g.1 (sym h.3 ∙ g.3) in
    h.4 ∙ ap (λ m. text_in db m (if_some raw) h.0) same
    ∙ ap (λ n. text_in db g.1 (if_some raw) n) number ∙ sym g.4

pub one_by_layouts : (db own : List Metadata) (mode : ℕ) (x : plain.Number) (bytes t u : List ℕ) →
    IsTextBy db own mode x bytes t → IsTextBy db own mode x bytes u → t ≡ u
one_by_layouts db own mode x bytes t u h g =
    let number = one_number x bytes h.0 g.0 h.2 g.2 in
    let same = one_mode h.1 g.1 (sym h.3 ∙ g.3) in
    h.4 ∙ ap (λ m. text_by_layouts db m (layouts_of own) h.0) same
    ∙ ap (λ n. text_by_layouts db g.1 (layouts_of own) n) number ∙ sym g.4

-- a number without its texts
abbrev bare : Reading → Reading
bare n = record n { extension = None; carrier = None }

-- plain numbers without texts
abbrev nowhere : Part
nowhere = record { start = 0; len = 0; is_there = 0 }

abbrev alone : plain.Number → plain.Number
alone x = record x { extension = nowhere; carrier = nowhere }

is_alone : (x : plain.Number) (n : Reading) → HasNumbers x n → IsNumber (alone x) [] (bare n)
is_alone x n h = record {
  numbers = record { code = h.code; source = h.source; zeros = h.zeros; value = h.value; held = h.held };
  extension = refl;
  carrier = refl;
}

-- plain numbers are those of one number, its texts aside
same_bare : (x : plain.Number) (m n : Reading) → HasNumbers x m → HasNumbers x n → bare m ≡ bare n
same_bare x m n h g = one_number (alone x) [] (bare m) (bare n) (is_alone x m h) (is_alone x n g)

-- what is known of a short number is known without its texts
by_bare : (db short : List Metadata) (n : Reading) → facts_anywhere db short n ≡ facts_anywhere db short (bare n)
by_bare db short n = refl

pub one_facts : (db short : List Metadata) (x : plain.Number) (a b : FactsAnywhere) →
    AreFactsAnywhere db short x a → AreFactsAnywhere db short x b → a ≡ b
one_facts db short x a b h g =
    h.2 ∙ by_bare db short h.0 ∙ ap (facts_anywhere db short) (same_bare x h.0 g.0 h.1 g.1)
    ∙ sym (by_bare db short g.0) ∙ sym g.2

-- whether it is a service is known without its texts too
abbrev service_told : (db sms : List Metadata) → Id → Reading → ℕ
service_told db sms id n = flag (is_sms_service db sms id n)

by_bare_too : (db sms : List Metadata) (id : Id) (n : Reading) →
    service_told db sms id n ≡ service_told db sms id (bare n)
by_bare_too db sms id n = refl

pub one_service : (db sms : List Metadata) (region : List ℕ) (x : plain.Number) (a b : ℕ) →
    IsServiceOf db sms region x a → IsServiceOf db sms region x b → a ≡ b
one_service db sms region x a b = at (id_of region)
  where
    IsSo : Option Id → ℕ → Type 0
    IsSo o told = IsSomeAnd o (λ id. (n : Reading) × HasNumbers x n ×
        (told ≡ flag (is_sms_service db sms id n)))

    at : (o : Option Id) → IsSo o a → IsSo o b → a ≡ b
    at None h g = absurd h
    at (Some id) h g =
        h.2 ∙ by_bare_too db sms id h.0 ∙ ap (service_told db sms id) (same_bare x h.0 g.0 h.1 g.1)
        ∙ sym (by_bare_too db sms id g.0) ∙ sym g.2

pub one_example : (short : List Metadata) (region : List ℕ) (cost : ℕ) (t u : Option (List ℕ)) →
    HasExample short region cost t → HasExample short region cost u → t ≡ u
one_example short region cost t u = at (id_of region)
  where
    IsOf : Id → Option (Option Cost) → Option (List ℕ) → Type 0
    IsOf id o text = IsSomeAnd o (λ c. example_of short id c ≡ text)

    of : (id : Id) (o : Option (Option Cost)) → IsOf id o t → IsOf id o u → t ≡ u
    of id None h g = absurd h
    of id (Some c) h g = sym h ∙ g

    IsSo : Option Id → Option (List ℕ) → Type 0
    IsSo o text = IsSomeAnd o (λ id. IsOf id (cost_asked cost) text)

    at : (o : Option Id) → IsSo o t → IsSo o u → t ≡ u
    at None h g = absurd h
    at (Some id) h g = of id (cost_asked cost) h g
