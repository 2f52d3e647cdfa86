-- What is known of a text under the record of its region, where there is one.
use Rattle.std.proofs.Common.{◌≡◌, ◌↔◌, ℕ, Bool, true, false, cond, List, Option, None, Some, Result, Ok, Err, IfOk, refl}
use Rattle.std.proofs.lemmas.Bool.{and_from, and_parts, cond_both}
use Rattle.std.specs.Option.{option_and_then, option_map_or}
use Rattle.phone_records.specs.declared.loader.Metadata.{Metadata}
use Rattle.phone_short.specs.Emergencies.{connects, is_emergency_in, is_emergency_number, is_exact, reaches_emergency_in}
use Rattle.phone_short.specs.Kinds.{kind_in}
use Rattle.phone_short.specs.Numbers.{is_possible, is_valid}
use Rattle.phone_short.specs.Texts.{digits_in, is_dialled_within}
use Rattle.phone_short.specs.declared.kind.ShortKind.TheVariants.{Emergency, ShortNumber}
use Rattle.phone_short.proofs.Fronts.{whole_is_front}

-- what holds of an answer, in other words
pub ok_again : {T E : Type 0} (r : Result T E) (P Q : T → Type 0) → ((x : T) → P x → Q x) → IfOk r P → IfOk r Q
ok_again (Ok x) P Q f h = f x h
ok_again (Err e) P Q f h = tt

-- a test that each record passes where it passes another
through : (p q : Metadata → Bool) → ((m : Metadata) → p m ≡ true → q m ≡ true) → (o : Option Metadata) → option_map_or p o false ≡ true →
    option_map_or q o false ≡ true
through p q f None h = h
through p q f (Some m) h = f m h

number_connects : (m : Metadata) (digits : List ℕ) → is_emergency_number m digits ≡ true → connects m digits ≡ true
number_connects m digits h =
    cond_both (is_exact m) _ _ (λ b. b ≡ true) (λ _. h) (λ _. whole_is_front (is_emergency_number m) digits h)

pub emergency_reaches : (t : List ℕ) (o : Option Metadata) → option_map_or (λ m. is_emergency_in m t) o false ≡ true →
    option_map_or (λ m. reaches_emergency_in m t) o false ≡ true
emergency_reaches t = through (λ m. is_emergency_in m t) (λ m. reaches_emergency_in m t) (λ m h.
    let parts = and_parts (is_dialled_within t) (is_emergency_number m (digits_in t)) h in
    and_from _ _ parts.0 (number_connects m (digits_in t) parts.1))

pub valid_is_possible : (t : List ℕ) (o : Option Metadata) → option_map_or (λ m. is_valid m (digits_in t)) o false ≡ true →
    option_map_or (λ m. is_possible m (digits_in t)) o false ≡ true
valid_is_possible t = through (λ m. is_valid m (digits_in t)) (λ m. is_possible m (digits_in t))
    (λ m h. (and_parts (is_possible m (digits_in t)) _ h).0)

kind_by : (emergency valid : Bool) → (cond emergency (Some Emergency) (cond valid (Some ShortNumber) None) ≡ Some Emergency) ↔ (emergency ≡ true)
kind_by true valid = (λ _. refl, λ _. refl)
kind_by false true = (λ e. absurd (cc), λ e. absurd (cc))
kind_by false false = (λ e. absurd (cc), λ e. absurd (cc))

pub emergency_kind : (t : List ℕ) (o : Option Metadata) →
    (option_and_then (λ m. kind_in m t) o ≡ Some Emergency) ↔ (option_map_or (λ m. is_emergency_in m t) o false ≡ true)
emergency_kind t None = (λ e. absurd (cc), λ e. absurd (cc))
emergency_kind t (Some m) = kind_by (is_emergency_in m t) _
