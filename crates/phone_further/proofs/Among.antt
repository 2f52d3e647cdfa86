-- What is asked of the regions of a calling code is asked of their records, and of the digits that
-- were read.
use Rattle.std.proofs.Common.{◌≡◌, ℕ, ◌||◌, Bool, true, false, cond, List, [], ◌∷◌, chars, map, is_some, Option, None, Some, refl, ap, ap₂, sym, ◌∙◌}
use Rattle.std.specs.List.{find, list_any}
use Rattle.std.specs.Option.{option_and_then, option_map_or}
use Rattle.phone_values.specs.declared.country.Id.{Id}
use Rattle.phone_records.specs.Missing.{first_given}
use Rattle.phone_records.specs.declared.loader.Metadata.{Metadata}
use Rattle.phone_short.specs.Costs as costs
use Rattle.phone_short.specs.Numbers.{is_possible}
use Rattle.phone_short.specs.Regions.{record_of}
use Rattle.phone_short.specs.Texts.{digits_in}
use Rattle.phone_short.specs.declared.rates.Cost.{Cost}
use Rattle.phone_short.specs.declared.rates.Cost.TheVariants.{Unknown}
use Rattle.phone_further.specs.ShortNumbers.{chosen_of, cost_in, dearest, dearest_of, facts_of, has_short_code, is_carrier_in, is_code_in, is_possible_in, is_valid_of, region_of, short_record}
use Rattle.phone_further.specs.ShortRecords.{chosen_by, cost_by, facts_among, first_code, if_code, is_carrier_by, is_possible_by, is_valid_among}
use Rattle.phone_further.specs.declared.short_numbers.FactsAnywhere.{FactsAnywhere}

-- what a region's record is asked, through its id
pub through : {A : Type 0} (short : List Metadata) (f : Metadata → A) (none : A) (id : Option Id) →
    option_map_or (λ (i : Id). option_map_or f (record_of short i) none) id none ≡ option_map_or f (option_and_then (record_of short) id) none
through short f none None = refl
through short f none (Some i) = refl

module _ (short : List Metadata) (digits : List ℕ) (plain : digits_in (chars digits) ≡ digits) where
  -- of one region
  pub possible_by : (m : Metadata) → is_possible_by digits (short_record short m) ≡ is_possible_in short digits m
  possible_by m =
      ap (λ ds. is_possible_by ds (short_record short m)) (sym plain)
      ∙ sym (through short (λ (r : Metadata). is_possible r (digits_in (chars digits))) false (region_of m))

  pub costs_by : (m : Metadata) → cost_by digits (short_record short m) ≡ cost_in short digits m
  costs_by m =
      ap (λ ds. cost_by ds (short_record short m)) (sym plain)
      ∙ sym (through short (λ (r : Metadata). costs.cost_in r (digits_in (chars digits))) Unknown (region_of m))

  -- of all
  pub any_possible : (ms : List Metadata) → list_any (is_possible_by digits) (map (short_record short) ms) ≡ list_any (is_possible_in short digits) ms
  any_possible [] = refl
  any_possible (m ∷ ms) = ap₂ (λ b r. b || r) (possible_by m) (any_possible ms)

  pub all_costs : (ms : List Metadata) → map (cost_by digits) (map (short_record short) ms) ≡ map (cost_in short digits) ms
  all_costs [] = refl
  all_costs (m ∷ ms) = ap₂ (λ c cs. c ∷ cs) (costs_by m) (all_costs ms)

  -- the first of which digits are a short code
  abbrev Same : Option Metadata → Option Metadata → Type 0
  Same o r = (option_and_then (short_record short) o ≡ r) × (is_some o ≡ is_some r)

  pub first_found : (ms : List Metadata) → Same (find (is_code_in short digits) ms) (first_code digits (map (short_record short) ms))
  first_found [] = (refl, refl)
  first_found (m ∷ ms) = at (short_record short m) refl (find (is_code_in short digits) ms) (map (option_and_then (if_code digits)) (map (short_record short) ms)) (first_found ms)
    where
      there : (r : Metadata) (b : Bool) (found : Option Metadata) (rest : List (Option Metadata)) → short_record short m ≡ Some r → Same found (first_given rest) →
          Same (cond b (Some m) found) (first_given (cond b (Some r) None ∷ rest))
      there r true found rest e h = (e, refl)
      there r false found rest e h = h

      at : (o : Option Metadata) → short_record short m ≡ o → (found : Option Metadata) (rest : List (Option Metadata)) → Same found (first_given rest) →
          Same (cond (option_map_or (has_short_code digits) o false) (Some m) found) (first_given (option_and_then (if_code digits) o ∷ rest))
      at None e found rest h = h
      at (Some r) e found rest h = there r (has_short_code digits r) found rest e h

  pub chosen_same : (ms : List Metadata) → option_and_then (short_record short) (chosen_of short digits ms) ≡ chosen_by digits (map (short_record short) ms)
  chosen_same [] = refl
  chosen_same (m ∷ []) = refl
  chosen_same (m ∷ k ∷ ms) = (first_found (m ∷ k ∷ ms)).0

  pub valid_same : (ms : List Metadata) → is_valid_among digits (map (short_record short) ms) ≡ is_valid_of short digits ms
  valid_same [] = refl
  valid_same (m ∷ []) = refl
  valid_same (m ∷ k ∷ ms) = sym (first_found (m ∷ k ∷ ms)).1

  carrier_of : (m : Option Metadata) → is_carrier_by digits (option_and_then (short_record short) m) ≡ option_map_or (is_carrier_in short digits) m false
  carrier_of None = refl
  carrier_of (Some m) = refl

  pub carrier_same : (ms : List Metadata) →
      is_carrier_by digits (chosen_by digits (map (short_record short) ms)) ≡ option_map_or (is_carrier_in short digits) (chosen_of short digits ms) false
  carrier_same ms = ap (is_carrier_by digits) (sym (chosen_same ms)) ∙ carrier_of (chosen_of short digits ms)

  pub cost_same : (ms : List Metadata) → dearest_of (map (cost_by digits) (map (short_record short) ms)) ≡ dearest short digits ms
  cost_same ms = ap dearest_of (all_costs ms)

  abbrev facts : Cost → Bool → Bool → Bool → FactsAnywhere
  facts c p v s = record { cost = c; is_possible = p; is_valid = v; is_carrier_specific = s }

  pub facts_same : (ms : List Metadata) → facts_among digits (map (short_record short) ms) ≡ facts_of short digits ms
  facts_same ms =
      ap (λ c. facts c (list_any (is_possible_by digits) (map (short_record short) ms)) (is_valid_among digits (map (short_record short) ms)) (is_carrier_by digits (chosen_by digits (map (short_record short) ms))))
      (cost_same ms)
      ∙ ap (λ p. facts (dearest short digits ms) p (is_valid_among digits (map (short_record short) ms)) (is_carrier_by digits (chosen_by digits (map (short_record short) ms))))
      (any_possible ms)
      ∙ ap (λ v. facts (dearest short digits ms) (list_any (is_possible_in short digits) ms) v (is_carrier_by digits (chosen_by digits (map (short_record short) ms))))
      (valid_same ms)
      ∙ ap (λ s. facts (dearest short digits ms) (list_any (is_possible_in short digits) ms) (is_valid_of short digits ms) s) (carrier_same ms)
