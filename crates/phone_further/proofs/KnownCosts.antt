-- What short numbers cost by the records that know them.
use Rattle.std.proofs.Common.{◌≡◌, ℕ, ◌&&◌, ◌||◌, Bool, true, false, cond, not, List, [], ◌∷◌, chars, filter, map, Option, None, Some, refl, ap, ap₂, sym, ◌∙◌}
use Rattle.phone_records.specs.declared.loader.Metadata.{Metadata}
use Rattle.phone_short.specs.Numbers.{is_valid}
use Rattle.phone_short.specs.Texts.{digits_in}
use Rattle.phone_short.specs.declared.rates.Cost.TheVariants.{Unknown}
use Rattle.phone_further.specs.ShortNumbers.{cost_in, is_one_cost, region_of, short_record}
use Rattle.phone_further.specs.ShortRecords.{cost_by, is_number_by, is_possible_by}
use Rattle.phone_further.proofs.Among.{costs_by, through}
use Rattle.phone_further.specs.Costs.{is_valid_by, is_valid_in, known_by, knows}

-- digits are a short number by a record where they are possible and a number by it
pub valid_so : (digits : List ℕ) (r : Option Metadata) → is_possible_by digits r ≡ true → is_valid_by digits r ≡ is_number_by digits r
valid_so digits None e = refl
valid_so digits (Some m) e = ap (λ b. b && is_number_by digits (Some m)) e

pub invalid_so : (digits : List ℕ) (r : Option Metadata) → is_possible_by digits r ≡ false → is_valid_by digits r ≡ false
invalid_so digits None e = refl
invalid_so digits (Some m) e = ap (λ b. b && is_number_by digits (Some m)) e

module _ (short : List Metadata) (digits : List ℕ) (plain : digits_in (chars digits) ≡ digits) where
  valid_by : (m : Metadata) → is_valid_by digits (short_record short m) ≡ is_valid_in short digits m
  valid_by m =
      ap (λ ds. is_valid_by ds (short_record short m)) (sym plain)
      ∙ sym (through short (λ (r : Metadata). is_valid r (digits_in (chars digits))) false (region_of m))

  knows_by : (m : Metadata) → known_by digits (short_record short m) ≡ knows short digits m
  knows_by m = ap₂ (λ c v. not (is_one_cost Unknown c) || v) (costs_by short digits plain m) (valid_by m)

  abbrev kept : List Metadata → List (Option Metadata)
  kept ms = filter (known_by digits) (map (short_record short) ms)

  pub known_same : (ms : List Metadata) → map (cost_by digits) (kept ms) ≡ map (cost_in short digits) (filter (knows short digits) ms)
  known_same [] = refl
  known_same (m ∷ ms) =
      ap (λ b. map (cost_by digits) (cond b (short_record short m ∷ kept ms) (kept ms))) (knows_by m) ∙ at (knows short digits m) (known_same ms)
    where
      at : (b : Bool) → map (cost_by digits) (kept ms) ≡ map (cost_in short digits) (filter (knows short digits) ms) →
          map (cost_by digits) (cond b (short_record short m ∷ kept ms) (kept ms))
          ≡ map (cost_in short digits) (cond b (m ∷ filter (knows short digits) ms) (filter (knows short digits) ms))
      at true h = ap₂ (λ c cs. c ∷ cs) (costs_by short digits plain m) h
      at false h = h
