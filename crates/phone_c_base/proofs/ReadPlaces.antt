-- What stands at each place that is found in a text is read as a number.
use Rattle.std.proofs.Common.{ℕ, List, Option, sym, subst}
use Rattle.std.specs.List.{AllByRecursion}
use Rattle.phone_values.specs.declared.country.Id.{Id}
use Rattle.phone_values.specs.declared.reading.Reading.{Reading}
use Rattle.phone_records.specs.declared.loader.Metadata.{Metadata}
use Rattle.phone_values.specs.declared.rules.Rules.{Rules}
use Rattle.phone_find.specs.Founds
use Rattle.phone_find.specs.Founds.{AreFound}
use Rattle.phone_find.specs.Numbers.{IsNumberAt}
use Rattle.phone_find.specs.declared.leniency.Leniency.{Leniency}
use Rattle.phone_find.specs.declared.search.Found as search
use Rattle.phone_c_base.specs.Found.{ArePlaces, IsReadAt, places_of}
use Rattle.phone_c_base.specs.declared.found.Place.{Place}

module _ (rules : Rules) (db : List Metadata) (hint : Option Id) (how : Leniency)
    (text : List ℕ) where
  read_each : (from : ℕ) (all : List (search.Found Reading)) →
      AreFound (IsNumberAt rules db hint how text) text from all →
      AllByRecursion (IsReadAt rules db hint text) (places_of all)
  read_each from all (Founds.none _ k) = tt
  read_each from all (Founds.next _ f rest first later) =
      ((f.number, first.stands.accepted.number.read), read_each f.end rest later)

  pub all_read : (places : List Place) → ArePlaces rules db hint how text places →
      AllByRecursion (IsReadAt rules db hint text) places
  all_read places p = subst (λ (ps : List Place). AllByRecursion (IsReadAt rules db hint text) ps)
      (sym p.2) (read_each 0 p.0 p.1)
