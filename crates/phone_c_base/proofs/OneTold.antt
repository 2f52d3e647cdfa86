-- What is told by rules of numbers and texts is one.
use Rattle.std.proofs.Common.{◌≡◌, ℕ, List, Option, None, Some, IsSomeAnd}
use Rattle.std.proofs.Common.{Result, Ok, Err, chars, refl, ap, sym, ◌∙◌}
use Rattle.phone_values.specs.Ids.{id_of}
use Rattle.phone_values.specs.declared.country.Id.{Id}
use Rattle.phone_values.specs.declared.error.ParseError.{ParseError}
use Rattle.phone_values.specs.declared.kind.«Type».{«Type»}
use Rattle.phone_values.specs.declared.reading.Reading.{Reading}
use Rattle.phone_records.specs.declared.loader.Metadata.{Metadata}
use Rattle.phone_engine.proofs.OneReading.{reading_same}
use Rattle.phone_engine.specs.Readings.{ReadsBy}
use Rattle.phone_values.specs.declared.rules.Rules.{Rules}
use Rattle.phone_find.proofs.Ones
use Rattle.phone_find.specs.declared.leniency.Leniency.{Leniency}
use Rattle.phone_engine.proofs.Taken.{answer_same}
use Rattle.phone_engine.specs.Dialled.{dialled_text}
use Rattle.phone_engine.specs.Listed.{example_text}
use Rattle.phone_engine.specs.Possibilities.{possibility_read}
use Rattle.phone_c_base.proofs.OneAnswers.{one_number}
use Rattle.phone_c_base.specs.Comparisons.{AreAlike, sameness_number}
use Rattle.phone_c_base.specs.Dialled.{IsDialled}
use Rattle.phone_c_base.specs.Examples.{ExampleReads}
use Rattle.phone_c_base.specs.Found.{ArePlaces, places_of}
use Rattle.phone_c_base.specs.Kinds.{kind_of}
use Rattle.phone_c_base.specs.Numbers.{IsNumber}
use Rattle.phone_c_base.specs.Possibilities.{IsTextPossibility, possibility_number}
use Rattle.phone_c_base.specs.declared.found.Place.{Place}
use Rattle.phone_c_base.specs.declared.number.Number as plain

-- a result is one value at most
ok_same : {A E : Type 0} (r : Result A E) (a b : A) → r ≡ Ok a → r ≡ Ok b → a ≡ b
ok_same (Ok x) a b e f = cc
ok_same (Err x) a b e f = cc

module _ (db : List Metadata) (rules : Rules) where
  pub one_text_possibility : (hint : Option Id) (text : List ℕ) (j k : ℕ) →
      IsTextPossibility rules db hint text j → IsTextPossibility rules db hint text k → j ≡ k
  one_text_possibility hint text j k h g =
      let read = reading_same rules db hint (chars text) h.1.0 g.1.0 h.1.1 g.1.1 in
      let same = ok_same (possibility_read rules db h.1.0) h.0 g.0 (sym h.1.2)
      (ap (λ r. possibility_read rules db r) read ∙ sym g.1.2) in
      h.2 ∙ ap possibility_number same ∙ sym g.2

  pub one_alike : (first second : List ℕ) (j k : ℕ) → AreAlike rules db first second j →
      AreAlike rules db first second k → j ≡ k
  one_alike first second j k h g =
      let said = answer_same rules db (chars first) (chars second) (Ok h.0) (Ok g.0) h.1 g.1 in
      h.2 ∙ ap sameness_number (ok_same (Ok h.0) h.0 g.0 refl said) ∙ sym g.2

  -- what a text that may be absent is read as is one
  one_read : (hint : Option Id) (text : Option (List ℕ)) (r s : Result Reading ParseError) →
      IsSomeAnd text (λ t. ReadsBy rules db hint (chars t) r) →
      IsSomeAnd text (λ t. ReadsBy rules db hint (chars t) s) → r ≡ s
  one_read hint None r s h g = absurd h
  one_read hint (Some t) r s h g = reading_same rules db hint (chars t) r s h g

  pub one_example : (region : List ℕ) (kind : ℕ) (r s : Result Reading ParseError) →
      ExampleReads rules db region kind r → ExampleReads rules db region kind s → r ≡ s
  one_example region kind r s = at (id_of region) (kind_of kind)
    where
      Reads : Option Id → Option «Type» → Result Reading ParseError → Type 0
      Reads i k r = IsSomeAnd i (λ id. IsSomeAnd k (λ k.
          IsSomeAnd (example_text db id k) (λ t. ReadsBy rules db (Some id) (chars t) r)))

      at : (i : Option Id) (k : Option «Type») → Reads i k r → Reads i k s → r ≡ s
      at None k h g = absurd h
      at (Some id) None h g = absurd h
      at (Some id) (Some k) h g = one_read (Some id) (example_text db id k) r s h g

  pub one_places : (hint : Option Id) (leniency : Leniency) (text : List ℕ) (p q : List Place) →
      ArePlaces rules db hint leniency text p → ArePlaces rules db hint leniency text q → p ≡ q
  one_places hint leniency text p q h g =
      h.2 ∙ ap places_of (Ones.one_answer rules db hint leniency text h.0 g.0 h.1 g.1) ∙ sym g.2

pub one_dialled : (db : List Metadata) (region : List ℕ) (x : plain.Number) (bytes a b : List ℕ) →
    IsDialled db region x bytes a → IsDialled db region x bytes b → a ≡ b
one_dialled db region x bytes a b = at (id_of region)
  where
    Dialled : Option Id → List ℕ → Type 0
    Dialled o text = IsSomeAnd o
        (λ id. (n : Reading) × IsNumber x bytes n × (dialled_text db id n ≡ Ok text))

    at : (o : Option Id) → Dialled o a → Dialled o b → a ≡ b
    at None h g = absurd h
    at (Some id) h g =
        let number = one_number x bytes h.0 g.0 h.1 g.1 in
        ok_same (dialled_text db id h.0) a b h.2 (ap (λ n. dialled_text db id n) number ∙ g.2)
