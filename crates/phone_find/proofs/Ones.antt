-- What is found is determined, in its order, and doesn't overlap.
use Rattle.std.proofs.Common.{◌≡◌, ℕ, List, ◌∷◌, Option, Ok, refl, ap₂, sym, subst}
use Rattle.std.proofs.Common.{slice_range, arith}
use Rattle.std.specs.Str.{chars}
use Rattle.phone_values.specs.declared.country.Id.{Id}
use Rattle.phone_records.specs.declared.loader.Metadata.{Metadata}
use Rattle.phone_engine.proofs.OneReading.{reading_same}
use Rattle.phone_values.specs.declared.rules.Rules.{Rules}
use Rattle.phone_values.specs.declared.reading.Reading.{Reading}
use Rattle.phone_find.proofs.Alone.{same_found}
use Rattle.phone_find.specs.Founds
use Rattle.phone_find.specs.Founds.{Accepts, AreFound, IsFirst, IsOrdered}
use Rattle.phone_find.specs.Numbers.{AreNumbers, IsNumberAt}
use Rattle.phone_find.specs.declared.leniency.Leniency.{Leniency}
use Rattle.phone_find.specs.declared.search.Found.{Found}

module _ {N : Type 0} (accepts : Accepts N) (text : List ℕ) where
  pub ordered : (from : ℕ) (all : List (Found N)) → AreFound accepts text from all →
      IsOrdered text from all
  ordered from all (Founds.none _ h) = tt
  ordered from all (Founds.next _ f rest first later) = record {
    behind = first.behind;
    some = first.stands.some;
    from_border = first.stands.from_border;
    to_border = first.stands.to_border;
    later = ordered f.end rest later;
  }

  module _ (one : (start end : ℕ) (m n : N) → accepts start end m → accepts start end n → m ≡ n)
    where
      first_same : (from : ℕ) (f g : Found N) → IsFirst accepts text from f →
          IsFirst accepts text from g → f ≡ g
      first_same from f g a b =
          let lower = a.first g b.stands b.behind in
          let upper = b.first f a.stands a.behind in
          let start : f.start ≡ g.start = omega (arith, lower, upper) in
          let shorter = b.longest f a.stands start in
          let longer = a.longest g b.stands (sym start) in
          let end : f.end ≡ g.end = omega (arith, shorter, longer) in
          let accepted =
          subst (λ i. accepts i g.end f.number) start
          (subst (λ i. accepts f.start i f.number) end a.stands.accepted) in
          same_found g f start end (one g.start g.end f.number g.number accepted b.stands.accepted)

      pub all_same : (from : ℕ) (xs ys : List (Found N)) → AreFound accepts text from xs →
          AreFound accepts text from ys → xs ≡ ys
      all_same from xs ys (Founds.none _ h) (Founds.none _ k) = refl
      all_same from xs ys (Founds.none _ h) (Founds.next _ g others b later) =
          absurd (h g b.stands b.behind)
      all_same from xs ys (Founds.next _ f rest a later) (Founds.none _ k) =
          absurd (k f a.stands a.behind)
      all_same from xs ys (Founds.next _ f rest a later) (Founds.next _ g others b after) =
          let same = first_same from f g a b in
          let moved =
          subst (λ (h : Found N). AreFound accepts text h.end others) (sym same) after in
          ap₂ (λ (h : Found N) hs. h ∷ hs) same (all_same f.end rest others later moved)

-- a piece is read as one number
one_number : (rules : Rules) (db : List Metadata) (hint : Option Id) (l : Leniency) (text : List ℕ) (start end : ℕ)
    (m n : Reading) → IsNumberAt rules db hint l text start end m →
    IsNumberAt rules db hint l text start end n → m ≡ n
one_number rules db hint l text start end m n a b =
    let same : Ok m ≡ Ok n =
    reading_same rules db hint (chars (slice_range text start end)) (Ok m) (Ok n) a.number.read
    b.number.read in
    cc

pub one_answer : (rules : Rules) (db : List Metadata) (hint : Option Id) (l : Leniency) (text : List ℕ)
    (all others : List (Found Reading)) → AreNumbers rules db hint l text all →
    AreNumbers rules db hint l text others → all ≡ others
one_answer rules db hint l text all others =
    all_same (IsNumberAt rules db hint l text) text (one_number rules db hint l text) 0 all others
