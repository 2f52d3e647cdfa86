-- Numbers that were found in a text: their order, their territories, and their columns.
use Rattle.std.proofs.Common.{suc, zero, append_assoc, ◌≡◌, ℕ, ◌+◌, ◌-◌, ◌≤◌, List, [], ◌∷◌, ◌++◌}
use Rattle.std.proofs.Common.{Option, chars, length, length-append, take, slice_range, refl, sym}
use Rattle.std.proofs.Common.{ap, ◌∙◌, arith}
use Rattle.std.proofs.Math.Seq.{take-add}
use Rattle.std.proofs.lemmas.Str.{chars-append, IsUtf8-take}
use Rattle.std.specs.Str.{IsCharBoundary, IsUtf8}
use Rattle.phone_engine.proofs.OneReading.{has_territory}
use Rattle.phone_find.proofs.Ones.{ordered}
use Rattle.phone_find.specs.Founds
use Rattle.phone_find.specs.Founds.{AreFound, IsOrdered}
use Rattle.phone_find.specs.Numbers.{AreNumbers, IsNumberAt}
use Rattle.phone_find.specs.declared.leniency.Leniency.TheVariants.{Valid}
use Rattle.phone_find.specs.declared.search.Found.{Found}
use Rattle.phone_commands.specs.FoundLines.{HaveTerritories, in_front}
use Rattle.phone_commands.specs.declared.finder.FoundForm.{FoundForm}
use Rattle.phone_commands.specs.declared.finder.FoundForm.TheVariants as form
use Rattle.phone_print.specs.Tabbed.{tabbed}
use Rattle.phone_records.specs.declared.loader.Metadata.{Metadata}
use Rattle.phone_values.specs.declared.country.Id.{Id}
use Rattle.phone_values.specs.declared.reading.Reading.{Reading}
use Rattle.phone_values.specs.declared.rules.Rules.{Rules}

-- pieces that stand from a place on stand from any place in front of it
pub IsOrdered-earlier : {N : Type 0} (text : List ℕ) (from to : ℕ) (fs : List (Found N)) →
    from ≤ to → IsOrdered text to fs → IsOrdered text from fs
IsOrdered-earlier text from to [] less o = tt
IsOrdered-earlier text from to (f ∷ fs) less o = record {
  behind = omega (arith, less, o.behind);
  some = o.some;
  from_border = o.from_border;
  to_border = o.to_border;
  later = o.later;
}

module _ (rules : Rules) (db : List Metadata) (hint : Option Id) (text : List ℕ) where
  -- numbers that are found were read, so their calling codes have territories
  pub found-territories : (from : ℕ) (all : List (Found Reading)) →
      AreFound (IsNumberAt rules db hint Valid text) text from all → HaveTerritories db all
  found-territories from _ (Founds.none _ h) = tt
  found-territories from _ (Founds.next _ f rest first later) = (
    has_territory rules db hint (chars (slice_range text f.start f.end)) f.number
        first.stands.accepted.number.read,
    found-territories f.end rest later,
  )

  -- and they stand in their order
  pub numbers-ordered : (all : List (Found Reading)) → AreNumbers rules db hint Valid text all →
      IsOrdered text 0 all
  numbers-ordered all = ordered (IsNumberAt rules db hint Valid text) text 0 all

-- the characters up to a place are those up to one in front of it and those between
pub chars-up_to : (text : List ℕ) (from to : ℕ) → IsUtf8 text → IsCharBoundary text from →
    from ≤ to → length (chars (take to text)) ≡
    length (chars (take from text)) + length (chars (slice_range text from to))
chars-up_to text from to utf8 border behind =
    let between = slice_range text from to in
    let e : from + (to - from) ≡ to = omega (arith, behind) in
    ap (λ k. length (chars (take k text))) (sym e) ∙
    ap (λ t. length (chars t)) (take-add from (to - from) text) ∙
    ap length (chars-append (take from text) between (IsUtf8-take text from utf8 border)) ∙
    length-append (chars (take from text)) (chars between)

-- nothing stands in front of a later input
pub in_front-later : (f : FoundForm) (begun : ℕ) (name : Option (List ℕ)) → (begun ≡ 0 → ⊥) →
    in_front f begun name ≡ []
in_front-later form.Fields begun name later = refl
in_front-later form.Object begun name later = refl
in_front-later form.Record zero name later = absurd (later refl)
in_front-later form.Record (suc begun) name later = refl

-- four fields and a line feed, as they are written
pub four_told : (a b c d : List ℕ) → a ++ 9 ∷ (b ++ 9 ∷ (c ++ 9 ∷ (d ++ 10 ∷ []))) ≡
    tabbed (a ∷ b ∷ c ∷ d ∷ []) ++ 10 ∷ []
four_told a b c d =
    let third = append_assoc c (9 ∷ d) (10 ∷ []) in
    let second = append_assoc b (9 ∷ tabbed (c ∷ d ∷ [])) (10 ∷ []) in
    sym (append_assoc a (9 ∷ tabbed (b ∷ c ∷ d ∷ [])) (10 ∷ []) ∙
    ap (λ t. a ++ 9 ∷ t) (second ∙ ap (λ t. b ++ 9 ∷ t) third))

-- the same behind the name of an input
pub five_told : (n a b c d : List ℕ) →
    n ++ 9 ∷ (a ++ 9 ∷ (b ++ 9 ∷ (c ++ 9 ∷ (d ++ 10 ∷ [])))) ≡
    tabbed (n ∷ a ∷ b ∷ c ∷ d ∷ []) ++ 10 ∷ []
five_told n a b c d = ap (λ t. n ++ 9 ∷ t) (four_told a b c d) ∙
    sym (append_assoc n (9 ∷ tabbed (a ∷ b ∷ c ∷ d ∷ [])) (10 ∷ []))
