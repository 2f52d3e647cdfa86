-- A field has one text of words.
use Rattle.std.proofs.Common.{◌≡◌, ◌↔◌, ℕ, Bool, true, false, IsTrue, List, [], ◌∷◌, Option, refl, ap, ap₂, sym, ◌∙◌, true≢false, if◌then◌else◌, map}
use Rattle.std.specs.List.{filter}
use Rattle.phone_records.specs.declared.loader.Metadata.{Metadata}
use Rattle.phone_values.specs.declared.country.Id.{Id}
use Rattle.phone_values.specs.declared.reading.Reading.{Reading}
use Rattle.phone_values.specs.declared.rules.Rules.{Rules}
use Rattle.phone_doubts.specs.Doubts.{IsDoubted, all_doubts, spaced, word_of}
use Rattle.phone_doubts.specs.declared.doubt.Doubt.{Doubt}

-- two answers to one question are one
same_answer : (P : Type 0) (a b : Bool) → IsTrue a ↔ P → IsTrue b ↔ P → a ≡ b
same_answer P true true f g = refl
same_answer P false false f g = refl
same_answer P true false f g = absurd (true≢false (sym (g.1 (f.0 refl))))
same_answer P false true f g = absurd (true≢false (sym (f.1 (g.0 refl))))

filter_same : (p q : Doubt → Bool) → ((d : Doubt) → p d ≡ q d) → (ds : List Doubt) → filter p ds ≡ filter q ds
filter_same p q same [] = refl
filter_same p q same (d ∷ ds) = ap₂ (λ (b : Bool) (es : List Doubt). if b then d ∷ es else es) (same d) (filter_same p q same ds)

pub answer_same : (rules : Rules) (db : List Metadata) (hint : Option Id) (field : List ℕ) (number : Option Reading) (a b : List ℕ) →
    IsDoubted rules db hint field number a → IsDoubted rules db hint field number b → a ≡ b
answer_same rules db hint field number a b x y =
    let same = filter_same x.holds y.holds (λ d. same_answer _ (x.holds d) (y.holds d) (x.doubts d) (y.doubts d)) all_doubts in
    x.told ∙ ap (λ (ds : List Doubt). spaced (map word_of ds)) same ∙ sym y.told
