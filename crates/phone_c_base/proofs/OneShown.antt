-- What is shown of keys, and known of a short number, is one.
use Rattle.std.proofs.Common.{◌≡◌, ℕ, List, Option, None, Some, IsSomeAnd, chars, sym, ◌∙◌}
use Rattle.phone_values.specs.Ids.{id_of}
use Rattle.phone_values.specs.declared.country.Id.{Id}
use Rattle.phone_records.specs.declared.loader.Metadata.{Metadata}
use Rattle.phone_short.specs.Regions.{short_facts}
use Rattle.phone_c_base.specs.ShortNumbers.{AreShortFacts, plain_facts}
use Rattle.phone_c_base.specs.Typing.{IsCaret, IsShown}
use Rattle.phone_c_base.specs.declared.short.PlainFacts.{PlainFacts}

pub one_text : (db : List Metadata) (hint : Option Id) (text a b : List ℕ) →
    IsShown db hint text a → IsShown db hint text b → a ≡ b
one_text db hint text a b h g = h ∙ sym g

pub one_caret : (db : List Metadata) (hint : Option Id) (text : List ℕ) (n j k : ℕ) →
    IsCaret db hint text n j → IsCaret db hint text n k → j ≡ k
one_caret db hint text n j k h g = h.bytes ∙ sym g.bytes

-- what is said to be the value of a function, where there is an argument, is one
one_value : {A B : Type 0} (f : A → B) (o : Option A) (a b : B) →
    IsSomeAnd o (λ x. a ≡ f x) → IsSomeAnd o (λ x. b ≡ f x) → a ≡ b
one_value f None a b h g = absurd h
one_value f (Some x) a b h g = h ∙ sym g

pub one_short : (db : List Metadata) (region text : List ℕ) (a b : PlainFacts) →
    AreShortFacts db region text a → AreShortFacts db region text b → a ≡ b
one_short db region text =
    one_value (λ (id : Id). plain_facts (short_facts db id (chars text))) (id_of region)
