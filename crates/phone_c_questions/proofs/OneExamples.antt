-- The example of a calling code is one, and none is told where there is none.
use Rattle.std.proofs.Common.{◌≡◌, ◌⊎◌, inl, inr, ℕ, List, Option, None, Some, Result, Ok, Err, chars, refl, subst}
use Rattle.phone_values.specs.declared.country.Id.{Id}
use Rattle.phone_values.specs.declared.error.ParseError.{ParseError}
use Rattle.phone_values.specs.declared.error.ParseError.TheVariants.{Memory}
use Rattle.phone_values.specs.declared.reading.Reading.{Reading}
use Rattle.phone_values.specs.declared.rules.Rules.TheVariants.{Library}
use Rattle.phone_engine.proofs.OneReading.{reading_same}
use Rattle.phone_records.specs.declared.loader.Metadata.{Metadata}
use Rattle.phone_further.specs.Examples
use Rattle.phone_further.specs.Examples.{AnswersExample, IsExample}
use Rattle.phone_c_questions.specs.Examples.{IsOfCode, code_text}

-- what is read is one number
ok_one : (a b : Reading) (r : Result Reading ParseError) → r ≡ Ok a → r ≡ Ok b → a ≡ b
ok_one a b r e g = cc

example_one : (db : List Metadata) (hint : Option Id) (o : Option (List ℕ)) (a b : Reading) →
    IsExample db hint o (Ok (Some a)) → IsExample db hint o (Ok (Some b)) → a ≡ b
example_one db hint o a b (Examples.read text m h) (Examples.read _ n g) =
    ok_one a b (Ok a) refl (reading_same Library db hint (chars text) (Ok a) (Ok b) h g)

pub one_of_code : (db : List Metadata) (code : ℕ) (a b : Reading) → IsOfCode db code a →
    IsOfCode db code b → a ≡ b
one_of_code db code a b h g = example_one db None (code_text db code) a b h g

-- an answer of nothing
both : (r : Result (Option Reading) ParseError) (f : Option Reading) → r ≡ Ok f → f ≡ None → r ≡ Ok None
both r f e g = cc

clash : (r : Result (Option Reading) ParseError) → r ≡ Ok None → ¬ (r ≡ Err Memory)
clash r e g = cc

alone : (db : List Metadata) (hint : Option Id) (o : Option (List ℕ)) → IsExample db hint o (Ok None) → o ≡ None
alone db hint o Examples.none = refl

pub none_told : (db : List Metadata) (hint : Option Id) (o : Option (List ℕ)) (r : Result (Option Reading) ParseError)
    (f : Option Reading) → r ≡ Ok f → f ≡ None → AnswersExample db hint o r → o ≡ None
none_told db hint o r f e g (inl h) = absurd (clash r (both r f e g) h)
none_told db hint o r f e g (inr h) =
    let IsSo = λ (r : Result (Option Reading) ParseError). IsExample db hint o r in
    alone db hint o (subst IsSo (both r f e g) h)
