use Rattle.std.proofs.Common.{◌≡◌, ◌⊎◌, inl, inr, List, ℕ, Option, Ok, Err, rules, subst}
use Rattle.phone_values.specs.declared.country.Id.{Id}
use Rattle.phone_values.specs.declared.error.ParseError.TheVariants.{Memory}
use Rattle.phone_records.specs.declared.loader.Metadata.{Metadata}
use Rattle.phone_values.specs.declared.rules.Rules.{Rules}
use Rattle.phone_engine.specs.declared.possibilities.Possibility.{Possibility}
use Rattle.phone_c_base.specs.Possibilities.{IsSaidOfText}
use Rattle.phone_c_base.proofs.possibility.text_possibility.Goals as goal

-- what a length says is no refusal
said : (by : Rules) (db : List Metadata) (hint : Option Id) (text : List ℕ) (p : Possibility) →
    (Ok p ≡ Err Memory) ⊎ IsSaidOfText by db hint text (Ok p) → IsSaidOfText by db hint text (Ok p)
said by db hint text p (inl wrong) = cc
said by db hint text p (inr is) = is

pub returns-in-Ok-possibility_of_text-clause-told :
    goal.returns-in-Ok-possibility_of_text-clause-told
returns-in-Ok-possibility_of_text-clause-told c =
    let by = c.args.engine.rules in
    let db = c.args.engine.database.now in
    let hint = c.args.engine.hint in
    let same : c.in-Ok.text.now ≡ c.args.text.now = search rules in
    let p = c.in-Ok-possibility_of_text.possibility in
    let is = said by db hint c.in-Ok.text.now p c.in-Ok-possibility_of_text.ensures in
    let IsSo = λ (t : List ℕ). IsSaidOfText by db hint t (Ok p) in
    λ _. (p, subst IsSo same is, c.possibility_number.ensures)
