use Rattle.std.proofs.Common.{◌≡◌, ℕ, List, Option, IfOk, string_bytes, rules, subst}
use Rattle.std.specs.Option.{option_and_then}
use Rattle.phone_values.specs.Numbers.{text_of}
use Rattle.phone_records.specs.declared.loader.Metadata.{Metadata}
use Rattle.phone_questions.specs.Regions.{territory_of}
use Rattle.phone_dialling.specs.Kept.{written}
use Rattle.phone_dialling.specs.Lettered.{IsKept}
use Rattle.phone_dialling.proofs.lettered.kept_in.Goals as goal

pub returns : goal.returns
returns c =
    let first = c.args.first.now in
    let n = c.args.number.now in
    let there = option_and_then (territory_of c.args.database.now) c.args.from in
    let text : c.written-text.result.now ≡ written c.args.raw.now (text_of n.national) = search rules in
    let kept = subst (λ (o : Option Metadata). IfOk c.kept_text.result (λ s. IsKept first n c.written-text.result.now o (string_bytes s))) c.from_territory.ensures c.kept_text.ensures in
    subst (λ (t : List ℕ). IfOk c.kept_text.result (λ s. IsKept first n t there (string_bytes s))) text kept
