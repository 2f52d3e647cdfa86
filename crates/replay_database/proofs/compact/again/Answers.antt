use Rattle.std.proofs.Common.{◌≡◌, ◌∙◌, sym, IfOk, Result, Ok, Err, Vec, Global}
use Rattle.phone_records.specs.declared.loader.Metadata.{Metadata}
use Rattle.phone_compact.specs.Records.{written}
use Rattle.phone_compact.proofs.Injective.{written_injective}
use Rattle.replay_database.proofs.compact.again.Goals as goal

where_ok : {A E : Type 0} (P Q : A → Type 0) → ((x : A) → P x → Q x) → (r : Result A E) →
    IfOk r P → IfOk r Q
where_ok P Q f (Ok x) h = f x h
where_ok P Q f (Err e) h = tt

pub returns-clause-same : goal.returns-clause-same
returns-clause-same c =
    let given = c.args.given.now in
    where_ok (λ (found : Vec Metadata Global). c.as_slice.result.now ≡ written found.items)
    (λ found. found.items ≡ given)
    (λ found h. written_injective found.items given (sym h ∙ (c.as_slice.ensures.value ∙ c.in_ok-bytes.ensures)))
    c.records.result c.records.ensures.read
