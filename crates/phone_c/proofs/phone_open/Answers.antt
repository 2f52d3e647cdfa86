use Rattle.std.proofs.Common.{inl, inr, List, ℕ, ⊎_elim, arith}
use Rattle.phone_records.specs.declared.loader.Metadata.{Metadata}
use Rattle.phone_c_base.specs.Openings.{HasForm, IsDatabaseOf}
use Rattle.phone_c.proofs.phone_open.Goals as goal

-- bytes that are records have one of both forms
has_form : (text : List ℕ) (db : List Metadata) → IsDatabaseOf text db → HasForm text
has_form text db is = ⊎_elim (λ compact. inl (_, compact)) (λ json. inr json.0) is.records

pub returns-in-Ok-clause-not_utf8 : goal.returns-in-Ok-clause-not_utf8
returns-in-Ok-clause-not_utf8 c =
    ((λ e. absurd (omega (arith, e))), λ none. absurd (none.1 (has_form _ _ c.in-Ok.ensures.opened)))
