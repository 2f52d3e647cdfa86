use Rattle.std.proofs.Common.{◌≡◌, ◌⊎◌, inl, inr, refl, List, ℕ, IfErr, Result, Ok, Err}
use Rattle.phone_base.specs.declared.error.LoadMetadata.TheVariants as error
use Rattle.phone_compact.specs.Records.{IsCompact}
use Rattle.phone_plans.specs.Forms.{IsFormRefusal}
use Rattle.phone_c_base.specs.Openings.{HasForm, IsRefused}
use Rattle.phone_c_base.specs.declared.status.TheConstants.{MEMORY}
use Rattle.phone_c_base.proofs.opening.open_database.Goals as goal

-- memory may be refused for bytes of each form
for_memory : (text : List ℕ) → HasForm text → IsCompact text ⊎ ¬ (IsCompact text) → IsFormRefusal text error.Memory
for_memory text form (inl compact) = inl (compact, inr (inr refl))
for_memory text (inl compact) (inr other) = absurd (other compact)
for_memory text (inr utf8) (inr other) = inr (other, inr (utf8, inr refl))

if_refused : {V : Type 0} (text : List ℕ) (r : Result V ℕ) → HasForm text → IsCompact text ⊎ ¬ (IsCompact text) →
    IfErr r (λ status. status ≡ MEMORY) → IfErr r (IsRefused text)
if_refused text (Ok v) form known h = tt
if_refused text (Err status) form known h = inr (form, (error.Memory, for_memory text form known, h))

pub returns-in-Ok-clause-refused : goal.returns-in-Ok-clause-refused
returns-in-Ok-clause-refused c =
    if_refused c.args.text.now c.opened.result (c.if-not-has_form.ensures.form refl) c.has_form.ensures.known c.opened.ensures.refused

pub returns-in-Err-clause-refused : goal.returns-in-Err-clause-refused
returns-in-Err-clause-refused c =
    inr (c.if-not-has_form.ensures.form refl, (c.in-Err.error, c.in-Err.ensures.refused, c.status_of.ensures))
