use Rattle.std.proofs.Common.{List, ℕ, ◌++◌, ◌∷◌, refl}
use Rattle.std.proofs.lemmas.Result.{IfErr-weaker, IfOk-weaker}
use Rattle.phone_places.specs.Tables.{IsFault, IsLine}
use Rattle.phone_places.specs.Tables.IsFault.{no_line, not_above}
use Rattle.phone_places.proofs.countries.next_parts.Goals as goal

pub returns-in-Ok-clause-line : goal.returns-in-Ok-clause-line
returns-in-Ok-clause-line c = IfOk-weaker c.placed.result _ (λ p. IsLine c.args.line.now p.0.now p.1)
    (λ p h. rw (h.0, h.1) (record { whole = c.in-Ok.ensures.whole; first_tab = c.in-Ok.ensures.first; unbroken = c.requires.unbroken })) c.placed.ensures.same

pub returns-in-Ok-clause-refused : goal.returns-in-Ok-clause-refused
returns-in-Ok-clause-refused c = IfErr-weaker c.placed.result _ (λ what. (after : List ℕ) → IsFault c.args.entries.now (c.args.line.now ++ 10 ∷ after) what)
    (λ what h after. rw h.0 (not_above c.args.line.now after c.in-Ok.name.now c.in-Ok.id refl
    (record { whole = c.in-Ok.ensures.whole; first_tab = c.in-Ok.ensures.first; unbroken = c.requires.unbroken }) h.1)) c.placed.ensures.refused

pub returns-in-Err-clause-refused : goal.returns-in-Err-clause-refused
returns-in-Err-clause-refused c = λ after. no_line c.args.line.now after c.in-Err.fault refl c.requires.unbroken c.in-Err.ensures.none
