use Rattle.std.proofs.Common.{◌≡◌, ◌++◌, ◌∷◌, ◌∙◌, ap₂, subst, sym}
use Rattle.std.proofs.lemmas.Result.{IfErr-weaker, IfOk-weaker}
use Rattle.phone_values.proofs.Texts.{name-id_of}
use Rattle.phone_values.specs.Ids.{name}
use Rattle.phone_places.specs.Tables.{IsNoLine, Lacks}
use Rattle.phone_places.specs.Tables.IsNoLine.{no_id, no_tab}
use Rattle.phone_places.proofs.line.parts_of.Goals as goal

pub returns-in-Some-clause-whole : goal.returns-in-Some-clause-whole
returns-in-Some-clause-whole c = IfOk-weaker c.with_id.result _ (λ p. c.args.line.now ≡ p.0.now ++ 9 ∷ name p.1)
    (λ p h. c.in-Some.ensures.0 ∙ ap₂ (λ n t. n ++ 9 ∷ t) (sym h.0) (name-id_of c.in-Some.text.now p.1 h.1)) c.with_id.ensures.id

pub returns-in-Some-clause-first : goal.returns-in-Some-clause-first
returns-in-Some-clause-first c = IfOk-weaker c.with_id.result _ (λ p. Lacks 9 p.0.now) (λ p h. subst (Lacks 9) (sym h.0) c.in-Some.ensures.1) c.with_id.ensures.id

pub returns-in-Some-clause-none : goal.returns-in-Some-clause-none
returns-in-Some-clause-none c = IfErr-weaker c.with_id.result _ (IsNoLine c.args.line.now)
    (λ what h. rw h.0 (no_id c.args.line.now c.in-Some.name.now c.in-Some.text.now c.in-Some.ensures.0 c.in-Some.ensures.1 h.1)) c.with_id.ensures.none

pub returns-in-None-clause-none : goal.returns-in-None-clause-none
returns-in-None-clause-none c = no_tab c.args.line.now c.in-None.ensures
