use Rattle.std.proofs.Common.{◌≡◌, ℕ, List, Option, arith, rules, sym, subst, ◌∙◌}
use Rattle.phone_values.specs.declared.country.Id.{Id}
use Rattle.phone_values.specs.declared.rules.Rules.{Rules}
use Rattle.phone_records.specs.declared.loader.Metadata.{Metadata}
use Rattle.phone_c_base.specs.Possibilities.{IsTextPossibility}
use Rattle.phone_c.proofs.Under.{under}
use Rattle.phone_c.proofs.util.phone_text_possibility.Goals.{in-Some-under, in-None}
use Rattle.phone_c.proofs.util.phone_text_possibility.Goals as goal

pub returns-clause-told : goal.returns-clause-told
returns-clause-told c =
    let text = c.args.text.now in
    let told = c.match-under.told in
    let IsTold = λ (r : Rules) (db : List Metadata) (h : Option Id).
    IsTextPossibility r db h text told
    in
    let of : c.engine_of.result.database.now ≡ c.args.handle.now.records = search rules in
    let by : c.engine_of.result.rules ≡ c.args.handle.now.rules = search rules in
    λ ok. elim c.match-under.branch [
      | in-Some-under w ↦
          let e = w.in-Some-under in
          let step = w.text_possibility-status in
          let is = step.ensures.told (sym w.status-is ∙ ok) in
          let asked = e.engine in
          let IsSo = λ (n : ℕ).
          IsTextPossibility asked.rules asked.database.now asked.hint text n
          in
          under IsTold asked c.args.hint.now c.args.handle.now.rules c.args.handle.now.records
          e.ensures.hint (e.ensures.rules ∙ by) (e.ensures.database ∙ of)
          (subst IsSo (sym w.told-is) is)
      | in-None w ↦ let wrong : 0 ≡ 19 = sym ok ∙ w.status-is in absurd (omega (arith, wrong))
    ]
