use Rattle.std.proofs.Common.{◌≡◌, None, Some, Ok, IfOk, [], ◌∷◌, refl, rules, subst}
use Rattle.std.specs.List.{flat_map}
use Rattle.phone_records.specs.Missing.{first_missing}
use Rattle.phone_plans.specs.Index.{IsIndexOf}
use Rattle.phone_pattern.specs.Rules.{first_group_pattern}
use Rattle.phone_territory.specs.Refusals.{patterns_in}
use Rattle.phone_territory.proofs.Refused.{one-read}
use Rattle.phone_plans.proofs.Refused.{refused-first_group, refused-territories}
use Rattle.phone_pattern.proofs.Refused.{both-patterns}
use Rattle.phone_plans.proofs.plans.Plans.from.Goals as goal

pub returns-in_err-territories-clause-refused : goal.returns-in_err-territories-clause-refused
returns-in_err-territories-clause-refused c =
    let e = c.in_err-territories.field-0.0 in
    let none : first_missing c.args.records.items ≡ None = search rules in
    let h = refused-territories c.args.records.items e none c.in_err-territories.ensures.refused in
    search (rules, h)

pub returns-in_err-territories-2-clause-refused : goal.returns-in_err-territories-2-clause-refused
returns-in_err-territories-2-clause-refused c =
    let e = c.in_err-territories-2.field-0.0 in
    let none : first_missing c.args.records.items ≡ None = search rules in
    let group = one-read (Some first_group_pattern) first_group_pattern c.new.result refl c.new.ensures.read c.new.ensures.refused in
    let others = c.zip_read-others.ensures.read [] _ c.of-index.ensures.read group in
    let all = c.in_err-territories-2.ensures.read [] _ (tt, tt) others in
    let h = refused-first_group c.args.records.items e none c.in_ok-territories.ensures.read all.1 in
    search (rules, h)

pub invariant_of-result : goal.invariant_of-result
invariant_of-result c =
    let index = c.in_ok-territories-2.index in
    let both : c.zip_read-others.result ≡ Ok (index, c.in_ok-territories-2.first_group) = c.in_ok-territories-2.ensures.made.1 in
    let made : c.of-index.result ≡ Ok index = (subst (λ r. IfOk r (λ all. (c.of-index.result ≡ Ok all.0) × (c.new.result ≡ Ok all.1))) both c.zip_read-others.ensures.made).0 in
    let same : c.as_slice-2.result.now ≡ c.in_ok-territories-2.territories.items = search rules in
    let of : IsIndexOf index c.as_slice-2.result.now =
    subst (λ r. IfOk r (λ i. IsIndexOf i c.as_slice-2.result.now)) made c.of-index.ensures.index in
    subst (IsIndexOf index) same of

pub returns-clause-read : goal.returns-clause-read
returns-clause-read c = λ _.
    let group = one-read (Some first_group_pattern) first_group_pattern c.new.result refl c.new.ensures.read c.new.ensures.refused in
    let others = c.zip_read-others.ensures.read [] _ c.of-index.ensures.read group in
    let all = c.in_ok-territories-2.ensures.read [] _ (tt, tt) others in
    both-patterns (flat_map patterns_in c.args.records.items) (first_group_pattern ∷ []) c.in_ok-territories.ensures.read all.0
