use Rattle.std.proofs.Common.{◌≡◌, [], None, map, subst, sym, rules}
use Rattle.phone_records.specs.Missing.{first_given, missing_in_format}
use Rattle.phone_territory.proofs.Complete.{has_all, whole_kinds}
use Rattle.phone_territory.specs.Refusals.{IsPatternRefusal}
use Rattle.phone_territory.proofs.Refused.{besides-read, in_order}
use Rattle.phone_pattern.proofs.Refused.{ArePatterns}
use Rattle.phone_territory.proofs.territory.TerritoryCompile.compile.Goals as goal

pub unwrap-requires : goal.unwrap-requires
unwrap-requires c = (has_all c.args.given c.requires).id

pub unwrap-requires-2 : goal.unwrap-requires-2
unwrap-requires-2 c = (has_all c.args.given c.requires).country_code

pub compile-descriptors-requires-clause-general : goal.compile-descriptors-requires-clause-general
compile-descriptors-requires-clause-general c = (has_all c.args.given c.requires).general

pub compile-descriptors-requires-clause-whole : goal.compile-descriptors-requires-clause-whole
compile-descriptors-requires-clause-whole c = whole_kinds c.args.given (has_all c.args.given c.requires)

pub compile-patterns-requires-clause-national : goal.compile-patterns-requires-clause-national
compile-patterns-requires-clause-national c = subst (λ xs. first_given (map missing_in_format xs) ≡ None) (sym c.into_vec.ensures) (has_all c.args.given c.requires).formats

pub compile-patterns-requires-clause-international : goal.compile-patterns-requires-clause-international
compile-patterns-requires-clause-international c = subst (λ xs. first_given (map missing_in_format xs) ≡ None) (sym c.into_vec-2.ensures) (has_all c.args.given c.requires).international_formats

pub returns-in_err-kept-clause-read : goal.returns-in_err-kept-clause-read
returns-in_err-kept-clause-read c =
    let besides = besides-read c.args.given c.compile-patterns.result _ _ c.into_vec.ensures c.into_vec-2.ensures c.compile-patterns.ensures.read in
    let all = c.in_err-kept.ensures.read [] _ (tt, tt) (c.zip_read.ensures.read _ _ c.compile-descriptors.ensures.read besides) in
    let h = subst (λ ps. IsPatternRefusal ps c.in_err-kept.field-0.0) (in_order c.args.given) all.1 in
    search (rules, h)

pub returns-clause-read : goal.returns-clause-read
returns-clause-read c =
    let besides = besides-read c.args.given c.compile-patterns.result _ _ c.into_vec.ensures c.into_vec-2.ensures c.compile-patterns.ensures.read in
    let all = c.in_ok-kept.ensures.read [] _ (tt, tt) (c.zip_read.ensures.read _ _ c.compile-descriptors.ensures.read besides) in
    (subst ArePatterns (in_order c.args.given) all.0, tt)
