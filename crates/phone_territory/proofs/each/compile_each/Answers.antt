use Rattle.std.proofs.Common.{◌≡◌, ◌∷◌, ◌++◌, arith, ap, map, sym, subst, rules, ◌∙◌}
use Rattle.std.proofs.lemmas.Grind.{common_steps}
use Rattle.std.specs.List.{flat_map}
use Rattle.phone_territory.proofs.Refused.{refused_between}
use Rattle.phone_pattern.proofs.Refused.{ArePatterns, flat-patterns}
use Rattle.phone_territory.proofs.each.compile_each.Goals as goal

pub returns-in_err-compile-clause-read : goal.returns-in_err-compile-clause-read
returns-in_err-compile-clause-read g c =
    let next : c.loop-record.record-iterator.rest.items ≡ c.in-Some.record ∷ c.next.new.self.rest.items = search rules in
    let before = map g.T.Compile.record_of c.loop-record.all.items in
    let whole = ap (λ xs. before ++ xs) (sym next) ∙ c.loop-record.invariant.2 in
    let h = refused_between g.T.Compile.patterns before c.next.new.self.rest.items c.args.given.items c.in-Some.record c.in_err-compile.field-0.0 whole c.loop-record.invariant.4 c.in_err-compile.ensures.read.1 in
    search (rules, h)

pub returns-clause-read : goal.returns-clause-read
returns-clause-read g c =
    let before = map g.T.Compile.record_of c.loop-record.all.items in
    let all : before ≡ c.args.given.items = grind (arith, common_steps) in
    (subst (λ xs. ArePatterns (flat_map g.T.Compile.patterns xs)) all (flat-patterns g.T.Compile.patterns before c.loop-record.invariant.4), tt)
