use Rattle.std.proofs.Common.{◌≡◌, ◌++◌, None, map}
use Rattle.phone_records.specs.Missing.{first_given}
use Rattle.phone_pattern.proofs.Refused.{HavePatterns}
use Rattle.phone_territory.proofs.each.compile_each.Given as goal

abbrev pub invariant-loop-record : goal.invariant-loop-record
invariant-loop-record g l =
    let record_of = g.T.Compile.record_of in
    (goal.iterator-loop-record g).can_next l.record-iterator ×
    (goal.iterator-loop-record g).is_finite l.record-iterator ×
    (map record_of l.all.items ++ l.record-iterator.rest.items ≡ l.fn.given.items) ×
    (first_given (map g.T.Compile.missing l.record-iterator.rest.items) ≡ None) ×
    HavePatterns g.T.Compile.patterns (map record_of l.all.items)
