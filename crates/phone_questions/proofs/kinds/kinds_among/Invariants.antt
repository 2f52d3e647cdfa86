use Rattle.std.proofs.Common.{◌≡◌, ◌++◌, drop, filter}
use Rattle.phone_questions.specs.Kinds.{has_kind}
use Rattle.phone_questions.proofs.kinds.kinds_among.Given as goal

abbrev pub invariant-loop-kind : goal.invariant-loop-kind
invariant-loop-kind l =
    let has = has_kind l.m in
    l.found.items ++ filter has (drop l.kind-index l.kinds) ≡ filter has l.kinds
