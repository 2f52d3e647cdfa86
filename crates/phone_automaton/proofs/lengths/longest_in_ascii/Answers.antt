use Rattle.std.proofs.lemmas.Option.{IfSome_then}
use Rattle.regex_hir.specs.Meaning.{meaning}
use Rattle.phone_automaton.proofs.Fitting.{longest_alike}
use Rattle.phone_automaton.proofs.lengths.longest_in_ascii.Goals as goal

pub returns-in-Ok : goal.returns-in-Ok
returns-in-Ok c =
    IfSome_then c.max_len.result c.max_len.ensures.longest
    (λ n longest. longest_alike (meaning c.in-Ok.narrow) (meaning c.args.hir.now) n c.in-Ok.ensures longest)
