use Rattle.phone_matches.proofs.Sufficing.{exact_valid, strict_valid}
use Rattle.phone_matches.proofs.laws.grouped_is_valid.Goals as goal

pub returns-clause-strict : goal.returns-clause-strict
returns-clause-strict c db alternates hint before piece after n h = record {
  candidate = h.candidate;
  number = record { read = h.number.read; enough = strict_valid db n piece alternates h.number.enough };
}

pub returns-clause-exact : goal.returns-clause-exact
returns-clause-exact c db alternates hint before piece after n h = record {
  candidate = h.candidate;
  number = record { read = h.number.read; enough = exact_valid db n piece alternates h.number.enough };
}
