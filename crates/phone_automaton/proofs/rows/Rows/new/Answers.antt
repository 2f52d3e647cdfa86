use Rattle.std.proofs.Common.{◌≡◌, rules}
use Rattle.phone_automaton.proofs.Reading.{accepts, first_rows}
use Rattle.phone_automaton.proofs.rows.Rows.new.Goals as goal

pub returns-clause-accepts : goal.returns-clause-accepts
returns-clause-accepts c = let is : c.extend_from_slice.new.self.items ≡ first_rows = search rules
    in accepts c.extend_from_slice.new.self.items is
