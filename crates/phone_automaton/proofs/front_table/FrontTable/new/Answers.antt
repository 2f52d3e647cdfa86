use Rattle.phone_automaton.proofs.front_table.FrontTable.new.Goals as goal

pub returns : goal.returns
returns c = (c.in_ok-digits.ensures, c.in-Ok.ensures)
