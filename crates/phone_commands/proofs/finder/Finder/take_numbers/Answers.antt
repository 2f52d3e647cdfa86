use Rattle.phone_commands.proofs.FoundLemmas.{found-territories, numbers-ordered}
use Rattle.phone_commands.proofs.finder.Finder.take_numbers.Goals as goal

pub push_all-requires-clause-ordered : goal.push_all-requires-clause-ordered
push_all-requires-clause-ordered c = rw c.as_slice.ensures.value
    (numbers-ordered _ _ _ c.args.text.now c.in_ok-all.all.items c.in_ok-all.ensures)

pub push_all-requires-clause-listed : goal.push_all-requires-clause-listed
push_all-requires-clause-listed c = rw c.as_slice.ensures.value
    (found-territories _ _ _ c.args.text.now 0 c.in_ok-all.all.items c.in_ok-all.ensures)
