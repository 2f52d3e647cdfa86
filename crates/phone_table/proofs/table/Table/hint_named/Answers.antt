use Rattle.phone_table.proofs.table.Table.hint_named.Goals as goal

pub returns : goal.returns
returns c = (c.in_ok-named.named, (_, c.region_text-text.ensures, c.in_ok-named.ensures), c.hint_under.ensures)
