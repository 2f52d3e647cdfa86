use Rattle.std.proofs.Common.{length}
use Rattle.phone_lines.specs.Lines.{without_return}
use Rattle.phone_prefixes.specs.Spans.{entries_in}
use Rattle.std.specs.List.{slice_range}
use Rattle.phone_prefixes.proofs.Loads.{fault_last, refuses_by, table_last}
use Rattle.phone_prefixes.proofs.loading.Loading.take_last.Goals as goal

pub returns-in-Ok-clause-table : goal.returns-in-Ok-clause-table
returns-in-Ok-clause-table c =
    table_last c.args.bytes.now c.args.at c.args.self.now.spans.items c.args.self.now.trie.nodes.items c.requires.so_far c.requires.unbroken c.if-at-end.false c.take_line.new.self.spans.items c.in-Ok.ensures.taken

pub returns-in-Err-clause-refused : goal.returns-in-Err-clause-refused
returns-in-Err-clause-refused c =
    refuses_by c.args.bytes.now (without_return (slice_range c.args.bytes.now c.args.at (length c.args.bytes.now))) (entries_in c.args.bytes.now c.args.self.now.spans.items) c.in-Err.error c.in-Err.ensures.refused
    (fault_last c.args.bytes.now c.args.at c.args.self.now.spans.items c.args.self.now.trie.nodes.items c.requires.so_far c.requires.unbroken c.if-at-end.false)
