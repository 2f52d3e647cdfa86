use Rattle.phone_lines.specs.Lines.{without_return}
use Rattle.phone_prefixes.specs.Spans.{entries_in}
use Rattle.std.specs.List.{slice_range}
use Rattle.phone_prefixes.proofs.Loads.{fault_next, refuses_by, so_far_next, so_far_none}
use Rattle.phone_prefixes.proofs.loading.Loading.take_ended.Goals as goal

pub loop-end-init : goal.loop-end-init
loop-end-init c = so_far_none c.args.bytes.now c.args.self.now.spans.items c.args.self.now.trie.nodes.items c.requires.none c.requires.loaded

pub loop-end-preserved : goal.loop-end-preserved
loop-end-preserved c =
    so_far_next c.args.bytes.now c.loop-end.at c.in-Some.end c.loop-end.self.spans.items c.loop-end.self.trie.nodes.items c.loop-end.invariant c.in-Some.ensures.within.0 c.in-Some.ensures.within.1 c.in-Some.ensures.feed c.in-Some.ensures.unbroken
    c.take_line.new.self.spans.items c.take_line.new.self.trie.nodes.items c.in-Ok.ensures.loaded c.in-Ok.ensures.taken

pub returns-in-Err-clause-refused : goal.returns-in-Err-clause-refused
returns-in-Err-clause-refused c =
    refuses_by c.args.bytes.now (without_return (slice_range c.args.bytes.now c.loop-end.at c.in-Some.end)) (entries_in c.args.bytes.now c.loop-end.self.spans.items) c.in-Err.error c.in-Err.ensures.refused
    (fault_next c.args.bytes.now c.loop-end.at c.in-Some.end c.loop-end.self.spans.items c.loop-end.self.trie.nodes.items c.loop-end.invariant c.in-Some.ensures.within.0 c.in-Some.ensures.within.1 c.in-Some.ensures.feed c.in-Some.ensures.unbroken)
