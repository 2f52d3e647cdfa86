use Rattle.std.proofs.Common.{◌+◌, ap, subst, ◌∙◌, Ok}
use Rattle.phone_prefixes.specs.declared.fault.LineFault.TheVariants as fault
use Rattle.phone_prefixes.specs.declared.fault.PrefixesError.TheVariants as error
use Rattle.phone_prefixes.specs.Refusals.{RefusesLine}
use Rattle.phone_prefixes.specs.Spans.{entries_in}
use Rattle.phone_prefixes.proofs.Taken.{refused_line, refused_twice, taken_line}
use Rattle.phone_prefixes.proofs.loading.Loading.take_line.Goals as goal

pub returns-in-Err-clause-refused : goal.returns-in-Err-clause-refused
returns-in-Err-clause-refused c =
    let spans = c.args.self.now.spans in
    subst (λ line. RefusesLine (entries_in c.args.bytes.now spans.items) line (error.Line (c.len-number.result + 1) c.in-Err.fault)) c.without_return-line.ensures
    (refused_line c.args.bytes.now spans.items c.args.self.now.trie.nodes.items c.requires.loaded c.without_return-line.result.now c.len-number.result (c.len-number.ensures ∙ spans.ok.0) c.in-Err.fault c.in-Err.ensures.parted)

pub returns-then-not-branch-clause-refused : goal.returns-then-not-branch-clause-refused
returns-then-not-branch-clause-refused c =
    let spans = c.args.self.now.spans in
    subst (λ line. RefusesLine (entries_in c.args.bytes.now spans.items) line (error.Line (c.len-number.result + 1) fault.PrefixTwice)) c.without_return-line.ensures
    (refused_twice c.args.bytes.now spans.items c.args.self.now.trie.nodes.items c.requires.loaded c.without_return-line.result.now c.len-number.result (c.len-number.ensures ∙ spans.ok.0) c.in-Ok.tab c.in-Ok.ensures.parted (c.in_ok-mark.ensures.taken (ap Ok c.if-not-branch.true)))

pub returns-in-Ok-push-clause-loaded : goal.returns-in-Ok-push-clause-loaded
returns-in-Ok-push-clause-loaded c =
    let spans = c.args.self.now.spans in
    (taken_line c.args.bytes.now c.args.start c.args.end c.in-Ok.tab c.len-number.result spans.items c.args.self.now.trie.nodes.items c.mark.new.self.nodes.items c.requires.order c.requires.inside c.requires.loaded c.in_ok-mark.ensures.tree (c.len-number.ensures ∙ spans.ok.0)
    c.push.new.self.items c.without_return-line.result.now c.without_return-line.ensures c.in-Ok.ensures.parted c.in-Ok.ensures.inside (c.in_ok-mark.ensures.free (ap Ok c.if-not-branch.false)) (c.in_ok-mark.ensures.marked (ap Ok c.if-not-branch.false)) c.in-Ok-push.ensures.items).loaded

pub returns-in-Ok-push-clause-taken : goal.returns-in-Ok-push-clause-taken
returns-in-Ok-push-clause-taken c =
    let spans = c.args.self.now.spans in
    (taken_line c.args.bytes.now c.args.start c.args.end c.in-Ok.tab c.len-number.result spans.items c.args.self.now.trie.nodes.items c.mark.new.self.nodes.items c.requires.order c.requires.inside c.requires.loaded c.in_ok-mark.ensures.tree (c.len-number.ensures ∙ spans.ok.0)
    c.push.new.self.items c.without_return-line.result.now c.without_return-line.ensures c.in-Ok.ensures.parted c.in-Ok.ensures.inside (c.in_ok-mark.ensures.free (ap Ok c.if-not-branch.false)) (c.in_ok-mark.ensures.marked (ap Ok c.if-not-branch.false)) c.in-Ok-push.ensures.items).one
