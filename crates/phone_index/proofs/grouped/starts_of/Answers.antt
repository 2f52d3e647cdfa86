use Rattle.std.proofs.Common.{◌+◌, ap, ◌∙◌, ◌∷◌, [], length, length-append}
use Rattle.phone_index.proofs.Starts.{AreStarts-push}
use Rattle.phone_index.proofs.grouped.starts_of.Goals as goal

pub loop-code-preserved : goal.loop-code-preserved
loop-code-preserved c =
    let i = c.loop-code.invariant in
    record {
      are = rw c.in_ok-push.ensures.items (AreStarts-push c.args.entries.now c.loop-code.starts.items c.loop-code.code c.start_of.result i.are i.many c.start_of.ensures);
      many = ap length c.in_ok-push.ensures.items ∙ length-append c.loop-code.starts.items (c.start_of.result ∷ []) ∙ ap (λ n. n + 1) i.many;
    }
