use Rattle.std.proofs.lemmas.Result.{IfOk-weaker}
use Rattle.phone_index.proofs.Trees.{place_trans}
use Rattle.phone_index.proofs.trie.+place_of.Goals as goal

pub returns : goal.returns
returns t c =
    IfOk-weaker c.child_of.result _ _ (λ place made. place_trans _ _ _ c.args.number c.in_ok-parent.parent place c.in_ok-parent.ensures made) c.child_of.ensures
