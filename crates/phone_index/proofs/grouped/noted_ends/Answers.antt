use Rattle.std.proofs.Common.{rules, ◌+◌}
use Rattle.phone_index.proofs.Between.{ends_in_order, run_between, up_to_next}
use Rattle.phone_index.proofs.grouped.noted_ends.Goals as goal

pub returns-then-is_noted : goal.returns-then-is_noted
returns-then-is_noted c =
    let this = c.requires.starts c.args.code (search rules) in
    let next = c.requires.starts (c.args.code + 1) (search rules) in
    let up_to = up_to_next (λ e. e.code) c.args.code _ _ next.1 in
    record {
      in_order = rw c.from-place.ensures (ends_in_order (λ e. e.code) c.args.code _ _ _ this.0 next.0 this.1 up_to);
      within = rw c.from-place.ensures next.0;
      run = rw c.from-place.ensures (run_between (λ e. e.code) c.args.code _ _ _ this.0 next.0 this.1 up_to);
    }
