use Rattle.phone_read.proofs.belonging.membership.Goals as goal

pub returns-in_ok-is_at_start_in-in-Some-clause-kind : goal.returns-in_ok-is_at_start_in-in-Some-clause-kind
returns-in_ok-is_at_start_in-in-Some-clause-kind c = c.by_digits.ensures.kind c.args.m.now c.args.text.now
