use Rattle.std.proofs.Common.{◌∙◌, ◌<◌, ◌++◌, ◌∷◌, [], ap, sym, refl}
use Rattle.std.proofs.lemmas.Result.{IfOk-weaker}
use Rattle.phone_plain.proofs.Branching.{no_parts, one_more, whole_sequence, first_branch, another, whole_choice}
use Rattle.phone_plain.proofs.Grouping.{group_read, part_read, part_goes_on}
use Rattle.phone_plain.proofs.reading.+pattern.Goals as goal
use Rattle.phone_plain.specs.Counts.{Repeats}
use Rattle.phone_plain.specs.Reads.{IsRead, left, part}

pub group-returns : goal.group-returns
group-returns t c =
    group_read c.args.from c.in_ok-captures.inside c.in_ok-sub.end (record { rest = c.in_ok-rest.rest; groups = c.in_ok-sub.end.groups })
    c.in_ok-captures.captures c.in_ok-sub.sub c.in_ok-hir.hir c.in_ok-captures.ensures c.in_ok-sub.ensures c.in_ok-rest.ensures refl c.in_ok-hir.ensures

pub read_choice-branches-init : goal.read_choice-branches-init
read_choice-branches-init t c =
    first_branch c.args.from c.in_ok-first.after c.add.new.list.items c.in_ok-first.first
    (c.in_ok-add.ensures ∙ ap (λ hs. hs ++ c.in_ok-first.first ∷ []) c.new-branches.ensures.items) c.in_ok-first.ensures

pub read_choice-branches-preserved : goal.read_choice-branches-preserved
read_choice-branches-preserved t c =
    rw c.in_ok-add-2.ensures
    (another c.args.from c.branches.to c.in_ok-branch.after c.branches.branches.items c.in_ok-branch.branch c.branches.invariant c.in_ok-branch.ensures)

pub read_choice-returns : goal.read_choice-returns
read_choice-returns t c =
    whole_choice c.args.from c.branches.to c.branches.branches.items c.first_that_works.result c.branches.invariant
    (sym c.is_at_bar.ensures ∙ c.branches-test.false) c.first_that_works.ensures

pub read_part-returns-clause-read : goal.read_part-returns-clause-read
read_part-returns-clause-read t c =
    IfOk-weaker c.repeated.result (λ p. Repeats c.in_ok-sub.sub c.in_ok-sub.after p.0 p.1) (λ p. IsRead part 0 c.args.from p.0 p.1)
    (λ p again. part_read c.args.from c.in_ok-sub.after p.1 c.in_ok-sub.sub p.0 c.in_ok-sub.ensures again) c.repeated.ensures

pub read_part-returns-clause-goes_on : goal.read_part-returns-clause-goes_on
read_part-returns-clause-goes_on t c =
    IfOk-weaker c.repeated.result (λ p. Repeats c.in_ok-sub.sub c.in_ok-sub.after p.0 p.1) (λ p. left p.1 < left c.args.from)
    (λ p again. part_goes_on c.args.from c.in_ok-sub.after p.1 c.in_ok-sub.sub p.0 c.in_ok-sub.ensures again) c.repeated.ensures

pub read_sequence-parts-init : goal.read_sequence-parts-init
read_sequence-parts-init t c = rw c.new-parts.ensures.items (no_parts c.args.from)

pub read_sequence-parts-preserved : goal.read_sequence-parts-preserved
read_sequence-parts-preserved t c =
    rw c.in_ok-add.ensures
    (one_more c.args.from c.parts.to c.in_ok-part.after c.parts.parts.items c.in_ok-part.part c.parts.invariant
    (sym c.is_at_part.ensures ∙ c.parts-test.true) c.in_ok-part.ensures.read c.in_ok-part.ensures.goes_on)

pub read_sequence-returns : goal.read_sequence-returns
read_sequence-returns t c =
    whole_sequence c.args.from c.parts.to c.parts.parts.items c.one_after_another.result c.parts.invariant
    (sym c.is_at_end.ensures ∙ c.if-not-is_at_end.false) c.one_after_another.ensures
