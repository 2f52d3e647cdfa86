use Rattle.std.proofs.Common.{◌≡◌, List, ap, ◌∙◌, take}
use Rattle.std.proofs.lemmas.List.{take_all}
use Rattle.std.proofs.lemmas.Result.{IfOk-weaker}
use Rattle.phone_automaton.specs.Ascii.{in_ascii}
use Rattle.phone_automaton.proofs.Cutting.{cut_more, cut_past, none_cut}
use Rattle.phone_automaton.proofs.narrow.cut.Goals.{in-Some+in_ok-push, in_default}
use Rattle.phone_automaton.proofs.narrow.cut.Goals as goal
use Rattle.regex_class.specs.Ranges.{in_ranges, HasExactly, Range}

pub loop-i-init : goal.loop-i-init
loop-i-init c = rw c.new-kept.ensures.items none_cut

pub loop-i-preserved : goal.loop-i-preserved
loop-i-preserved c =
    elim c.match-low_part.branch [
      | in-Some+in_ok-push w ↦ rw (w.kept-is, w.in_ok-push.ensures.items) (cut_more c.loop-i.kept.items c.as_slice-ranges.result.now c.loop-i.i c.loop-i-test.true c.loop-i.invariant w.in-Some.low w.in-Some.ensures)
      | in_default w ↦ rw w.kept-is (cut_past c.loop-i.kept.items c.as_slice-ranges.result.now c.loop-i.i c.loop-i-test.true c.loop-i.invariant w.in_default.ensures)
    ]

pub returns : goal.returns
returns c =
    let rs = c.as_slice-ranges.result.now in
    let all : take c.loop-i.i rs ≡ rs = take_all c.loop-i.i rs c.loop-i-test.false in
    IfOk-weaker c.new.result (λ new. HasExactly new.ranges.items (in_ranges c.loop-i.kept.items)) _
    (λ new exactly x small. exactly x small ∙ c.loop-i.invariant x ∙ ap (λ (xs : List Range). in_ascii xs x) (all ∙ c.as_slice-ranges.ensures.value)) c.new.ensures
