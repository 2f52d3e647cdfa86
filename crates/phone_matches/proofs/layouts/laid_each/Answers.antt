use Rattle.std.proofs.Common.{rules, ◌≡◌, List, ℕ, ◌++◌, ◌-◌, string_bytes, append_assoc, ap, sym, ◌∙◌, arith}
use Rattle.phone_matches.specs.Layouts.{laid_each}
use Rattle.phone_matches.proofs.Laid.{each_more}
use Rattle.phone_matches.proofs.layouts.laid_each.Goals as goal

pub loop-left-preserved : goal.loop-left-preserved
loop-left-preserved c =
    let f = c.args.layout.now in
    let out = string_bytes c.loop-left.out in
    let laid = string_bytes c.in-Some.front.laid in
    let left = c.loop-left.left in
    let more = laid_each (left - 1) f c.in-Some.front.rest.now in
    let bytes : string_bytes c.push_str-in-loop-left.new.self ≡ string_bytes c.loop-left.out ++ string_bytes c.in-Some.front.laid =
    search (c.push_str-in-loop-left.ensures.bytes, c.in_ok-push_str-2.was, c.as_str.ensures.value) in (
      search rules,
      c.loop-left.invariant.1
          ∙ ap (λ (t : List ℕ). out ++ t)
          (each_more (left - 1) left f c.loop-left.rest.now laid c.in-Some.front.rest.now (omega (arith, c.loop-left-test.true)) (rw c.in-Some.is at c.in_ok-front.ensures))
          ∙ sym (append_assoc out laid more)
          ∙ ap (λ (t : List ℕ). t ++ more) (sym bytes),
    )
