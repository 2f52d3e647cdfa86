use Rattle.std.proofs.Common.{◌+◌, ◌++◌, ◌∷◌, [], ap, sym, refl, ◌∙◌, length-append, arith}
use Rattle.std.proofs.lemmas.List.{append-nil}
use Rattle.phone_device.proofs.PassingLemmas.{Passes-then}
use Rattle.phone_csv.proofs.FirstLemmas.{IsFront-unended}
use Rattle.phone_csv.proofs.front.Front.read.Goals as goal

pub returns-in-Ok-true-clause-ended : goal.returns-in-Ok-true-clause-ended
returns-in-Ok-true-clause-ended g c is =
    let was = c.loop.invariant.read_bytes in
    let passed = rw c.in-Some.is at c.in-Ok.ensures.passes in
    let on = c.in-Ok-true.ensures.ended c.in-Ok-true.field-0-test was.0 was.2.1 in
    (was.0 ++ c.in-Some.byte ∷ [], Passes-then _ _ _ was.0 (c.in-Some.byte ∷ []) was.1 passed, rw c.loop.invariant.same_format at on)

pub loop-preserved : goal.loop-preserved
loop-preserved g c =
    let was = c.loop.invariant.read_bytes in
    let passed = rw c.in-Some.is at c.in-Ok.ensures.passes in
    let on = c.in-Ok-false.ensures.grown c.in-Ok-false.field-0-test was.0 was.2.1 in
    record {
      read_bytes = (
        was.0 ++ c.in-Some.byte ∷ [],
        Passes-then _ _ _ was.0 (c.in-Some.byte ∷ []) was.1 passed,
        (length-append was.0 (c.in-Some.byte ∷ []) ∙ ap (λ n. n + 1) was.2.0, on),
      );
      partial = c.in-Ok-false.ensures.partial;
      same_format = c.in-Ok-false.ensures.format ∙ c.loop.invariant.same_format;
      same_faults = c.in-Ok.ensures.no_fault ∙ c.loop.invariant.same_faults;
    }

pub returns-in_default-clause-unended : goal.returns-in_default-clause-unended
returns-in_default-clause-unended g c =
    let was = c.loop.invariant.read_bytes in
    let unended = IsFront-unended _ was.0 was.0 [] _ (sym (append-nil was.0)) (omega arith) was.2.1 in
    (was.0, rw c.in_default.ensures.kept was.1, rw c.loop.invariant.same_format at unended)

pub returns-in-Err-clause-unended : goal.returns-in-Err-clause-unended
returns-in-Err-clause-unended g c =
    let was = c.loop.invariant.read_bytes in
    let passed = rw c.in-Some.is at c.in-Ok.ensures.passes in
    let unended = IsFront-unended _ (was.0 ++ c.in-Some.byte ∷ []) was.0 (c.in-Some.byte ∷ []) _ refl (omega arith) was.2.1 in
    (was.0 ++ c.in-Some.byte ∷ [], Passes-then _ _ _ was.0 (c.in-Some.byte ∷ []) was.1 passed, rw c.loop.invariant.same_format at unended)

pub returns-clause-unended : goal.returns-clause-unended
returns-clause-unended g c =
    let was = c.loop.invariant.read_bytes in
    let unended = IsFront-unended _ was.0 was.0 [] _ (sym (append-nil was.0)) (omega arith) was.2.1 in
    (was.0, was.1, rw c.loop.invariant.same_format at unended)
