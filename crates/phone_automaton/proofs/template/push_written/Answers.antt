use Rattle.std.proofs.Common.{◌≡◌, ◌<◌, ◌+◌, ◌*◌, ◌≤◌, ◌++◌, ◌∷◌, ℕ, List, [], ◌-◌, ap, arith, drop, length, refl, subst, sym, ◌∙◌}
use Rattle.std.proofs.lemmas.List.{append_cancel_left, length-drop, length-set}
use Rattle.regex.specs.Replace.{bytes_of}
use Rattle.regex.specs.Templates.{written_after}
use Rattle.regex_syntax.specs.Grammar.{Names}
use Rattle.phone_automaton.specs.Finds.{group_at}
use Rattle.phone_automaton.specs.Templates.{AreTexts, IsNamedBy, put_in}
use Rattle.phone_automaton.proofs.Writing.{all_on, byte_on, dollar_on, named_on}
use Rattle.phone_automaton.proofs.Ascii.{all_one, all_utf8, byte_utf8, bytes_ascii, run_utf8, two_utf8}
use Rattle.std.proofs.lemmas.Str.Ascii.{IsAscii-from_all}
use Rattle.phone_automaton.proofs.template.push_written.Goals as goal

pub loop-at-preserved-then-template-at-ne36 : goal.loop-at-preserved-then-template-at-ne36
loop-at-preserved-then-template-at-ne36 c =
    let inside : c.loop-at.at < length c.args.template.now = c.loop-at-test.true in (
      omega arith,
      λ names text_of texts. rw c.in_ok-push.ensures.items (byte_on names text_of c.args.template.now c.loop-at.at c.loop-at.out.items _ inside c.if-template-at-ne36.true (c.loop-at.invariant.1 names text_of texts)),
      λ ascii whole. rw c.in_ok-push.ensures.items (byte_utf8 c.args.template.now c.loop-at.at c.loop-at.out.items inside (c.loop-at.invariant.2 ascii whole)),
    )

pub loop-at-preserved-then-is_doubled : goal.loop-at-preserved-then-is_doubled
loop-at-preserved-then-is_doubled c =
    let t = c.args.template.now in
    let (more, again) = rw c.after-rest.ensures at c.is_doubled.ensures c.if-is_doubled.true in
    let here : c.loop-at.at < length t = c.loop-at-test.true in
    let inside : c.loop-at.at + 1 < length t = (let left = rw length-drop at more in omega arith) in (
      omega arith,
      λ names text_of texts. rw c.in_ok-push-2.ensures.items (dollar_on names text_of t c.loop-at.at c.loop-at.out.items _ inside c.if-template-at-ne36.false again (c.loop-at.invariant.1 names text_of texts)),
      λ ascii whole. rw c.in_ok-push-2.ensures.items
          (two_utf8 t c.loop-at.at 36 c.loop-at.out.items (36 ∷ []) inside c.if-template-at-ne36.false again (omega arith) (IsAscii-from_all (36 ∷ []) (all_one 36 (omega arith)))
          (c.loop-at.invariant.2 ascii whole)),
    )

pub loop-at-preserved : goal.loop-at-preserved
loop-at-preserved c =
    let t = c.args.template.now in
    let is : IsNamedBy (drop (c.loop-at.at + 1) t) c.in-Some.n c.in-Some.count = subst (λ r. IsNamedBy r c.in-Some.n c.in-Some.count) c.after-rest.ensures c.in-Some.ensures in
    let room : 2 * c.in-Some.n ≤ length c.args.cells.now = c.if-n-cells.false in
    let here : c.loop-at.at < length t = c.loop-at-test.true in
    let cells = put_in c.args.cells.now c.args.place c.args.span.1 in
    let fits : 2 * c.in-Some.n ≤ length cells = rw (length-set c.args.cells.now c.args.place (c.args.span.1 + 1)) room in
    let left : c.in-Some.count ≤ length t - (c.loop-at.at + 1) = subst (λ l. c.in-Some.count ≤ l) (length-drop (c.loop-at.at + 1) t) is.inside in (
      omega arith,
      λ names text_of texts.
          rw (c.in_ok-push_group.ensures c.if-not-branch.false)
          (named_on names text_of t c.loop-at.at c.in-Some.n c.in-Some.count c.loop-at.out.items _ _ here c.if-template-at-ne36.false is
          (ap (bytes_of c.args.hay.now) c.group_in.ensures ∙ sym (texts c.in-Some.n fits))
          (c.loop-at.invariant.1 names text_of texts)),
      λ ascii whole. rw (c.in_ok-push_group.ensures c.if-not-branch.false)
          (run_utf8 t c.loop-at.at c.in-Some.count c.loop-at.out.items _ here c.if-template-at-ne36.false is.ascii (bytes_ascii c.args.hay.now c.group_in.result ascii)
          (c.loop-at.invariant.2 ascii whole)),
    )

pub returns-clause-utf8 : goal.returns-clause-utf8
returns-clause-utf8 c = λ yes ascii whole.
    all_utf8 c.args.template.now c.loop-at.at c.loop-at.out.items c.loop-at-test.false (c.loop-at.invariant.2 ascii whole)

pub returns-clause-written : goal.returns-clause-written
returns-clause-written c = λ yes.
    let t = c.args.template.now in
    let cells = put_in c.args.cells.now c.args.place c.args.span.1 in
    let own : ℕ → List ℕ = λ n. bytes_of c.args.hay.now (group_at c.args.span cells n) in
    let told : (names : Names) (text_of : ℕ → List ℕ) → AreTexts c.args.hay.now c.args.span cells text_of →
    c.loop-at.out.items ≡ c.args.out.now.items ++ written_after names text_of t 0 =
    λ names text_of texts. all_on names text_of t c.loop-at.at c.loop-at.out.items _ c.loop-at-test.false (c.loop-at.invariant.1 names text_of texts) in
    let whole = told [] own (λ n room. refl) in
    (written_after [] own t 0, whole, λ names text_of texts. append_cancel_left _ _ _ (sym whole ∙ told names text_of texts))
