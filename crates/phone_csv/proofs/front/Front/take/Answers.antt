use Rattle.std.proofs.Common.{rules, ◌≡◌, ◌≢◌, ap, sym, ◌∙◌}
use Rattle.phone_csv.specs.Formats.{state_of}
use Rattle.phone_csv.specs.declared.front.Mark.TheVariants as mark
use Rattle.phone_csv.proofs.Progress.{Steps}
use Rattle.phone_csv.proofs.FirstLemmas.{IsFront-ended, IsFront-feeds, IsFront-grown, IsFront-marked, ends_not_whole}
use Rattle.phone_csv.proofs.front.Front.take.Goals as goal

pub returns-then-eq-clause-grown : goal.returns-then-eq-clause-grown
returns-then-eq-clause-grown c is bytes f =
    let b = c.begin_again.ensures in
    let e : c.mark_after-self.result ≡ mark.Whole = search rules in
    let t = c.in_ok-ended.ensures in
    let on : Steps c.args.self.now.cutter c.take.new.self c.args.byte = record { place = t.place; fields = t.fields; field = t.field; format = t.format; feeds = t.feeds; feeds_before = t.feeds_before; feeds_to_quote = t.feeds_to_quote } in
    rw c.mark_after-self.ensures (IsFront-marked c.args.self.now.mark bytes c.args.self.now.cutter c.begin_again.new.self c.args.byte f
    (sym c.mark_after-self.ensures ∙ e) (ap state_of b.place) b.fields b.field (b.feeds ∙ IsFront-feeds c.args.self.now.mark bytes c.args.self.now.cutter c.take.new.self c.args.byte f on))

pub returns-else-eq-clause-grown : goal.returns-else-eq-clause-grown
returns-else-eq-clause-grown c is bytes f =
    let t = c.in_ok-ended.ensures in
    let on : Steps c.args.self.now.cutter c.take.new.self c.args.byte = record { place = t.place; fields = t.fields; field = t.field; format = t.format; feeds = t.feeds; feeds_before = t.feeds_before; feeds_to_quote = t.feeds_to_quote } in
    let n : c.mark_after-self.result ≢ mark.Whole = search rules in
    rw c.mark_after-self.ensures (IsFront-grown c.args.self.now.mark bytes c.args.self.now.cutter c.take.new.self c.args.byte f on (sym t.ended ∙ is)
    (λ e. n (c.mark_after-self.ensures ∙ e)))

pub returns-else-eq-clause-ended : goal.returns-else-eq-clause-ended
returns-else-eq-clause-ended c is bytes f =
    let t = c.in_ok-ended.ensures in
    let on : Steps c.args.self.now.cutter c.take.new.self c.args.byte = record { place = t.place; fields = t.fields; field = t.field; format = t.format; feeds = t.feeds; feeds_before = t.feeds_before; feeds_to_quote = t.feeds_to_quote } in
    rw c.mark_after-self.ensures (IsFront-ended c.args.self.now.mark bytes c.args.self.now.cutter c.take.new.self c.args.byte f on (sym t.ended ∙ is))

pub returns-then-eq-clause-ended : goal.returns-then-eq-clause-ended
returns-then-eq-clause-ended c is bytes f =
    let e : c.mark_after-self.result ≡ mark.Whole = search rules in
    let t = c.in_ok-ended.ensures in
    absurd (ends_not_whole c.args.self.now.cutter.format.delimiter (state_of c.args.self.now.cutter.place) c.args.self.now.mark c.args.byte (sym t.ended ∙ is) (sym c.mark_after-self.ensures ∙ e))
