use Rattle.std.proofs.Common.{◌≡◌, inl, inr, Ok, chars, sym, subst}
use Rattle.phone_engine.specs.Readings.{ReadsBy}
use Rattle.phone_values.specs.declared.reading.Reading.{Reading}
use Rattle.phone_book.specs.Firsts.{firsts}
use Rattle.phone_book.proofs.AnswerLemmas.{line-firsts}
use Rattle.phone_book.proofs.book.Book.add.Goals as goal

pub returns-in-Ok-place-clause-entries : goal.returns-in-Ok-place-clause-entries
returns-in-Ok-place-clause-entries c =
    let n : Reading = c.in-Ok.number in
    let inside : ReadsBy c.self.inside.rules c.self.inside.database c.args.hint (chars c.args.line.now) (Ok n) = elim c.in-Ok.ensures [
      | inl e ↦ cc
      | inr r ↦ r
    ] in
    let read : ReadsBy c.args.self.now.rules c.args.self.now.database c.args.hint (chars c.args.line.now) (Ok n) =
    subst (λ b. ReadsBy b.rules b.database c.args.hint (chars c.args.line.now) (Ok n)) c.self.view_is inside in
    let kept : c.args.self.now.entries ≡ firsts c.args.self.now.entries = subst (λ b. b.entries ≡ firsts b.entries) c.self.view_is (sym c.self.invariant.1) in
    line-firsts c.args.self.now.rules c.args.self.now.database c.args.self.now.entries c.args.self.now.entries (c.args.hint, c.args.line.now) (Ok c.in-Ok-place.place)
    c.place.new.self.entries kept (n, read, c.in-Ok-place.ensures.placed)
