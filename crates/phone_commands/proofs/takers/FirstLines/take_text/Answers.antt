use Rattle.std.proofs.Common.{◌≡◌, Some, slice_get, [], ◌∷◌, ◌++◌, ap, ap₂, subst, sym, ◌∙◌}
use Rattle.std.proofs.lemmas.List.{append-nil}
use Rattle.std.proofs.lemmas.Result.{on_ok_weaker}
use Rattle.phone_book.specs.Books.{Contacts}
use Rattle.phone_book.specs.Keys.{key_text}
use Rattle.phone_commands.specs.FirstLines.{IsFirstLine}
use Rattle.phone_commands.specs.FirstLines.IsFirstLine.{added, no_number, present}
use Rattle.phone_commands.specs.ObjectLines.{after_one}
use Rattle.phone_commands.specs.declared.takers.FirstLines.{FirstLines}
use Rattle.phone_commands.proofs.FirstLemmas.{contacts_are, is_among-at, slice_get-last}
use Rattle.phone_commands.proofs.takers.FirstLines.take_text.Goals as goal

pub returns-in-Ok-Added : goal.returns-in-Ok-Added
returns-in-Ok-Added c =
    let self = c.args.self.now in
    let text = c.args.text.now in
    let told = rw c.in-Ok-Added.field-0-is at c.in-Ok-Added.ensures.answer in
    let n = told.0 in
    let book = contacts_are self.book c.add.new.self
    (self.book.entries ++ n ∷ []) c.in-Ok-Added.ensures.database c.in-Ok-Added.ensures.rules told.2.2 in
    let got : slice_get c.add.new.self.entries c.in-Ok-Added.place ≡ Some n =
    ap₂ slice_get told.2.2 told.2.1 ∙ slice_get-last self.book.entries n in
    let kept : Contacts → FirstLines = λ b. record self { book = b; added = after_one self.added } in
    let line = key_text n ++ 9 ∷ (text ++ 10 ∷ []) in
    on_ok_weaker c.push_added.result
    (λ t. (
      line,
      subst (λ k. IsFirstLine self text line k) (sym (t.1 ∙
          ap kept book)) (added n c.utf8.text told.1 told.2.0),
      t.0 n got,
    ))
    c.push_added.ensures

pub returns-in-Ok-Present : goal.returns-in-Ok-Present
returns-in-Ok-Present c =
    let self = c.args.self.now in
    let text = c.args.text.now in
    let told = rw c.in-Ok-Present.field-0-is at c.in-Ok-Present.ensures.answer in
    let book = contacts_are self.book c.add.new.self self.book.entries
    c.in-Ok-Present.ensures.database c.in-Ok-Present.ensures.rules told.2.3 in
    let among = is_among-at told.0 told.2.0 self.book.entries c.in-Ok-Present.field-0-0 told.2.1
    told.2.2 in (
      [],
      rw (book, c.saturating_add-self.ensures) (present told.0 c.utf8.text told.1 among),
      sym (append-nil c.args.answers.now.items),
    )

pub returns-in-Err-Refused : goal.returns-in-Err-Refused
returns-in-Err-Refused c =
    let self = c.args.self.now in
    let text = c.args.text.now in
    let told = rw c.in-Err-Refused.field-0-is at c.in-Err-Refused.ensures.answer in
    let book = contacts_are self.book c.add.new.self self.book.entries
    c.in-Err-Refused.ensures.database c.in-Err-Refused.ensures.rules told.2 in (
      [],
      rw (book, c.saturating_add-self-in-Err-Refused.ensures)
          (no_number c.in-Err-Refused.field-0-0 c.utf8.text told.0),
      sym (append-nil c.args.answers.now.items),
    )
