use Rattle.std.proofs.Common.{◌≡◌, ◌+◌, ◌-◌, ◌≤◌, length, map, take}
use Rattle.phone_book.specs.Answers.{AreAnswered, line_of}
use Rattle.phone_book.proofs.book.Book.add_all.Given as goal

abbrev pub invariant-loop-hint : goal.invariant-loop-hint
invariant-loop-hint l = record {
  room : length l.answers.items + (length l.lines - l.hint-index) ≤ l.answers.cap;
  within : l.hint-index ≤ length l.lines;
  database : l.self.database ≡ l.initial.self.database;
  rules : l.self.rules ≡ l.initial.self.rules;
  answered : AreAnswered l.initial.self.rules l.initial.self.database l.initial.self.entries (map line_of (take l.hint-index l.lines)) l.answers.items l.self.entries;
}
