use Rattle.std.proofs.Common.{◌≡◌, ℕ, ◌+◌, ◌∷◌, ◌++◌, [], List, length, map, take, get_or, Bor, Option, None, ap, sym, subst, subst₂, ◌∙◌, arith}
use Rattle.std.proofs.Math.Seq.{take-length}
use Rattle.std.proofs.lemmas.List.{length_push, map-append, take_more}
use Rattle.phone_values.specs.declared.country.Id.{Id}
use Rattle.phone_values.specs.declared.reading.Reading.{Reading}
use Rattle.phone_book.specs.Answers.{AreAnswered, HaveNumbers, IsAnswered, line_of}
use Rattle.phone_book.specs.Firsts.{firsts}
use Rattle.phone_book.proofs.AnswerLemmas.{answered-push, lines-firsts}
use Rattle.phone_book.proofs.book.Book.add_all.Goals as goal

pub loop-hint-preserved : goal.loop-hint-preserved
loop-hint-preserved c =
    let now = c.args.self.now in
    let xs = c.args.lines.now in
    let k = c.loop-hint.hint-index in
    let turn = c.push_reserved.ensures in
    let kept = c.loop-hint.invariant in
    let counted : length c.push_reserved.new.self.items ≡ length c.loop-hint.answers.items + 1 =
    ap length turn.items ∙ length_push c.loop-hint.answers.items c.add.result in
    let none : Option Id × Bor (List ℕ) = (None, record { ref_ptr = (0, 0); now = [] }) in
    let line = get_or xs k none in
    let lines : map line_of (take (k + 1) xs) ≡ map line_of (take k xs) ++ line_of line ∷ [] =
    ap (map line_of) (take_more xs k none c.loop-hint-test.true) ∙ map-append line_of (take k xs) (line ∷ []) in
    let answer : IsAnswered c.args.self.now.rules now.database c.loop-hint.self.entries (line_of line) c.add.result c.add.new.self.entries =
    subst₂ (λ by db. IsAnswered by db c.loop-hint.self.entries (line_of line) c.add.result c.add.new.self.entries) kept.rules kept.database
    c.add.ensures.answer in
    record {
      room = omega (arith, counted, turn.capacity, kept.room, c.loop-hint-test.true);
      within = omega (arith, c.loop-hint-test.true);
      database = c.add.ensures.database ∙ kept.database;
      rules = c.add.ensures.rules ∙ kept.rules;
      answered = subst₂ (λ ls answers. AreAnswered c.args.self.now.rules now.database now.entries ls answers c.add.new.self.entries) (sym lines) (sym turn.items)
          (answered-push c.args.self.now.rules now.database now.entries (map line_of (take k xs)) c.loop-hint.answers.items c.loop-hint.self.entries (line_of line)
          c.add.result c.add.new.self.entries
          kept.answered answer);
    }

pub returns-clause-entries : goal.returns-clause-entries
returns-clause-entries c =
    let now = c.args.self.now in
    let xs = c.args.lines.now in
    let kept : now.entries ≡ firsts now.entries = subst (λ b. b.entries ≡ firsts b.entries) c.self.view_is (sym c.self.invariant.1) in
    let end : c.loop-hint.hint-index ≡ length xs = omega (arith, c.loop-hint-test.false, c.loop-hint.invariant.within) in
    let all : take c.loop-hint.hint-index xs ≡ xs = ap (λ k. take k xs) end ∙ take-length xs in
    subst (λ ls. (ns : List Reading) × (HaveNumbers c.args.self.now.rules now.database (map line_of ls) c.loop-hint.answers.items ns) ×
    (c.loop-hint.self.entries ≡ firsts (now.entries ++ ns))) all
    (lines-firsts c.args.self.now.rules now.database now.entries now.entries (map line_of (take c.loop-hint.hint-index xs)) c.loop-hint.answers.items c.loop-hint.self.entries kept
    c.loop-hint.invariant.answered)
