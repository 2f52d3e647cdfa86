use Rattle.std.proofs.Common.{◌+◌, ◌++◌, chars, length, refl, sym, take, ◌∙◌, ap}
use Rattle.phone_answers.specs.declared.finds.Spot.{Spot}
use Rattle.phone_csv.specs.Feeds.{counted}
use Rattle.phone_commands.proofs.MatchLemmas.{piece_at}
use Rattle.phone_commands.proofs.finder.Finder.push_match.Goals as goal

pub place_behind-start-requires-clause-front : goal.place_behind-start-requires-clause-front
place_behind-start-requires-clause-front c =
    let found = c.args.found.now in
    (found.place.text.now ++ c.requires.stand.after, c.requires.stand.whole)

pub returns-clause-place : goal.returns-clause-place
returns-clause-place c =
    let place = c.place_behind-start.ensures in
    record { begins = place.begins; border = place.border; counts = place.column }

pub returns-clause-told : goal.returns-clause-told
returns-clause-told c =
    let found = c.args.found.now in
    let text = c.args.text.now in
    let place = c.place_behind-start.ensures in
    let spot : Spot = record {
      line = c.args.self.now.place;
      column = c.place_behind-start.result.1;
      piece = found.place.text;
    } in
    let one = c.in_ok-push_one.ensures in (
      spot,
      one.0,
      record {
        line = refl;
        column = place.column
            ∙ ap (λ n. counted (length (chars (take n text)) + 1)) place.begins;
        piece = sym (piece_at text found.place.before.now found.place.text.now
            c.requires.stand.after c.requires.stand.whole);
      },
      one.1,
      one.2,
    )
