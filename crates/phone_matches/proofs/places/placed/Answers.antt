use Rattle.std.proofs.Common.{◌++◌, List, ℕ, chars, ap, sym, ◌∙◌}
use Rattle.phone_matches_text.proofs.Ends.{before_end_front}
use Rattle.phone_matches.proofs.Seams.{end_of_end, placed_front, placed_length, same_rest}
use Rattle.phone_matches.proofs.places.placed.Goals as goal

pub behind-at-requires : goal.behind-at-requires
behind-at-requires c = (c.args.piece.now.text.now ++ c.requires.stands.after, c.requires.stands.whole)

pub returns-clause-told : goal.returns-clause-told
returns-clause-told c =
    let front = c.before-front.ensures.read c.requires.end in
    let end = end_of_end _ _ _ c.requires.end (c.args.piece.now.before.now, c.behind-at.ensures.whole) in
    ap (λ (b : List ℕ). (b, chars c.args.piece.now.text.now))
    (placed_front _ _ _ _ _ _ front c.behind-at.ensures.read (c.before-2.ensures.read end)
    ∙ ap (λ t. t ++ chars c.args.piece.now.before.now) (sym (before_end_front _ _ _ front)))

pub returns-clause-stands : goal.returns-clause-stands
returns-clause-stands c =
    let end = end_of_end _ _ _ c.requires.end (c.args.piece.now.before.now, c.behind-at.ensures.whole) in
    record {
      after = c.requires.stands.after;
      whole =
          c.before-2.ensures.cut end
          ∙ ap (λ t. c.before-2.result.now ++ t) (same_rest _ _ _ _ c.behind-at.ensures.whole c.requires.stands.whole);
    }

pub returns-clause-within : goal.returns-clause-within
returns-clause-within c =
    let end = end_of_end _ _ _ c.requires.end (c.args.piece.now.before.now, c.behind-at.ensures.whole) in
    placed_length _ _ _ _ _ (c.before-2.ensures.cut end) c.behind-at.ensures.whole
