use Rattle.std.proofs.Common.{rules, ◌≡◌, ℕ, suc, ◌+◌, false, true, None, [], ◌∷◌, ◌++◌, chars, encode_utf8, append_assoc, append-nil, ap, sym, subst, ◌∙◌, refl, arith}
use Rattle.phone_matches_text.proofs.Ends.{before_end_front, end_if, end_of_end}
use Rattle.phone_matches_text.specs.Sets.{is_in}
use Rattle.phone_matches_text.proofs.Pieced.{all_push, headed_told, none_of, on_ok, some_of}
use Rattle.phone_matches_text.specs.Lent.{AllStandThere, StandsThere, told_piece, told_pieces}
use Rattle.phone_matches_text.specs.Pieces
use Rattle.phone_matches_text.specs.Pieces.{from_sign, piece_between}
use Rattle.phone_matches_text.proofs.pieces.push_pieces.Goals as goal

pub returns-then-not-has_some-clause-told : goal.returns-then-not-has_some-clause-told
returns-then-not-has_some-clause-told c = (
  [],
  Pieces.no_piece (sym c.from_first-first.ensures.first ∙ none_of _ (sym c.has_some.ensures ∙ c.if-not-has_some.true)),
  sym (append-nil _),
)

pub piece_between-requires-clause-from : goal.piece_between-requires-clause-from
piece_between-requires-clause-from c = ([], refl)

pub returns-clause-told : goal.returns-clause-told
returns-clause-told c =
    let text = chars c.args.text.now in
    let first = c.from_first-first.ensures.first in
    on_ok c.push_cuts.result _ _ (λ told. (
      piece_between text text (from_sign c.args.sign text) ∷ told.0,
      Pieces.headed told.0 (λ e. some_of _ (sym c.has_some.ensures ∙ c.if-not-has_some.false) (first ∙ e)) told.1,
      headed_told _ _ _ c.piece_between.result told.0 _ c.in_ok-push.ensures.items
          (c.piece_between.ensures.told ∙ ap (λ f. piece_between text text f) first) told.2,
    )) c.push_cuts.ensures.told

pub returns-clause-stand : goal.returns-clause-stand
returns-clause-stand c =
    let text = c.args.text.now in
    on_ok c.push_cuts.result _ _ (λ f h. f (subst (AllStandThere text) (sym c.in_ok-push.ensures.items)
    (all_push (StandsThere text) _ c.piece_between.result h c.piece_between.ensures.stands))) c.push_cuts.ensures.stand
