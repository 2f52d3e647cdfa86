use Rattle.std.proofs.Common.{List, chars, take, ap, sym, subst}
use Rattle.phone_matches_text.specs.Lent.{AllStandThere, StandsThere, told_pieces}
use Rattle.phone_matches_text.specs.Pieces.{ArePieces}
use Rattle.phone_matches_text.specs.Shapes.{before_end}
use Rattle.phone_matches_text.specs.declared.pieces.Piece.{Piece as Lent}
use Rattle.phone_matches.proofs.Firsts.{all_take, all_weaker}
use Rattle.phone_matches.proofs.Seams.{stands_longer}
use Rattle.phone_matches.proofs.Tried.{parted_by}
use Rattle.phone_matches.specs.Told.{told_found}
use Rattle.phone_matches.proofs.search.tried_in_pieces.Goals as goal

pub first_of-requires-clause-stand : goal.first_of-requires-clause-stand
first_of-requires-clause-stand g c =
    let items = c.in_ok-pieces.pieces.items in
    let from = c.args.from.now in
    let candidate = c.args.candidate.now in
    let front = c.requires.front in
    subst (λ (ps : List Lent). AllStandThere from (take c.count_tried-count.result ps)) (sym c.as_slice-all.ensures.value)
    (all_take (StandsThere from) items c.count_tried-count.result (all_weaker (StandsThere candidate) (StandsThere from) items
    (λ p s. stands_longer candidate from (p.before.now, p.text.now) front.0 front.1 s) c.in_ok-pieces.ensures.stand))

pub returns-clause-parted : goal.returns-clause-parted
returns-clause-parted g c =
    let text = chars c.args.text.now in
    let candidate = chars c.args.candidate.now in
    let parts = subst (λ (ps : List Lent). ArePieces candidate (told_pieces ps)) (sym c.as_slice-all.ensures.value) c.in_ok-pieces.ensures.told in
    parted_by (g.J.Judge.accepts c.args.judge.now) text (before_end text (chars c.args.from.now), candidate) c.args.tries c.as_slice-all.result.now
    c.count_tried-count.result c.in_ok-found.failed (told_found c.in_ok-found.found) _ _ parts c.count_tried-count.ensures.tried
    c.in_ok-found.ensures.first (ap told_found c.left_behind.ensures.found) c.left_behind.ensures.left
