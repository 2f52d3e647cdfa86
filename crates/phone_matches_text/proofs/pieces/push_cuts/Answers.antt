use Rattle.std.proofs.Common.{rules, ◌≡◌, ℕ, suc, ◌+◌, false, true, None, [], ◌∷◌, ◌++◌, chars, encode_utf8, append_assoc, append-nil, ap, sym, subst, ◌∙◌, refl, arith}
use Rattle.std.proofs.lemmas.Str.{chars-nil}
use Rattle.phone_matches_text.proofs.Ends.{before_end_front, end_if, end_of_end}
use Rattle.phone_matches_text.specs.Sets.{is_in}
use Rattle.std.proofs.lemmas.List.{map-append}
use Rattle.phone_matches_text.proofs.Pieced.{all_push, cuts_end, cuts_more}
use Rattle.phone_matches_text.specs.Lent.{AllStandThere, StandsThere, told_piece, told_pieces}
use Rattle.phone_matches_text.proofs.pieces.push_cuts.Goals as goal

pub loop-from-init : goal.loop-from-init
loop-from-init c = (search rules, ([], refl), ([], sym (append-nil _), λ more h. h), λ h. h)

pub piece_between-requires-clause-from : goal.piece_between-requires-clause-from
piece_between-requires-clause-from c = end_of_end _ _ _ c.loop-from.invariant.1 c.in-Some.ensures.from

pub loop-from-smaller : goal.loop-from-smaller
loop-from-smaller c = c.in-Some.ensures.shorter

pub loop-from-preserved : goal.loop-from-preserved
loop-from-preserved c =
    let i = c.loop-from.invariant.2 in
    let text = c.args.text.now in
    let before = c.loop-from.pieces.items in
    let p = c.piece_between.result in
    let items = c.in_ok-push.ensures.items in (
      search rules,
      end_of_end _ _ _ (end_of_end _ _ _ c.loop-from.invariant.1 c.in-Some.ensures.from) c.in-Some.ensures.behind,
      (
        i.0 ++ told_piece p ∷ [],
        ap told_pieces items ∙ map-append told_piece before (p ∷ []) ∙ ap (λ t. t ++ told_piece p ∷ []) i.1
            ∙ append_assoc _ i.0 (told_piece p ∷ []),
        cuts_more c.args.sign (chars text) (chars c.loop-from.rest.now) (chars c.in-Some.from.now) (chars c.in-Some.behind.now) i.0 (told_piece p)
            i.2 c.in-Some.ensures.read c.piece_between.ensures.told,
      ),
      λ h. subst (AllStandThere text) (sym items) (all_push (StandsThere text) before p (c.loop-from.invariant.3 h) c.piece_between.ensures.stands),
    )

pub returns-clause-told : goal.returns-clause-told
returns-clause-told c =
    let i = c.loop-from.invariant.2 in
    (i.0, cuts_end c.args.sign (chars c.args.text.now) (chars c.loop-from.rest.now) i.0 i.2 c.in_default.ensures.read, i.1)

pub returns-clause-stand : goal.returns-clause-stand
returns-clause-stand c = c.loop-from.invariant.3
