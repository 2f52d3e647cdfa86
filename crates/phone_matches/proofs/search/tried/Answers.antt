use Rattle.std.proofs.Common.{◌≡◌, List, ℕ, false, true, chars, ap, sym, subst, ◌∙◌}
use Rattle.phone_matches_text.proofs.Ends.{before_end_front}
use Rattle.phone_matches_text.specs.Dates.{is_dated}
use Rattle.phone_matches_text.specs.Pieces.{Piece}
use Rattle.phone_matches_text.specs.Shapes.{before_end}
use Rattle.phone_matches.proofs.Tried.{if_ok, tried_dated, tried_whole}
use Rattle.phone_matches.specs.Searches
use Rattle.phone_matches.specs.Searches.{IsParted, IsRefused, IsTried, behind}
use Rattle.phone_matches.specs.Told.{told_found}
use Rattle.phone_matches.proofs.search.tried.Goals as goal

pub returns-then-is_dated-clause-tried : goal.returns-then-is_dated-clause-tried
returns-then-is_dated-clause-tried g c =
    let accepts = g.J.Judge.accepts c.args.judge.now in
    let text = chars c.args.text.now in
    let candidate = chars c.args.candidate.now in
    let before = chars c.before-2.result.now in
    let same = before_end_front text before (chars c.args.from.now) (c.before-2.ensures.read c.requires.end) in
    let dated : is_dated candidate (behind text (before, candidate)) ≡ true =
    ap (is_dated candidate) (sym c.behind_place.ensures.read) ∙ sym c.is_dated.ensures ∙ c.if-is_dated.true in
    let found = told_found c.left_behind.result.found in
    let left = c.left_behind.result.left in
    subst (λ (b : List ℕ). IsTried accepts text (b, candidate) c.args.tries found left) (sym same)
    (tried_dated accepts text (before, candidate) c.args.tries found left dated (ap told_found c.left_behind.ensures.found) c.left_behind.ensures.left)

pub returns-in-Some-clause-tried : goal.returns-in-Some-clause-tried
returns-in-Some-clause-tried g c =
    let accepts = g.J.Judge.accepts c.args.judge.now in
    let text = chars c.args.text.now in
    let candidate = chars c.args.candidate.now in
    let before = chars c.before-2.result.now in
    let same = before_end_front text before (chars c.args.from.now) (c.before-2.ensures.read c.requires.end) in
    let undated : is_dated candidate (behind text (before, candidate)) ≡ false =
    ap (is_dated candidate) (sym c.behind_place.ensures.read) ∙ sym c.is_dated.ensures ∙ c.if-is_dated.false in
    let told = rw c.in-Some.is at c.in_ok-number.ensures.told in
    let found = told_found c.left_behind-in-Some.result.found in
    let left = c.left_behind-in-Some.result.left in
    subst (λ (b : List ℕ). IsTried accepts text (b, candidate) c.args.tries found left) (sym same)
    (tried_whole accepts text (before, candidate) c.args.tries c.in-Some.number found left undated told (ap told_found c.left_behind-in-Some.ensures.found)
    c.left_behind-in-Some.ensures.left)

pub returns-in-None-clause-tried : goal.returns-in-None-clause-tried
returns-in-None-clause-tried g c =
    let accepts = g.J.Judge.accepts c.args.judge.now in
    let text = chars c.args.text.now in
    let candidate = chars c.args.candidate.now in
    let before = chars c.before-2.result.now in
    let place : Piece = (before_end text (chars c.args.from.now), candidate) in
    let same = before_end_front text before (chars c.args.from.now) (c.before-2.ensures.read c.requires.end) in
    let undated : is_dated candidate (behind text (before, candidate)) ≡ false =
    ap (is_dated candidate) (sym c.behind_place.ensures.read) ∙ sym c.is_dated.ensures ∙ c.if-is_dated.false in
    let told = rw c.in-None.is at c.in_ok-number.ensures.told in
    let free : is_dated candidate (behind text place) ≡ false =
    subst (λ (b : List ℕ). is_dated candidate (behind text (b, candidate)) ≡ false) (sym same) undated in
    let refused : IsRefused accepts text place = subst (λ (b : List ℕ). IsRefused accepts text (b, candidate)) (sym same) told in
    if_ok c.tried_in_pieces.result (λ o. IsParted accepts text place c.args.tries (told_found o.found) o.left) _
    (λ o parted. Searches.parted (told_found o.found) o.left free refused parted) c.tried_in_pieces.ensures.parted
