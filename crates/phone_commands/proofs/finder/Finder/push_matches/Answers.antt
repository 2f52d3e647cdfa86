use Rattle.std.proofs.Common.{◌++◌, ◌∷◌, ◌+◌, ◌≡◌, ◌∙◌, [], ℕ, List, add-one, append_assoc, ap, ap₂}
use Rattle.std.proofs.Common.{arith, chars, drop, drop-cons, length, map, refl, subst, sym, take}
use Rattle.std.proofs.Math.Seq.{drop-length, take-append_seam}
use Rattle.std.proofs.lemmas.List.{append-nil, map-append}
use Rattle.std.proofs.lemmas.Str.{IsCharBoundary-start, chars-nil}
use Rattle.phone_csv.specs.Feeds.{counted}
use Rattle.phone_commands.specs.FoundLines.{AreTold, HaveTerritories, found_of, name_told}
use Rattle.phone_commands.specs.FoundLines.AreTold.{none, next}
use Rattle.phone_matches.specs.Orders as orders
use Rattle.phone_matches.specs.Told.{AllMatchThere, told_matches}
use Rattle.phone_commands.proofs.MatchLemmas.{ordered-earlier}
use Rattle.phone_commands.proofs.finder.Finder.push_matches.Goals as goal

pub loop-found-init : goal.loop-found-init
loop-found-init c = record {
  done = [];
  whole = refl;
  told = [];
  are = none;
  items = sym (append-nil c.args.answers.now.items);
  border = IsCharBoundary-start c.args.text.now c.utf8.text;
  column = ap (λ t. counted (length t + 1)) (sym chars-nil);
  stand = c.requires.stand;
  ordered = subst (λ t. orders.IsOrdered (length t) (told_matches c.args.all.now)) (sym chars-nil)
      c.requires.ordered;
  listed = c.requires.listed;
}

pub push_match-requires-clause-stand : goal.push_match-requires-clause-stand
push_match-requires-clause-stand c =
    let all = c.args.all.now in
    let at = c.loop-found.found-index in
    let found = c.found-item.result in
    let split : drop at all ≡ found ∷ drop (at + 1) all =
    drop-cons all at found c.loop-found-test.true
    ∙ ap₂ (λ x n. x ∷ drop n all) (sym c.found-item.is) (sym (add-one at)) in
    (subst (AllMatchThere c.args.text.now) split c.loop-found.invariant.stand).0

pub push_match-requires-clause-behind : goal.push_match-requires-clause-behind
push_match-requires-clause-behind c =
    let all = c.args.all.now in
    let at = c.loop-found.found-index in
    let found = c.found-item.result in
    let split : drop at all ≡ found ∷ drop (at + 1) all =
    drop-cons all at found c.loop-found-test.true
    ∙ ap₂ (λ x n. x ∷ drop n all) (sym c.found-item.is) (sym (add-one at)) in
    (subst (λ ms. orders.IsOrdered (length (chars (take c.loop-found.from c.args.text.now)))
    (told_matches ms)) split c.loop-found.invariant.ordered).0

pub push_match-requires-clause-listed : goal.push_match-requires-clause-listed
push_match-requires-clause-listed c =
    let all = c.args.all.now in
    let at = c.loop-found.found-index in
    let found = c.found-item.result in
    let split : drop at all ≡ found ∷ drop (at + 1) all =
    drop-cons all at found c.loop-found-test.true
    ∙ ap₂ (λ x n. x ∷ drop n all) (sym c.found-item.is) (sym (add-one at)) in
    (subst (λ ms. HaveTerritories c.args.self.now.reader.engine.database.now (map found_of ms))
    split c.loop-found.invariant.listed).0

pub loop-found-preserved : goal.loop-found-preserved
loop-found-preserved c =
    let i = c.loop-found.invariant in
    let self = c.args.self.now in
    let text = c.args.text.now in
    let all = c.args.all.now in
    let at = c.loop-found.found-index in
    let found = c.found-item.result in
    let later = drop (at + 1) all in
    let split : drop at all ≡ found ∷ later =
    drop-cons all at found c.loop-found-test.true
    ∙ ap₂ (λ x n. x ∷ drop n all) (sym c.found-item.is) (sym (add-one at)) in
    let before = found.place.before.now in
    let piece = found.place.text.now in
    let stand = subst (AllMatchThere text) split i.stand in
    let ordered = subst (λ ms. orders.IsOrdered (length (chars (take c.loop-found.from text)))
    (told_matches ms)) split i.ordered in
    let listed = subst (λ ms. HaveTerritories self.reader.engine.database.now (map found_of ms))
    split i.listed in
    let place = c.in_ok-start.ensures.place in
    let told = c.in_ok-start.ensures.told in
    let front : take (length before) text ≡ before =
    ap (take (length before)) stand.0.whole ∙ take-append_seam before (piece ++ stand.0.after) in
    let earlier : orders.IsOrdered (length (chars (take (length before) text)))
    (told_matches later) =
    subst (λ t. orders.IsOrdered (length (chars t)) (told_matches later)) (sym front)
    (ordered-earlier (length (chars before)) (length (chars before) + length (chars piece))
    (told_matches later) (omega arith) ordered.1) in
    record {
      done = i.done ++ found ∷ [];
      whole = i.whole ∙ ap (λ t. i.done ++ t) split ∙ sym (append_assoc i.done (found ∷ []) later);
      told = i.told ++ told.1;
      are = subst (λ fs. AreTold self.reader.engine.rules self.reader.engine.database.now self.form
          (name_told self.names.now self.begun) self.place text fs (i.told ++ told.1))
          (sym (map-append found_of i.done (found ∷ [])))
          (next (map found_of i.done) i.told (found_of found) told.0 told.1 i.are told.2 told.3);
      items = told.4 ∙ ap (λ t. t ++ told.1) i.items ∙
          append_assoc c.args.answers.now.items i.told told.1;
      border = place.border;
      column = place.counts;
      stand = stand.1;
      ordered = subst (λ n. orders.IsOrdered (length (chars (take n text))) (told_matches later))
          (sym place.begins) earlier;
      listed = listed.1;
    }

pub returns : goal.returns
returns c =
    let i = c.loop-found.invariant in
    let self = c.args.self.now in
    let all = c.args.all.now in
    let at : c.loop-found.found-index ≡ length all =
    omega (arith, c.loop-found-test.false, c.loop-found.auto.found-index-end) in
    let none_left : drop c.loop-found.found-index all ≡ [] =
    ap (λ n. drop n all) at ∙ drop-length all in
    let done : i.done ≡ all =
    sym (i.whole ∙ ap (λ t. i.done ++ t) none_left ∙ append-nil i.done) in (
      i.told,
      subst (λ ms. AreTold self.reader.engine.rules self.reader.engine.database.now self.form
          (name_told self.names.now self.begun) self.place c.args.text.now (map found_of ms) i.told)
          done i.are,
      i.items,
    )
