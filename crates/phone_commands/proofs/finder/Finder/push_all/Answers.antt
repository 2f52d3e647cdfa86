use Rattle.std.proofs.Common.{◌++◌, ◌∷◌, ◌+◌, [], length, append_assoc, ap, refl, sym, arith, ◌∙◌}
use Rattle.std.proofs.lemmas.List.{append-nil}
use Rattle.std.proofs.lemmas.Str.{IsCharBoundary-start, chars-nil}
use Rattle.phone_csv.specs.Feeds.{counted}
use Rattle.phone_commands.specs.FoundLines.{IsSpot}
use Rattle.phone_commands.specs.FoundLines.AreTold.{none, next}
use Rattle.phone_answers.specs.declared.finds.Spot.{Spot}
use Rattle.phone_commands.proofs.FoundLemmas.{IsOrdered-earlier}
use Rattle.phone_commands.proofs.finder.Finder.push_all.Goals as goal

pub loop-found-init : goal.loop-found-init
loop-found-init c = record {
  done = [];
  whole = refl;
  told = [];
  are = none;
  items = sym (append-nil c.args.answers.now.items);
  border = IsCharBoundary-start c.args.text.now c.utf8.text;
  column = ap (λ t. counted (length t + 1)) (sym chars-nil);
  ordered = c.requires.ordered;
  listed = c.requires.listed;
}

pub loop-found-preserved : goal.loop-found-preserved
loop-found-preserved c =
    let i = c.loop-found.invariant in
    let found = c.in-Some.found.now in
    let others = c.in-Some.others.now in
    let ordered = rw c.in-Some.ensures.cases.0 at i.ordered in
    let listed = rw c.in-Some.ensures.cases.0 at i.listed in
    let one = c.in_ok-push_one.ensures in
    let spot : Spot = record {
      line = c.args.self.now.place;
      column = c.column_at-column.result;
      piece = c.range.result;
    } in
    let stands : IsSpot c.args.self.now.place c.args.text.now found spot =
    record { line = refl; column = c.column_at-column.ensures; piece = c.range.ensures.value } in
    record {
      done = i.done ++ found ∷ [];
      whole = i.whole ∙ ap (λ t. i.done ++ t) c.in-Some.ensures.cases.0 ∙
          sym (append_assoc i.done (found ∷ []) others);
      told = i.told ++ one.0;
      are = next i.done i.told found spot one.0 i.are stands one.1;
      items = one.2 ∙ ap (λ t. t ++ one.0) i.items ∙
          append_assoc c.args.answers.now.items i.told one.0;
      border = ordered.from_border;
      column = c.column_at-column.ensures;
      ordered = IsOrdered-earlier c.args.text.now found.start found.end others (omega
          (arith, ordered.some)) ordered.later;
      listed = listed.1;
    }
