use Rattle.std.proofs.Common.{◌≡◌, ◌+◌, ◌++◌, ℕ, List, chars, drop, length, map, take}
use Rattle.std.specs.Str.{IsCharBoundary}
use Rattle.phone_csv.specs.Feeds.{counted}
use Rattle.phone_commands.specs.FoundLines.{AreTold, HaveTerritories, found_of, name_told}
use Rattle.phone_matches.specs.Orders as orders
use Rattle.phone_matches.specs.Told.{AllMatchThere, told_matches}
use Rattle.phone_matches.specs.declared.places.Match.{Match}
use Rattle.phone_values.specs.declared.reading.Reading.{Reading}
use Rattle.phone_commands.proofs.finder.Finder.push_matches.Given as goal

abbrev pub invariant-loop-found : goal.invariant-loop-found
invariant-loop-found l = record {
  done : List (Match Reading);
  whole : l.all ≡ done ++ drop l.found-index l.all;
  told : List ℕ;
  are : AreTold l.self.reader.engine.rules l.self.reader.engine.database.now l.self.form
      (name_told l.self.names.now l.self.begun) l.self.place l.text (map found_of done) told;
  items : l.answers.items ≡ l.initial.answers.items ++ told;
  border : IsCharBoundary l.text l.from;
  column : l.column ≡ counted (length (chars (take l.from l.text)) + 1);
  stand : AllMatchThere l.text (drop l.found-index l.all);
  ordered : orders.IsOrdered (length (chars (take l.from l.text)))
      (told_matches (drop l.found-index l.all));
  listed : HaveTerritories l.self.reader.engine.database.now
      (map found_of (drop l.found-index l.all));
}
