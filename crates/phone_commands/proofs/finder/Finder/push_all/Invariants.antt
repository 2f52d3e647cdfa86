use Rattle.std.proofs.Common.{◌≡◌, ◌+◌, ◌++◌, ℕ, List, length, take, chars}
use Rattle.std.specs.Str.{IsCharBoundary}
use Rattle.phone_csv.specs.Feeds.{counted}
use Rattle.phone_find.specs.Founds.{IsOrdered}
use Rattle.phone_find.specs.declared.search.Found.{Found}
use Rattle.phone_commands.specs.FoundLines.{AreTold, HaveTerritories, name_told}
use Rattle.phone_values.specs.declared.reading.Reading.{Reading}
use Rattle.phone_commands.proofs.finder.Finder.push_all.Given as goal

abbrev pub invariant-loop-found : goal.invariant-loop-found
invariant-loop-found l = record {
  done : List (Found Reading);
  whole : l.all ≡ done ++ l.rest;
  told : List ℕ;
  are : AreTold l.self.reader.engine.rules l.self.reader.engine.database.now l.self.form
      (name_told l.self.names.now l.self.begun) l.self.place l.text done told;
  items : l.answers.items ≡ l.initial.answers.items ++ told;
  border : IsCharBoundary l.text l.from;
  column : l.column ≡ counted (length (chars (take l.from l.text)) + 1);
  ordered : IsOrdered l.text l.from l.rest;
  listed : HaveTerritories l.self.reader.engine.database.now l.rest;
}

abbrev pub decreases-loop-found : goal.decreases-loop-found
decreases-loop-found l = length l.rest
