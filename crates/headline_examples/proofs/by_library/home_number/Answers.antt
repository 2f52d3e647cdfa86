use Rattle.std.proofs.Common.{Some, codes, leb-true, refl, ap}
use Rattle.std.proofs.lemmas.Option.{none-some}
use Rattle.std.specs.Fmt.{digits}
use Rattle.phone_library_laws.specs.Prefixes.{IsDialledFor, IsPrefixed}
use Rattle.phone_library_laws.specs.Prefixes as prefixes
use Rattle.phone_read.specs.Dialling.{after_match}
use Rattle.phone_values.specs.Ids.{id_of, name}
use Rattle.headline_examples.proofs.Laid.{nz_general}
use Rattle.headline_examples.proofs.Prefixed.{nz_home}
use Rattle.headline_examples.specs.Samples.{nz}
use Rattle.headline_examples.proofs.by_library.home_number.Goals as goal

-- New Zealand has no parsing pattern
prefixed : IsPrefixed nz (codes "033316005") (codes "33316005")
prefixed = record {
  prefix = codes "0";
  is_prefix = refl;
  whole = refl;
  once = refl;
  by_pattern = λ pattern some. absurd (none-some pattern some);
  enough = refl;
  general = λ _. nz_general;
}

dialled : IsDialledFor (Some nz) (codes "033316005") (codes "33316005")
dialled = prefixes.prefixed nz (codes "033316005") (codes "33316005") prefixed

pub returns : goal.returns
unfolding digits id_of name
returns c = record {
  home = record {
    territory = nz;
    national = codes "33316005";
    is_hint = refl;
    dialled = dialled;
    digits_alone = refl;
    enough = leb-true 3 _ refl;
    few = leb-true _ 250 refl;
    not_zeros = refl;
    not_international = ap (after_match (codes "033316005")) nz_home;
    no_code = refl;
  };
  dialled = record {
    national = codes "33316005";
    two = leb-true 2 _ refl;
    by_first = dialled;
    by_second = dialled;
    not_zeros = refl;
  };
}
