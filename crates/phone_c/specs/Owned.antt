-- What the handle of an atlas owns.
use base.Fml.{Fml}
use denote.RawPtr.{Ptr}
use Rattle.phone_c_base.specs.Owned.{pointer_owns}
use Rattle.phone_c.specs.contracts.places.owned.OwnedAtlas as owned
use Rattle.phone_c.specs.declared.places.owned.OwnedAtlas.{OwnedAtlas}

-- nothing at null, else the tables of this atlas, with the right to free their block
abbrev pub atlas_owns : Ptr → OwnedAtlas → Fml
atlas_owns = pointer_owns owned.the_row
