-- Buffers put together, and where each stands.
use Rattle.std.specs.Prelude.{◌≡◌, ℕ, ◌+◌, List, [], ◌∷◌, length}
use Rattle.std.specs.List.{flat_map}
use Rattle.phone_arrow.specs.Buffers.{padded}
use Rattle.phone_values.specs.declared.rules.Rules.{Rules}
use Rattle.phone_records.specs.declared.loader.Metadata.{Metadata}
use Rattle.phone_c_base.specs.declared.found.Place.{Place}
use Rattle.phone_columns.specs.Columns.{buffers_of}
use Rattle.phone_columns.specs.declared.answers.Answer.{Answer}
use Rattle.phone_columns.specs.declared.body.Body.{Body}
use Rattle.phone_columns.specs.declared.column.Column.{Column}

-- where buffers stand, of which the first begins here, each padded
abbrev pub places_from : ℕ → List (List ℕ) → List Place
places_from start [] = []
places_from start (buffer ∷ buffers) = record { start = start; end = start + length buffer } ∷
    places_from (start + length (padded buffer)) buffers

-- the body has these buffers, one behind the other, each padded
pub record HasBuffers (buffers : List (List ℕ)) (body : Body) : Type 0 where
  pub bytes : body.bytes.items ≡ flat_map padded buffers
  pub places : body.places.items ≡ places_from 0 buffers

-- the buffers of columns, in the order in which they are asked for
abbrev pub all_buffers : Rules → List Metadata → List Column → List Answer → List (List ℕ)
all_buffers rules db columns answers = flat_map (λ c. buffers_of rules db c answers) columns
