-- What a body holds is what is written, or too long.
use Rattle.std.proofs.Common.{◌≡◌, ◌⊎◌, ℕ, ◌<◌, List, length, ap, subst, ◌∙◌}
use Rattle.std.specs.List.{flat_map}
use Rattle.phone_arrow.specs.Buffers.{padded}
use Rattle.phone_values.specs.declared.rules.Rules.{Rules}
use Rattle.phone_records.specs.declared.loader.Metadata.{Metadata}
use Rattle.phone_c_base.specs.Buffers.{IsWritten}
use Rattle.phone_c_base.specs.declared.found.Place.{Place}
use Rattle.phone_columns.specs.Bodies.{HasBuffers, all_buffers}
use Rattle.phone_columns.specs.Calls.{AreTooLong, AreWritten}
use Rattle.phone_columns.specs.Columns.{columns_of}
use Rattle.phone_columns.specs.Rows.{AreAnswers, Row}
use Rattle.phone_columns.specs.declared.answers.Answer.{Answer}
use Rattle.phone_columns.specs.declared.body.Body.{Body}

-- a body that has the buffers of the rows' answers
abbrev pub IsBodyOf : Rules → List Metadata → (columns : List ℕ) → List Row → Body → Type 0
IsBodyOf rules db columns rows body = (answers : List Answer) × AreAnswers rules db rows answers ×
    HasBuffers (all_buffers rules db (columns_of columns) answers) body

pub written_all : (rules : Rules) (db : List Metadata) (columns : List ℕ) (rows : List Row) (body : Body) (places places_then : List Place)
    (out out_then : List ℕ) (wrote : ℕ) → IsBodyOf rules db columns rows body → IsWritten body.bytes.items out out_then wrote →
    ((count : ℕ) × IsWritten body.places.items places places_then count) → AreWritten rules db columns rows places places_then out out_then wrote
written_all rules db columns rows body places places_then out out_then wrote is bytes stand =
    let has = is.2 in
    record {
      answers = is.0;
      count = stand.0;
      are_theirs = is.1;
      bytes = subst (λ (bs : List ℕ). IsWritten bs out out_then wrote) has.bytes bytes;
      stand = subst (λ (ps : List Place). IsWritten ps places places_then stand.0) has.places stand.1;
    }

pub too_long : (rules : Rules) (db : List Metadata) (columns : List ℕ) (rows : List Row) (body : Body) (places : List Place)
    (out : List ℕ) (wrote : ℕ) → IsBodyOf rules db columns rows body →
    ((length out < length body.bytes.items) ⊎ (length places < length body.places.items)) → wrote ≡ length body.bytes.items →
    AreTooLong rules db columns rows places out wrote
too_long rules db columns rows body places out wrote is none told =
    let has = is.2 in
    record {
      answers = is.0;
      are_theirs = is.1;
      no_room = subst (λ (ps : List Place). (length out < length (flat_map padded (all_buffers rules db (columns_of columns) is.0))) ⊎ (length places < length ps)) has.places
          (subst (λ (bs : List ℕ). (length out < length bs) ⊎ (length places < length body.places.items)) has.bytes none);
      told = told ∙ ap length has.bytes;
    }
