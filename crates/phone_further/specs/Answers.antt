-- Our own answers to questions of libphonenumber, where its answers mislead.
use Rattle.std.specs.Prelude.{ℕ, ◌&&◌, Bool, if◌then◌else◌, List, None, is_some, unwrap_or}
use Rattle.phone_values.specs.declared.mode.Mode.{Mode}
use Rattle.phone_values.specs.declared.mode.Mode.TheVariants.{E164, International, National}
use Rattle.phone_values.specs.declared.mode.Mode.TheVariants.{Rfc3966}
use Rattle.phone_values.specs.declared.reading.Reading.{Reading}
use Rattle.phone_library.specs.Facts.{is_valid_number}
use Rattle.phone_records.specs.declared.loader.Format.{Format}
use Rattle.phone_records.specs.declared.loader.Metadata.{Metadata}
use Rattle.phone_questions.specs.Belonging.{is_dialled_from_abroad, territory_with}
use Rattle.phone_questions.specs.Regions.{main_region}
use Rattle.phone_dialling.specs.Mobile.{mobile_text}
use Rattle.phone_further.specs.OwnLayouts.{text_by_layouts}
use Rattle.phone_dialling.specs.Texts.{text_in}

-- each region of a calling code is at home for its numbers: the main one stands for all
abbrev pub home_id : List Metadata → List ℕ → ℕ → List ℕ
home_id db id code = if is_some (territory_with db id code)
    then unwrap_or (main_region db code) id else id

-- what a mobile phone dials in a region: in each region of the number's code what is dialled in the
-- main one
abbrev pub mobile_text_in : List Metadata → List ℕ → Bool → Reading → List ℕ
mobile_text_in db id symbols n = mobile_text db (home_id db id n.code.value) symbols None n

-- a number by layouts that are handed in: its E.164 text isn't laid out
abbrev pub own_layouts_text : List Metadata → Mode → List Format → Reading → List ℕ
own_layouts_text db E164 layouts n = text_in db E164 None n
own_layouts_text db International layouts n = text_by_layouts db International layouts n
own_layouts_text db National layouts n = text_by_layouts db National layouts n
own_layouts_text db Rfc3966 layouts n = text_by_layouts db Rfc3966 layouts n

-- a number can be dialled from abroad: it is valid, and its region doesn't say that it is dialled
-- at home alone
abbrev pub reaches_from_abroad : List Metadata → Reading → Bool
reaches_from_abroad db n = is_valid_number db n && is_dialled_from_abroad db n
