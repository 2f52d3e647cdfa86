-- What is dialled of printed texts.
use Rattle.std.proofs.Common.{◌≡◌, ◌&&◌, ℕ, Bool, true, false, List, [], Option, None, Some, option_map, unwrap_or, refl, ap, sym, ◌∙◌}
use Rattle.std.proofs.lemmas.Bool.{cond_both, cond-false, cond-true}
use Rattle.std.proofs.lemmas.Slice.Eq.{bytes_eq-Decides}
use Rattle.std.specs.Option.{option_map_or}
use Rattle.std.specs.Str.{bytes_eq}
use Rattle.phone_values.specs.declared.country.Id.{Id}
use Rattle.phone_values.specs.declared.reading.Reading.{Reading}
use Rattle.phone_library.specs.Facts.{is_valid_number, kind_of_number}
use Rattle.phone_plans.specs.CodeLookUps.{first_of, territories}
use Rattle.phone_values.specs.declared.mode.Mode.TheVariants.{E164}
use Rattle.phone_print.specs.Texts.{e164_text, text_by_rules}
use Rattle.phone_values.specs.declared.rules.Rules.TheVariants.{Library}
use Rattle.phone_records.specs.declared.loader.Metadata.{Metadata}
use Rattle.phone_territory.specs.Records.{id_of}
use Rattle.phone_questions.specs.Belonging.{is_dialled_from_abroad}
use Rattle.phone_dialling.specs.Mobile.{dialled_part, mobile_text, mobile_way, text_by_way, way_at_home, way_elsewhere}
use Rattle.phone_dialling.specs.Original
use Rattle.phone_dialling.specs.Original.{IsOriginal, dialled_of, unless_changed}
use Rattle.phone_dialling.specs.Texts.{plain}
use Rattle.phone_dialling.specs.declared.mobile.MobileWay.TheVariants.{Abroad}

unless_changed-dialled : (raw t : List ℕ) → dialled_of (unless_changed raw t) ≡ dialled_of raw
unless_changed-dialled raw t = cond_both (bytes_eq (dialled_of t) (dialled_of raw)) t raw (λ s. dialled_of s ≡ dialled_of raw)
    (λ e. (bytes_eq-Decides (dialled_of t) (dialled_of raw)).0 e) (λ e. refl)

pub original_dialled : (db : List Metadata) (from : Option Id) (n : Reading) (raw t : List ℕ) →
    IsOriginal db from n (Some raw) t → dialled_of t ≡ dialled_of raw
original_dialled db from n raw t (Original.unlisted _ e) = refl
original_dialled db from n raw t (Original.unlaid _ m e f) = refl
original_dialled db from n raw t (Original.laid _ s m f e g h) = unless_changed-dialled raw s

way_abroad : (db : List Metadata) (m : Metadata) (id : List ℕ) (n : Reading) → bytes_eq (id_of m) id ≡ false →
    is_valid_number db n ≡ true → is_dialled_from_abroad db n ≡ true → mobile_way db id n m ≡ Abroad
way_abroad db m id n other valid far =
    cond-false (bytes_eq (id_of m) id) (way_at_home m (kind_of_number db n) (is_dialled_from_abroad db n) n) _ other
    ∙ cond-true _ _ _ (ap (λ b. b && is_dialled_from_abroad db n) valid ∙ far)

-- without text and extension a number of a listed code has its E.164 text
e164_plain : (db : List Metadata) (m : Metadata) (n : Reading) → first_of (territories n.code.value db) ≡ Some m →
    text_by_way db false None n Abroad ≡ e164_text n
e164_plain db m n first =
    ap (λ (o : Option Metadata). unwrap_or (option_map (λ k. text_by_rules Library k E164 None (plain (dialled_part n))) o) (e164_text n)) first

pub mobile_abroad : (db : List Metadata) (m : Metadata) (id : List ℕ) (n : Reading) → first_of (territories n.code.value db) ≡ Some m →
    bytes_eq (id_of m) id ≡ false → is_valid_number db n ≡ true → is_dialled_from_abroad db n ≡ true →
    mobile_text db id false None n ≡ e164_text n
mobile_abroad db m id n first other valid far =
    ap (λ (o : Option Metadata). option_map_or (λ k. text_by_way db false None n (mobile_way db id n k)) o []) first
    ∙ ap (text_by_way db false None n) (way_abroad db m id n other valid far)
    ∙ e164_plain db m n first
