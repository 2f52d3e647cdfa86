-- Matches that libphonenumber's matcher found in a text: their pieces, their order, and their
-- territories.
use Rattle.std.proofs.Common.{◌≡◌, ◌+◌, ◌-◌, ◌<◌, ◌≤◌, ◌∷◌, ◌++◌, ◌∙◌, [], ℕ, List, Option, IsUtf8}
use Rattle.std.proofs.Common.{IsCharBoundary, ap, arith, chars, drop, length, length-append, map, refl}
use Rattle.std.proofs.Common.{inl, inr, slice_range, subst, sym, take}
use Rattle.std.proofs.Math.Seq.{drop-append_seam, take-add, take-append_seam}
use Rattle.std.proofs.lemmas.Bool.{cases_lt}
use Rattle.std.proofs.lemmas.List.{length-take-le}
use Rattle.std.proofs.lemmas.Str.{IsCharBoundary-at_seam, IsUtf8-take, chars-append, encodes-chars}
use Rattle.std.specs.List.{AllByRecursion}
use Rattle.std.specs.Str.{encode_utf8_all}
use Rattle.phone_chars.proofs.Runs.{IsUtf8-after}
use Rattle.phone_commands.specs.FoundLines.{HaveTerritories, found_of}
use Rattle.phone_engine.proofs.OneReading.{has_territory}
use Rattle.phone_matches.proofs.Accepted.{all_accepted}
use Rattle.phone_matches.specs.Numbers.{AreNumbersBy, IsNumberBy}
use Rattle.phone_matches.specs.Orders as orders
use Rattle.phone_matches.specs.declared.leniency.Leniency.{Leniency}
use Rattle.phone_matches.specs.Searches.{IsAccepted, Matched}
use Rattle.phone_matches.specs.Told.{told_matches}
use Rattle.phone_matches.specs.declared.places.Match.{Match}
use Rattle.phone_records.specs.declared.loader.Metadata.{Metadata}
use Rattle.phone_values.specs.declared.country.Id.{Id}
use Rattle.phone_values.specs.declared.reading.Reading.{Reading}
use Rattle.phone_values.specs.declared.rules.Rules.TheVariants.{Library}

-- bytes that are some characters are some
some_by : (bs cs : List ℕ) → chars bs ≡ cs → IsUtf8 bs → 0 < length bs → 0 < length cs
some_by bs [] e u h =
    let none = ap length (sym (encodes-chars bs u) ∙ ap encode_utf8_all e) in
    absurd (omega (arith, h, none))
some_by bs (c ∷ cs) e u h = omega arith

module _ (text before rest : List ℕ) (whole : text ≡ before ++ rest) (utf8 : IsUtf8 text)
    (front_utf8 : IsUtf8 before) where
  -- a text can be cut behind a front of it
  pub border : IsCharBoundary text (length before)
  border = IsCharBoundary-at_seam text before rest whole
      (IsUtf8-after before rest (subst IsUtf8 whole utf8) front_utf8)

  pub front_is : take (length before) text ≡ before
  front_is = ap (take (length before)) whole ∙ take-append_seam before rest

  -- up to a place behind it there are more characters
  beyond : (from : ℕ) → IsCharBoundary text from → length before < from →
      length (chars before) < length (chars (take from text))
  beyond from at h =
      let n = from - length before in
      let x = take n (drop (length before) text) in
      let e : length before + n ≡ from = omega (arith, h) in
      let cut : take from text ≡ before ++ x = ap (λ k. take k text) (sym e)
      ∙ take-add (length before) n text ∙ ap (λ t. t ++ x) front_is in
      let x_utf8 : IsUtf8 x =
      IsUtf8-after before x (subst IsUtf8 cut (IsUtf8-take text from utf8 at)) front_utf8 in
      let long = length-take-le from text at.0 in
      let bytes = ap length cut ∙ length-append before x in
      let all : length (chars (take from text)) ≡ length (chars before) + length (chars x) =
      ap (λ t. length (chars t)) cut ∙ ap length (chars-append before x front_utf8)
      ∙ length-append (chars before) (chars x) in
      let some = some_by x (chars x) refl x_utf8 (omega (arith, h, long, bytes)) in
      omega (arith, all, some)

  -- so a front with as many characters as another place, or more, doesn't end before that
  pub not_earlier : (from : ℕ) → IsCharBoundary text from →
      length (chars (take from text)) ≤ length (chars before) → from ≤ length before
  not_earlier from at fewer = elim (cases_lt (length before) from) [
    | inl h ↦ (let more = beyond from at h in absurd (omega (arith, more, fewer)))
    | inr h ↦ h
  ]

-- a piece that stands in a text is the bytes from its first to before its end
pub piece_at : (text before piece after : List ℕ) → text ≡ before ++ (piece ++ after) →
    slice_range text (length before) (length before + length piece) ≡ piece
piece_at text before piece after e =
    let n : (length before + length piece) - length before ≡ length piece = omega arith in
    ap (λ t. take ((length before + length piece) - length before) (drop (length before) t)) e
    ∙ ap (take ((length before + length piece) - length before))
    (drop-append_seam before (piece ++ after))
    ∙ ap (λ k. take k (piece ++ after)) n ∙ take-append_seam piece after

-- matches that are in their order from a place on are so from one in front of it
pub ordered-earlier : {N : Type 0} (from to : ℕ) (ms : List (Matched N)) → from ≤ to →
    orders.IsOrdered to ms → orders.IsOrdered from ms
ordered-earlier from to [] less o = tt
ordered-earlier from to (m ∷ ms) less o = (let first = o.0 in omega (arith, less, first), o.1)

-- the calling codes of numbers that match have territories
module _ (db alternates : List Metadata) (hint : Option Id) (l : Leniency) (text : List ℕ) where
  listed : (ms : List (Match Reading)) → AllByRecursion (λ (m : Matched Reading).
      IsAccepted (IsNumberBy db alternates hint l) text m.0 m.1) (told_matches ms) →
      HaveTerritories db (map found_of ms)
  listed [] h = tt
  listed (m ∷ ms) h = (
    has_territory Library db hint (chars m.place.text.now) m.number h.0.number.read,
    listed ms h.1,
  )

  pub match-territories : (tries : ℕ) (ms : List (Match Reading)) →
      AreNumbersBy db alternates hint l tries text (told_matches ms) →
      HaveTerritories db (map found_of ms)
  match-territories tries ms are = listed ms
      (all_accepted (IsNumberBy db alternates hint l) text tries text (told_matches ms) are)
