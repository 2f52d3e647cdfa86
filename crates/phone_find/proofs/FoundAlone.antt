-- A number that stands between a text in which none begins and one in which none ends is found alone.
use Rattle.std.proofs.Common.{◌≡◌, ℕ, ◌+◌, ◌-◌, ◌≤◌, true, List, []}
use Rattle.std.proofs.Common.{◌∷◌, ◌++◌, length, take, drop, slice_range, Option, Ok}
use Rattle.std.proofs.Common.{IsCharBoundary, IsUtf8, append_assoc, length-append, refl, ap, sym}
use Rattle.std.proofs.Common.{subst, ◌∙◌, arith, true≢false}
use Rattle.std.proofs.lemmas.List.{drop-drop, drop_at, take_at}
use Rattle.std.proofs.lemmas.Str.{IsCharBoundary-at_seam, IsUtf8-append, IsUtf8-take, chars-nil}
use Rattle.std.specs.Str.{chars}
use Rattle.phone_values.specs.declared.country.Id.{Id}
use Rattle.phone_find.specs.Sets.{is_last}
use Rattle.phone_parts.specs.Texts.{ends}
use Rattle.phone_records.specs.declared.loader.Metadata.{Metadata}
use Rattle.phone_engine.proofs.OneReading.{reading_same}
use Rattle.phone_engine.specs.Readings.{ReadsBy}
use Rattle.phone_values.specs.declared.rules.Rules.{Rules}
use Rattle.phone_values.specs.declared.reading.Reading.{Reading}
use Rattle.phone_find.proofs.Alone.{alone}
use Rattle.phone_find.proofs.Begins.{begin_opening, candidate_begins, candidate_last}
use Rattle.phone_find.proofs.Places.{piece_before, starts_behind}
use Rattle.phone_find.specs.Alone.{IsAmong, is_opening, placed}
use Rattle.phone_find.specs.Founds.{Stands}
use Rattle.phone_find.specs.Numbers.{AreNumbers, IsNumberAt, IsNumberBetween}
use Rattle.phone_find.specs.declared.leniency.Leniency.{Leniency}
use Rattle.phone_find.specs.declared.search.Found.{Found}

module _ (rules : Rules) (db : List Metadata) (hint : Option Id) (l : Leniency) (before piece after : List ℕ) (n :
    Reading) (among : IsAmong before piece after)
    (short : length piece ≤ 250) (is : IsNumberBetween rules db hint l before piece after n) where
  abbrev text : List ℕ
  text = before ++ (piece ++ after)

  abbrev start : ℕ
  start = length before

  abbrev end : ℕ
  end = length before + length piece

  abbrev place : Found Reading
  place = placed before piece n

  whole : text ≡ (before ++ piece) ++ after
  whole = sym (append_assoc before piece after)

  up_to : length (before ++ piece) ≡ end
  up_to = length-append before piece

  text_utf8 : IsUtf8 text
  text_utf8 = IsUtf8-append before (piece ++ after) among.before_utf8 (IsUtf8-append piece after
      among.piece_utf8 among.after_utf8)

  front_is : take start text ≡ before
  front_is = take_at before (piece ++ after) start refl

  rest_is : drop start text ≡ piece ++ after
  rest_is = drop_at before (piece ++ after) start refl

  piece_is : slice_range text start end ≡ piece
  piece_is = ap (take (end - start)) rest_is ∙ take_at piece after (end - start) (omega arith)

  end_is : drop end text ≡ after
  end_is = sym (drop-drop (length piece) start text) ∙ ap (drop (length piece)) rest_is
      ∙ drop_at piece after (length piece) refl

  -- the parts of what is between are those of the text
  accepted : IsNumberAt rules db hint l text start end n
  accepted =
      subst (λ t. IsNumberBetween rules db hint l t (slice_range text start end) (drop end text) n) (sym
      front_is)
      (subst (λ t. IsNumberBetween rules db hint l before t (drop end text) n) (sym piece_is)
      (subst (λ t. IsNumberBetween rules db hint l before piece t n) (sym end_is) is))

  ends_some : (t : List ℕ) → ends is_last (chars t) ≡ true → 1 ≤ length t
  ends_some [] e = absurd (true≢false (sym e ∙ ap (ends is_last) chars-nil))
  ends_some (c ∷ cs) e = omega arith

  some : 1 ≤ length piece
  some = ends_some piece (candidate_last (chars before) (chars piece) (chars after)
      is.candidate)

  stands : Stands (IsNumberAt rules db hint l text) text place
  stands = record {
    from_border = IsCharBoundary-at_seam text before (piece ++ after) refl (IsUtf8-append piece
        after among.piece_utf8 among.after_utf8);
    to_border = subst (λ i. IsCharBoundary text i) up_to (IsCharBoundary-at_seam text (before ++
        piece) after whole among.after_utf8);
    some = omega (arith, some);
    short = omega (arith, short);
    accepted = accepted;
  }

  inside : (g : Found Reading) → Stands (IsNumberAt rules db hint l text) text g →
      (start ≤ g.start) × (g.end ≤ end)
  inside g s = (
    starts_behind is_opening text before (piece ++ after) g.start refl among.before_utf8
        (IsUtf8-take text g.start text_utf8 s.from_border)
        among.no_opening (begin_opening (chars (take g.start text)) (chars (drop g.start text))
        (candidate_begins text g.start g.end text_utf8 s.some s.from_border s.to_border
        s.accepted.candidate)),
    subst (λ i. g.end ≤ i) up_to
        (piece_before is_last text (before ++ piece) after g.start g.end whole
        (IsUtf8-append before piece among.before_utf8 among.piece_utf8) among.after_utf8
        text_utf8 s.some
        s.from_border s.to_border among.no_last
        (candidate_last (chars (take g.start text)) (chars (slice_range text g.start g.end)) (chars
        (drop g.end text)) s.accepted.candidate)),
  )

  one : (m : Reading) → IsNumberAt rules db hint l text start end m → m ≡ n
  one m at =
      let read = subst (λ t. ReadsBy rules db hint (chars t) (Ok m)) piece_is at.number.read in
      let same : Ok m ≡ Ok n = reading_same rules db hint (chars piece) (Ok m) (Ok n) read is.number.read
      in cc

  pub found_alone : (all : List (Found Reading)) → AreNumbers rules db hint l text all → all ≡ place ∷ []
  found_alone = alone (IsNumberAt rules db hint l text) text place stands inside one
