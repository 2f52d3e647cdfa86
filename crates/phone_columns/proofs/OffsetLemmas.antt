-- The offset of one text more.
use Rattle.std.proofs.Common.{◌≡◌, ℕ, ◌+◌, ◌<◌, get_or, take, List, [], ◌∷◌, ◌++◌, length, map, refl, sym, ap, ◌∙◌, arith, length-append, append_assoc, append-nil}
use Rattle.std.proofs.lemmas.List.{take_more}
use Rattle.std.proofs.lemmas.List.Concat.{flat_map-append}
use Rattle.std.specs.Int.{w64, to_le_bytes}
use Rattle.std.specs.List.{flat_map}
use Rattle.phone_arrow.specs.Buffers.{ends_from, in_eight_bytes}
use Rattle.phone_columns.specs.Columns.{offsets_by}
use Rattle.phone_columns.specs.declared.answers.Answer.{Answer}
use Rattle.phone_columns.specs.declared.printed.Printed.{Printed}
use Rattle.phone_columns.specs.Cells.{text_of_row}
use Rattle.phone_columns.specs.Texts.{AreTexts, IsEmpty, IsOneMore}
use Rattle.phone_values.specs.declared.mode.Mode.{Mode}
use Rattle.phone_values.specs.declared.rules.Rules.{Rules}
use Rattle.phone_records.specs.declared.loader.Metadata.{Metadata}

ends_more : {X : Type 0} (f : X → List ℕ) (k : ℕ) (xs : List X) (x : X) →
    ends_from k (map f (xs ++ x ∷ [])) ≡ ends_from k (map f xs) ++ (k + length (flat_map f xs ++ f x)) ∷ []
ends_more f k [] x = refl
ends_more f k (y ∷ xs) x =
    let assoc : f y ++ (flat_map f xs ++ f x) ≡ (f y ++ flat_map f xs) ++ f x = sym (append_assoc (f y) (flat_map f xs) (f x)) in
    let len : length (f y ++ (flat_map f xs ++ f x)) ≡ length (f y) + length (flat_map f xs ++ f x) = length-append (f y) (flat_map f xs ++ f x) in
    let same : length (f y ++ (flat_map f xs ++ f x)) ≡ length ((f y ++ flat_map f xs) ++ f x) = ap length assoc in
    let e : (k + length (f y)) + length (flat_map f xs ++ f x) ≡ k + length ((f y ++ flat_map f xs) ++ f x) =
    omega (arith, len, same) in
    ap (λ (es : List ℕ). (k + length (f y)) ∷ es) (ends_more f (k + length (f y)) xs x) ∙
    ap (λ (n : ℕ). (k + length (f y)) ∷ (ends_from (k + length (f y)) (map f xs) ++ n ∷ [])) e

pub offsets_more : (f : Answer → List ℕ) (xs : List Answer) (x : Answer) →
    offsets_by f (xs ++ x ∷ []) ≡ offsets_by f xs ++ to_le_bytes w64 (length (flat_map f xs ++ f x))
offsets_more f xs x =
    let e : 0 + length (flat_map f xs ++ f x) ≡ length (flat_map f xs ++ f x) = omega arith in
    ap (λ (es : List ℕ). in_eight_bytes (0 ∷ es)) (ends_more f 0 xs x) ∙
    flat_map-append (to_le_bytes w64) (0 ∷ ends_from 0 (map f xs)) ((0 + length (flat_map f xs ++ f x)) ∷ []) ∙
    ap (λ (n : ℕ). offsets_by f xs ++ (to_le_bytes w64 n ++ [])) e ∙
    ap (λ (bs : List ℕ). offsets_by f xs ++ bs) (append-nil (to_le_bytes w64 (length (flat_map f xs ++ f x))))

-- one row more of the texts and their offsets
pub texts_more : (rules : Rules) (db : List Metadata) (mode : Mode) (all : List Answer) (i : ℕ) (x : Answer) (old new : Printed) →
    i < length all → x ≡ get_or all i x → AreTexts rules db mode (take i all) old → IsOneMore (text_of_row rules db mode x) old new →
    AreTexts rules db mode (take (i + 1) all) new
texts_more rules db mode all i x old new h at are more =
    let f = text_of_row rules db mode in
    let before = take i all in
    let rows : take (i + 1) all ≡ before ++ x ∷ [] = take_more all i x h ∙ ap (λ (y : Answer). before ++ y ∷ []) (sym at) in
    let end : new.texts.items ≡ flat_map f before ++ f x = more.texts ∙ ap (λ (ys : List ℕ). ys ++ f x) are.texts in
    let all_texts : flat_map f (before ++ x ∷ []) ≡ flat_map f before ++ (f x ++ []) = flat_map-append f before (x ∷ []) in
    let all_offsets : new.offsets.items ≡ offsets_by f before ++ to_le_bytes w64 (length (flat_map f before ++ f x)) =
    more.offsets ∙ ap (λ (ys : List ℕ). ys ++ to_le_bytes w64 (length new.texts.items)) are.offsets ∙
    ap (λ (ys : List ℕ). offsets_by f before ++ to_le_bytes w64 (length ys)) end in
    record {
      offsets = all_offsets ∙ sym (offsets_more f before x) ∙ ap (λ (ys : List Answer). offsets_by f ys) (sym rows);
      texts = end ∙ ap (λ (ys : List ℕ). flat_map f before ++ ys) (sym (append-nil (f x))) ∙ sym all_texts ∙
          ap (λ (ys : List Answer). flat_map f ys) (sym rows);
    }

-- no texts, and one offset
pub texts_none : (rules : Rules) (db : List Metadata) (mode : Mode) (printed : Printed) → IsEmpty printed →
    AreTexts rules db mode [] printed
texts_none rules db mode printed is =
    let e : in_eight_bytes (0 ∷ []) ≡ to_le_bytes w64 0 = append-nil (to_le_bytes w64 0) in
    record { offsets = is.offsets ∙ sym e; texts = is.texts }
