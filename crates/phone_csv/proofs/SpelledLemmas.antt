-- The text of a record, as it grows.
use Rattle.std.proofs.Common.{◌≡◌, ◌<◌, ◌≤◌, ◌+◌, ◌==◌, ℕ, List, [], ◌∷◌, ◌++◌, length, take, get_or, if◌then◌else◌, append_assoc, length-append, ne_eqb, arith, refl, sym, ap, ◌∙◌}
use Rattle.std.proofs.lemmas.List.{append-nil, take_all}
use Rattle.csv.proofs.WriteFacts.{escaped-double, escaped-other, quoted-step, row-step}
use Rattle.csv.specs.Writing.{escaped, field_text, fields_text, is_blank, next_sep, quoted, row_body}
use Rattle.phone_csv.specs.Formats.{Record, end_text, record_text, writing}
use Rattle.phone_csv.specs.declared.format.Format.{Format}

pub escaped_quote : (d b : ℕ) → b ≡ 34 → escaped (writing d) (b ∷ []) ≡ 34 ∷ 34 ∷ []
escaped_quote d b e = escaped-double (writing d) b e refl ∙ ap (λ x. x ∷ x ∷ []) e

pub escaped_other : (d b : ℕ) → (b ≡ 34 → ⊥) → escaped (writing d) (b ∷ []) ≡ b ∷ []
escaped_other d b n = escaped-other (writing d) b n

pub quoted_begun : (d : ℕ) (before new field : List ℕ) → new ≡ before ++ 34 ∷ [] → new ≡ before ++ 34 ∷ escaped (writing d) (take 0 field)
unfolding escaped
quoted_begun d before new field is = is

pub quoted_more : (d : ℕ) (before old new field : List ℕ) (i : ℕ) → i < length field → old ≡ before ++ 34 ∷ escaped (writing d) (take i field) →
    new ≡ old ++ escaped (writing d) (get_or field i 0 ∷ []) → new ≡ before ++ 34 ∷ escaped (writing d) (take (i + 1) field)
quoted_more d before old new field i lt was is =
    is ∙ ap (λ t. t ++ escaped (writing d) (get_or field i 0 ∷ [])) was
    ∙ append_assoc before (34 ∷ escaped (writing d) (take i field)) (escaped (writing d) (get_or field i 0 ∷ []))
    ∙ ap (λ t. before ++ t) (quoted-step (writing d) 34 field i lt)

pub quoted_whole : (d : ℕ) (before old new field : List ℕ) (i : ℕ) → length field ≤ i → old ≡ before ++ 34 ∷ escaped (writing d) (take i field) →
    new ≡ old ++ 34 ∷ [] → new ≡ before ++ quoted (writing d) field
quoted_whole d before old new field i le was is =
    is ∙ ap (λ t. t ++ 34 ∷ []) was
    ∙ append_assoc before (34 ∷ escaped (writing d) (take i field)) (34 ∷ [])
    ∙ ap (λ f. before ++ 34 ∷ (escaped (writing d) f ++ 34 ∷ [])) (take_all _ _ le)

pub fields_more : (d : ℕ) (before old new field : List ℕ) (rows : Record) (i : ℕ) → i < length rows → get_or rows i [] ≡ field →
    old ≡ before ++ row_body (writing d) (take i rows) → new ≡ old ++ (next_sep (writing d) i ++ field_text (writing d) field) →
    new ≡ before ++ row_body (writing d) (take (i + 1) rows)
fields_more d before old new field rows i lt same was is =
    is ∙ ap (λ t. t ++ (next_sep (writing d) i ++ field_text (writing d) field)) was
    ∙ append_assoc before (row_body (writing d) (take i rows)) (next_sep (writing d) i ++ field_text (writing d) field)
    ∙ ap (λ f. before ++ (row_body (writing d) (take i rows) ++ (next_sep (writing d) i ++ field_text (writing d) f))) (sym same)
    ∙ ap (λ t. before ++ t) (sym (row-step (writing d) rows i lt))

pub fields_whole : (d : ℕ) (before new : List ℕ) (rows : Record) (i : ℕ) → length rows ≤ i → new ≡ before ++ row_body (writing d) (take i rows) →
    new ≡ before ++ row_body (writing d) rows
fields_whole d before new rows i le is = is ∙ ap (λ f. before ++ row_body (writing d) f) (take_all _ _ le)

-- a record is blank where its text is empty
pub blank_body : (d : ℕ) (rows : Record) → (length (row_body (writing d) rows) == 0) ≡ is_blank (writing d) rows
unfolding is_blank fields_text
blank_body d [] = refl
blank_body d (f ∷ []) = ap (λ (t : List ℕ). length t == 0) (append-nil (field_text (writing d) f))
blank_body d (f ∷ g ∷ rows) =
    let e = length-append (field_text (writing d) f) (fields_text (writing d) (g ∷ rows)) in
    ne_eqb _ 0 (λ z. omega (arith, e, z))

pub record_whole : (format : Format) (body shown new : List ℕ) (rows : Record) → body ≡ [] ++ row_body (writing format.delimiter) rows →
    shown ≡ body ++ (if length body == 0 then 34 ∷ 34 ∷ [] else []) → new ≡ shown ++ end_text format.line_end → new ≡ record_text format rows
record_whole format body shown new rows was is ended =
    let d = format.delimiter in
    ended ∙ ap (λ t. t ++ end_text format.line_end) (is
    ∙ ap (λ (t : List ℕ). t ++ (if length t == 0 then 34 ∷ 34 ∷ [] else [])) was
    ∙ ap (λ b. row_body (writing d) rows ++ (if b then 34 ∷ 34 ∷ [] else [])) (blank_body d rows))
