-- A column tells one text of a field.
use Rattle.std.proofs.Common.{◌≡◌, inl, inr, ℕ, List, ◌∷◌, ◌++◌, take}
use Rattle.std.proofs.Common.{Bool, true, false, length}
use Rattle.std.proofs.Common.{Option, None, Some, chars, refl, subst, sym, ap, ap₂, ◌∙◌, arith, unwrap_or}
use Rattle.std.specs.Borrow.{Bor}
use Rattle.std.specs.Option.{option_copied}
use Rattle.std.specs.Result.{result_ok}
use Rattle.std.proofs.Math.Seq.{take-append_seam}
use Rattle.std.proofs.lemmas.Option.{same_Some}
use Rattle.phone_values.specs.declared.country.Id.{Id}
use Rattle.phone_values.specs.declared.reading.Reading.{Reading}
use Rattle.phone_values.specs.declared.rules.Rules.{Rules}
use Rattle.phone_csv.specs.Formats.{Record}
use Rattle.phone_engine.specs.Facts.{kind_by, region_by}
use Rattle.phone_engine.proofs.OneReading.{reading_same}
use Rattle.phone_languages.specs.Told.{IsTextIn, told as text_told}
use Rattle.phone_places.specs.Maps.{digits_of}
use Rattle.phone_places.specs.Areas.{IsOther, behind_token}
use Rattle.phone_prefixes.specs.Tables.{Entry, IsLongest}
use Rattle.phone_values.specs.Numbers.{text_of}
use Rattle.phone_values.specs.declared.country.Id.TheVariants.{AR}
use Rattle.phone_values.specs.declared.kind.«Type».{«Type»}
use Rattle.phone_values.specs.declared.rules.Rules.TheVariants.{Library}
use Rattle.phone_records.specs.declared.loader.Metadata.{Metadata}
use Rattle.phone_answers.specs.Extras.{AreTold, EachHasOneText, HaveOneText, IsAreaIn, IsFound, IsIf, IsOfTables, IsPartOr, IsSpoken, IsTold, entries_in, part_of}
use Rattle.phone_answers.specs.Extras.{IsSuspicion, IsToldBeside, IsToldBy, IsToldIf, split_in, tells_doubts, zone_digits}
use Rattle.phone_answers.specs.declared.extra.Told.{Told}
use Rattle.phone_answers.specs.declared.extra.Told.TheVariants as kind
use Rattle.phone_answers.specs.Splits.{IsSplit, IsSplitText, one_of, shown_of}
use Rattle.phone_answers.specs.Splits.IsSplitText.{no_pair, pair}
use Rattle.phone_answers.specs.declared.split.Shown.{Shown}
use Rattle.phone_answers.specs.declared.split.Which.{Which}
use Rattle.phone_answers.specs.declared.split.Which.TheVariants.{First, Second}
use Rattle.phone_doubts.proofs.PairLaws.{pair_same}
use Rattle.phone_plans.specs.CodeLookUps.{first_of, territories}
use Rattle.phone_doubts.proofs.Answered.{answer_same as words_same}
use Rattle.phone_answers.specs.Extras.AreTold.{none as told_none, next as told_next}
use Rattle.phone_answers.specs.declared.extra.Extra.{Extra}

-- of each prefix the tables of a column have one text
abbrev HasOneText : Extra → Type 0
HasOneText c = HaveOneText (entries_in c.table) × HaveOneText (entries_in c.own)

-- two fronts of one text that are as long are one
front_same : (a b u v : List ℕ) → a ++ u ≡ b ++ v → length a ≡ length b → a ≡ b
front_same a b u v e l =
    sym (take-append_seam a u) ∙ ap₂ (λ n t. take n t) l e ∙ take-append_seam b v

-- where each prefix has one text, two longest prefixes of one text have one
longest_same : (entries : List Entry) → HaveOneText entries → (digits p q a b : List ℕ) →
    IsLongest entries digits (record { prefix = p; text = a }) →
    IsLongest entries digits (record { prefix = q; text = b }) → a ≡ b
longest_same entries one digits p q a b l m =
    let up = l.longest (record { prefix = q; text = b }) m.is m.begins in
    let down = m.longest (record { prefix = p; text = a }) l.is l.begins in
    one (record { prefix = p; text = a }) (record { prefix = q; text = b }) l.is m.is
    (front_same p q l.begins.0 m.begins.0 (sym l.begins.1 ∙ m.begins.1)
    (omega (arith, up, down)))

-- one text is found in a table where each prefix has one
found_same : (entries : List Entry) → HaveOneText entries → (o : Option (List ℕ)) (a b : List ℕ) →
    IsFound entries o a → IsFound entries o b → a ≡ b
found_same entries one None a b h g = h ∙ sym g
found_same entries one (Some digits) a b (inl (p, l)) (inl (q, m)) = longest_same entries one digits p q a b l m
found_same entries one (Some digits) a b (inl (p, l)) (inr (none, e)) =
    absurd (none (record { prefix = p; text = a }) l.is l.begins)
found_same entries one (Some digits) a b (inr (none, e)) (inl (q, m)) =
    absurd (none (record { prefix = q; text = b }) m.is m.begins)
found_same entries one (Some digits) a b (inr (none, e)) (inr (other, f)) = e ∙ sym f

-- so in a table that may be there
text_same : (table : Option (Bor (List Entry))) → HaveOneText (entries_in table) → (digits : List ℕ) (a b : Option (List ℕ)) →
    IsTextIn (option_copied table) digits a → IsTextIn (option_copied table) digits b → a ≡ b
text_same None one digits a b h g = h ∙ sym g
text_same (Some table) one digits None None h g = refl
text_same (Some table) one digits (Some a) None (p, l) g = absurd (g (record { prefix = p; text = a }) l.is l.begins)
text_same (Some table) one digits None (Some b) h (q, m) = absurd (h (record { prefix = q; text = b }) m.is m.begins)
text_same (Some table) one digits (Some a) (Some b) (p, l) (q, m) = ap Some (longest_same table.now one digits p q a b l m)

-- and in a locale, by two tables
spoken_same : (c : Extra) → HasOneText c → (digits a b : List ℕ) →
    IsSpoken c digits a → IsSpoken c digits b → a ≡ b
spoken_same c one digits a b (x, y, own, english, e) (u, v, same, other, f) =
    e ∙ ap₂ (text_told c.locale.now) (text_same c.own one.1 digits x u own same) (text_same c.table one.0 digits y v english other) ∙ sym f

-- what holds of one text alone holds of one alone, or is a part
if_one : (b : Bool) (IsSo : List ℕ → Type 0) → ((a b : List ℕ) → IsSo a → IsSo b → a ≡ b) → (a c : List ℕ) → IsIf b IsSo a → IsIf b IsSo c → a ≡ c
if_one true IsSo same a c h g = same a c h g
if_one false IsSo same a c h g = h ∙ sym g

part_same : (part : Option (List ℕ)) (IsSo : List ℕ → Type 0) → ((a b : List ℕ) → IsSo a → IsSo b → a ≡ b) → (a b : List ℕ) →
    IsPartOr part IsSo a → IsPartOr part IsSo b → a ≡ b
part_same (Some part) IsSo same a b h g = h ∙ sym g
part_same None IsSo same a b h g = same a b h g

module _ (rules : Rules) (db : List Metadata) where
  -- a field has one text of words
  suspicion_same : (under : Option (Option Id)) (field : List ℕ) (number : Option Reading) (a b : List ℕ) →
      IsSuspicion rules db under field number a → IsSuspicion rules db under field number b → a ≡ b
  suspicion_same None field number a b h g = h ∙ sym g
  suspicion_same (Some hint) field number a b (inl (u, h)) (inl (v, g)) = words_same rules db hint field number a b h g
  suspicion_same (Some hint) field number a b (inl (u, h)) (inr (v, g)) = absurd (v u)
  suspicion_same (Some hint) field number a b (inr (u, h)) (inl (v, g)) = absurd (u v)
  suspicion_same (Some hint) field number a b (inr (u, h)) (inr (v, g)) = h ∙ sym g

  -- a text is read as one number in Argentina
  other_same : (digits : Option (List ℕ)) (m k : Option Reading) → IsOther db digits m → IsOther db digits k → m ≡ k
  other_same None m k h g = h ∙ sym g
  other_same (Some digits) m k (r, read, e) (s, other, f) =
      e ∙ ap result_ok (reading_same Library db (Some AR) (chars digits) r s read other) ∙ sym f

  area_same : (c : Extra) → HasOneText c → (n : Reading) (a b : List ℕ) → IsAreaIn db c n a → IsAreaIn db c n b → a ≡ b
  area_same c one n a b (m, is, h) (k, it, g) = spoken_same c one (digits_of (unwrap_or k n)) a b
      (subst (λ x. IsSpoken c (digits_of (unwrap_or x n)) a) (other_same (behind_token n.code.value (text_of n.national)) m k is it) h) g

  -- a column's tables tell one text of a number
  tables_same : (c : Extra) → HasOneText c → (told : Told) (type : «Type») (region : Option Id) (n : Reading) (a b : List ℕ) →
      IsOfTables db c told type region n a → IsOfTables db c told type region n b → a ≡ b
  tables_same c one kind.Prefix type region n a b h g = found_same (entries_in c.table) one.0 (Some (digits_of n)) a b h g
  tables_same c one kind.TimeZones type region n a b h g = found_same (entries_in c.table) one.0 (zone_digits type n) a b h g
  tables_same c one (kind.Carrier owner) type region n a b h g = if_one _ (IsSpoken c (digits_of n)) (spoken_same c one (digits_of n)) a b h g
  tables_same c one kind.Area type region n a b h g = if_one _ (IsAreaIn db c n) (area_same c one n) a b h g
  tables_same c one (kind.Part part) type region n a b h g = h ∙ sym g
  tables_same c one kind.Doubts type region n a b h g = h ∙ sym g
  tables_same c one (kind.Split which shown) type region n a b h g = h ∙ sym g

  -- and one is told of its number
  by_same : (under : Option (Option Id)) (field : List ℕ) (column : Extra) → HasOneText column → (number : Option Reading)
      (a b : List ℕ) → IsToldBy rules db under field number column a → IsToldBy rules db under field number column b → a ≡ b
  by_same under field column one None a b h g = h ∙ sym g
  by_same under field column one (Some n) a b h g =
      part_same (part_of rules db column.told n) _ (tables_same column one column.told (kind_by rules db n) (region_by rules db n) n) a b h g

  -- of one of two numbers one thing is told
  one_same : (which : Which) (n k x y : Reading) → n ≡ x → k ≡ y → one_of which n k ≡ one_of which x y
  one_same First n k x y e f = e
  one_same Second n k x y e f = f

  shown_same : (shown : Shown) (n k : Reading) (m l : Metadata) → n ≡ k → first_of (territories n.code.value db) ≡ Some m →
      first_of (territories k.code.value db) ≡ Some l → shown_of rules db m n shown ≡ shown_of rules db l k shown
  shown_same shown n k m l e f g = ap₂ (λ (x : Metadata) (y : Reading). shown_of rules db x y shown)
      (same_Some m l (sym f ∙ ap (λ (r : Reading). first_of (territories r.code.value db)) e ∙ g)) e

  split_text_same : (hint : Option Id) (t : List ℕ) (which : Which) (shown : Shown) (a b : List ℕ) →
      IsSplitText rules db hint t which shown a → IsSplitText rules db hint t which shown b → a ≡ b
  split_text_same hint t which shown _ _ (no_pair none) (no_pair other) = refl
  split_text_same hint t which shown _ _ (no_pair none) (pair n k text are is) = absurd (none are.first are.second are.texts.numbers)
  split_text_same hint t which shown _ _ (pair n k text are is) (no_pair none) = absurd (none are.first are.second are.texts.numbers)
  split_text_same hint t which shown _ _ (pair n k a are is) (pair x y b those it) =
      let same = pair_same rules db hint t n k x y are those in
      is.2 ∙ shown_same shown (one_of which n k) (one_of which x y) is.0 it.0 (one_same which n k x y same.0 same.1) is.1 it.1 ∙ sym it.2

  split_same : (under : Option (Option Id)) (field : List ℕ) (which : Which) (shown : Shown) (a b : List ℕ) →
      IsSplit rules db under field which shown a → IsSplit rules db under field which shown b → a ≡ b
  split_same None field which shown a b h g = h ∙ sym g
  split_same (Some hint) field which shown a b (inl (u, h)) (inl (v, g)) = split_text_same hint _ which shown a b h g
  split_same (Some hint) field which shown a b (inl (u, h)) (inr (v, g)) = absurd (v u)
  split_same (Some hint) field which shown a b (inr (u, h)) (inl (v, g)) = absurd (u v)
  split_same (Some hint) field which shown a b (inr (u, h)) (inr (v, g)) = h ∙ sym g

  beside_same : (under : Option (Option Id)) (field : List ℕ) (column : Extra) → HasOneText column → (number : Option Reading)
      (split : Option (Which × Shown)) (a b : List ℕ) → IsToldBeside split rules db under field number column a → IsToldBeside split rules db under field number column b → a ≡ b
  beside_same under field column one number (Some (which, shown)) a b h g = split_same under field which shown a b h g
  beside_same under field column one number None a b h g = by_same under field column one number a b h g

  if_same : (under : Option (Option Id)) (field : List ℕ) (column : Extra) → HasOneText column → (number : Option Reading)
      (doubts : Bool) (a b : List ℕ) → IsToldIf doubts rules db under field number column a → IsToldIf doubts rules db under field number column b → a ≡ b
  if_same under field column one number true a b h g = suspicion_same under field number a b h g
  if_same under field column one number false a b h g = beside_same under field column one number (split_in column.told) a b h g

  -- a column tells one text
  told_same : (under : Option (Option Id)) (field : List ℕ) (column : Extra) → HasOneText column → (number : Option Reading)
      (a b : List ℕ) → IsTold rules db under field number column a → IsTold rules db under field number column b → a ≡ b
  told_same under field column one number a b h g = if_same under field column one number (tells_doubts column.told) a b h g

  -- and columns one each
  pub all_told_same : (under : Option (Option Id)) (field : List ℕ) (number : Option Reading) (columns : List Extra) (a b : Record) →
      EachHasOneText columns → AreTold rules db under field number columns a →
      AreTold rules db under field number columns b → a ≡ b
  all_told_same under field number _ _ _ one told_none told_none = refl
  all_told_same under field number _ _ _ one (told_next c cs t ts h hs) (told_next _ _ u us g gs) =
      ap₂ (λ x xs. x ∷ xs) (told_same under field c one.0 number t u h g)
      (all_told_same under field number cs ts us one.1 hs gs)
