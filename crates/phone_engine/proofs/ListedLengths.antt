-- A number of a kind that lists its lengths has one of the lengths that count.
use Rattle.std.proofs.Common.{◌≡◌, ℕ, ◌==◌, ◌||◌, not, Bool, true, false, cond, if◌then◌else◌, List, [], ◌∷◌, length, map, Option, None, Some, refl, ap, sym, ◌∙◌, true≢false}
use Rattle.std.proofs.lemmas.Bool.{and_parts, cond-true}
use Rattle.std.proofs.lemmas.List.Folds.{list_any-append}
use Rattle.std.specs.List.{filter_map, find, flat_map}
use Rattle.std.specs.Option.{option_map_or, option_or}
use Rattle.phone_values.specs.Numbers.{text_of}
use Rattle.phone_values.specs.declared.kind.«Type».{«Type»}
use Rattle.phone_values.specs.declared.kind.«Type».TheVariants as kind
use Rattle.phone_plans.specs.CodeLookUps.{first_of, territories}
use Rattle.phone_territory.specs.Kinds.{Kinds, descriptor_for, kinds_of}
use Rattle.phone_territory.specs.Records.{allows_length, matches, pattern_of}
use Rattle.phone_territory.specs.First.{at_start}
use Rattle.phone_records.specs.declared.loader.Descriptor.{Descriptor}
use Rattle.phone_records.specs.declared.loader.Metadata.{Metadata}
use Rattle.phone_read.specs.Kinds.{is_of}
use Rattle.phone_read.specs.Regions.{home}
use Rattle.phone_read.specs.Kinds.{is_known, is_one_pattern, line_or_mobile, tried_kinds, type_of}
use Rattle.phone_values.specs.declared.reading.Reading.{Reading}
use Rattle.phonenumber.specs.Queries.{is_valid}
use Rattle.phone_engine.specs.Possibilities.{counting_descriptors, has_listed_kind, is_among, kind_descriptors}
use Rattle.phone_engine.specs.Possibilities.{lengths_of, lists_lengths, possibility_by_crate, possibility_under}
use Rattle.phone_engine.specs.declared.possibilities.Possibility.TheVariants.{Possible, UnknownCode}

abbrev lengths_in : List Descriptor → List ℕ
lengths_in ds = flat_map (λ (d : Descriptor). d.possible_length) ds

or_right : (a b : Bool) → b ≡ true → (a || b) ≡ true
or_right true b h = refl
or_right false b h = h

or_left : (a b : Bool) → a ≡ true → (a || b) ≡ true
or_left true b h = refl
or_left false b h = absurd (true≢false (sym h))

-- of an allowed length and listed lengths: it is listed
allowed_if_listed : (empty listed : Bool) → (empty || listed) ≡ true → not empty ≡ true → listed ≡ true
allowed_if_listed true listed some given = absurd (true≢false (sym given))
allowed_if_listed false listed some given = some

-- a descriptor that lists lengths and matches digits lists their count
listed_by : (d : Descriptor) (digits : List ℕ) → matches d digits ≡ true → lists_lengths d ≡ true → is_among (length digits) d.possible_length ≡ true
listed_by d digits is lists =
    allowed_if_listed (length d.possible_length == 0) (is_among (length digits) d.possible_length)
    (and_parts (allows_length d (length digits)) (at_start (pattern_of d) digits) is).0 lists

-- a length among those of one descriptor is among those of a list with it in front, and of one more
among_first : (n : ℕ) (d : Descriptor) (ds : List Descriptor) → is_among n d.possible_length ≡ true → is_among n (lengths_in (d ∷ ds)) ≡ true
among_first n d ds h = list_any-append (λ l. l == n) d.possible_length (lengths_in ds) ∙ or_left _ _ h

among_more : (n : ℕ) (d : Descriptor) (ds : List Descriptor) → is_among n (lengths_in ds) ≡ true → is_among n (lengths_in (d ∷ ds)) ≡ true
among_more n d ds h = list_any-append (λ l. l == n) d.possible_length (lengths_in ds) ∙ or_right (is_among n d.possible_length) _ h

-- a kind with its descriptor
abbrev Tried : Type 0
Tried = «Type» × Option Descriptor

-- of the descriptors of some kinds: the first that matches, if it lists lengths, lists the count
module _ (digits : List ℕ) where
  step : (k : Tried) (ks : List Tried) (o : Option Descriptor) → k.1 ≡ o → is_among (length digits) (lengths_in (filter_map (λ (j : Tried). j.1) ks)) ≡ true →
      is_among (length digits) (lengths_in (filter_map (λ (j : Tried). j.1) (k ∷ ks))) ≡ true
  step k ks None e rest = rw e rest
  step k ks (Some d) e rest = rw e (among_more (length digits) d (filter_map (λ (j : Tried). j.1) ks) rest)

  here : (k : Tried) (ks : List Tried) (o : Option Descriptor) → k.1 ≡ o → is_of o digits ≡ true → option_map_or lists_lengths o false ≡ true →
      is_among (length digits) (lengths_in (filter_map (λ (j : Tried). j.1) (k ∷ ks))) ≡ true
  here k ks None e is lists = absurd (true≢false (sym is))
  here k ks (Some d) e is lists = rw e (among_first (length digits) d (filter_map (λ (j : Tried). j.1) ks) (listed_by d digits is lists))

  pub among_found : (ks : List Tried) (k : Tried) → find (λ (j : Tried). is_of j.1 digits) ks ≡ Some k → option_map_or lists_lengths k.1 false ≡ true →
      is_among (length digits) (lengths_in (filter_map (λ (j : Tried). j.1) ks)) ≡ true
  among_found [] k found lists = absurd (nothing k found)
    where
      nothing : (x : Tried) → ¬ (None ≡ Some x)
      nothing x e = cc
  among_found (j ∷ js) k found lists = at (λ later. among_found js k later lists) (is_of j.1 digits) refl
    where
      at : (find (λ (i : Tried). is_of i.1 digits) js ≡ Some k → is_among (length digits) (lengths_in (filter_map (λ (i : Tried). i.1) js)) ≡ true) →
          (b : Bool) → is_of j.1 digits ≡ b → is_among (length digits) (lengths_in (filter_map (λ (i : Tried). i.1) (j ∷ js))) ≡ true
      at rest true e =
          let same : Some j ≡ Some k = sym (ap (λ b. cond b (Some j) (find (λ (j : Tried). is_of j.1 digits) js)) e) ∙ found in
          let is_k : j ≡ k = cc in
          here j js j.1 refl e (ap (λ (i : Tried). option_map_or lists_lengths i.1 false) is_k ∙ lists)
      at rest false e =
          let later : find (λ (j : Tried). is_of j.1 digits) js ≡ Some k = sym (ap (λ b. cond b (Some j) (find (λ (j : Tried). is_of j.1 digits) js)) e) ∙ found in
          step j js j.1 refl (rest later)

-- a kind that is found among kinds with their descriptors has its own
pub own_descriptor : (m : Metadata) (p : Tried → Bool) (ks : List «Type») (k : Tried) → find p (map (λ i. (i, descriptor_for i (kinds_of m))) ks) ≡ Some k →
    k.1 ≡ descriptor_for k.0 (kinds_of m)
own_descriptor m p [] k found = absurd (nothing k found)
  where
    nothing : (x : Tried) → ¬ (None ≡ Some x)
    nothing x e = cc
own_descriptor m p (i ∷ is) k found = at (own_descriptor m p is k) (p (i, descriptor_for i (kinds_of m))) refl
  where
    at : (find p (map (λ j. (j, descriptor_for j (kinds_of m))) is) ≡ Some k → k.1 ≡ descriptor_for k.0 (kinds_of m)) →
        (b : Bool) → p (i, descriptor_for i (kinds_of m)) ≡ b → k.1 ≡ descriptor_for k.0 (kinds_of m)
    at rest true e =
        let one : Tried = (i, descriptor_for i (kinds_of m)) in
        let same : Some one ≡ Some k = sym (ap (λ b. cond b (Some one) (find p (map (λ j. (j, descriptor_for j (kinds_of m))) is))) e) ∙ found in
        let is_k : one ≡ k = cc in
        sym (ap (λ (t : Tried). t.1) is_k) ∙ ap (λ (t : Tried). descriptor_for t.0 (kinds_of m)) is_k
    at rest false e =
        let one : Tried = (i, descriptor_for i (kinds_of m)) in
        rest (sym (ap (λ b. cond b (Some one) (find p (map (λ j. (j, descriptor_for j (kinds_of m))) is))) e) ∙ found)

abbrev ten_kinds : List «Type»
ten_kinds = kind.PremiumRate ∷ kind.TollFree ∷ kind.SharedCost ∷ kind.Voip ∷ kind.PersonalNumber ∷ kind.Pager ∷ kind.Uan ∷ kind.Voicemail ∷ kind.FixedLine ∷ kind.Mobile ∷ []

-- a fixed line that may be a mobile has the fixed line's descriptor
line_descriptor : (b : Bool) (ks : Kinds) → descriptor_for (if b then kind.FixedLineOrMobile else kind.FixedLine) ks ≡ ks.fixed_line
line_descriptor true ks = refl
line_descriptor false ks = refl

kind_descriptor : (m : Metadata) (digits : List ℕ) (k : «Type») → descriptor_for (line_or_mobile m digits k) (kinds_of m) ≡ descriptor_for k (kinds_of m)
kind_descriptor m digits kind.FixedLine = line_descriptor (is_one_pattern m.fixed_line m.mobile || is_of m.mobile digits) (kinds_of m)
kind_descriptor m digits kind.Mobile = refl
kind_descriptor m digits kind.FixedLineOrMobile = refl
kind_descriptor m digits kind.TollFree = refl
kind_descriptor m digits kind.PremiumRate = refl
kind_descriptor m digits kind.SharedCost = refl
kind_descriptor m digits kind.PersonalNumber = refl
kind_descriptor m digits kind.Voip = refl
kind_descriptor m digits kind.Pager = refl
kind_descriptor m digits kind.Uan = refl
kind_descriptor m digits kind.Emergency = refl
kind_descriptor m digits kind.Voicemail = refl
kind_descriptor m digits kind.ShortCode = refl
kind_descriptor m digits kind.StandardRate = refl
kind_descriptor m digits kind.Carrier = refl
kind_descriptor m digits kind.NoInternational = refl
kind_descriptor m digits kind.Unknown = refl

module _ (m : Metadata) (digits : List ℕ) (known : is_known (type_of m digits) ≡ true)
    (lists : option_map_or lists_lengths (descriptor_for (type_of m digits) (kinds_of m)) false ≡ true) where
  -- the digits are of the general kind
  general_of : (b : Bool) → is_of m.general digits ≡ b → is_of m.general digits ≡ true
  general_of true e = e
  general_of false e = absurd (true≢false (sym (sym (ap is_known (cond_unknown e)) ∙ known)))
    where
      cond_unknown : is_of m.general digits ≡ false → type_of m digits ≡ kind.Unknown
      cond_unknown f = ap (λ b. if b then option_map_or (λ (k : «Type» × Option Descriptor). line_or_mobile m digits k.0)
          (find (λ (k : «Type» × Option Descriptor). is_of k.1 digits) (tried_kinds m)) kind.Unknown else kind.Unknown) f

  general : is_of m.general digits ≡ true
  general = general_of (is_of m.general digits) refl

  -- the count is among the lengths of the kinds
  among_kinds : is_among (length digits) (lengths_in (kind_descriptors m)) ≡ true
  among_kinds = at (find (λ (k : Tried). is_of k.1 digits) (tried_kinds m)) refl
    where
      told : (o : Option Tried) → find (λ (k : Tried). is_of k.1 digits) (tried_kinds m) ≡ o → type_of m digits ≡ option_map_or (λ (k : Tried). line_or_mobile m digits k.0) o kind.Unknown
      told o e =
          ap (λ b. if b then option_map_or (λ (k : Tried). line_or_mobile m digits k.0) (find (λ (k : Tried). is_of k.1 digits) (tried_kinds m)) kind.Unknown else kind.Unknown) general
          ∙ ap (λ o. option_map_or (λ (k : Tried). line_or_mobile m digits k.0) o kind.Unknown) e

      at : (o : Option Tried) → find (λ (k : Tried). is_of k.1 digits) (tried_kinds m) ≡ o → is_among (length digits) (lengths_in (kind_descriptors m)) ≡ true
      at None e = absurd (true≢false (sym (sym (ap is_known (told None e)) ∙ known)))
      at (Some k) e =
          let its : descriptor_for (type_of m digits) (kinds_of m) ≡ k.1 =
          ap (λ j. descriptor_for j (kinds_of m)) (told (Some k) e) ∙ kind_descriptor m digits k.0
          ∙ sym (own_descriptor m (λ (j : Tried). is_of j.1 digits) ten_kinds k e) in
          among_found digits (tried_kinds m) k e (sym (ap (λ o. option_map_or lists_lengths o false) its) ∙ lists)

  -- the count is among the lengths that count
  among_counting : (g : Option Descriptor) → m.general ≡ g → is_among (length digits) (lengths_of m) ≡ true
  among_counting None e = absurd (true≢false (sym (sym (ap (λ o. is_of o digits) e) ∙ general)))
  among_counting (Some d) e = by (lists_lengths d) refl
    where
      chosen : (b : Bool) → lists_lengths d ≡ b → counting_descriptors m ≡ (if b then d ∷ [] else kind_descriptors m)
      chosen b f =
          ap (λ o. option_map_or (λ (c : Descriptor). if lists_lengths c then c ∷ [] else kind_descriptors m) o (kind_descriptors m)) e
          ∙ ap (λ b. if b then d ∷ [] else kind_descriptors m) f

      by : (b : Bool) → lists_lengths d ≡ b → is_among (length digits) (lengths_of m) ≡ true
      by true f = ap (λ ds. is_among (length digits) (lengths_in ds)) (chosen true f)
          ∙ among_first (length digits) d [] (listed_by d digits (sym (ap (λ o. is_of o digits) e) ∙ general) f)
      by false f = ap (λ ds. is_among (length digits) (lengths_in ds)) (chosen false f) ∙ among_kinds

  pub known_is_possible : possibility_under m (length digits) ≡ Possible
  known_is_possible = cond-true _ _ _ (among_counting m.general refl)

-- a valid number of a kind that lists its lengths is possible
pub valid_is_possible : (db : List Metadata) (n : Reading) → is_valid db n ≡ true → has_listed_kind db n ≡ true → possibility_by_crate db n ≡ Possible
valid_is_possible db n valid lists = at (home db n.code.value (text_of n.national)) refl
  where
    at : (o : Option Metadata) → home db n.code.value (text_of n.national) ≡ o → possibility_by_crate db n ≡ Possible
    at None e = absurd (true≢false (sym (sym (ap (λ o. option_map_or (λ (m : Metadata). is_known (type_of m (text_of n.national))) o false) e) ∙ valid)))
    at (Some m) e =
        let known : is_known (type_of m (text_of n.national)) ≡ true =
        sym (ap (λ o. option_map_or (λ (m : Metadata). is_known (type_of m (text_of n.national))) o false) e) ∙ valid in
        let listed : option_map_or lists_lengths (descriptor_for (type_of m (text_of n.national)) (kinds_of m)) false ≡ true =
        sym (ap (λ o. option_map_or (λ (m : Metadata). option_map_or lists_lengths (descriptor_for (type_of m (text_of n.national)) (kinds_of m)) false) o false) e) ∙ lists in
        ap (λ o. option_map_or (λ (m : Metadata). possibility_under m (length (text_of n.national))) (option_or o (first_of (territories n.code.value db))) UnknownCode) e
        ∙ known_is_possible m (text_of n.national) known listed
