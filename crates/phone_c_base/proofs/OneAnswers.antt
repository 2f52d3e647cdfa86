-- What is said of plain numbers is said of one number.
use Rattle.std.proofs.Common.{◌≡◌, ℕ, ◌+◌, ◌==◌, if◌then◌else◌, List, [], Option, None, Some}
use Rattle.std.proofs.Common.{length, slice_range, refl, ap, sym, ◌∙◌, arith}
use Rattle.std.specs.Option.{option_map_or}
use Rattle.phone_values.specs.Ids.{name}
use Rattle.phone_values.specs.declared.country.Source.{Source}
use Rattle.phone_values.specs.declared.country.Source.TheVariants.{Plus, Idd, Number, Default}
use Rattle.phone_values.specs.declared.mode.Mode.{Mode}
use Rattle.phone_values.specs.declared.mode.Mode.TheVariants.{E164, International, National}
use Rattle.phone_values.specs.declared.mode.Mode.TheVariants.{Rfc3966}
use Rattle.phone_values.specs.declared.reading.Reading.{Reading}
use Rattle.phone_print.specs.Texts.{e164_text}
use Rattle.phone_engine.specs.Facts.{is_valid_by, kind_by, printed_as, region_by}
use Rattle.phone_values.specs.declared.rules.Rules.{Rules}
use Rattle.phone_values.specs.declared.rules.Rules.TheVariants.{Library, Crate}
use Rattle.phone_records.specs.declared.loader.Metadata.{Metadata}
use Rattle.phone_engine.specs.Possibilities.{possibility_of}
use Rattle.phone_library.specs.Printed.{printed_by}
use Rattle.phone_c_base.specs.Answers.{IsKey, IsKind, IsPrinted, IsRegion, IsUnprinted, IsValidity}
use Rattle.phone_c_base.specs.Answers.{kind_number, mode_number}
use Rattle.phone_c_base.specs.Numbers.{HasNumbers, IsNumber, IsPart, source_number}
use Rattle.phone_c_base.specs.Possibilities.{IsPossibility, possibility_number}
use Rattle.phone_c_base.specs.declared.number.Number as plain
use Rattle.phone_c_base.specs.declared.number.Part.{Part}

-- how a calling code was found, and a mode, of their numbers
abbrev source_at : ℕ → Source
source_at k = if k == 0 then Plus else if k == 1 then Idd else if k == 2 then Number else Default

abbrev mode_at : ℕ → Mode
mode_at k =
    if k == 0 then E164 else if k == 1 then International else if k == 2 then National else Rfc3966

source_back : (s : Source) → source_at (source_number s) ≡ s
source_back Plus = refl
source_back Idd = refl
source_back Number = refl
source_back Default = refl

mode_back : (m : Mode) → mode_at (mode_number m) ≡ m
mode_back E164 = refl
mode_back International = refl
mode_back National = refl
mode_back Rfc3966 = refl

one_mode : (a b : Mode) → mode_number a ≡ mode_number b → a ≡ b
one_mode a b e = sym (mode_back a) ∙ ap mode_at e ∙ mode_back b

one_source : (a b : Source) → source_number a ≡ source_number b → a ≡ b
one_source a b e = sym (source_back a) ∙ ap source_at e ∙ source_back b

-- a number of its parts
abbrev reading_by : Source → (code zeros value : ℕ) → (extension carrier : Option (List ℕ)) →
    Reading
reading_by source code zeros value extension carrier = record {
  code = record { source = source; value = code };
  national = record { zeros = zeros; value = value };
  extension = extension;
  carrier = carrier;
}

-- a number without its texts
abbrev bare : Reading → Reading
bare n = reading_by n.code.source n.code.value n.national.zeros n.national.value None None

by_parts : (s t : Source) (c d y z u v : ℕ) (e f g h : Option (List ℕ)) → s ≡ t → c ≡ d → y ≡ z →
    u ≡ v → e ≡ f → g ≡ h → reading_by s c y u e g ≡ reading_by t d z v f h
by_parts s t c d y z u v e f g h source code zeros value extension carrier = cc

module _ (x : plain.Number) where
  same_with : (m n : Reading) → HasNumbers x m → HasNumbers x n → (e f g h : Option (List ℕ)) →
      e ≡ f → g ≡ h →
      reading_by m.code.source m.code.value m.national.zeros m.national.value e g ≡
      reading_by n.code.source n.code.value n.national.zeros n.national.value f h
  same_with m n a b e f g h = by_parts m.code.source n.code.source m.code.value n.code.value
      m.national.zeros n.national.zeros m.national.value n.national.value e f g h
      (one_source m.code.source n.code.source (a.source ∙ sym b.source)) (a.code ∙ sym b.code)
      (a.zeros ∙ sym b.zeros) (a.value ∙ sym b.value)

  -- plain numbers are those of one number, its texts aside
  same_bare : (m n : Reading) → HasNumbers x m → HasNumbers x n → bare m ≡ bare n
  same_bare m n a b = same_with m n a b None None None None refl refl

  pub one_key : (a b : List ℕ) → IsKey x a → IsKey x b → a ≡ b
  one_key a b h g = h.2 ∙ ap e164_text (same_bare h.0 g.0 h.1 g.1) ∙ sym g.2

  module _ (db : List Metadata) (rules : Rules) where
    -- what is known of a number is known of it without its texts
    bare_kind : (n : Reading) → kind_by rules db n ≡ kind_by rules db (bare n)
    bare_kind n = at rules
      where
        at : (r : Rules) → kind_by r db n ≡ kind_by r db (bare n)
        at Library = refl
        at Crate = refl

    bare_validity : (n : Reading) → is_valid_by rules db n ≡ is_valid_by rules db (bare n)
    bare_validity n = at rules
      where
        at : (r : Rules) → is_valid_by r db n ≡ is_valid_by r db (bare n)
        at Library = refl
        at Crate = refl

    bare_region : (n : Reading) → region_by rules db n ≡ region_by rules db (bare n)
    bare_region n = at rules
      where
        at : (r : Rules) → region_by r db n ≡ region_by r db (bare n)
        at Library = refl
        at Crate = refl

    bare_possibility : (n : Reading) → possibility_of rules db n ≡ possibility_of rules db (bare n)
    bare_possibility n = at rules
      where
        at : (r : Rules) → possibility_of r db n ≡ possibility_of r db (bare n)
        at Library = refl
        at Crate = refl

    pub one_possibility : (j k : ℕ) → IsPossibility rules db x j → IsPossibility rules db x k →
        j ≡ k
    one_possibility j k h g =
        h.2 ∙ ap possibility_number (bare_possibility h.0)
        ∙ ap (λ n. possibility_number (possibility_of rules db n)) (same_bare h.0 g.0 h.1 g.1)
        ∙ ap possibility_number (sym (bare_possibility g.0)) ∙ sym g.2

    pub one_kind : (j k : ℕ) → IsKind rules db x j → IsKind rules db x k → j ≡ k
    one_kind j k h g =
        h.2 ∙ ap kind_number (bare_kind h.0)
        ∙ ap (λ n. kind_number (kind_by rules db n)) (same_bare h.0 g.0 h.1 g.1)
        ∙ ap kind_number (sym (bare_kind g.0)) ∙ sym g.2

    pub one_validity : (u v : ℕ) → IsValidity rules db x u → IsValidity rules db x v → u ≡ v
    one_validity u v h g =
        h.2 ∙ ap (λ b. if b then 1 else 0) (bare_validity h.0)
        ∙ ap (λ n. if is_valid_by rules db n then 1 else 0) (same_bare h.0 g.0 h.1 g.1)
        ∙ ap (λ b. if b then 1 else 0) (sym (bare_validity g.0)) ∙ sym g.2

    pub one_region : (a b : List ℕ) → IsRegion rules db x a → IsRegion rules db x b → a ≡ b
    one_region a b h g =
        h.2 ∙ ap (λ r. option_map_or name r []) (bare_region h.0)
        ∙ ap (λ n. option_map_or name (region_by rules db n) []) (same_bare h.0 g.0 h.1 g.1)
        ∙ ap (λ r. option_map_or name r []) (sym (bare_region g.0)) ∙ sym g.2

one_part : (p : Part) (bytes : List ℕ) (s t : Option (List ℕ)) → IsPart p bytes s →
    IsPart p bytes t → s ≡ t
one_part p bytes None None h g = refl
one_part p bytes None (Some t) h g = absurd (omega (arith, h, g.0))
one_part p bytes (Some s) None h g = absurd (omega (arith, g, h.0))
one_part p bytes (Some s) (Some t) h g =
    let long : length s ≡ length t = sym h.1 ∙ g.1 in
    let same : s ≡ t = h.2.1 ∙ ap (λ n. slice_range bytes p.start (p.start + n)) long ∙ sym g.2.1
    in
    ap Some same

module _ (x : plain.Number) (bytes : List ℕ) where
  pub one_number : (m n : Reading) → IsNumber x bytes m → IsNumber x bytes n → m ≡ n
  one_number m n a b = same_with x m n a.numbers b.numbers m.extension n.extension m.carrier
      n.carrier (one_part x.extension bytes m.extension n.extension a.extension b.extension)
      (one_part x.carrier bytes m.carrier n.carrier a.carrier b.carrier)

  module _ (db : List Metadata) (rules : Rules) (mode : ℕ) where
    one_printed : (m n : Mode) (j k : Reading) → IsNumber x bytes j → IsNumber x bytes k →
        mode ≡ mode_number m → mode ≡ mode_number n →
        printed_by rules db m (printed_as rules j) ≡ printed_by rules db n (printed_as rules k)
    one_printed m n j k a b e f =
        let same = one_mode m n (sym e ∙ f) in
        let number = one_number j k a b in
        ap (λ (o : Mode). printed_by rules db o (printed_as rules j)) same
        ∙ ap (λ r. printed_by rules db n (printed_as rules r)) number

    pub one_text : (a b : List ℕ) → IsPrinted rules db x bytes mode a →
        IsPrinted rules db x bytes mode b → a ≡ b
    one_text a b h g =
        let same : Some a ≡ Some b =
        sym h.4 ∙ one_printed h.1 g.1 h.0 g.0 h.2 g.2 h.3 g.3 ∙ g.4 in cc

    pub no_other : (a : List ℕ) → IsPrinted rules db x bytes mode a →
        ¬ (IsUnprinted rules db x bytes mode)
    no_other a h g =
        let same : Some a ≡ None =
        sym h.4 ∙ one_printed h.1 g.1 h.0 g.0 h.2 g.2 h.3 g.3 ∙ g.4 in cc
