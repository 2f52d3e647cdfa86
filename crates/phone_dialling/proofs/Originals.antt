-- What is printed as it was written, from what is read and found.
use Rattle.std.proofs.Common.{◌≡◌, ◌++◌, ℕ, not, Bool, true, false, cond, if◌then◌else◌, List, Option, None, Some, Result, IfOk, chars, refl, ap₂, sym, subst}
use Rattle.phone_values.specs.declared.country.Id.{Id}
use Rattle.phone_values.specs.declared.error.ParseError.{ParseError}
use Rattle.phone_values.specs.declared.reading.Reading.{Reading}
use Rattle.phone_library.specs.Readings.{ReadsByLibrary}
use Rattle.phone_records.specs.declared.loader.Format.{Format}
use Rattle.phone_records.specs.declared.loader.Metadata.{Metadata}
use Rattle.phone_read.proofs.Results.{ok_again}
use Rattle.phone_dialling.specs.Original
use Rattle.phone_dialling.specs.Original.{IsBehind, IsToldText, LeavesPrefix, digits_of, hinted_text, is_valid_read, own_prefix, region_of, writes_digits, written_prefix}
use Rattle.phone_values.specs.declared.country.Source.TheVariants.{Default}

pub behind_so : {E : Type 0} (db : List Metadata) (hint : Option Id) (prefix digits rest : List ℕ) (x : Result Bool E) →
    digits ≡ prefix ++ rest →
    IfOk x (λ b. (r : Result Reading ParseError) × ReadsByLibrary db hint (chars rest) r × (b ≡ is_valid_read db r)) →
    IfOk x (IsBehind db hint prefix digits)
behind_so db hint prefix digits rest x whole f =
    ok_again x _ _ (λ b (r, reads, e). subst (IsBehind db hint prefix digits) (sym e) (Original.read rest r whole reads)) f

-- whether the national prefix is left away, by the prefix of the territory's region
module _ (db : List Metadata) (m : Metadata) (f : Format) (raw : List ℕ) where
  pub leaves_none : own_prefix db m ≡ None → LeavesPrefix db m f raw false
  leaves_none e = Original.none (at (writes_digits m f))
    where
      at : (w : Bool) → (if w then own_prefix db m else None) ≡ None
      at true = e
      at false = refl

  module _ (prefix : List ℕ) (own : own_prefix db m ≡ Some prefix) where
    written : (w : Bool) → writes_digits m f ≡ w → written_prefix db m f ≡ (if w then Some prefix else None)
    written w e = ap₂ (λ (b : Bool) (o : Option (List ℕ)). if b then o else None) e own

    -- not where a valid number stands behind the prefix, whatever the layout writes
    pub leaves_not : IsBehind db (region_of m) prefix (digits_of raw) true → LeavesPrefix db m f raw false
    leaves_not behind = at (writes_digits m f) refl
      where
        at : (w : Bool) → writes_digits m f ≡ w → LeavesPrefix db m f raw false
        at true e = Original.asked prefix true (written true e) behind
        at false e = Original.none (written false e)

    -- else where the layout writes it
    pub leaves_told : IsBehind db (region_of m) prefix (digits_of raw) false → LeavesPrefix db m f raw (writes_digits m f)
    leaves_told behind = at (writes_digits m f) refl
      where
        at : (w : Bool) → writes_digits m f ≡ w → LeavesPrefix db m f raw w
        at true e = Original.asked prefix false (written true e) behind
        at false e = Original.none (written false e)

pub hint_so : {X E : Type 0} (bytes : X → List ℕ) (db : List Metadata) (from : Option Id) (raw : List ℕ) (n : Reading) (m : Metadata)
    (f : Format) (x : Result X E) →
    IfOk x (λ t. (leaves : Bool) × LeavesPrefix db m f raw leaves × (bytes t ≡ hinted_text db m f raw n leaves)) →
    IfOk x (λ t. IsToldText db from raw n m f Default (bytes t))
hint_so bytes db from raw n m f x g =
    ok_again x _ _ (λ t (leaves, h, e). subst (IsToldText db from raw n m f Default) (sym e) (Original.hint leaves h)) g

pub default_so : {X E : Type 0} (bytes : X → List ℕ) (db : List Metadata) (raw : List ℕ) (n : Reading) (m : Metadata)
    (f : Format) (leaves : Bool) (x : Result X E) → LeavesPrefix db m f raw leaves →
    IfOk x (λ t. bytes t ≡ hinted_text db m f raw n leaves) →
    IfOk x (λ t. (leaves : Bool) × LeavesPrefix db m f raw leaves × (bytes t ≡ hinted_text db m f raw n leaves))
default_so bytes db raw n m f leaves x h g = ok_again x _ _ (λ t e. (leaves, h, e)) g
