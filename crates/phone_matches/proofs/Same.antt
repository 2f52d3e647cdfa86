-- A text is the same number or isn't, since it has one reading.
use Rattle.std.proofs.Common.{◌≡◌, ◌⊎◌, ◌↔◌, ℕ, Bool, false, IsTrue, List, Option, None, Some, Result, Ok, Err, IfOk, ap, sym, subst, ◌∙◌, true≢false}
use Rattle.phone_library.specs.Readings.{ReadsByLibrary}
use Rattle.phone_matches.specs.Marks.{IsSameNumber, main_region}
use Rattle.phone_matches.proofs.Told.{OneReading, not_read, read_error, same_number}
use Rattle.phone_records.specs.declared.loader.Metadata.{Metadata}
use Rattle.phone_values.specs.declared.country.Id.{Id}
use Rattle.phone_values.specs.declared.error.ParseError.{ParseError}
use Rattle.phone_values.specs.declared.error.ParseError.TheVariants.{Memory}
use Rattle.phone_values.specs.declared.reading.Reading.{Reading}

-- two numbers have the same code, national number and extension
abbrev pub AreSame : Reading → Reading → Type 0
AreSame k n = (k.code.value ≡ n.code.value) × (k.national ≡ n.national) × (k.extension ≡ n.extension)

pub not_true : (P : Type 0) → ¬ P → IsTrue false ↔ P
not_true P none = (λ yes. absurd (true≢false (sym yes)), λ p. absurd (none p))

pub is_false : (b : Bool) (P : Type 0) → b ≡ false → ¬ P → IsTrue b ↔ P
is_false b P e none = (λ yes. absurd (true≢false (sym yes ∙ e)), λ p. absurd (none p))

pub same_region : (a b : Id) (o : Option Id) → o ≡ Some a → o ≡ Some b → a ≡ b
same_region a b o e f = let g : Some a ≡ Some b = sym e ∙ f in cc

module _ (one : OneReading) (db : List Metadata) (n : Reading) (t : List ℕ) (code : ℕ) (same_code : code ≡ n.code.value) where
  pub no_region : main_region db code ≡ None → IsTrue false ↔ IsSameNumber db n t
  no_region none = not_true (IsSameNumber db n t) (λ s. let bad : None ≡ Some s.region = sym none ∙ ap (main_region db) same_code ∙ s.main in cc)

  module _ (region : Id) (main : main_region db code ≡ Some region) where
    here : main_region db n.code.value ≡ Some region
    here = ap (main_region db) (sym same_code) ∙ main

    pub same_if_read : (k : Reading) → ReadsByLibrary db (Some region) t (Ok k) → (b : Bool) → IsTrue b ↔ AreSame k n → IsTrue b ↔ IsSameNumber db n t
    same_if_read k reads b tells = (
      λ yes. let same = tells.0 yes in record {
        region = region;
        number = k;
        main = here;
        read = reads;
        code = same.0;
        national = same.1;
        extension = same.2;
      },
      λ s.
          let region_same = same_region s.region region (main_region db n.code.value) s.main here in
          let read : ReadsByLibrary db (Some region) t (Ok s.number) =
          subst (λ (r : Id). ReadsByLibrary db (Some r) t (Ok s.number)) region_same s.read in
          let number_same = same_number one db (Some region) t s.number k read reads in
          tells.1 (subst (λ (m : Reading). AreSame m n) number_same (s.code, s.national, s.extension)),
    )

    pub same_if_unread : {E : Type 0} (x : Result Reading ParseError) (e : ParseError) → x ≡ Err e →
        (x ≡ Err Memory) ⊎ ReadsByLibrary db (Some region) t x → (r : Result Bool E) → IfOk r (λ b. (b ≡ false) × ¬ (e ≡ Memory)) →
        IfOk r (λ b. IsTrue b ↔ IsSameNumber db n t)
    same_if_unread x e is h (Ok b) k =
        let reads = read_error one db (Some region) t x e is k.1 h in
        is_false b (IsSameNumber db n t) k.0 (λ s.
        let region_same = same_region s.region region (main_region db n.code.value) s.main here in
        not_read one db (Some region) t e s.number reads (subst (λ (r : Id). ReadsByLibrary db (Some r) t (Ok s.number)) region_same s.read))
    same_if_unread x e is h (Err f) k = k
