-- The report line of a number, by its territory and by whose rules.
use Rattle.std.proofs.Common.{◌≡◌, ℕ, List, [], ◌∷◌, ◌++◌, Option, None, Some, codes}
use Rattle.std.proofs.Common.{option_map, append_assoc, refl, sym, ap, ◌∙◌}
use Rattle.std.proofs.lemmas.Option.{none-some, same_Some}
use Rattle.phone_engine.specs.Facts.{printed_as}
use Rattle.phone_values.specs.declared.rules.Rules.{Rules}
use Rattle.phone_print.specs.Tabbed.{tabbed, texts_by, texts_by_rules}
use Rattle.phone_print.specs.Texts.{text_by_rules}
use Rattle.phone_records.specs.declared.loader.Metadata.{Metadata}
use Rattle.phone_engine.specs.ReportLines.{known_words, number_line}
use Rattle.phonenumber.specs.Printed.{printed_texts}
use Rattle.phone_records.specs.declared.loader.Format.{Format}
use Rattle.phone_values.specs.declared.mode.Mode.TheVariants.{E164, International, National, Rfc3966}
use Rattle.phone_values.specs.declared.reading.Reading.{Reading}

-- what a printer of a number under a database, without a layout of its own, prints
pub printed_texts_own : (db' db : List Metadata) (own : Option Format) (n' n : Reading) (texts : List ℕ) → db' ≡ db → n' ≡ n → own ≡ None →
    printed_texts db' own n' ≡ Some texts → printed_texts db None n ≡ Some texts
printed_texts_own db' db own n' n texts d e o h =
    sym (ap (λ x. printed_texts x own n') d ∙ ap (λ x. printed_texts db own x) e ∙ ap (λ x. printed_texts db x n) o) ∙ h

-- a front, four fields and a last one, parted by tabs
parted : (o e i t r w : List ℕ) →
    (o ++ 9 ∷ (e ++ 9 ∷ (i ++ 9 ∷ (t ++ 9 ∷ r)))) ++ 9 ∷ w ≡ o ++ 9 ∷ (e ++ 9 ∷ (i ++ 9 ∷ (t ++ 9 ∷ (r ++ 9 ∷ w))))
parted o e i t r w =
    append_assoc o (9 ∷ (e ++ 9 ∷ (i ++ 9 ∷ (t ++ 9 ∷ r)))) (9 ∷ w)
    ∙ ap (λ z. o ++ 9 ∷ z)
    (append_assoc e (9 ∷ (i ++ 9 ∷ (t ++ 9 ∷ r))) (9 ∷ w)
    ∙ ap (λ z. e ++ 9 ∷ z) (append_assoc i (9 ∷ (t ++ 9 ∷ r)) (9 ∷ w) ∙ ap (λ z. i ++ 9 ∷ z) (append_assoc t (9 ∷ r) (9 ∷ w))))

-- where texts were printed, there is a territory, and they are those by it
pub by_first : (n : Reading) (o : Option Metadata) (texts before line : List ℕ) → option_map (λ m. texts_by m None n) o ≡ Some texts →
    line ≡ before ++ 9 ∷ texts → (m : Metadata) × (o ≡ Some m) × (line ≡ before ++ 9 ∷ texts_by m None n)
by_first n None texts before line h is = absurd (none-some texts h)
by_first n (Some m) texts before line h is = (m, refl, is ∙ sym (ap (λ t. before ++ 9 ∷ t) (same_Some (texts_by m None n) texts h)))

-- the line of a number is its texts, and what is known of it
pub number_line-parted : (rules : Rules) (db : List Metadata) (m : Metadata) (n : Reading) (before line : List ℕ) → before ≡ codes "ok" →
    line ≡ (before ++ 9 ∷ texts_by_rules rules m None (printed_as rules n)) ++ 9 ∷ tabbed (known_words rules db n) → line ≡ number_line rules db m n
number_line-parted rules db m n before line b is =
    let p = printed_as rules n in
    is
    ∙ ap (λ x. (x ++ 9 ∷ texts_by_rules rules m None p) ++ 9 ∷ tabbed (known_words rules db n)) b
    ∙ parted (codes "ok") (text_by_rules rules m E164 None p) (text_by_rules rules m International None p)
    (text_by_rules rules m National None p) (text_by_rules rules m Rfc3966 None p)
    (tabbed (known_words rules db n))
