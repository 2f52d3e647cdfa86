use Rattle.std.proofs.Common.{◌≡◌, inl, inr, [], ◌∷◌, ◌++◌, codes, refl}
use Rattle.ucd_case.proofs.Computing.{ucd_case}
use Rattle.phone_parts.specs.Tel
use Rattle.phone_parts.specs.Tel.{HasParameters}
use Rattle.phone_parts.proofs.TelRows.{no_parameters, and_more, tel_of}
use Rattle.phone_parts.proofs.worked.tel_rows.Goals as goal

not_at_percent : HasParameters (codes "%A1") []
not_at_percent = Tel.no_more (codes "%A1") (λ p rest h. let e : codes "%A1" ≡ 59 ∷ (p.name ++ 61 ∷ (p.value ++ rest)) = h.whole in cc)

pub returns : goal.returns
unfolding ucd_case
returns c = record {
  context = tel_of (codes "tel:") (codes "2034567890") (inr refl)
      (and_more (codes "ext") (codes "456") (and_more (codes "phone-context") (codes "+44") no_parameters refl refl refl) refl refl refl)
      (inr refl) (Tel.unsigned refl) refl refl refl refl;
  plus = tel_of (codes "tel:") (codes "-3-331-6005") (inr refl) (and_more (codes "ext") (codes "1235") no_parameters refl refl refl)
      (inr refl) (Tel.signed (codes "64") refl refl refl) refl refl refl refl;
  ignored = tel_of [] (codes "03-331-6005") (inl refl)
      (and_more (codes "phone-context") (codes "+64") (and_more (codes "a") [] not_at_percent refl refl refl) refl refl refl)
      (inr refl) (Tel.unsigned refl) refl refl refl refl;
  any_case = tel_of (codes "TEL:") (codes "12") (inr refl) no_parameters (inl refl) (Tel.unsigned refl) refl refl refl refl;
  last_counts = tel_of [] (codes "12") (inl refl)
      (and_more (codes "ext") (codes "1") (and_more (codes "ext") (codes "2") no_parameters refl refl refl) refl refl refl)
      (inr refl) (Tel.unsigned refl) refl refl refl refl;
  exact_names = tel_of [] (codes "12") (inl refl)
      (and_more (codes "ext") (codes "1") (and_more (codes "Ext") (codes "3") no_parameters refl refl refl) refl refl refl)
      (inr refl) (Tel.unsigned refl) refl refl refl refl;
}
