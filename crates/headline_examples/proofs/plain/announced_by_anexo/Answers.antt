use Rattle.std.proofs.Common.{[], codes, Some, refl, sym, arith, inl, inr}
use Rattle.std.proofs.lemmas.Option.{none-some}
use Rattle.std.specs.Fmt.{digits}
use Rattle.std.specs.Str.{chars}
use Rattle.phone_values.specs.Ids.{id_of, name}
use Rattle.phonenumber.proofs.BackLaws.{IsAnnounced}
use Rattle.phonenumber.proofs.BackPrefixes.{announced_safely}
use Rattle.phonenumber.specs.Plain.{IsAnnouncedByWord}
use Rattle.headline_examples.proofs.ByText.{benign, international, is_plain}
use Rattle.headline_examples.proofs.Laid.{spaced_laid}
use Rattle.headline_examples.specs.Samples.{am_by_anexo, number}
use Rattle.headline_examples.proofs.plain.announced_by_anexo.Goals as goal

-- neither is the extension absent, nor the prefix
by_word : IsAnnounced am_by_anexo (number 374 0 123456 (Some (codes "12"))) →
    IsAnnouncedByWord am_by_anexo (number 374 0 123456 (Some (codes "12")))
by_word (inl (inl none)) = absurd (none-some (codes "12") (sym none))
by_word (inl (inr none)) = absurd (none-some (codes " anexo ") (sym none))
by_word (inr announced) = announced

pub returns : goal.returns
unfolding digits chars id_of name
returns c =
    let laid = spaced_laid (codes "AM") 374 (codes " anexo ") in
    let twelve = number 374 0 123456 (Some (codes "12")) in
    let safely = benign am_by_anexo twelve (laid (Some (codes "12"))) refl refl in
    record {
      international = international am_by_anexo (laid (Some (codes "12"))) (is_plain refl refl) refl (omega arith) refl refl;
      benign = safely;
      empty = international am_by_anexo (laid (Some [])) (is_plain refl refl) refl (omega arith) refl refl;
      empty_benign = benign am_by_anexo (number 374 0 123456 (Some [])) (laid (Some [])) refl refl;
      idle = inr (am_by_anexo, refl, refl);
      by_word = by_word (announced_safely am_by_anexo twelve (inr safely));
    }
