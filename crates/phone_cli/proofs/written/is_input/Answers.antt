use Rattle.std.proofs.Common.{[], ap, false, get_or, refl, sym, true, ◌≡◌, ◌∙◌}
use Rattle.std.specs.Str.{bytes_eq}
use Rattle.phone_words.specs.Rows.{Lent}
use Rattle.phone_cli.proofs.ReadLemmas.{inputs_more, other_name, standard_name}
use Rattle.phone_cli.proofs.written.is_input.Goals.{else-is_standard, then-is_standard}
use Rattle.phone_cli.proofs.written.is_input.Goals as goal

pub loop-name-preserved : goal.loop-name-preserved
loop-name-preserved g c =
    let other = c.is_written.ensures c.if-is_written.false in
    let none : Lent = record { ref_ptr = (0, 0); now = [] } in
    let file : Lent = get_or c.args.files.now c.loop-name.name-index none in
    inputs_more (bytes_eq c.args.written.name.now) c.args.files.now c.loop-name.name-index none
    c.loop-name-test.true c.loop-name.invariant (elim c.if-is_standard.branch [
      | then-is_standard w ↦ ap (bytes_eq c.args.written.name.now)
          (standard_name file (w.if-is_standard.ensures.0 refl) ∙
          sym (ap (λ n. n.now) w.name-is)) ∙ other
      | else-is_standard w ↦ ap (bytes_eq c.args.written.name.now)
          (other_name file (λ e. let is : false ≡ true = w.if-is_standard.ensures.1 e in cc) ∙
          sym (ap (λ n. n.now) w.name-is)) ∙ other
    ])
