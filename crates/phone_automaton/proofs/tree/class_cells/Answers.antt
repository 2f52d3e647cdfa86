use Rattle.std.proofs.Common.{◌+◌, cond, ap, sym, ◌∙◌, refl}
use Rattle.regex_class.proofs.RangesLemmas.{in_ranges-nil}
use Rattle.phone_automaton.proofs.Reading.{no_cell_yet, one_range_more}
use Rattle.phone_automaton.proofs.tree.class_cells.Goals as goal

pub loop-range-init : goal.loop-range-init
loop-range-init c = record {
  digits = λ n low. no_cell_yet n ∙ sym (ap (λ t. cond t c.args.cell 0) (in_ranges-nil (48 + n)));
  end = refl;
}

pub loop-range-preserved : goal.loop-range-preserved
loop-range-preserved c =
    let i = c.loop-range.invariant in
    let rs = c.deref-range-items.result.now in
    let step = c.mark.ensures in record {
      digits = λ n low. one_range_more rs c.loop-range.range-index n _ _ c.args.cell
          c.loop-range.row c.mark.new.row c.loop-range-test.true low refl refl (i.digits n low)
          (step.inside n low) (step.outside n low);
      end = step.end ∙ i.end;
    }
