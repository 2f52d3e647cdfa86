use Rattle.regex_class.specs.Ranges.{in_ranges}
use Rattle.phone_automaton.proofs.Reading.{gives_byte_in, gives_char_in, gives_step}
use Rattle.phone_automaton.proofs.tree.row_of_class.Goals as goal

pub returns-clause-bytes : goal.returns-clause-bytes
returns-clause-bytes c =
    let rs = c.args.class.now.ranges.items in
    let to = c.cell_to.ensures in
    gives_byte_in c.args.rows.now c.class_cells.result c.args.next rs
    (gives_step c.args.rows.now c.class_cells.result c.args.next c.cell_to.result (in_ranges rs)
    c.requires to.place to.ends c.class_cells.ensures)

pub returns-clause-chars : goal.returns-clause-chars
returns-clause-chars c =
    let rs = c.args.class.now.ranges.items in
    let to = c.cell_to.ensures in
    gives_char_in c.args.rows.now c.class_cells.result c.args.next rs
    (gives_step c.args.rows.now c.class_cells.result c.args.next c.cell_to.result (in_ranges rs)
    c.requires to.place to.ends c.class_cells.ensures)
