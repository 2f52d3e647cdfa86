use Rattle.phone_plain.proofs.Parting.{class_atom}
use Rattle.phone_plain.proofs.atoms.digit_class.Goals as goal

pub returns : goal.returns
returns c =
    class_atom c.args.text.now c.in_ok-behind.field-0.now c.in_ok-class.rest.now c.in_ok-class.class c.in_ok-behind.ensures c.in_ok-class.ensures
