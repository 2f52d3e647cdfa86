use Rattle.phone_lines.proofs.blocks.take_lines.Goals as goal

pub returns-in_default-write_out : goal.returns-in_default-write_out
returns-in_default-write_out g c =
    let w = c.in_default-write_out.ensures in
    record { ends = rw w.fault (c.in-Ok.ensures.halts.broken _ _ (rw c.as_slice.ensures.value at w.front)) }

pub returns : goal.returns
returns g c =
    let w = c.in-Ok-write_out.ensures in
    record { ends = rw (w.no_fault, w.handed_on) (c.in-Ok.ensures.halts.written _ (rw c.as_slice.ensures.value at w.all)) }
