use Rattle.std.proofs.Common.{take}
use Rattle.phone_columns.specs.Bodies.{HasBuffers, all_buffers}
use Rattle.phone_columns.proofs.body.lay_out_known.Given as goal

abbrev pub invariant-loop-column : goal.invariant-loop-column
invariant-loop-column l = HasBuffers
    (all_buffers l.engine.rules l.engine.database.now (take l.column-index l.columns) l.answers) l.body
