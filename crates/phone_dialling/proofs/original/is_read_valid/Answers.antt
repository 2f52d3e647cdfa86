use Rattle.std.proofs.Common.{chars, refl}
use Rattle.phone_library.specs.Readings.{ReadsByLibrary}
use Rattle.phone_dialling.specs.Original.{is_valid_read}
use Rattle.phone_dialling.proofs.Answered.{read_so, refused_so}
use Rattle.phone_dialling.proofs.original.is_read_valid.Goals as goal

pub returns-in-Ok : goal.returns-in-Ok
returns-in-Ok c =
    let db = c.args.database.now in
    read_so (ReadsByLibrary db c.args.hint (chars c.args.text.now)) (is_valid_read db) c.in-Ok.number c.is_valid.result c.in-Ok.ensures c.is_valid.ensures

pub returns-in-Err : goal.returns-in-Err
returns-in-Err c =
    let db = c.args.database.now in
    refused_so (ReadsByLibrary db c.args.hint (chars c.args.text.now)) (is_valid_read db) c.in-Err.error c.invalid.result refl c.in-Err.ensures
    c.invalid.ensures.answer c.invalid.ensures.memory
