use Rattle.std.proofs.Common.{◌≡◌, Bool, subst, sym}
use Rattle.phone_read.proofs.Results.{ok_again}
use Rattle.phone_dialling.specs.Original.{IsBehind, LeavesPrefix, digits_of, region_of}
use Rattle.phone_dialling.proofs.Originals.{leaves_not, leaves_told}
use Rattle.phone_dialling.proofs.original.leaves_own.Goals as goal

pub returns-then-behind : goal.returns-then-behind
returns-then-behind c =
    let db = c.args.database.now in
    let m = c.args.m.now in
    leaves_not db m c.args.layout.now c.args.raw.now c.args.prefix.now c.requires
    (subst (IsBehind db (region_of m) c.args.prefix.now (digits_of c.args.raw.now)) c.if-behind.true c.in_ok-behind.ensures)

pub returns-else-behind : goal.returns-else-behind
returns-else-behind c =
    let db = c.args.database.now in
    let m = c.args.m.now in
    let f = c.args.layout.now in
    let told = leaves_told db m f c.args.raw.now c.args.prefix.now c.requires
    (subst (IsBehind db (region_of m) c.args.prefix.now (digits_of c.args.raw.now)) c.if-behind.false c.in_ok-behind.ensures) in
    ok_again c.writes_digits.result _ _ (λ (b : Bool) e. subst (LeavesPrefix db m f c.args.raw.now) (sym e) told) c.writes_digits.ensures
