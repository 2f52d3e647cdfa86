use Rattle.std.proofs.Common.{◌≡◌, ◌⊎◌, ℕ, Ok, Err, refl, rules, subst}
use Rattle.phone_library_text.specs.Written.{IsWritten}
use Rattle.phone_further.specs.TextMatches.{IsBeside, match_read}
use Rattle.phone_further.proofs.TextReads.{IsBesideAll, IsMemory, all_matched, all_unmatched}
use Rattle.phone_further.proofs.text_matches.match_beside.Goals as goal

pub returns-in-Ok : goal.returns-in-Ok
returns-in-Ok g c =
    let db = c.args.database.now in
    let w = c.args.written in
    let n = c.args.number.now in
    let same : c.value.result ≡ n.code.value = search rules in
    let beside = subst (λ (code : ℕ). IsMemory (Ok c.in-Ok.read) ⊎ IsBesideAll db code w (Ok c.in-Ok.read)) same c.in-Ok.ensures in
    all_matched (λ t. IsWritten t (Ok w)) (IsBeside db n.code.value) (match_read (g.L.Likeness.guessed c.args.likeness.now) n) c.in-Ok.read
    c.match_beside.result beside c.match_beside.ensures

pub returns-in-Err : goal.returns-in-Err
returns-in-Err g c =
    let db = c.args.database.now in
    let w = c.args.written in
    let n = c.args.number.now in
    let same : c.value.result ≡ n.code.value = search rules in
    let beside = subst (λ (code : ℕ). IsMemory (Err c.in-Err.error) ⊎ IsBesideAll db code w (Err c.in-Err.error)) same c.in-Err.ensures in
    all_unmatched (λ t. IsWritten t (Ok w)) (IsBeside db n.code.value) (match_read (g.L.Likeness.guessed c.args.likeness.now) n) c.in-Err.error
    c.not_a_number.result refl beside c.not_a_number.ensures.number c.not_a_number.ensures.memory
