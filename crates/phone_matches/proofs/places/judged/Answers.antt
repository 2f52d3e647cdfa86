use Rattle.std.proofs.Common.{List, ℕ, IfOk, MatchOption, chars, subst}
use Rattle.phone_matches.proofs.places.judged.Goals as goal

pub returns-clause-told : goal.returns-clause-told
returns-clause-told g c =
    let accepts = g.J.Judge.accepts c.args.judge.now (chars c.args.place.before.now) (chars c.args.place.text.now) in
    subst (λ (after : List ℕ). IfOk c.judge.result (λ told. MatchOption told ((n : g.row.N.Denot) → ¬ (accepts after n)) (λ n. accepts after n)))
    c.behind_place-after.ensures.read c.judge.ensures.told
