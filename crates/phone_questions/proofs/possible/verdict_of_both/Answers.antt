use Rattle.std.proofs.Common.{◌≡◌, ◌∙◌, ◌==◌, ◌&&◌, ◌||◌, length, nat_lt, rules}
use Rattle.std.specs.List.{list_all}
use Rattle.phone_questions.specs.Possible.{is_among, lengths_by}
use Rattle.phone_questions.proofs.Verdicts.{on_both}
use Rattle.phone_questions.proofs.possible.verdict_of_both.Goals as goal

pub returns : goal.returns
returns c =
    let n = c.args.digits in
    let ls = lengths_by c.args.m.now c.args.a.now in
    let ms = lengths_by c.args.m.now c.args.b.now in
    let ks = c.args.a.now.possible_local_length in
    let js = c.args.b.now.possible_local_length in
    let local : c.is_among_either.result ≡ (is_among n ks || is_among n js) = search rules in
    let allowed : c.is_allowed.result ≡ (((length ls == 0) && (length ms == 0)) || (is_among n ls || is_among n ms)) = search rules in
    let less : c.is_less_than_all.result ≡ (list_all (λ l. nat_lt n l) ls && list_all (λ l. nat_lt n l) ms) = search rules in
    let more : c.is_more_than_all.result ≡ (list_all (λ l. nat_lt l n) ls && list_all (λ l. nat_lt l n) ms) = search rules in
    c.verdict_told.ensures ∙ rw local (rw allowed (rw less (rw more (on_both ls ms ks js n))))
