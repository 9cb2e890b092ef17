use Rattle.std.proofs.lemmas.Result.{err_from_is_err_and}
use Rattle.sheets.proofs.Answer.{at_phrase, at_count, at_played, at_end, all_through, accepted}
use Rattle.sheets.proofs.read.read_sheet.Goals as goal

pub returns-in_err-phrase : goal.returns-in_err-phrase
returns-in_err-phrase c =
    let p = err_from_is_err_and c.from_residual-in_err-phrase.result c.from_residual-in_err-phrase.ensures.1 in
    let head = c.in_ok-head.ensures in
    rw (p.1, p.2) (at_phrase _ head.0 _ (rw (head.1, head.3, head.4.0, head.4.1) at c.in_err-phrase.ensures))

pub returns-in_err-count : goal.returns-in_err-count
returns-in_err-count c =
    let p = err_from_is_err_and c.from_residual-in_err-count.result c.from_residual-in_err-count.ensures.1 in
    let head = c.in_ok-head.ensures in
    let phrase = rw (head.1, head.3, head.4.0, head.4.1) at c.in_ok-phrase.ensures in
    rw (p.1, p.2) (at_count _ head.0 phrase.0 _ (rw (phrase.4.0, phrase.4.1) at c.in_err-count.ensures))

pub returns-in_err-played : goal.returns-in_err-played
returns-in_err-played c =
    let p = err_from_is_err_and c.from_residual-in_err-played.result c.from_residual-in_err-played.ensures.1 in
    let head = c.in_ok-head.ensures in
    let phrase = rw (head.1, head.3, head.4.0, head.4.1) at c.in_ok-phrase.ensures in
    let count = rw (phrase.4.0, phrase.4.1) at c.in_ok-count.ensures in
    rw (p.1, p.2) (at_played _ head.0 phrase.0 count.0 _ (rw (head.1, count.1, count.2.0, count.2.1) at c.in_err-played.ensures))

pub returns-in_err-end : goal.returns-in_err-end
returns-in_err-end c =
    let p = err_from_is_err_and c.from_residual-in_err-end.result c.from_residual-in_err-end.ensures.1 in
    let head = c.in_ok-head.ensures in
    let phrase = rw (head.1, head.3, head.4.0, head.4.1) at c.in_ok-phrase.ensures in
    let count = rw (phrase.4.0, phrase.4.1) at c.in_ok-count.ensures in
    let played = rw (head.1, count.1, count.2.0, count.2.1) at c.in_ok-played.ensures in
    rw (p.1, p.2) (at_end _ head.0 phrase.0 count.0 played.0 _ (rw (played.4.0, played.4.1) at c.in_err-end.ensures))

pub returns : goal.returns
returns c =
    let head = c.in_ok-head.ensures in
    let phrase = rw (head.1, head.3, head.4.0, head.4.1) at c.in_ok-phrase.ensures in
    let count = rw (phrase.4.0, phrase.4.1) at c.in_ok-count.ensures in
    let played = rw (head.1, count.1, count.2.0, count.2.1) at c.in_ok-played.ensures in
    let end = rw (played.4.0, played.4.1) at c.in_ok-end.ensures in
    accepted c.args.sheet.now (λ i. (c.type_inv.sheet i).fits) (all_through _ head.0 phrase.0 count.0 played.0 end) _ head.1 head.2 (phrase.1, phrase.2, phrase.3) (played.1, played.2, played.3)
