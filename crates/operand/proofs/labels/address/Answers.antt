-- `operand::labels::address` meets its contract. Assumes nothing.
use Rattle.std.proofs.Common.{◌≡◌, get_or, refl, sym, rules, ◌∙◌}
use Rattle.operand.specs.Read.{word_at}
use Rattle.operand.proofs.Scans.{found, found-none, found-some}
use Rattle.operand.proofs.labels.address.Goals as goal

pub returns-in_err-k-clause-value : goal.returns-in_err-k-clause-value
returns-in_err-k-clause-value c =
    let w = c.word.result.now in
    let f = found-none _ w (sym (c.find.ensures ∙ found (word_at c.args.labels.text.now) w c.args.labels.starts.now) ∙ c.in_err-k.was) in
    c.from_residual.ensures ∙ rw (sym c.word.ensures, f) refl

pub returns-clause-value : goal.returns-clause-value
returns-clause-value c =
    let e : c.unwrap_or.result ≡ get_or c.args.labels.addresses.now c.in_ok-k.k 0 = search rules in
    let w = c.word.result.now in
    let f = found-some _ w (sym (c.find.ensures ∙ found (word_at c.args.labels.text.now) w c.args.labels.starts.now) ∙ c.in_ok-k.was) in
    rw (sym c.word.ensures, f.0, f.1, e) refl
