-- `operand::operands::term` meets its contract: by the word's kind it is a label, a number, or nothing that an operand can have. Assumes nothing.
use Rattle.std.proofs.Common.{[], ◌∷◌, arith, refl, sym, ◌∙◌}
use Rattle.operand.specs.Operand.{label, number, part_of}
use Rattle.operand.specs.Read.{names_of, word_at}
use Rattle.operand.proofs.Terms.{label-counts, no_number, number-counts, number-read}
use Rattle.operand.proofs.TokenKinds.{apart, as-label, as_none, as-number}
use Rattle.operand.proofs.operands.term.Goals as goal

pub number-requires : goal.number-requires
number-requires c = rw c.word.ensures (as-number c.requires.lexed.next c.in-Number.is).2

pub returns-in_err-n-in-Number : goal.returns-in_err-n-in-Number
returns-in_err-n-in-Number c =
    let is = as-number c.requires.lexed.next c.in-Number.is in
    let none = no_number (word_at c.args.labels.text.now c.args.lexeme.start) (rw c.word.ensures at c.in_err-n-in-Number.ensures) in
    rw c.from_residual.ensures (λ here outer h. rw (is.0, is.1, none) refl)

pub returns-in-Label : goal.returns-in-Label
unfolding part_of
returns-in-Label c =
    let names = names_of c.args.labels.text.now c.args.labels.starts.now in
    let w = word_at c.args.labels.text.now c.args.lexeme.start in
    let is = as-label c.requires.lexed.next c.in-Label.is in
    let moved = c.requires.lexed.moves (λ e. apart (λ z. omega arith) (sym c.in-Label.is ∙ e)) in
    let l = c.requires.lexed in
    record {
      terms = record { taken = c.args.taken; part = label w } ∷ [];
      counts = rw (c.single.ensures, c.address.ensures.value)
          (label-counts names c.args.labels.addresses.now c.args.at c.args.lexeme.next (omega (arith, l.from)) c.args.taken w (rw c.address.ensures.value at c.address.ensures.small));
      from = omega (arith, l.from, l.starts);
      within = l.within;
      reads = λ here outer h. rw (is.0, is.1) refl;
    }

pub returns-in_ok-n-in-Number : goal.returns-in_ok-n-in-Number
returns-in_ok-n-in-Number c =
    let names = names_of c.args.labels.text.now c.args.labels.starts.now in
    let w = word_at c.args.labels.text.now c.args.lexeme.start in
    let is = as-number c.requires.lexed.next c.in-Number.is in
    let moved = c.requires.lexed.moves (λ e. apart (λ z. omega arith) (sym c.in-Number.is ∙ e)) in
    let l = c.requires.lexed in
    let n = number-read w c.in_ok-n-in-Number.n (rw c.word.ensures at c.in_ok-n-in-Number.ensures) in
    record {
      terms = record { taken = c.args.taken; part = number c.in_ok-n-in-Number.n } ∷ [];
      counts = rw c.single-in-Number.ensures
          (number-counts names c.args.labels.addresses.now c.args.at c.args.lexeme.next (omega (arith, l.from)) c.args.taken c.in_ok-n-in-Number.n (omega arith));
      from = omega (arith, l.from, l.starts);
      within = l.within;
      reads = λ here outer h. rw (is.0, is.1, n) refl;
    }

pub returns-in_default : goal.returns-in_default
returns-in_default c here outer h =
    as_none c.requires.lexed.next c.in_default.not-Label c.in_default.not-Number c.requires.not_opening c.args.taken here outer
