-- `assembler::assemble::written` meets its contract. Assumes nothing.
use Rattle.std.proofs.Common.{ℕ, ap, replicate, sym, ◌∙◌}
use Rattle.assembler.specs.Program.{end, program, put, start}
use Rattle.assembler.proofs.Judging.{accepted}
use Rattle.assembler.proofs.assemble.written.Goals as goal

pub returns : goal.returns
returns c = let ls = program c.args.labels.text.now in
    accepted ls c.args.out.now c.requires.placed.settled.read c.requires.labelled c.requires.placed.placed (sym c.in_ok-check_values.ensures.line) _
    (c.write_lines.ensures ∙ ap (put (end start ls) start ls)
    (c.fill.ensures.after (λ y h. h) ∙ ap (λ (n : ℕ). replicate n 62) c.requires.sized))
