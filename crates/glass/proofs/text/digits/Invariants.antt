use Rattle.std.proofs.Common.{◌≡◌, ◌^◌, ◌<◌}
use Rattle.glass.specs.Drawing.{digits_of}
use Rattle.glass.specs.Text.{packed, spelt}
use Rattle.glass.proofs.text.digits.Given as goal

-- the text so far is that of the digits so far
abbrev pub invariant-loop-after : goal.invariant-loop-after
invariant-loop-after l = (l.text ≡ packed (spelt (digits_of l.after l.figure.size l.figure.places))) × (l.text < 65536 ^ l.after)
