-- `records::count` meets its contract: there are fewer records than bytes. Assumes nothing.
use Rattle.std.proofs.Common.{length, inl, ap, ◌∙◌}
use Rattle.std.proofs.lemmas.Iterator.Consumers.{YieldsList-from_first, count_from_yields_List}
use native.Mathlib.Omega.{arith}
use Rattle.records.specs.Places.{place, places, places_left}
use Rattle.records.proofs.Offsets.{few, as_many}
use Rattle.records.proofs.count.Goals as goal

pub count-requires-clause-fits : goal.count-requires-clause-fits
count-requires-clause-fits c = inl (omega (arith, few c.args.bytes.now 0, ap length c.new.ensures ∙ as_many c.args.bytes.now 0, c.well_formed))

pub returns : goal.returns
returns c =
    count_from_yields_List c.new.result c.count.result c.count.ensures.ran
    (YieldsList-from_first place places_left (places c.args.bytes.now 0) c.new.ensures)
    ∙ as_many c.args.bytes.now 0
