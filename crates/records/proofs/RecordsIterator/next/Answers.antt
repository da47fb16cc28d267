-- `records::Records::next` meets its contract: the first of the records that are left, and the others. Assumes nothing.
use Rattle.std.proofs.Common.{rules, length, sym, subst, Option, ◌≤◌}
use Rattle.std.specs.Iterator.{YieldsFirstBy}
use native.Mathlib.Omega.{arith}
use Rattle.records.specs.Places.{place, places_left}
use Rattle.records.specs.declared.RawRecord.{RawRecord}
use Rattle.records.proofs.Offsets.{places_end, places_next}
use Rattle.records.proofs.RecordsIterator.next.Goals as goal

pub returns-in_err-record-clause-steps : goal.returns-in_err-record-clause-steps
returns-in_err-record-clause-steps c =
    let past : length c.args.self.now.bytes.now ≤ c.args.self.now.at = grind (arith, c.in_err-record.ensures.inside) in
    let e = places_end c.args.self.now.bytes.now c.args.self.now.at past in
    subst (λ (r : Option RawRecord). YieldsFirstBy place places_left c.args.self.now r c.args.self.now) (sym c.from_residual.ensures) (e, e)

pub returns-clause-steps : goal.returns-clause-steps
returns-clause-steps c =
    let e = c.in_ok-record.ensures in
    places_next c.args.self.now.bytes.now c.args.self.now.at (place c.in_ok-record.record) c.end-self.result e.there (search rules) c.end-self.ensures

pub returns-clause-goes : goal.returns-clause-goes
returns-clause-goes c = search (rules, returns-clause-steps c)
