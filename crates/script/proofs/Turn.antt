-- One turn of the loop that applies a script's records, on plain values. Between turns the bytes written, the reports to come and the
-- bytes after them are the buffer that is to be left; there is room for the reports to come; and no record to come is refused. Assumes
-- nothing.
use Prim.Native.Nat.{ℕ, ◌+◌, ◌*◌, ◌<◌, ◌≤◌}
use native.Mathlib.Omega.{arith}
use mathlib.Core.Path.{◌≡◌, refl, sym, ap, subst, ◌∙◌}
use mathlib.Core.List.{List, ◌∷◌, ◌++◌, map}
use lib.ListN.{length, take, drop}
use Rattle.rom.specs.Fetching.{Bytes}
use Rattle.machine.specs.Power.{blank}
use Rattle.machine.specs.Events.{Input, answer_to}
use Rattle.machine.specs.Report.{reported}
use Rattle.machine.specs.declared.Machine.{Machine}
use Rattle.machine.proofs.Reports.{report-length}
use Rattle.records.specs.Records.{size_at, offsets_from}
use Rattle.script.specs.Format.{input_at, inputs}
use Rattle.script.specs.Check.{checked}
use Rattle.script.specs.Reports.{next, reports_of, fronted}
use Rattle.records.proofs.Offsets.{from_next}
use Rattle.script.proofs.Checks.{accepted}
use Rattle.script.proofs.Accepts.{Taken, more, all-taken}
use Rattle.script.proofs.Rests.{rest, rest_all, rest_end, rest-next, whole, whole-more, whole-none, whole-first, put-length}

-- the buffer that is to be left
abbrev pub left : List ℕ → List ℕ → List ℕ → List ℕ
left mask s out₀ = fronted (reports_of mask s) out₀

pub record Held (mask s out₀ out : List ℕ) (at done : ℕ) (m : Machine) : Type 0 where
  pub buffer : whole out done (rest mask s at m) ≡ left mask s out₀
  pub room : done + 48 * length (offsets_from s at) ≤ length out
  pub size : length out ≡ length out₀
  pub taken : Taken mask (map (input_at s) (offsets_from s at)) m

-- the next input is taken, and so are those after it
taken-now : {mask : List ℕ} {i : Input} {is : List Input} {m : Machine} → Taken mask (i ∷ is) m → ((answer_to mask i m).refusal ≡ 0) × Taken mask is (next mask i m)
taken-now (more i r t) = (r, t)

module _ (mask s out₀ : List ℕ) where
  pub begins : Bytes mask → (checked mask s (length out₀)).number ≡ 0 → Held mask s out₀ out₀ 0 0 blank
  unfolding inputs
  begins b e = record {
    buffer = ap (whole out₀ 0) (rest_all mask s) ∙ whole-first out₀ (reports_of mask s);
    room = omega (arith, (accepted mask s (length out₀) e).fits);
    size = refl;
    taken = all-taken mask s b (length out₀) e;
  }

  module _ (out : List ℕ) (at done : ℕ) (m : Machine) (v : Held mask s out₀ out at done m) where
    pub ends : length s ≤ at → out ≡ left mask s out₀
    ends h = sym (whole-none out done) ∙ ap (whole out done) (sym (rest_end mask s at m h)) ∙ v.buffer

    module _ (h : at < length s) where
      pub fits : done + 48 ≤ length out
      fits = omega (arith, v.room, ap length (from_next s at h))

      both : ((answer_to mask (input_at s at) m).refusal ≡ 0) × Taken mask (map (input_at s) (offsets_from s (at + 4 + size_at s at))) (next mask (input_at s at) m)
      both = taken-now (subst (λ (l : List ℕ). Taken mask (map (input_at s) l) m) (from_next s at h) v.taken)

      -- the record is not refused
      pub well : (answer_to mask (input_at s at) m).refusal ≡ 0
      well = both.0

      -- one record more
      pub turns : (m' : Machine) (out' : List ℕ) → m' ≡ next mask (input_at s at) m
          → out' ≡ take done out ++ (reported m' ++ drop (done + 48) out) → Held mask s out₀ out' (at + 4 + size_at s at) (done + 48) m'
      turns m' out' e =
          subst (λ (n : Machine). out' ≡ take done out ++ (reported n ++ drop (done + 48) out) → Held mask s out₀ out' at' (done + 48) n) (sym e) go
        where
          at' : ℕ
          at' = at + 4 + size_at s at

          n : Machine
          n = next mask (input_at s at) m

          go : out' ≡ take done out ++ (reported n ++ drop (done + 48) out) → Held mask s out₀ out' at' (done + 48) n
          go o =
              let l = report-length n in
              let k = ap length o ∙ put-length out (reported n) done l fits in
              record {
                buffer =
                    ap (λ (x : List ℕ). whole x (done + 48) (rest mask s at' n)) o
                    ∙ whole-more out (reported n) (rest mask s at' n) done l fits
                    ∙ ap (whole out done) (sym (rest-next mask s at m h))
                    ∙ v.buffer;
                room = omega (arith, v.room, ap length (from_next s at h), k);
                size = k ∙ v.size;
                taken = both.1;
              }
