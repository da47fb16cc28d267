-- The first pass, on plain values: every line so far can be read, and the labels' words stand at the places noted. Assumes nothing.
use Prim.Native.Nat.{ℕ, suc, ◌+◌, ◌*◌, ◌<◌, ◌≤◌}
use mathlib.Core.Path.{◌≡◌, refl, sym, ap, ◌∙◌}
use mathlib.Core.Bool.{true, false}
use mathlib.Core.List.{List, [], ◌∷◌, ◌++◌, append-nil, map, map-append}
use native.Mathlib.Numerals.{add-one}
use native.Mathlib.Omega.{arith}
use lib.ListN.{length, set, take, length-set}
use lib.Seq.{take-suc-set}
use Rattle.std.specs.Prelude.{Ok, Err}
use Rattle.isa.specs.Choice.{pick}
use Rattle.operand.specs.Read.{names_at, tokens_at, word_at}
use Rattle.operand.proofs.Texts.{case}
use Rattle.assembler.specs.Statement.{Statement, statement}
use Rattle.assembler.specs.Program.{Above, end, first, next, program, start, unread}
use Rattle.assembler.specs.Read.{Parts, Shows}
use Rattle.assembler.specs.Passing.{Collected, line_end}
use Rattle.assembler.specs.declared.refused.Refused.{Refused}
use Rattle.assembler.proofs.Splitting.{end-within, last_line, next-line, program_at}
use Rattle.assembler.proofs.Walking.{first_found, first_on, labelled-long, shows-named, shows-place, shows-unread, split}

pub record Reading (text starts : List ℕ) (at number count : ℕ) : Type 0 where
  pub s : Above
  pub within : at ≤ length text
  pub some_number : 0 < number
  pub few : number ≤ at + 1
  pub many : 2 * count ≤ at
  pub room : length starts ≡ 32768
  pub found : first unread start 1 (program text) ≡ first unread s number (program_at text at)
  pub ends : end start (program text) ≡ end s (program_at text at)
  pub names : s.names ≡ names_at text starts count
  pub held : count ≤ length starts

pub begin : (text starts : List ℕ) → length starts ≡ 32768 → Reading text starts 0 1 0
begin text starts h = record {
  s = start;
  within = omega arith;
  some_number = omega arith;
  few = omega arith;
  many = omega arith;
  room = h;
  found = refl;
  ends = refl;
  names = refl;
  held = omega arith;
}

-- a name more
note-name : (text starts : List ℕ) (count v : ℕ) → count < length starts
    → names_at text (set starts count v) (suc count) ≡ names_at text starts count ++ (word_at text v ∷ [])
note-name text starts count v h = ap (map (word_at text)) (take-suc-set starts count v h) ∙ map-append (word_at text) (take count starts) (v ∷ [])

module _ {text starts none : List ℕ} {at number count : ℕ} {r : Parts} (short : length text ≤ 65535) (g : Reading text starts at number count)
    (x : Shows text [] [] none (statement (tokens_at text at)) r) where
  pub unreadable-line : r.readable ≡ false → (e : Refused) → e.line ≡ number → Collected text starts (Err e)
  unreadable-line b e n =
      let l = split text at g.within in
      record {
        line = n ∙ sym (g.found ∙ ap (first unread g.s number) l.is
            ∙ first_found unread g.s number (statement (tokens_at text at)) l.rest (shows-unread x g.s ∙ rw b refl));
        held = omega arith;
        room = g.room;
        names = λ z. absurd (omega (arith, g.some_number, n));
      }

  module _ (readable : r.readable ≡ true) where
    read-on : (rest : List Statement) → program_at text at ≡ statement (tokens_at text at) ∷ rest
        → first unread start 1 (program text) ≡ first unread (next g.s (statement (tokens_at text at))) (suc number) rest
    read-on rest e = g.found ∙ ap (first unread g.s number) e
        ∙ first_on unread g.s number (statement (tokens_at text at)) rest (shows-unread x g.s ∙ rw readable refl)

    -- a label has a place to be noted at, and two characters of the text
    pub label-place : r.labelled ≡ true → (count < length starts) × (r.label ≤ length text) × (at + 2 ≤ line_end text at)
    label-place l =
        let p = shows-place x readable l in
        let long = labelled-long text at (word_at text r.label) p.1 in
        let inside = end-within text at g.within in
        (omega (arith, g.room, g.many), p.0, long)

    module _ (starts' : List ℕ) (count' : ℕ) (stored : starts' ≡ pick r.labelled (set starts count r.label) starts)
        (counts : count' ≡ pick r.labelled (count + 1) count) where
      pub record Noted : Type 0 where
        pub many : 2 * count' ≤ line_end text at
        pub room : length starts' ≡ 32768
        pub names : (next g.s (statement (tokens_at text at))).names ≡ names_at text starts' count'
        pub held : count' ≤ length starts'

      next-names : (next g.s (statement (tokens_at text at))).names ≡ g.s.names ++ pick r.labelled (word_at text r.label ∷ []) []
      unfolding next
      next-names = ap (λ (ns : List (List ℕ)). g.s.names ++ ns) (shows-named x readable)

      noted : Noted
      noted = case r.labelled
          (λ l. let p = label-place l in
          let e : starts' ≡ set starts count r.label = stored ∙ rw l refl in
          let f : count' ≡ suc count = counts ∙ rw (l, add-one) refl in
          record {
            many = omega (arith, g.many, p.2);
            room = ap length e ∙ length-set starts count r.label ∙ g.room;
            names = next-names ∙ rw (l, e, f, g.names) (sym (note-name text starts count r.label p.0));
            held = rw (e, f) (omega (arith, length-set starts count r.label, p.0));
          })
          (λ l. let e : starts' ≡ starts = stored ∙ rw l refl in
          let f : count' ≡ count = counts ∙ rw l refl in
          record {
            many = omega (arith, g.many);
            room = ap length e ∙ g.room;
            names = next-names ∙ rw (l, e, f, g.names) (append-nil (names_at text starts count));
            held = rw (e, f) g.held;
          })

      pub collected : line_end text at ≡ length text → Collected text starts' (Ok count')
      collected e =
          let is = last_line text at g.within e in
          record {
            line = sym (read-on [] is);
            held = noted.held;
            room = noted.room;
            names = λ _. ap (λ (a : Above). a.names) (g.ends ∙ ap (end g.s) is) ∙ noted.names;
          }

      pub read_next : line_end text at < length text → Reading text starts' (line_end text at + 1) (number + 1) count'
      read_next h =
          let is = next-line text at g.within h in
          record {
            s = next g.s (statement (tokens_at text at));
            within = omega arith;
            some_number = omega arith;
            few = omega (arith, g.few);
            many = omega (arith, noted.many);
            room = noted.room;
            found = read-on (program_at text (line_end text at + 1)) is
                ∙ ap (λ (k : ℕ). first unread (next g.s (statement (tokens_at text at))) k (program_at text (line_end text at + 1))) (sym (add-one number));
            ends = g.ends ∙ ap (end g.s) is;
            names = noted.names;
            held = noted.held;
          }
