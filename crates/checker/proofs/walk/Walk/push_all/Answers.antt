-- `checker::walk::Walk::push_all` meets its contract: an arm knows the codes, and a push keeps the room. Assumes nothing.
use Prim.Native.Nat.{ℕ, ◌<◌}
use mathlib.Core.Path.{◌≡◌, refl, sym, ap, subst, ◌∙◌}
use mathlib.Core.List.{[]}
use Rattle.reach.specs.Walk.{Work, work, pushed, pushed_all, Room, Small}
use Rattle.reach.proofs.Count.{room-pushed}
use Rattle.checker.specs.Walk.{pairs, codes_of}
use Rattle.checker.specs.declared.next.Codes.{Codes}
use Rattle.checker.specs.declared.next.Codes.TheVariants.{Nothing, One, Two, Three}
use Rattle.checker.proofs.walk.Walk.push_all.Goals as goal

-- a list's codes are in range where they are these codes
small : (s d : Codes) → s ≡ d → Small pairs (codes_of s) → Small pairs (codes_of d)
small s d e h = subst (λ (d : Codes). Small pairs (codes_of d)) e h

-- the room after a push
room_after : (v w : Work) (c : ℕ) → w ≡ pushed v c → Room pairs v.seen v.tail → c < pairs → Room pairs w.seen w.tail
room_after v w c e r h = subst (λ (u : Work). Room pairs u.seen u.tail) (sym e) (room-pushed v c r h)

-- pushes in a row
none-pushed : (w : Work) (s d : Codes) → s ≡ d → codes_of d ≡ [] → w ≡ pushed_all w (codes_of s)
unfolding pushed_all
none-pushed w s d e f = sym (ap (λ (d : Codes). pushed_all w (codes_of d)) e ∙ ap (pushed_all w) f)

one-pushed : (w u : Work) (s : Codes) (a : ℕ) → s ≡ One a → u ≡ pushed w a → u ≡ pushed_all w (codes_of s)
unfolding pushed_all
one-pushed w u s a e p = p ∙ ap (λ (d : Codes). pushed_all w (codes_of d)) (sym e)

two-pushed : (w u v : Work) (s : Codes) (a b : ℕ) → s ≡ Two a b → u ≡ pushed w a → v ≡ pushed u b → v ≡ pushed_all w (codes_of s)
unfolding pushed_all
two-pushed w u v s a b e p q = q ∙ ap (λ (x : Work). pushed x b) p ∙ ap (λ (d : Codes). pushed_all w (codes_of d)) (sym e)

three-pushed : (w u v x : Work) (s : Codes) (a b c : ℕ) → s ≡ Three a b c → u ≡ pushed w a → v ≡ pushed u b → x ≡ pushed v c → x ≡ pushed_all w (codes_of s)
unfolding pushed_all
three-pushed w u v x s a b c e p q r =
    r ∙ ap (λ (x : Work). pushed x c) (q ∙ ap (λ (x : Work). pushed x b) p) ∙ ap (λ (d : Codes). pushed_all w (codes_of d)) (sym e)

pub push-requires-in-Two : goal.push-requires-in-Two
push-requires-in-Two c =
    let h = small c.args.codes (Two c.in-Two.a c.in-Two.b) c.in-Two.is c.requires.small in
    record { code_lt_pairs = h.1.0; room = room_after (work c.args.self.now.seen c.args.self.now.queue c.args.tail) (work c.push-one.new.self.seen c.push-one.new.self.queue c.push-one.result) c.in-Two.a c.push-one.ensures.found c.requires.room h.0 }

pub push-two-requires : goal.push-two-requires
push-two-requires c =
    let h = small c.args.codes (Three c.in-Three.a c.in-Three.b c.in-Three.c) c.in-Three.is c.requires.small in
    record { code_lt_pairs = h.1.0; room = room_after (work c.args.self.now.seen c.args.self.now.queue c.args.tail) (work c.push-one-in-Three.new.self.seen c.push-one-in-Three.new.self.queue c.push-one-in-Three.result) c.in-Three.a c.push-one-in-Three.ensures.found c.requires.room h.0 }

pub push-requires-in-Three : goal.push-requires-in-Three
push-requires-in-Three c =
    let h = small c.args.codes (Three c.in-Three.a c.in-Three.b c.in-Three.c) c.in-Three.is c.requires.small in
    let r = room_after (work c.args.self.now.seen c.args.self.now.queue c.args.tail) (work c.push-one-in-Three.new.self.seen c.push-one-in-Three.new.self.queue c.push-one-in-Three.result) c.in-Three.a c.push-one-in-Three.ensures.found c.requires.room h.0 in
    record { code_lt_pairs = h.1.1.0; room = room_after (work c.push-one-in-Three.new.self.seen c.push-one-in-Three.new.self.queue c.push-one-in-Three.result) (work c.push-two.new.self.seen c.push-two.new.self.queue c.push-two.result) c.in-Three.b c.push-two.ensures.found r h.1.0 }

-- a return
pub returns-in-Nothing-clause-found : goal.returns-in-Nothing-clause-found
returns-in-Nothing-clause-found c =
    none-pushed (work c.args.self.now.seen c.args.self.now.queue c.args.tail) c.args.codes Nothing c.in-Nothing.is refl

pub returns-in-One-clause-found : goal.returns-in-One-clause-found
returns-in-One-clause-found c =
    one-pushed (work c.args.self.now.seen c.args.self.now.queue c.args.tail) (work c.push.new.self.seen c.push.new.self.queue c.push.result) c.args.codes c.in-One.a c.in-One.is c.push.ensures.found

pub returns-in-Two-clause-found : goal.returns-in-Two-clause-found
returns-in-Two-clause-found c =
    two-pushed (work c.args.self.now.seen c.args.self.now.queue c.args.tail) (work c.push-one.new.self.seen c.push-one.new.self.queue c.push-one.result) (work c.push-in-Two.new.self.seen c.push-in-Two.new.self.queue c.push-in-Two.result) c.args.codes c.in-Two.a c.in-Two.b c.in-Two.is c.push-one.ensures.found c.push-in-Two.ensures.found

pub returns-in-Three-clause-found : goal.returns-in-Three-clause-found
returns-in-Three-clause-found c =
    three-pushed (work c.args.self.now.seen c.args.self.now.queue c.args.tail) (work c.push-one-in-Three.new.self.seen c.push-one-in-Three.new.self.queue c.push-one-in-Three.result) (work c.push-two.new.self.seen c.push-two.new.self.queue c.push-two.result) (work c.push-in-Three.new.self.seen c.push-in-Three.new.self.queue c.push-in-Three.result) c.args.codes c.in-Three.a c.in-Three.b c.in-Three.c c.in-Three.is c.push-one-in-Three.ensures.found c.push-two.ensures.found c.push-in-Three.ensures.found
