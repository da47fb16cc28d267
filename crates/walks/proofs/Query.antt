-- A query, `fn f(x: &R) -> uW { g(*x) }`, meets what g promises of the record: a walk of its MIR by hand, over any struct R, any width of the answer
-- and any g. The borrow is looked into, the record copied out and handed on; g's answer is the answer. All that is known of g is its contract.
-- Assumes nothing.
use mathlib.Core.Path.{◌≡◌, refl}
use Prim.Native.Nat.{ℕ}
use mathlib.Core.List.{[], ◌∷◌, List}
use seplogic.Ra.Ura.{Ura}
use mir.Syntax.{Callee, Width, ty_int, ty_ref, imm, named, place, deref, copy, rv_opd, seq, assign, call, return, local, value_local, Fn}
use mir.Val.{Val, vptr}
use base.Logic.{SProp, ent, emp, via, fst∗, snd∗, ex_e, id⊢}
use base.Fml.{Lft, Share, ftrue, flft}
use prog.Model.{Model}
use prog.Routine.{Routine, Env}
use prog.Wp.{Calls, Loops, WpFn, Closed}
use types.Logic.{Logic, sem}
use contract.Monad.{fact}
use contract.Running.{Running, tables}
use types.Kit.{‵, raw, some, later, ◌⊛◌, ⋆, ◌$◌, ◌∵◌, !, qed, by, move, keep, drop, use1, split, join, pick, fsplit, fjoin, feq_i, suffices, frame, await, done}
use types.Run.{look, init, forget, stop, from, load, and_then, no_more, land, returns, enter, alloc1, alloc0, params1, pass1, pass0, free1, free0}
use sound.WpLaws.{FmC}
use denote.RattleType.{owns}
use denote.Laws.{Is, shows}
use denote.Memory.{hidden_shr, pointee}
use denote.Plain.{UInt, uint_Lawful}
use denote.Builtin.{RefOf}
use denote.Ref.{Bor, ShrRef, shr_vals, shr_Tells}
use denote.Signature.{plain}
use denote.Steps.{owned, peeks, heard, nothing}
use denote.Struct.Declared.{Declared, fields, row}
use denote.Struct.Laws as LL
use denote.Struct.Struct.{Plains}
use denote.Triple.Entry.{on_entry}
use denote.Triple.Spec.{Meets, triple_of}
use denote.Triple.Statement.{Contract, Triple}
use denote.Triple.Call.{calls_at}
use denote.Triple.Clauses.{Ended, Clauses, closing, ensured, lasts}
use denote.Triple.Walked.{says, Stays, stay_none_ref, walk_of, AllGo, Goes-none_ref, Walks, ends_at, walked}
use denote.Exit.{yes}
use Rattle.walks.proofs.Calling.{calling}
use Rattle.walks.proofs.Copied.{laid, lent-copied}

module _ (D : Declared) (w : Width) where
  -- the function, at the name of the one that it calls
  abbrev pub function : Callee → Fn
  function g = record {
    lifetimes = 1;
    outlives = [];
    ty_params = [];
    givens = 0;
    params = 1;
    locals = local (ty_int w) value_local ∷ local (ty_ref (named 0) imm (pointee (row D).written)) value_local ∷ local (laid D) value_local ∷ [];
    body = seq (assign (place 2 []) (rv_opd (copy (place 1 (deref (laid D) ∷ []))))) (seq (call g (copy (place 2 []) ∷ []) (place 0 [])) return);
  }

  -- the two signatures: of the function, and of the one that it calls
  abbrev pub outer : Ended
  outer = record {
    signature = record { lifetimes = 1; outlives = []; params = RefOf (0 ∷ []) tt (plain (λ _. row D)) (λ _. tt) ∷ []; result = plain (λ _. UInt w) };
    kept = (yes, tt);
  }

  abbrev pub inner : Ended
  inner = record { signature = record { lifetimes = 0; outlives = []; params = plain (λ _. row D) ∷ []; result = plain (λ _. UInt w) }; kept = (yes, tt) }

  abbrev stayed : Stays outer.signature.params outer.kept
  stayed = (stay_none_ref (0 ∷ []) tt (plain (λ _. row D)) yes, tt)

  -- both promise P of the record and the answer
  module _ (P : D.D → ℕ → Type 0) {M : Type 1} (𝓤 : Ura M) where
    abbrev pub asked : Clauses 𝓤 outer
    asked κs a = record { ghost = Unit {0}; requires = λ _. emp 𝓤; ensures = λ _ r _. fact 𝓤 (P a.0.now r) }

    abbrev pub answered : Clauses 𝓤 inner
    answered κs a = record { ghost = Unit {0}; requires = λ _. emp 𝓤; ensures = λ _ r _. fact 𝓤 (P a.0 r) }

    abbrev pub Called : (𝓛 : Logic 𝓤) → Contract 𝓤
    Called 𝓛 = triple_of 𝓛 inner.signature (closing 𝓛 inner answered)

  module _ (L : LL.Laws D) (pl : Plains (fields D)) (cs : LL.Copyables D.parts) (P : D.D → ℕ → Type 0) {M : Type 1} {𝓤 : Ura M} (𝓛 : Logic 𝓤) where
    open 𝓛 use {H}

    module _ (κ : Lft) (q : Share) (b o : ℕ) (h : D.D) where
      abbrev x : Bor D.D × Unit {0}
      x = (record { ref_ptr = (b, o); now = h }, tt)

      abbrev vals : List Val × Unit {0}
      vals = (vptr b o ∷ [], tt)

      abbrev Post : Val → SProp 𝓤
      Post = (walk_of 𝓛 outer stayed (asked P 𝓤)).post (((κ, tt), (q, tt), tt, x, vals), tt)

      -- what is passed on
      abbrev to : (Called P 𝓤 𝓛).Ghost
      to = ((tt, tt, tt, (h, tt), (LL.vals D L h, tt)), tt)

      goes : Is (row D) h (LL.vals D L h) → ent 𝓤 (sem 𝓛 ftrue) ((Called P 𝓤 𝓛).pre to)
      goes was = qed 𝓛 (‵ ftrue ∷ []) ∵ owned ! (row D) (Is (row D)) (LL.makes D pl 𝓛) h _ was $ join ! $ nothing ! $ join ! $ frame ! $ done !

      said : (r : ℕ) → ent 𝓤 (ensured 𝓛 inner (answered P 𝓤) tt (h, tt) tt r) (fact 𝓤 (P h r))
      said r = ex_e 𝓤 _ (λ ws. snd∗ 𝓤 (sem 𝓛 (lasts inner tt (h, tt) ws)) (fact 𝓤 (P h r)))

      exits : (r : ℕ) (v : Val) → P h r → ent 𝓤 (⋆ 𝓛 (‵ (flft κ q) ∷ ‵ (hidden_shr (row D) κ h b o) ∷ ‵ ((UInt w).own_val r (v ∷ [])) ∷ [])) (Post v)
      exits r v e =
          qed 𝓛 (‵ (flft κ q) ∷ ‵ (hidden_shr (row D) κ h b o) ∷ ‵ ((UInt w).own_val r (v ∷ [])) ∷ []) ∵
          suffices ! _ (ends_at 𝓛 outer stayed (asked P 𝓤) (((κ, tt), (q, tt), tt, x, vals), tt) v r (tt, tt) (tt, tt)) $ says ! e $
          nothing ! $ move ! (1 ∷ 0 ∷ []) $ join ! $ frame ! $ feq_i ! (List Val) (vptr b o ∷ []) (vptr b o ∷ []) refl $ fjoin ! $ nothing ! $ move ! (1 ∷ 0 ∷ []) $ fjoin ! $ done !

      walk : (C : Calls 𝓤 H) (Λ : Loops 𝓤 H) (g : Callee) → FmC 𝓤 H 𝓛.laws C → Triple 𝓤 (C g) (Called P 𝓤 𝓛)
          → ent 𝓤 (on_entry 𝓛 outer.signature (κ, tt) (q, tt) x vals) (WpFn 𝓤 H C Λ (function g) (vptr b o ∷ []) Post)
      walk C Λ g fm known =
          qed 𝓛 ((‵ (flft κ q) ⊛ ‵ ftrue) ∷ ‵ (owns (ShrRef (named 0) κ (row D) ∷ []) x vals) ∷ []) ∵ enter ! C Λ (function g) (vptr b o ∷ []) _ $
          alloc1 ! (λ l₀. alloc1 ! (λ l₁. alloc1 ! (λ l₂. alloc0 ! $ params1 ! $ pass1 ! (init ! 2 refl (tt, tt)) $ pass0 ! $
          -- what the reference owns is taken apart
          move ! (7 ∷ []) $ fsplit ! $ fsplit ! $ drop ! $ move ! (8 ∷ []) $ split ! $ move ! (2 ∷ 0 ∷ []) $
          -- [the borrow; its token; true; true; _2; …; _1; …; room for _0; …]
          lent-copied ! D L cs 1 2 4 2 b o h refl refl refl (λ was.
          -- [the token; the borrow; true; true; _2; …]
          move ! (2 ∷ []) $ use1 𝓛 (raw ((Called P 𝓤 𝓛).pre to)) (goes was) $
          calls_at ! fm (Called P 𝓤 𝓛) known to (and_then ! (load ! (from ! (stop !)) (look ! 4 refl)) (no_more !)) (λ v.
          use1 𝓛 (later (some (λ (r : ℕ). (‵ ftrue ⊛ ‵ ((UInt w).own_val r (v ∷ []))) ⊛ raw (ensured 𝓛 inner (answered P 𝓤) tt (h, tt) tt r)))) (id⊢ 𝓤 _) $ await ! tt $ pick ! (λ r.
          split ! $ move ! (1 ∷ []) $ use1 𝓛 (raw (fact 𝓤 (P h r))) (said r) $ heard ! (P h r) (λ e. split ! $ drop ! $
          -- [the answer; the token; the borrow; true; _2; …; _1; …; room for _0; …]
          peeks ! (UInt w) (Is (UInt w)) (shows 𝓛 (UInt w)) r (v ∷ []) (λ is. land ! (from ! (stop !)) (init ! 8 refl ((uint_Lawful 𝓛 w).typed r _ is).0) $
          returns ! (look ! 8 refl) $ forget ! 4 refl $ forget ! 6 refl $ forget ! 8 refl $ move ! (8 ∷ 9 ∷ []) $ free1 ! $ move ! (6 ∷ 7 ∷ []) $ free1 ! $ move ! (4 ∷ 5 ∷ []) $ free1 ! $ free0 ! $
          keep ! (1 ∷ 2 ∷ 0 ∷ []) $ by ! (exits r v e)))))))))

    walks : (C : Calls 𝓤 H) (Λ : Loops 𝓤 H) (g : Callee) → FmC 𝓤 H 𝓛.laws C → Triple 𝓤 (C g) (Called P 𝓤 𝓛) → Walks 𝓛 outer stayed (WpFn 𝓤 H C Λ (function g)) (asked P 𝓤)
    walks C Λ g fm known =
        walked 𝓛 outer stayed (asked P 𝓤) (WpFn 𝓤 H C Λ (function g)) (λ κs. (shr_vals, tt)) (λ κs. (shr_Tells (named 0) κs.0 (row D), tt))
        (λ κs qs bounds x _ are. via 𝓤 _ (fst∗ 𝓤 _ (emp 𝓤)) (walk κs.0 qs.0 x.0.ref_ptr.0 x.0.ref_ptr.1 x.0.now C Λ g fm known))

    all_go : AllGo 𝓛 1 outer.signature.params outer.kept stayed
    all_go = (Goes-none_ref 𝓛 1 (0 ∷ []) tt (plain (λ _. row D)) yes, tt)

-- the function f over g, where g's routine is known to meet its contract
pub query : (D : Declared) (L : LL.Laws D) (pl : Plains (fields D)) (cs : LL.Copyables D.parts) (w : Width) (P : D.D → ℕ → Type 0) {M : Type 1} {𝓤 : Ura M} (𝓛 : Logic 𝓤) (𝓜 : Model 𝓤 𝓛.H) (𝓡 : Running 𝓤 𝓛.H 𝓜)
    (env : Env) (f g : Callee) (r : Routine) → env g ≡ r → Closed 𝓤 𝓛.H (tables 𝓤 𝓛.H 𝓜 𝓡 env).C (tables 𝓤 𝓛.H 𝓜 𝓡 env).Λ f (function D w g) → Triple 𝓤 (𝓡.run r) (Called D w P 𝓤 𝓛)
    → Meets 𝓛 (outer D w).signature (𝓡.run (env f)) (closing 𝓛 (outer D w) (asked D w P 𝓤))
query D L pl cs w P {𝓤 = 𝓤} 𝓛 𝓜 𝓡 env f g =
    calling 𝓛 𝓜 𝓡 (outer D w) (stayed D w) (all_go D w L pl cs P 𝓛) (asked D w P 𝓤) (function D w g) g (Called D w P 𝓤 𝓛)
    (λ C Λ. walks D w L pl cs P 𝓛 C Λ g) env f
