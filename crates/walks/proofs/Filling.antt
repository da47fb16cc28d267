-- A query that fills a lent slice, `fn f(x: &R, out: &mut [E]) -> uW { g(*x, out) }`, meets what g promises of the record, the slice and the
-- answer: a walk of its MIR by hand, over any struct R, any element E, any width of the answer and any g. The record is copied out; the slice goes
-- to g at its own lifetime, and what g says of its last elements is what is said at exit. All that is known of g is its contract. Assumes nothing.
use mathlib.Core.Path.{◌≡◌, refl}
use Prim.Native.Nat.{ℕ}
use mathlib.Core.List.{[], ◌∷◌, List}
use lib.ListN.{length}
use seplogic.Ra.Ura.{Ura}
use mir.Syntax.{Callee, Width, Ty, Lifetime, ty_int, ty_ref, imm, mut, named, erased, place, field, deref, copy, rv_opd, addr_of, aggregate, seq, assign, call, return, local, value_local, Fn}
use mir.Val.{Val, vptr}
use base.Logic.{SProp, ent, sep, emp, via, fst∗, id⊢}
use base.Fml.{Lft, Share, Fml, fsep, ftrue, flft, fbor}
use prog.Model.{Model}
use prog.Routine.{Routine, Env}
use prog.Wp.{Calls, Loops, WpFn, Closed}
use types.Logic.{Logic, sem}
use contract.Monad.{fact}
use contract.Running.{Running, tables}
use types.Kit.{‵, raw, some, later, ◌⊛◌, ⋆, ◌$◌, ◌∵◌, !, qed, by, move, keep, drop, use1, use2, split, join, pick, fsplit, fjoin, feq_l, feq_i, suffices, frame, await, done}
use types.Run.{look, init, forget, stop, hop, fld, from, load, addr, and_then, no_more, assigns, land, returns, enter, alloc1, alloc0, params1, pass1, pass0, free1, free0}
use types.Part.{agg, whole, sub, look_in}
use types.SemTy.{Body, Arr}
use types.Hole.{Holey}
use sound.WpLaws.{FmC}
use denote.RattleType.{RattleType, owns}
use denote.Laws.{Is, shows}
use denote.Memory.{lone, mem, hidden_shr, pointee}
use denote.Plain.{UInt, uint_Lawful}
use denote.Builtin.{RefOf}
use denote.Ref.{Bor, MutBor, ShrRef, shr_vals, shr_Tells}
use denote.Slice.{slice_ty, slice_val, MutSlice, finally, mut_slice_vals, mut_slice_Tells, mut_slice_Lawful}
use denote.Signature.{plain, mut_slice_of}
use denote.Steps.{owned, peeks, heard, nothing}
use denote.Struct.Declared.{Declared, fields, row}
use denote.Struct.Laws as LL
use denote.Struct.Struct.{Plains}
use denote.Triple.Entry.{on_entry}
use denote.Triple.Spec.{Meets, triple_of}
use denote.Triple.Statement.{Contract, Triple}
use denote.Triple.Call.{calls_at}
use denote.Triple.Clauses.{Ended, Clauses, Lasts, closing, ensured, lasts}
use denote.Triple.Walked.{says, Stays, stay_none_ref, gave_slice, walk_of, AllGo, Goes-none_ref, Goes-gave_slice, Walks, ends_at, walked}
use denote.Exit.{yes}
use Rattle.walks.proofs.Calling.{calling}
use Rattle.walks.proofs.Copied.{laid, lent-copied}

module _ (D : Declared) (E : RattleType) (w : Width) where
  -- a reference to an element, and a slice
  abbrev element : Lifetime → Ty
  element ℓ = ty_ref ℓ mut (pointee E.written)

  abbrev slice : Lifetime → Ty
  slice ℓ = slice_ty (element ℓ)

  -- the function, at the name of the one that it calls
  abbrev pub function : Callee → Fn
  function g = record {
    lifetimes = 2;
    outlives = [];
    ty_params = [];
    givens = 0;
    params = 2;
    locals = local (ty_int w) value_local ∷ local (ty_ref (named 0) imm (pointee (row D).written)) value_local ∷ local (slice (named 1)) value_local ∷ local (laid D) value_local ∷ local (element erased) value_local ∷ local (slice erased) value_local ∷ [];
    body = seq (assign (place 3 []) (rv_opd (copy (place 1 (deref (laid D) ∷ [])))))
        (seq (assign (place 4 []) (addr_of (place 2 (field 0 ∷ deref (lone E.mir) ∷ []))))
        (seq (assign (place 5 []) (aggregate (copy (place 4 []) ∷ copy (place 2 (field 1 ∷ [])) ∷ [])))
        (seq (call g (copy (place 3 []) ∷ copy (place 5 []) ∷ []) (place 0 [])) return)));
  }

  -- the two signatures: of the function, and of the one that it calls
  abbrev pub outer : Ended
  outer = record {
    signature = record {
      lifetimes = 2;
      outlives = [];
      params = RefOf (0 ∷ []) tt (plain (λ _. row D)) (λ _. tt) ∷ mut_slice_of (1 ∷ []) tt (plain (λ _. E)) ∷ [];
      result = plain (λ _. UInt w);
    };
    kept = (yes, (yes, tt));
  }

  abbrev pub inner : Ended
  inner = record {
    signature = record { lifetimes = 1; outlives = []; params = plain (λ _. row D) ∷ mut_slice_of (0 ∷ []) tt (plain (λ _. E)) ∷ []; result = plain (λ _. UInt w) };
    kept = (yes, (yes, tt));
  }

  abbrev stayed : Stays outer.signature.params outer.kept
  stayed = (stay_none_ref (0 ∷ []) tt (plain (λ _. row D)) yes, (gave_slice (1 ∷ []) tt (plain (λ _. E)), tt))

  -- what is promised of the record, the elements before and after, and the answer
  abbrev pub Promise : Type 1
  Promise = D.D → List E.Denot → List E.Denot → ℕ → Type 0

  module _ (P : Promise) {M : Type 1} (𝓤 : Ura M) where
    abbrev pub asked : Clauses 𝓤 outer
    asked κs a = record { ghost = Unit {0}; requires = λ _. emp 𝓤; ensures = λ _ r e. fact 𝓤 (P a.0.now a.1.0.now e.1.0.now r) }

    abbrev pub answered : Clauses 𝓤 inner
    answered κs a = record { ghost = Unit {0}; requires = λ _. emp 𝓤; ensures = λ _ r e. fact 𝓤 (P a.0 a.1.0.now e.1.0.now r) }

    abbrev pub Called : (𝓛 : Logic 𝓤) → Contract 𝓤
    Called 𝓛 = triple_of 𝓛 inner.signature (closing 𝓛 inner answered)

  module _ (L : LL.Laws D) (pl : Plains (fields D)) (cs : LL.Copyables D.parts) (P : Promise) {M : Type 1} {𝓤 : Ura M} (𝓛 : Logic 𝓤) where
    open 𝓛 use {H, A}

    module _ (κ κ' : Lft) (q q' : Share) (b o : ℕ) (h : D.D) (s : MutBor (List E.Denot)) where
      abbrev x : Bor D.D × (MutBor (List E.Denot) × Unit {0})
      x = (record { ref_ptr = (b, o); now = h }, (s, tt))

      -- the slice's machine value
      abbrev u : Val
      u = slice_val s.ref_ptr (length s.now)

      abbrev vals : List Val × (List Val × Unit {0})
      vals = (vptr b o ∷ [], (u ∷ [], tt))

      abbrev Post : Val → SProp 𝓤
      Post = (walk_of 𝓛 outer stayed (asked P 𝓤)).post (((κ, (κ', tt)), (q, (q', tt)), tt, x, vals), tt)

      -- what is passed on
      abbrev args : D.D × (MutBor (List E.Denot) × Unit {0})
      args = (h, (s, tt))

      abbrev to : (Called P 𝓤 𝓛).Ghost
      to = (((κ', tt), (q', tt), tt, args, (LL.vals D L h, (u ∷ [], tt))), tt)

      goes : Is (row D) h (LL.vals D L h) → ent 𝓤 (sep 𝓤 (sep 𝓤 (A.lft κ' q') (sem 𝓛 ftrue)) (sem 𝓛 ((MutSlice (named 0) κ' E).own_val s (u ∷ [])))) ((Called P 𝓤 𝓛).pre to)
      goes was =
          qed 𝓛 ((‵ (flft κ' q') ⊛ ‵ ftrue) ∷ ‵ ((MutSlice (named 0) κ' E).own_val s (u ∷ [])) ∷ []) ∵
          nothing ! $ move ! (2 ∷ 0 ∷ []) $ fjoin ! $ owned ! (row D) (Is (row D)) (LL.makes D pl 𝓛) h _ was $ fjoin ! $ move ! (1 ∷ 0 ∷ []) $ join ! $ frame ! $ done !

      -- what is had of the slice at the end: what says its last elements, and the borrow, closed
      abbrev given : List E.Denot → Fml
      given zs = fsep (finally E s.ghost_name zs) (fbor κ' (Body (Arr (Holey (mem E)) (length s.now)) s.ref_ptr.0 s.ref_ptr.1 s.ghost_name))

      exits : (r : ℕ) (v : Val) (zs : List E.Denot) → P h s.now zs r → length zs ≡ length s.now
          → ent 𝓤 (⋆ 𝓛 (‵ (flft κ q) ∷ (‵ (flft κ' q') ⊛ ‵ ftrue) ∷ ‵ (hidden_shr (row D) κ h b o) ∷ ‵ (given zs) ∷ ‵ ((UInt w).own_val r (v ∷ [])) ∷ [])) (Post v)
      exits r v zs e l =
          qed 𝓛 (‵ (flft κ q) ∷ (‵ (flft κ' q') ⊛ ‵ ftrue) ∷ ‵ (hidden_shr (row D) κ h b o) ∷ ‵ (given zs) ∷ ‵ ((UInt w).own_val r (v ∷ [])) ∷ []) ∵
          suffices ! _ (ends_at 𝓛 outer stayed (asked P 𝓤) (((κ, (κ', tt)), (q, (q', tt)), tt, x, vals), tt) v r (tt, (zs, tt)) (tt, (l, tt))) $ says ! e $
          join ! $ frame ! $ feq_i ! (List Val) (vptr b o ∷ []) (vptr b o ∷ []) refl $ fjoin ! $ nothing ! $ move ! (2 ∷ 0 ∷ []) $ fjoin ! $ move ! (1 ∷ 0 ∷ []) $ fjoin ! $ done !

      walk : (C : Calls 𝓤 H) (Λ : Loops 𝓤 H) (g : Callee) → FmC 𝓤 H 𝓛.laws C → Triple 𝓤 (C g) (Called P 𝓤 𝓛) → Is (MutSlice (named 1) κ' E) s (u ∷ [])
          → ent 𝓤 (on_entry 𝓛 outer.signature (κ, (κ', tt)) (q, (q', tt)) x vals) (WpFn 𝓤 H C Λ (function g) (vptr b o ∷ u ∷ []) Post)
      walk C Λ g fm known is_Slice =
          qed 𝓛 ((‵ (flft κ q) ⊛ ‵ (flft κ' q') ⊛ ‵ ftrue) ∷ ‵ (owns (ShrRef (named 0) κ (row D) ∷ MutSlice (named 1) κ' E ∷ []) x vals) ∷ []) ∵ enter ! C Λ (function g) (vptr b o ∷ u ∷ []) _ $
          alloc1 ! (λ l₀. alloc1 ! (λ l₁. alloc1 ! (λ l₂. alloc1 ! (λ l₃. alloc1 ! (λ l₄. alloc1 ! (λ l₅. alloc0 ! $ params1 ! $
          pass1 ! (init ! 8 refl (tt, tt)) $ pass1 ! (init ! 6 refl ((mut_slice_Lawful 𝓛 (named 1) κ' E).typed s (u ∷ []) is_Slice).0) $ pass0 ! $
          -- what the parameters own is taken apart
          move ! (13 ∷ []) $ fsplit ! $ fsplit ! $ drop ! $ move ! (1 ∷ []) $ fsplit ! $ move ! (15 ∷ []) $ split ! $ move ! (4 ∷ 0 ∷ []) $
          -- [the borrow; its token; the slice's token; what the slice owns; true; _5; …; _4; …; _3; …; _2; …; _1; …; room for _0; …]
          lent-copied ! D L cs 1 3 11 7 b o h refl refl refl (λ was.
          assigns ! (addr ! (from ! (fld ! refl (hop ! (look_in ! 11 (sub ! 0 refl (whole !))) (stop !))))) (from ! (stop !)) (init ! 7 refl (tt, tt)) $
          assigns ! (agg ! (and_then ! (load ! (from ! (stop !)) (look ! 7 refl)) (and_then ! (load ! (from ! (fld ! refl (stop !))) (look_in ! 11 (sub ! 1 refl (whole !)))) (no_more !)))) (from ! (stop !)) (init ! 5 refl (tt, (tt, (record { fits = is_Slice.0.1.0 }, tt)))) $
          move ! (2 ∷ 3 ∷ []) $ use2 𝓛 (raw ((Called P 𝓤 𝓛).pre to)) (goes was) $
          calls_at ! fm (Called P 𝓤 𝓛) known to (and_then ! (load ! (from ! (stop !)) (look ! 8 refl)) (and_then ! (load ! (from ! (stop !)) (look ! 4 refl)) (no_more !))) (λ v.
          use1 𝓛 (later (some (λ (r : ℕ). ((‵ (flft κ' q') ⊛ ‵ ftrue) ⊛ ‵ ((UInt w).own_val r (v ∷ []))) ⊛ raw (ensured 𝓛 inner (answered P 𝓤) (κ', tt) args tt r)))) (id⊢ 𝓤 _) $ await ! tt $ pick ! (λ r.
          -- what g ensures, at some last elements
          split ! $ move ! (1 ∷ []) $ use1 𝓛 (some (λ (zs : Lasts inner (κ', tt) args). ‵ (lasts inner (κ', tt) args zs) ⊛ raw (fact 𝓤 (P h s.now zs.1.0 r)))) (id⊢ 𝓤 _) $ pick ! (λ zs.
          split ! $ move ! (1 ∷ []) $ heard ! (P h s.now zs.1.0 r) (λ e. fsplit ! $ drop ! $ fsplit ! $ fsplit ! $ fsplit ! $ move ! (1 ∷ []) $ feq_l ! (λ l. fjoin ! $
          move ! (2 ∷ []) $ split ! $ move ! (1 ∷ []) $ peeks ! (UInt w) (Is (UInt w)) (shows 𝓛 (UInt w)) r (v ∷ []) (λ is.
          -- [the answer; the slice's token; what is had of the slice; …; the record's token; the borrow; true; _5; …; .. room for _0; …]
          land ! (from ! (stop !)) (init ! 17 refl ((uint_Lawful 𝓛 w).typed r _ is).0) $
          returns ! (look ! 17 refl) $ forget ! 7 refl $ forget ! 9 refl $ forget ! 11 refl $ forget ! 13 refl $ forget ! 15 refl $ forget ! 17 refl $
          move ! (17 ∷ 18 ∷ []) $ free1 ! $ move ! (15 ∷ 16 ∷ []) $ free1 ! $ move ! (13 ∷ 14 ∷ []) $ free1 ! $ move ! (11 ∷ 12 ∷ []) $ free1 ! $ move ! (9 ∷ 10 ∷ []) $ free1 ! $ move ! (7 ∷ 8 ∷ []) $ free1 ! $ free0 ! $
          keep ! (4 ∷ 1 ∷ 5 ∷ 2 ∷ 0 ∷ []) $ by ! (exits r v zs.1.0 e l))))))))))))))

    walks : (C : Calls 𝓤 H) (Λ : Loops 𝓤 H) (g : Callee) → FmC 𝓤 H 𝓛.laws C → Triple 𝓤 (C g) (Called P 𝓤 𝓛) → Walks 𝓛 outer stayed (WpFn 𝓤 H C Λ (function g)) (asked P 𝓤)
    walks C Λ g fm known =
        walked 𝓛 outer stayed (asked P 𝓤) (WpFn 𝓤 H C Λ (function g)) (λ κs. (shr_vals, (mut_slice_vals, tt))) (λ κs. (shr_Tells (named 0) κs.0 (row D), (mut_slice_Tells (named 1) κs.1.0 E, tt)))
        (λ κs qs bounds x _ are. via 𝓤 _ (fst∗ 𝓤 _ (emp 𝓤)) (walk κs.0 κs.1.0 qs.0 qs.1.0 x.0.ref_ptr.0 x.0.ref_ptr.1 x.0.now x.1.0 C Λ g fm known are.1.0))

    all_go : AllGo 𝓛 2 outer.signature.params outer.kept stayed
    all_go = (Goes-none_ref 𝓛 2 (0 ∷ []) tt (plain (λ _. row D)) yes, (Goes-gave_slice 𝓛 2 1 tt (plain (λ _. E)), tt))

-- the function f over g, where g's routine is known to meet its contract
pub filling : (D : Declared) (L : LL.Laws D) (pl : Plains (fields D)) (cs : LL.Copyables D.parts) (E : RattleType) (w : Width) (P : Promise D E w) {M : Type 1} {𝓤 : Ura M} (𝓛 : Logic 𝓤) (𝓜 : Model 𝓤 𝓛.H) (𝓡 : Running 𝓤 𝓛.H 𝓜)
    (env : Env) (f g : Callee) (r : Routine) → env g ≡ r → Closed 𝓤 𝓛.H (tables 𝓤 𝓛.H 𝓜 𝓡 env).C (tables 𝓤 𝓛.H 𝓜 𝓡 env).Λ f (function D E w g) → Triple 𝓤 (𝓡.run r) (Called D E w P 𝓤 𝓛)
    → Meets 𝓛 (outer D E w).signature (𝓡.run (env f)) (closing 𝓛 (outer D E w) (asked D E w P 𝓤))
filling D L pl cs E w P {𝓤 = 𝓤} 𝓛 𝓜 𝓡 env f g =
    calling 𝓛 𝓜 𝓡 (outer D E w) (stayed D E w) (all_go D E w L pl cs P 𝓛) (asked D E w P 𝓤) (function D E w g) g (Called D E w P 𝓤 𝓛)
    (λ C Λ. walks D E w L pl cs P 𝓛 C Λ g) env f
