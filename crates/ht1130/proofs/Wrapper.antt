-- `ht1130_power_on` and `ht1130_apply` are one function but for the widths of their first two numbers, the function that they call and what that
-- answers: here it is walked once, by hand, over its MIR. The borrow is opened, the record is copied out and handed on; what an answer that
-- refuses nothing has is stored behind the reference, and the borrow is closed at it. All that the walk knows of the function that is called is
-- its contract, and it is over any record: at a machine's own fields its check took five times as long. The prover covers both functions without it
-- today; it stands as a law of its own, and `Refused` speaks of its answers. Assumes nothing.
use mathlib.Core.Path.{◌≡◌, refl, sym, ◌∙◌, ap, subst}
use Prim.Native.Nat.{ℕ, ◌<◌, ◌^◌}
use mathlib.Core.Bool.{Bool, not}
use mathlib.Core.List.{[], ◌∷◌, List}
use lib.Dec.{T, eqb}
use lib.ListN.{length}
use seplogic.Ra.Ura.{Ura}
use base.Fraction.{full_share}
use mir.Syntax.{Callee, Sym, Width, w8, Ty, ty_bool, ty_int, ty_ref, imm, mut, named, place, deref, field, copy, int, rv_opd, op2, eq, Body, skip, seq, assign, call, cond, return, local, value_local, Fn}
use mir.Val.{Val, vbool, vint, vptr, bits}
use base.Logic.{SProp, ent, sep, emp, via, fst∗, snd∗, ex_e, id⊢}
use base.Stored.{Coded-set, coded×, coded_ℕ, coded_unit}
use base.Fml.{GName, Lft, Share, Fml, ftrue, fsep, fat, froom, fdies, flft, fobs, fauth, fbor, fobor}
use prog.Model.{Model}
use prog.Routine.{Routine, Env as Meaning}
use prog.Wp.{Env, Calls, Loops, WpFn, Closed}
use types.Logic.{Logic, sem}
use contract.Monad.{fact}
use contract.Running.{Running, tables}
use types.Kit.{Item, ‵, raw, some, later, runs, at_ret, Sq, ◌⊛◌, ⋆, ◌$◌, ◌∵◌, !, qed, by, move, drop, use1, use2, split, join, pick, rewrite, fsplit, fsplit3, fjoin, fjoin3, feq_i, suffices, frame, await, done}
use types.Run.{look, init, forget, stop, hop, fld, from, load, lit, of_opd, bin, and_then, no_more, assigns, assigns_last, land, first, skips, branches, exec, returns, enter, alloc1, alloc0, params1, pass1, pass0, free1, free0}
use types.Part.{whole, sub, look_in, store_in}
use types.SemTy.{Body as Borrowed}
use sound.WpLaws.{FmC}
use denote.RattleType.{RattleType, Denots, owns}
use denote.Laws.{Is, shows}
use denote.Memory.{mem, cell_at, pointee}
use denote.Plain.{UInt, uint_vals, uint_Tells, uint_Makes, uint_Lawful, uint_row_laws}
use denote.Builtin.{u8, RefMutOf, SliceRefOf}
use denote.Ref.{Bor, MutBor, MutRef, mut_vals, mut_Tells}
use denote.Slice.{slice_ty, slice_val, ShrSlice, shr_slice_vals, shr_slice_Tells, shr_slice_Lawful, shr_slice_copy}
use denote.Signature.{plain}
use denote.Steps.{opens, closes, owned, peeks, heard, nothing, only}
use denote.Struct.Declared as S
use denote.Struct.Declared.{Declared, fields, row}
use denote.Struct.Field.{Field, rows, u8-field}
use denote.Struct.Values.{Values}
use denote.Struct.Cover.{Cover}
use denote.Struct.Laws as LL
use denote.Struct.Struct.{Plains}
use denote.Triple.Entry.{Vals, on_entry}
use denote.Triple.Spec.{Meets, triple_of}
use denote.Triple.Statement.{Contract, Triple}
use denote.Triple.Call.{calls_at}
use denote.Triple.Clauses.{Ended, Clauses, closing, ensured, lasts}
use denote.Triple.Walked.{says, Stays, stay_ref, stay_none, stay_none_slice, walk_of, AllGo, Goes, Goes-none, Goes-ref, Goes-none_slice, Walks, ends_at, walked}
use denote.Exit.{yes}
use Rattle.walks.proofs.Calling.{calling}
use Rattle.walks.proofs.Copied.{laid, copied}

-- the fields of an answer: the record and the number of the refusal
abbrev parts : Declared → List Field
parts D = S.field D ∷ u8-field ∷ []

abbrev both : (D : Declared) {X : Type 0} → (X → D.D) → (X → ℕ) → X → Denots (rows (parts D))
both D record_of refusal-of r = (D.to (record_of r), (refusal-of r, tt))

-- a struct of these two, with its two fields and what is made of them
pub record Answers (D : Declared) : Type 2 where
  pub name : Sym
  pub Answer : Type 0
  pub held : Answer → D.D
  pub refusal : Answer → ℕ
  pub one : (x y : Answer) → both D held refusal x ≡ both D held refusal y → x ≡ y
  pub left : ℕ → D.D → Answer
  pub left_is : (r : Answer) → left (refusal r) (held r) ≡ r

-- an answer's two fields as values: an answer is just these, since it is made of them again
abbrev values_of : (D : Declared) (Y : Answers D) → Y.Answer → Values (parts D)
values_of D Y r = (Y.held r, (Y.refusal r, tt))

abbrev cover : (D : Declared) (Y : Answers D) → Cover Y.Answer (Values (parts D)) (values_of D Y)
cover D Y = record {
  Ghost = λ v. values_of D Y (Y.left v.1.0 v.0) ≡ v;
  ghosts = λ r. ap (values_of D Y) (Y.left_is r);
  make = λ v _. Y.left v.1.0 v.0;
  eta = Y.left_is;
  beta = λ v g. g;
}

abbrev values_set : (D : Declared) (u v : Values (parts D)) → IsProp (u ≡ v)
values_set D = Coded-set (coded× (row D).coded (coded× coded_ℕ coded_unit))

-- where the answer refuses, it has the record that was handed in
abbrev pub Keeps : {D : Declared} (Y : Answers D) → D.D → Y.Answer → Type 0
Keeps Y h r = T (not (eqb (Y.refusal r) 0)) → h ≡ Y.held r

abbrev slice : Ty
slice = slice_ty (ty_ref (named 1) imm (ty_int w8))

-- after the call: _10 tests the refusal, and what is stored is first copied to _11
abbrev last : Body
last = seq (assign (place 0 []) (rv_opd (copy (place 8 (field 1 ∷ []))))) return

module _ (D : Declared) (Y : Answers D) (w w' : Width) where
  abbrev R : RattleType
  R = row D

  -- the answer's type
  abbrev N : Declared
  N = record {
    name = Y.name;
    args = [];
    types = [];
    parts = parts D;
    D = Y.Answer;
    to = both D Y.held Y.refusal;
    to_one = Y.one;
    as_values = values_of D Y;
    to_is = λ r. refl;
    cover = cover D Y;
    propositions = λ v. values_set D (values_of D Y (Y.left v.1.0 v.0)) v;
  }

  abbrev lent : Ty
  lent = ty_ref (named 0) mut (pointee R.written)

  -- what is answered to bytes, five numbers and a record
  abbrev pub Answering : Type 0
  Answering = List ℕ → ℕ → ℕ → ℕ → ℕ → ℕ → D.D → Y.Answer

  abbrev rest : Body
  rest =
      seq (assign (place 10 []) (op2 eq (copy (place 8 (field 1 ∷ []))) (int w8 0)))
      (seq (cond (copy (place 10 [])) (seq (assign (place 11 []) (rv_opd (copy (place 8 (field 0 ∷ []))))) (assign (place 1 (deref (laid D) ∷ [])) (rv_opd (copy (place 11 []))))) skip)
      last)

  -- the function, at the name of the one that it calls
  abbrev pub function : Callee → Fn
  function g = record {
    lifetimes = 2;
    outlives = [];
    ty_params = [];
    givens = 0;
    params = 7;
    locals = local (ty_int w8) value_local ∷ local lent value_local ∷ local (ty_int w) value_local ∷ local (ty_int w') value_local ∷ local (ty_int w8) value_local ∷ local (ty_int w8) value_local ∷ local (ty_int w8) value_local
        ∷ local slice value_local ∷ local (laid N) value_local ∷ local (laid D) value_local ∷ local ty_bool value_local ∷ local (laid D) value_local ∷ [];
    body = seq (assign (place 9 []) (rv_opd (copy (place 1 (deref (laid D) ∷ [])))))
        (seq (call g (copy (place 9 []) ∷ copy (place 2 []) ∷ copy (place 3 []) ∷ copy (place 4 []) ∷ copy (place 5 []) ∷ copy (place 6 []) ∷ copy (place 7 []) ∷ []) (place 8 []))
        rest);
  }

  -- the two signatures: of the function, and of the one that it calls
  abbrev pub outer : Ended
  outer = record {
    signature = record {
      lifetimes = 2;
      outlives = [];
      params = RefMutOf (0 ∷ []) tt (plain (λ _. R)) (λ _. tt) ∷ plain (λ _. UInt w) ∷ plain (λ _. UInt w') ∷ plain (λ _. u8) ∷ plain (λ _. u8) ∷ plain (λ _. u8) ∷ SliceRefOf (1 ∷ []) tt (plain (λ _. u8)) (λ _. tt) ∷ [];
      result = plain (λ _. u8);
    };
    kept = (yes, (yes, (yes, (yes, (yes, (yes, (yes, tt)))))));
  }

  abbrev pub inner : Ended
  inner = record {
    signature = record {
      lifetimes = 1;
      outlives = [];
      params = plain (λ _. R) ∷ plain (λ _. UInt w) ∷ plain (λ _. UInt w') ∷ plain (λ _. u8) ∷ plain (λ _. u8) ∷ plain (λ _. u8) ∷ SliceRefOf (0 ∷ []) tt (plain (λ _. u8)) (λ _. tt) ∷ [];
      result = plain (λ _. row N);
    };
    kept = (yes, (yes, (yes, (yes, (yes, (yes, (yes, tt)))))));
  }

  abbrev stayed : Stays outer.signature.params outer.kept
  stayed =
      (stay_ref (0 ∷ []) tt (plain (λ _. R)), (stay_none (λ _. UInt w) yes, (stay_none (λ _. UInt w') yes, (stay_none (λ _. u8) yes, (stay_none (λ _. u8) yes, (stay_none (λ _. u8) yes, (stay_none_slice (1 ∷ []) tt (plain (λ _. u8)) yes, tt)))))))

  module _ (answer : Answering) {M : Type 1} (𝓤 : Ura M) where
    abbrev pub leaves : Clauses 𝓤 outer
    leaves κs a = record {
      ghost = Unit {0};
      requires = λ _. emp 𝓤;
      ensures = λ _ r e. fact 𝓤 (Y.left r e.0.now ≡ answer a.1.1.1.1.1.1.0.now a.1.0 a.1.1.0 a.1.1.1.0 a.1.1.1.1.0 a.1.1.1.1.1.0 a.0.now);
    }

    abbrev pub answers : Clauses 𝓤 inner
    answers κs a = record {
      ghost = Unit {0};
      requires = λ _. emp 𝓤;
      ensures = λ _ r _. fact 𝓤 (r ≡ answer a.1.1.1.1.1.1.0.now a.1.0 a.1.1.0 a.1.1.1.0 a.1.1.1.1.0 a.1.1.1.1.1.0 a.0);
    }

    abbrev pub Called : (𝓛 : Logic 𝓤) → Contract 𝓤
    Called 𝓛 = triple_of 𝓛 inner.signature (closing 𝓛 inner answers)

  module _ (L : LL.Laws D) (pl : Plains (fields D)) (lw : LL.Lowered D) (answer : Answering) {M : Type 1} {𝓤 : Ura M} (𝓛 : Logic 𝓤) (κ κ' : Lft) (q q' : Share) (b o : ℕ) (γ : GName) (h : D.D) (k l m n p : ℕ) (s : Bor (List ℕ))
      (keeps : Keeps Y h (answer s.now k l m n p h)) (k-fits : k < 2 ^ bits w) (l-fits : l < 2 ^ bits w') (m-fits : m < 2 ^ 8) (n-fits : n < 2 ^ 8) (p-fits : p < 2 ^ 8) where
    open 𝓛 use {H, A}

    abbrev Arg : Type 0
    Arg = MutBor D.D × (ℕ × (ℕ × (ℕ × (ℕ × (ℕ × (Bor (List ℕ) × Unit {0}))))))

    abbrev x : Arg
    x = (record { ref_ptr = (b, o); ghost_name = γ; now = h }, (k, (l, (m, (n, (p, (s, tt)))))))

    -- the machine values: the slice's, a record's and an answer's
    abbrev v : Val
    v = slice_val s.ref_ptr (length s.now)

    abbrev mach : D.D → Val
    mach a = LL.val D L a

    abbrev N-laws : LL.Laws N
    N-laws = (LL.field_laws D L lw, (LL.u8-laws, tt))

    abbrev ans : Y.Answer → Val
    ans r = LL.val N N-laws r

    abbrev vals : List Val × (List Val × (List Val × (List Val × (List Val × (List Val × (List Val × Unit {0}))))))
    vals = (vptr b o ∷ [], (vint w k ∷ [], (vint w' l ∷ [], (vint w8 m ∷ [], (vint w8 n ∷ [], (vint w8 p ∷ [], (v ∷ [], tt)))))))

    abbrev found : Y.Answer
    found = answer s.now k l m n p h

    abbrev Post : Val → SProp 𝓤
    Post = (walk_of 𝓛 outer stayed (leaves answer 𝓤)).post (((κ, (κ', tt)), (q, (q', tt)), tt, x, vals), tt)

    abbrev Own : Fml
    Own = (ShrSlice (named 1) κ' u8).own_val s (v ∷ [])

    -- what is passed on
    abbrev passed : Vals inner.signature (κ', tt)
    passed = (mach h ∷ [], (vint w k ∷ [], (vint w' l ∷ [], (vint w8 m ∷ [], (vint w8 n ∷ [], (vint w8 p ∷ [], (v ∷ [], tt)))))))

    abbrev args : D.D × (ℕ × (ℕ × (ℕ × (ℕ × (ℕ × (Bor (List ℕ) × Unit {0}))))))
    args = (h, (k, (l, (m, (n, (p, (s, tt)))))))

    abbrev to : (Called answer 𝓤 𝓛).Ghost
    to = (((κ', tt), (q', tt), tt, args, passed), tt)

    -- what the bytes own, behind what the numbers do, which can be made anew
    abbrev Numbers : Fml
    Numbers = fsep ((UInt w).own_val k (vint w k ∷ [])) (fsep ((UInt w').own_val l (vint w' l ∷ [])) (fsep (u8.own_val m (vint w8 m ∷ [])) (fsep (u8.own_val n (vint w8 n ∷ [])) (fsep (u8.own_val p (vint w8 p ∷ [])) (fsep Own ftrue)))))

    numbers : ent 𝓤 (sem 𝓛 Own) (sem 𝓛 Numbers)
    numbers =
        qed 𝓛 (‵ Own ∷ []) ∵ nothing ! $ move ! (1 ∷ 0 ∷ []) $ fjoin ! $ owned ! u8 (Is u8) (uint_Makes 𝓛 w8) p _ (refl, p-fits) $ fjoin ! $ owned ! u8 (Is u8) (uint_Makes 𝓛 w8) n _ (refl, n-fits) $ fjoin ! $
        owned ! u8 (Is u8) (uint_Makes 𝓛 w8) m _ (refl, m-fits) $ fjoin ! $ owned ! (UInt w') (Is (UInt w')) (uint_Makes 𝓛 w') l _ (refl, l-fits) $ fjoin ! $
        owned ! (UInt w) (Is (UInt w)) (uint_Makes 𝓛 w) k _ (refl, k-fits) $ fjoin ! $ done !

    goes : Is R h (mach h ∷ []) → ent 𝓤 (sep 𝓤 (A.lft κ' q') (sem 𝓛 Own)) ((Called answer 𝓤 𝓛).pre to)
    goes was =
        qed 𝓛 (‵ (flft κ' q') ∷ ‵ Own ∷ []) ∵ move ! (1 ∷ []) $ use1 𝓛 (‵ Numbers) numbers $
        owned ! R (Is R) (LL.makes D pl 𝓛) h _ was $ fjoin ! $ nothing ! $ move ! (2 ∷ 0 ∷ []) $ join ! $ join ! $ frame ! $ done !

    said : (r : Y.Answer) → ent 𝓤 (ensured 𝓛 inner (answers answer 𝓤) (κ', tt) args tt r) (fact 𝓤 (r ≡ found))
    said r = ex_e 𝓤 _ (λ ws. snd∗ 𝓤 (sem 𝓛 (lasts inner (κ', tt) args ws)) (fact 𝓤 (r ≡ found)))

    exits : (r : Y.Answer) → Y.refusal r < 2 ^ 8 → r ≡ found → ent 𝓤 (⋆ 𝓛 (‵ (fobs γ (R.coded.code (Y.held r))) ∷ ‵ (fbor κ (Borrowed (mem R) b o γ)) ∷ ‵ (flft κ q) ∷ (‵ (flft κ' q') ⊛ ‵ ftrue) ∷ ‵ Own ∷ [])) (Post (vint w8 (Y.refusal r)))
    exits r fits e =
        qed 𝓛 (‵ (fobs γ (R.coded.code (Y.held r))) ∷ ‵ (fbor κ (Borrowed (mem R) b o γ)) ∷ ‵ (flft κ q) ∷ (‵ (flft κ' q') ⊛ ‵ ftrue) ∷ ‵ Own ∷ []) ∵
        suffices ! _ (ends_at 𝓛 outer stayed (leaves answer 𝓤) (((κ, (κ', tt)), (q, (q', tt)), tt, x, vals), tt) (vint w8 (Y.refusal r)) (Y.refusal r) (Y.held r, (tt, (tt, (tt, (tt, (tt, (tt, tt))))))) (tt, (tt, (tt, (tt, (tt, (tt, (tt, tt)))))))) $ says ! (Y.left_is r ∙ e) $
        move ! (2 ∷ 3 ∷ []) $ join ! $ frame ! $ feq_i ! (List Val) (vptr b o ∷ []) (vptr b o ∷ []) refl $ fjoin3 ! $
        -- [the borrow; what the bytes own]
        move ! (1 ∷ []) $ use1 𝓛 (‵ Numbers) numbers $ move ! (1 ∷ 0 ∷ []) $ fjoin ! $ frame ! $ owned ! u8 (Is u8) (uint_Makes 𝓛 w8) (Y.refusal r) _ (refl, fits) $ done !

    module _ (C : Calls 𝓤 H) (Λ : Loops 𝓤 H) where
      -- the code after the call, from its answer
      module _ (l₀ l₁ l₂ l₃ l₄ l₅ l₆ l₇ l₈ l₉ l₁₀ l₁₁ : ℕ) where
        abbrev En : Env 𝓤 H
        En = (ty_int w8, l₀) ∷ (lent, l₁) ∷ (ty_int w, l₂) ∷ (ty_int w', l₃) ∷ (ty_int w8, l₄) ∷ (ty_int w8, l₅) ∷ (ty_int w8, l₆) ∷ (slice, l₇) ∷ (laid N, l₈) ∷ (laid D, l₉) ∷ (ty_bool, l₁₀) ∷ (laid D, l₁₁) ∷ []

        -- what is had, at what _10 has and at what lies behind the reference
        abbrev Found : Item 𝓤 → D.D → Y.Answer → List (Item 𝓤)
        Found test held r =
            (‵ (flft κ' q') ⊛ ‵ ftrue) ∷ ‵ Own ∷ ‵ (fat full_share (laid D) b o (mach held)) ∷ ‵ (fobor κ q (Borrowed (mem R) b o γ)) ∷ ‵ (fobs γ (R.coded.code h)) ∷ ‵ (fauth γ (R.coded.code h))
            ∷ ‵ (froom (laid D) l₁₁ 0) ∷ ‵ (fdies (laid D) l₁₁) ∷ test ∷ ‵ (fdies ty_bool l₁₀) ∷ ‵ (fat full_share (laid D) l₉ 0 (mach h)) ∷ ‵ (fdies (laid D) l₉) ∷ ‵ (fat full_share (laid N) l₈ 0 (ans r)) ∷ ‵ (fdies (laid N) l₈)
            ∷ ‵ (fat full_share slice l₇ 0 v) ∷ ‵ (fdies slice l₇) ∷ ‵ (fat full_share (ty_int w8) l₆ 0 (vint w8 p)) ∷ ‵ (fdies (ty_int w8) l₆) ∷ ‵ (fat full_share (ty_int w8) l₅ 0 (vint w8 n)) ∷ ‵ (fdies (ty_int w8) l₅)
            ∷ ‵ (fat full_share (ty_int w8) l₄ 0 (vint w8 m)) ∷ ‵ (fdies (ty_int w8) l₄) ∷ ‵ (fat full_share (ty_int w') l₃ 0 (vint w' l)) ∷ ‵ (fdies (ty_int w') l₃) ∷ ‵ (fat full_share (ty_int w) l₂ 0 (vint w k)) ∷ ‵ (fdies (ty_int w) l₂)
            ∷ ‵ (fat full_share lent l₁ 0 (vptr b o)) ∷ ‵ (fdies lent l₁) ∷ ‵ (froom (ty_int w8) l₀ 0) ∷ ‵ (fdies (ty_int w8) l₀) ∷ []

        module _ (r : Y.Answer) (made : Is R (Y.held r) (mach (Y.held r) ∷ [])) (small : Y.refusal r < 2 ^ 8) (e : r ≡ found) where
          ends : (t : Bool) → Sq 𝓛 (Found (‵ (fat full_share ty_bool l₁₀ 0 (vbool t))) (Y.held r) r) (runs C Λ En last (at_ret En Post))
          ends t =
              assigns ! (of_opd ! (load ! (from ! (fld ! refl (stop !))) (look_in ! 12 (sub ! 1 refl (whole !))))) (from ! (stop !)) (init ! 28 refl (tt, record { fits = small })) $
              -- the borrow is closed at the answer's record
              move ! (2 ∷ []) $ use1 𝓛 (‵ (cell_at full_share R.mir (mach (Y.held r) ∷ []) b o)) (𝓛.laws.at_raw full_share (laid D) b o (mach (Y.held r))) $
              owned ! R (Is R) (LL.makes D pl 𝓛) (Y.held r) _ made $ move ! (1 ∷ 0 ∷ 4 ∷ 5 ∷ 6 ∷ []) $ closes ! tt R (Y.held r) (mach (Y.held r) ∷ []) b o $
              -- [obs; the borrow; its token; the bytes' token; what the bytes own; _11; …; .. _0; …]
              returns ! (look ! 27 refl) $ forget ! 7 refl $ forget ! 9 refl $ forget ! 11 refl $ forget ! 13 refl $ forget ! 15 refl $ forget ! 17 refl $ forget ! 19 refl $ forget ! 21 refl $ forget ! 23 refl $ forget ! 25 refl $ forget ! 27 refl $
              move ! (27 ∷ 28 ∷ []) $ free1 ! $ move ! (25 ∷ 26 ∷ []) $ free1 ! $ move ! (23 ∷ 24 ∷ []) $ free1 ! $ move ! (21 ∷ 22 ∷ []) $ free1 ! $ move ! (19 ∷ 20 ∷ []) $ free1 ! $ move ! (17 ∷ 18 ∷ []) $ free1 ! $
              move ! (15 ∷ 16 ∷ []) $ free1 ! $ move ! (13 ∷ 14 ∷ []) $ free1 ! $ move ! (11 ∷ 12 ∷ []) $ free1 ! $ move ! (9 ∷ 10 ∷ []) $ free1 ! $ move ! (7 ∷ 8 ∷ []) $ free1 ! $ move ! (5 ∷ 6 ∷ []) $ free1 ! $ free0 ! $ by ! (exits r small e)

          -- either way the answer's record is there: it is stored, or it is what was there
          stores : Sq 𝓛 (Found (‵ (froom ty_bool l₁₀ 0)) h r) (runs C Λ En rest (at_ret En Post))
          stores =
              assigns ! (bin ! (load ! (from ! (fld ! refl (stop !))) (look_in ! 12 (sub ! 1 refl (whole !)))) (lit ! tt) tt) (from ! (stop !)) (init ! 8 refl (tt, tt)) $
              first ! $ branches ! (load ! (from ! (stop !)) (look ! 8 refl))
              (λ _. assigns ! (of_opd ! (load ! (from ! (fld ! refl (stop !))) (look_in ! 12 (sub ! 0 refl (whole !))))) (from ! (stop !)) (init ! 6 refl ((LL.lawful D L 𝓛).typed (Y.held r) _ made).0) $
              assigns_last ! (of_opd ! (load ! (from ! (stop !)) (look ! 6 refl))) (from ! (hop ! (look ! 26 refl) (stop !)))
              (store_in ! 2 (whole !) ((LL.lawful D L 𝓛).typed (Y.held r) _ made).0) $ forget ! 6 refl $ exec ! C Λ En last (at_ret En Post) $ ends _)
              (λ refused. skips ! $ exec ! C Λ En last (at_ret En Post) $ rewrite ! 2 (λ (a : D.D). ‵ (fat full_share (laid D) b o (mach a))) (subst (Keeps Y h) (sym e) keeps refused) refl $ ends _)

      module _ (g : Callee) (fm : FmC 𝓤 H 𝓛.laws C) (known : Triple 𝓤 (C g) (Called answer 𝓤 𝓛)) where
        walk : Is (ShrSlice (named 1) κ' u8) s (v ∷ []) → ent 𝓤 (on_entry 𝓛 outer.signature (κ, (κ', tt)) (q, (q', tt)) x vals) (WpFn 𝓤 H C Λ (function g) (vptr b o ∷ vint w k ∷ vint w' l ∷ vint w8 m ∷ vint w8 n ∷ vint w8 p ∷ v ∷ []) Post)
        walk typed =
            qed 𝓛 ((‵ (flft κ q) ⊛ ‵ (flft κ' q') ⊛ ‵ ftrue) ∷ ‵ (owns (MutRef (named 0) κ R ∷ UInt w ∷ UInt w' ∷ u8 ∷ u8 ∷ u8 ∷ ShrSlice (named 1) κ' u8 ∷ []) x vals) ∷ []) ∵
            enter ! C Λ (function g) (vptr b o ∷ vint w k ∷ vint w' l ∷ vint w8 m ∷ vint w8 n ∷ vint w8 p ∷ v ∷ []) _ $
            alloc1 ! (λ l₀. alloc1 ! (λ l₁. alloc1 ! (λ l₂. alloc1 ! (λ l₃. alloc1 ! (λ l₄. alloc1 ! (λ l₅. alloc1 ! (λ l₆. alloc1 ! (λ l₇. alloc1 ! (λ l₈. alloc1 ! (λ l₉. alloc1 ! (λ l₁₀. alloc1 ! (λ l₁₁. alloc0 ! $ params1 ! $
            pass1 ! (init ! 20 refl (tt, tt)) $ pass1 ! (init ! 18 refl ((uint_Lawful 𝓛 w).typed k _ (refl, k-fits)).0) $ pass1 ! (init ! 16 refl ((uint_Lawful 𝓛 w').typed l _ (refl, l-fits)).0) $
            pass1 ! (init ! 14 refl (tt, record { fits = m-fits })) $ pass1 ! (init ! 12 refl (tt, record { fits = n-fits })) $ pass1 ! (init ! 10 refl (tt, record { fits = p-fits })) $
            pass1 ! (init ! 8 refl ((shr_slice_Lawful 𝓛 (named 1) κ' u8).typed s (v ∷ []) typed).0) $ pass0 ! $
            -- what the parameters own is taken apart: the numbers' is dropped
            move ! (25 ∷ []) $ fsplit ! $ fsplit3 ! $ drop ! $ move ! (2 ∷ []) $ fsplit ! $ drop ! $ fsplit ! $ drop ! $ fsplit ! $ drop ! $ fsplit ! $ drop ! $ fsplit ! $ drop ! $ fsplit ! $
            -- [what the bytes own; true; obs; the borrow; the locals; the tokens]
            move ! (28 ∷ []) $ split ! $ move ! (4 ∷ 5 ∷ 0 ∷ []) $
            opens ! tt R {h = h} b o (λ vs. copied ! D L 1 9 26 10 b o full_share h vs refl refl refl (λ was.
            use1 𝓛 (‵ (fat full_share (laid D) b o (mach h))) (𝓛.laws.raw_at full_share (laid D) b o (mach h)) $
            -- [the record's cell; what it owns; the open borrow; obs; auth; the bytes' token; what the bytes own; true; _11; …; _10; …; _9; …; .. _1; …; room for _0; …]
            -- a copy of what the bytes own is passed on
            move ! (5 ∷ []) $ split ! $ move ! (7 ∷ []) $ use1 𝓛 (‵ Own ⊛ ‵ Own) ((shr_slice_copy 𝓛 (named 1) κ' u8 (uint_row_laws w8)).twice s (v ∷ [])) $ split ! $
            move ! (2 ∷ 0 ∷ []) $ use2 𝓛 (raw ((Called answer 𝓤 𝓛).pre to)) (goes was) $
            calls_at ! fm (Called answer 𝓤 𝓛) known to (and_then ! (load ! (from ! (stop !)) (look ! 13 refl)) (and_then ! (load ! (from ! (stop !)) (look ! 27 refl)) (and_then ! (load ! (from ! (stop !)) (look ! 25 refl))
            (and_then ! (load ! (from ! (stop !)) (look ! 23 refl)) (and_then ! (load ! (from ! (stop !)) (look ! 21 refl)) (and_then ! (load ! (from ! (stop !)) (look ! 19 refl)) (and_then ! (load ! (from ! (stop !)) (look ! 17 refl)) (no_more !)))))))) (λ u.
            use1 𝓛 (later (some (λ (r : Y.Answer). ((‵ (flft κ' q') ⊛ ‵ ftrue) ⊛ ‵ ((row N).own_val r (u ∷ []))) ⊛ raw (ensured 𝓛 inner (answers answer 𝓤) (κ', tt) args tt r)))) (id⊢ 𝓤 _) $ await ! tt $ pick ! (λ r.
            split ! $ move ! (1 ∷ []) $ use1 𝓛 (raw (fact 𝓤 (r ≡ found))) (said r) $ heard ! (r ≡ found) (λ e. split ! $ move ! (1 ∷ []) $
            -- [what the answer owns; the bytes' token; what the bytes own; true; the record's cell; what it owned; the open borrow; obs; auth; true; _11; …; .. room for _0; …]
            peeks ! (row N) (Is (row N)) (shows 𝓛 (row N)) r (u ∷ []) (λ is.
            land ! (from ! (stop !)) (init ! 16 refl ((LL.lawful N N-laws 𝓛).typed r _ is).0) $
            rewrite ! 16 (λ (z : Val). ‵ (fat full_share (laid N) l₈ 0 z)) (ap only (LL.tells N N-laws r (u ∷ []) is)) refl $
            move ! (0 ∷ 3 ∷ 5 ∷ 9 ∷ []) $ drop ! $ drop ! $ drop ! $ drop ! $
            stores l₀ l₁ l₂ l₃ l₄ l₅ l₆ l₇ l₈ l₉ l₁₀ l₁₁ r (LL.owed N N-laws r _ is).0 (LL.owed N N-laws r _ is).1.0.1 e))))))))))))))))))

  module _ (L : LL.Laws D) (pl : Plains (fields D)) (lw : LL.Lowered D) (answer : Answering) (keeps : (bytes : List ℕ) (k l m n p : ℕ) (h : D.D) → Keeps Y h (answer bytes k l m n p h)) {M : Type 1} {𝓤 : Ura M} (𝓛 : Logic 𝓤) where
    open 𝓛 use {H}

    walks : (C : Calls 𝓤 H) (Λ : Loops 𝓤 H) (g : Callee) → FmC 𝓤 H 𝓛.laws C → Triple 𝓤 (C g) (Called answer 𝓤 𝓛) → Walks 𝓛 outer stayed (WpFn 𝓤 H C Λ (function g)) (leaves answer 𝓤)
    walks C Λ g fm known =
        walked 𝓛 outer stayed (leaves answer 𝓤) (WpFn 𝓤 H C Λ (function g))
        (λ κs. (mut_vals, (uint_vals w, (uint_vals w', (uint_vals w8, (uint_vals w8, (uint_vals w8, (shr_slice_vals, tt))))))))
        (λ κs. (mut_Tells (named 0) κs.0 R, (uint_Tells w, (uint_Tells w', (uint_Tells w8, (uint_Tells w8, (uint_Tells w8, (shr_slice_Tells (named 1) κs.1.0 u8, tt))))))))
        (λ κs qs bounds x _ are. via 𝓤 _ (fst∗ 𝓤 _ (emp 𝓤))
        (walk L pl lw answer 𝓛 κs.0 κs.1.0 qs.0 qs.1.0 x.0.ref_ptr.0 x.0.ref_ptr.1 x.0.ghost_name x.0.now x.1.0 x.1.1.0 x.1.1.1.0 x.1.1.1.1.0 x.1.1.1.1.1.0 x.1.1.1.1.1.1.0
        (keeps x.1.1.1.1.1.1.0.now x.1.0 x.1.1.0 x.1.1.1.0 x.1.1.1.1.0 x.1.1.1.1.1.0 x.0.now) are.1.0.1 are.1.1.0.1 are.1.1.1.0.1 are.1.1.1.1.0.1 are.1.1.1.1.1.0.1 C Λ g fm known
        are.1.1.1.1.1.1.0))

    all_go : AllGo 𝓛 2 outer.signature.params outer.kept stayed
    all_go = (Goes-ref 𝓛 2 0 tt (plain (λ _. R)), (number w, (number w', (number w8, (number w8, (number w8, (Goes-none_slice 𝓛 2 (1 ∷ []) tt (plain (λ _. u8)) yes, tt)))))))
      where
        number : (u : Width) → Goes 𝓛 2 (plain (λ _. UInt u)) yes (stay_none (λ _. UInt u) yes)
        number u = Goes-none 𝓛 2 (λ _. UInt u) yes (λ κs x f. refl)

-- the function f over g, where g's routine is known to meet its contract
pub storing : (D : Declared) (L : LL.Laws D) (pl : Plains (fields D)) (lw : LL.Lowered D) (Y : Answers D) (w w' : Width) (answer : Answering D Y w w') (keeps : (bytes : List ℕ) (k l m n p : ℕ) (h : D.D) → Keeps Y h (answer bytes k l m n p h))
    {M : Type 1} {𝓤 : Ura M} (𝓛 : Logic 𝓤) (𝓜 : Model 𝓤 𝓛.H) (𝓡 : Running 𝓤 𝓛.H 𝓜) (env : Meaning) (f g : Callee) (r : Routine) → env g ≡ r
    → Closed 𝓤 𝓛.H (tables 𝓤 𝓛.H 𝓜 𝓡 env).C (tables 𝓤 𝓛.H 𝓜 𝓡 env).Λ f (function D Y w w' g) → Triple 𝓤 (𝓡.run r) (Called D Y w w' answer 𝓤 𝓛)
    → Meets 𝓛 (outer D Y w w').signature (𝓡.run (env f)) (closing 𝓛 (outer D Y w w') (leaves D Y w w' answer 𝓤))
storing D L pl lw Y w w' answer keeps {𝓤 = 𝓤} 𝓛 𝓜 𝓡 env f g =
    calling 𝓛 𝓜 𝓡 (outer D Y w w') (stayed D Y w w') (all_go D Y w w' L pl lw answer keeps 𝓛) (leaves D Y w w' answer 𝓤) (function D Y w w' g) g (Called D Y w w' answer 𝓤 𝓛)
    (λ C Λ. walks D Y w w' L pl lw answer keeps 𝓛 C Λ g) env f
