-- A record behind a reference is copied out, as `_k = *_i` does: two steps of a walk, over any struct of the source, any locals and any code after.
-- `copied` starts from an opened borrow; `lent-copied` looks into a shared one and shuts it again. Assumes nothing.
use mathlib.Core.Path.{◌≡◌, refl, sym, subst}
use Prim.Native.Nat.{ℕ, suc}
use mathlib.Core.List.{[], ◌∷◌, List}
use lib.Dec.{T}
use seplogic.Ra.Ura.{Ura}
use base.Fraction.{full_share}
use mir.Syntax.{Ty, place, deref, copy, rv_opd, Body, seq, assign}
use mir.Val.{Val, WT, has_ty, vptr}
use base.Fml.{Lft, Share, fat, froom, flft}
use prog.Wp.{Env, Calls, Loops, spot_of}
use types.Logic.{Logic}
use types.Kit.{Item, ‵, Post, runs, Seq, ◌$◌, nth, put, move}
use types.Run.{look, look_raw, init, stop, hop, from, load, of_opd, assigns}
use denote.Laws.{Is, shows}
use denote.Memory.{hidden_shr, cell_at}
use denote.Steps.{looks, shuts, peeks}
use denote.Struct.Declared.{Declared, shape, row}
use denote.Struct.Laws as LL
use denote.Struct.Steps.{spelt}
use denote.Struct.Struct.{layout}

-- the record's type as MIR has it by value
abbrev pub laid : Declared → Ty
laid D = layout (shape D)

module _ {M : Type 1} {𝓤 : Ura M} {𝓛 : Logic 𝓤} {K : Type 0} {Γ : List (Item 𝓤)} {C : Calls 𝓤 𝓛.H} {Λ : Loops 𝓤 𝓛.H} {E : Env 𝓤 𝓛.H} {rest : Body} {ret : Post 𝓤 𝓛.H} where
  -- entry n of the context is the reference's local i, entry m room for the copy's local k
  open 𝓛 use {H}

  pub copied : K → (D : Declared) (L : LL.Laws D) (i k n m b o : ℕ) (q : Share) (h : D.D) (vs : List Val)
      → (spot_of 𝓤 H E k).0 ≡ laid D → nth 𝓛 n Γ ≡ ‵ (fat full_share (spot_of 𝓤 H E i).0 (spot_of 𝓤 H E i).1 0 (vptr b o)) → nth 𝓛 m Γ ≡ ‵ (froom (spot_of 𝓤 H E k).0 (spot_of 𝓤 H E k).1 0)
      → (Is (row D) h (LL.vals D L h) → Seq K 𝓛 (‵ (cell_at q (row D).mir (LL.vals D L h) b o) ∷ ‵ ((row D).own_val h (LL.vals D L h)) ∷ put 𝓛 m (‵ (fat full_share (spot_of 𝓤 H E k).0 (spot_of 𝓤 H E k).1 0 (LL.val D L h))) Γ) (runs C Λ E rest ret))
      → Seq K 𝓛 (‵ (cell_at q (row D).mir vs b o) ∷ ‵ ((row D).own_val h vs) ∷ Γ) (runs C Λ E (seq (assign (place k []) (rv_opd (copy (place i (deref (laid D) ∷ []))))) rest) ret)
  copied t D L i k n m b o q h vs typed at_ref at_room go =
      spelt t (row D) (Is (row D)) (shows 𝓛 (row D)) (LL.vals D L) (LL.tells D L) q h vs b o $
      move t (1 ∷ []) $ peeks t (row D) (Is (row D)) (shows 𝓛 (row D)) h (LL.vals D L h) (λ was. move t (1 ∷ 0 ∷ []) $
      assigns t (of_opd t (load t (from t (hop t (look t (suc (suc n)) at_ref) (stop t))) (look_raw t 0 refl))) (from t (stop t))
      (init t (suc (suc m)) at_room (subst (λ (σ : Ty). T (has_ty σ (LL.val D L h)) × WT (LL.val D L h)) (sym typed) ((LL.lawful D L 𝓛).typed h _ was).0)) $ go was)

module _ {M : Type 1} {𝓤 : Ura M} {𝓛 : Logic 𝓤} {K : Type 0} {Γ : List (Item 𝓤)} {C : Calls 𝓤 𝓛.H} {Λ : Loops 𝓤 𝓛.H} {E : Env 𝓤 𝓛.H} {rest : Body} {ret : Post 𝓤 𝓛.H} where
  open 𝓛 use {H}

  pub lent-copied : K → (D : Declared) (L : LL.Laws D) (cs : LL.Copyables D.parts) (i k n m b o : ℕ) {κ : Lft} {q : Share} (h : D.D)
      → (spot_of 𝓤 H E k).0 ≡ laid D → nth 𝓛 n Γ ≡ ‵ (fat full_share (spot_of 𝓤 H E i).0 (spot_of 𝓤 H E i).1 0 (vptr b o)) → nth 𝓛 m Γ ≡ ‵ (froom (spot_of 𝓤 H E k).0 (spot_of 𝓤 H E k).1 0)
      → (Is (row D) h (LL.vals D L h) → Seq K 𝓛 (‵ (flft κ q) ∷ ‵ (hidden_shr (row D) κ h b o) ∷ put 𝓛 m (‵ (fat full_share (spot_of 𝓤 H E k).0 (spot_of 𝓤 H E k).1 0 (LL.val D L h))) Γ) (runs C Λ E rest ret))
      → Seq K 𝓛 (‵ (hidden_shr (row D) κ h b o) ∷ ‵ (flft κ q) ∷ Γ) (runs C Λ E (seq (assign (place k []) (rv_opd (copy (place i (deref (laid D) ∷ []))))) rest) ret)
  lent-copied t D L cs i k n m b o h typed at_ref at_room go =
      looks t tt (row D) (LL.copied D cs 𝓛).opens h b o (λ s vs.
      copied t D L i k (suc (suc n)) (suc (suc m)) b o s h vs typed at_ref at_room (λ was. shuts t tt (row D) s h (LL.vals D L h) b o $ go was))
