-- The subfields as they are read, one after the other, are the walk over the layout and then their values. Assumes nothing.
use mathlib.Core.Path.{◌≡◌, refl, sym, ap, ◌∙◌}
use mathlib.Core.List.{List, [], ◌∷◌, ◌++◌}
use mathlib.Core.Bool.{Bool, true, false}
use Prim.Native.Nat.{ℕ}
use native.Mathlib.Omega.{arith}
use Rattle.std.specs.Prelude.{Result, Ok, Err}
use Rattle.whole.specs.Results.{◌>>=◌}
use Rattle.arc.specs.declared.refusal.Refusal.{Refusal}
use Rattle.card_text.specs.declared.Fill.{Fill}
use Rattle.card_text.specs.declared.subfields.Values.{Values}
use Rattle.card_text.specs.Layout.{Subfield, STR, ARV, BRV, LSO, PSO, NUL, NUS, NLL, NLS, NFL, NFC, PNC, PNL, COD, ROD, POR, PCB, PVB, BAD, TIF}
use Rattle.card_text.specs.Layout.{Judged, judge, judge_field, right_kind, right_value, bytes_of, layout, or_else, walk}
use Rattle.card_text.specs.StepsFields.{checked, read_stated, read_extents, read_sides, read_all, stated_of, extents_in, all_values}
use Rattle.text.proofs.Bytes.{byte-in}
use Rattle.card_text.proofs.Walked.{or_else-assoc}

-- a value that is checked is judged first
checked-judge : {A : Type 0} (k v : Bool) (o : ℕ) (x : A) → checked k v o x ≡ judge k v o >>= (λ _. Ok x)
checked-judge true true o x = refl
checked-judge true false o x = refl
checked-judge false v o x = refl

-- one row more of the walk, the rest g being that of the rows after it
module _ {A B : Type 0} (fill : Fill) (f : Subfield) (s : List ℕ) (x : A) (g : A → Result B Refusal) (w : Judged) (b : B) where
  row : g x ≡ w >>= (λ _. Ok b)
      → checked (right_kind fill f.kind (bytes_of f s)) (right_value f.kind (bytes_of f s)) f.at x >>= g ≡ or_else (judge_field fill f s) w >>= (λ _. Ok b)
  unfolding judge_field
  row e = go (right_kind fill f.kind (bytes_of f s)) (right_value f.kind (bytes_of f s))
    where
      go : (k v : Bool) → checked k v f.at x >>= g ≡ or_else (judge k v f.at) w >>= (λ _. Ok b)
      go true true = e
      go true false = refl
      go false v = refl

-- several rows at once
some : {A B : Type 0} (v : Judged) (x : A) {y : Result A Refusal} (g : A → Result B Refusal) (w : Judged) (b : B) → y ≡ v >>= (λ _. Ok x)
    → g x ≡ w >>= (λ _. Ok b) → y >>= g ≡ or_else v w >>= (λ _. Ok b)
some (Ok u) x g w b p e = rw p e
some (Err r) x g w b p e = rw p

walk_append : (fill : Fill) (fs gs : List Subfield) (s : List ℕ) → walk fill (fs ++ gs) s ≡ or_else (walk fill fs s) (walk fill gs s)
walk_append fill [] gs s = refl
walk_append fill (f ∷ fs) gs s =
    ap (or_else (judge_field fill f s)) (walk_append fill fs gs s) ∙ sym (or_else-assoc (judge_field fill f s) (walk fill fs s) (walk fill gs s))

abbrev or_this : Values → Result Values Refusal → Values
or_this d (Ok v) = v
or_this d (Err r) = d

module _ (fill : Fill) (s : List ℕ) where
  stated-walk : read_stated fill s ≡ walk fill (STR ∷ ARV ∷ BRV ∷ LSO ∷ PSO ∷ []) s >>= (λ _. Ok (stated_of s))
  stated-walk = row fill STR s _ _ _ _ (row fill ARV s _ _ _ _ (row fill BRV s _ _ _ _ (row fill LSO s _ _ _ _ (row fill PSO s _ _ (Ok tt) _ refl))))

  extents-walk : read_extents fill s ≡ walk fill (NUL ∷ NUS ∷ NLL ∷ NLS ∷ NFL ∷ NFC ∷ []) s >>= (λ _. Ok (extents_in s))
  extents-walk =
      row fill NUL s _ _ _ _ (row fill NUS s _ _ _ _ (row fill NLL s _ _ _ _ (row fill NLS s _ _ _ _
      (row fill NFL s _ _ _ _ (row fill NFC s _ _ (Ok tt) _ refl)))))

  sides-walk : read_sides fill s ≡ walk fill (PNC ∷ PNL ∷ COD ∷ ROD ∷ POR ∷ PCB ∷ PVB ∷ []) s >>= (λ _. Ok tt)
  sides-walk =
      row fill PNC s _ _ _ _ (row fill PNL s _ _ _ _ (row fill COD s _ _ _ _ (row fill ROD s _ _ _ _
      (row fill POR s _ _ _ _ (row fill PCB s _ _ _ _ (row fill PVB s _ _ (Ok tt) _ refl))))))

  -- the two chains, group by group
  pub all-walk : read_all fill s ≡ walk fill layout s >>= (λ _. Ok (all_values s))
  unfolding layout
  all-walk =
      rw (
        ← byte-in 97 0 1 s (omega arith),
        walk_append fill (STR ∷ ARV ∷ BRV ∷ LSO ∷ PSO ∷ []) (NUL ∷ NUS ∷ NLL ∷ NLS ∷ NFL ∷ NFC ∷ PNC ∷
            PNL ∷ COD ∷ ROD ∷ POR ∷ PCB ∷ PVB ∷ BAD ∷ TIF ∷ []) s,
      )
      (some (walk fill (STR ∷ ARV ∷ BRV ∷ LSO ∷ PSO ∷ []) s) (stated_of s) _ _ _ stated-walk
      (rw (walk_append fill (NUL ∷ NUS ∷ NLL ∷ NLS ∷ NFL ∷ NFC ∷ []) (PNC ∷ PNL ∷ COD ∷ ROD ∷ POR ∷ PCB ∷ PVB ∷ BAD ∷ TIF ∷ []) s)
      (some (walk fill (NUL ∷ NUS ∷ NLL ∷ NLS ∷ NFL ∷ NFC ∷ []) s) (extents_in s) _ _ _ extents-walk
      (rw (walk_append fill (PNC ∷ PNL ∷ COD ∷ ROD ∷ POR ∷ PCB ∷ PVB ∷ []) (BAD ∷ TIF ∷ []) s)
      (some (walk fill (PNC ∷ PNL ∷ COD ∷ ROD ∷ POR ∷ PCB ∷ PVB ∷ []) s) tt _ _ _ sides-walk
      (row fill BAD s _ _ _ _ (row fill TIF s _ _ (Ok tt) _ refl)))))))

  pub walk-err : {e : Refusal} → read_all fill s ≡ Err e → walk fill layout s ≡ Err e
  walk-err {e} p = go (walk fill layout s) (sym all-walk ∙ p)
    where
      go : (v : Judged) → ◌≡◌ {A = Result Values Refusal} (v >>= (λ _. Ok (all_values s))) (Err e) → v ≡ Err e
      go (Ok u) k = let x : ◌≡◌ {A = ℕ} 0 1 = cc in absurd (omega arith)
      go (Err r) k = let q : r ≡ e = cc in ap Err q

  pub walk-ok : {v : Values} → read_all fill s ≡ Ok v → (walk fill layout s ≡ Ok tt) × (v ≡ all_values s)
  walk-ok {v} p = go (walk fill layout s) (sym all-walk ∙ p)
    where
      go : (w : Judged) → ◌≡◌ {A = Result Values Refusal} (w >>= (λ _. Ok (all_values s))) (Ok v) → (w ≡ Ok tt) × (v ≡ all_values s)
      go (Ok u) k = (refl, sym (ap (or_this v) k))
      go (Err r) k = let x : ◌≡◌ {A = ℕ} 0 1 = cc in absurd (omega arith)
