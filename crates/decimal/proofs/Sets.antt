-- A run of stores: of an append, and in another order.
use mathlib.Core.Path.{◌≡◌, refl, ap, ◌∙◌}
use mathlib.Core.List.{List, [], ◌∷◌, ◌++◌}
use Prim.Native.Nat.{ℕ, suc, ◌+◌, ◌≤◌}
use native.Mathlib.Omega.{arith}
use lib.ListN.{length, set}
use lib.Seq.{sets, set_comm}

module _ {A : Type 0} where
  -- a run of stores is the first part of it and then the rest
  pub sets_append : (l : List A) (i : ℕ) (s t : List A) → sets l i (s ++ t) ≡ sets (sets l i s) (i + length s) t
  sets_append l i [] t =
      let e : i + length {A = A} [] ≡ i = omega arith in
      rw e
  sets_append l i (a ∷ s) t =
      let e : suc i + length s ≡ i + suc (length s) = omega arith in
      sets_append (set l i a) (suc i) s t ∙ ap (λ (j : ℕ). sets (sets (set l i a) (suc i) s) j t) e

  -- a store behind a run may be made before it
  set_first : (l : List A) (i : ℕ) (s : List A) (j : ℕ) (d : A) → i + length s ≤ j → set (sets l i s) j d ≡ sets (set l j d) i s
  set_first l i [] j d h = refl
  set_first l i (a ∷ s) j d h =
      set_first (set l i a) (suc i) s j d (omega arith) ∙ ap (λ (m : List A). sets m (suc i) s) (set_comm l i j a d (λ (e : i ≡ j). omega arith))

  -- so the last of a run may be stored first
  pub sets_last : (l : List A) (i : ℕ) (s : List A) (d : A) → sets l i (s ++ (d ∷ [])) ≡ sets (set l (i + length s) d) i s
  sets_last l i s d = sets_append l i s (d ∷ []) ∙ set_first l i s (i + length s) d (omega arith)
