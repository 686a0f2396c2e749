-- What a table holds, and how a loop that fills one goes on.
use mathlib.Core.Path.{◌≡◌, refl, sym, ap, ◌∙◌}
use mathlib.Core.Bool.{Bool, true, false}
use mathlib.Core.List.{List, [], ◌∷◌, ◌++◌, append_assoc}
use Prim.Native.Nat.{ℕ, zero, suc, ◌<◌}
use native.Mathlib.Omega.{arith}
use borrow.Author.Tests.{eqb-true, eqb-false}
use lib.Dec.{eqb}
use lib.ListN.{length, get_or, drop, set, length-append, get_or-append}
use lib.Seq.{get_or_at, ext_get_or, drop-cons, set_at}
use Rattle.sizes.specs.Tables.{table}

module _ {A : Type 0} where
  pub table_length : (n : ℕ) (f : ℕ → A) → length (table n f) ≡ n
  unfolding table
  table_length zero f = refl
  table_length (suc n) f = omega (arith, length-append (table n f) (f n ∷ []), table_length n f)

  pub table_suc : (n : ℕ) (f : ℕ → A) → table (suc n) f ≡ table n f ++ (f n ∷ [])
  unfolding table
  table_suc n f = refl

  pub table_at : (n : ℕ) (f : ℕ → A) (i : ℕ) (d : A) → i < n → get_or (table n f) i d ≡ f i
  unfolding table
  table_at zero f i d h = absurd (omega arith)
  table_at (suc n) f i d h = tell (λ k. table_at n f i d k) (eqb i n) refl
    where
      tell : (i < n → get_or (table n f) i d ≡ f i) → (t : Bool) → eqb i n ≡ t → get_or (table n f ++ (f n ∷ [])) i d ≡ f i
      tell ih true e = get_or_at (table n f) (f n) [] d i (table_length n f ∙ sym (eqb-true i n e)) ∙ ap f (sym (eqb-true i n e))
      tell ih false e =
          let k : i < n = omega (arith, eqb-false i n e) in
          get_or-append (table n f) (f n ∷ []) d i (omega (arith, table_length n f)) ∙ ih k

  -- and where anything stands behind it
  pub table_front : (n : ℕ) (f : ℕ → A) (rest : List A) (i : ℕ) (d : A) → i < n → get_or (table n f ++ rest) i d ≡ f i
  table_front n f rest i d h = get_or-append (table n f) rest d i (omega (arith, table_length n f)) ∙ table_at n f i d h

  pub table_ext : (n : ℕ) (f g : ℕ → A) → ((i : ℕ) → i < n → f i ≡ g i) → table n f ≡ table n g
  unfolding table
  table_ext zero f g h = refl
  table_ext (suc n) f g h = rw (table_ext n f g (λ i k. h i (omega arith)), h n (omega arith))

  -- a list that holds f i at each place is the table
  pub table_is : (n : ℕ) (f : ℕ → A) (d : A) (l : List A) → length l ≡ n → ((i : ℕ) → i < n → get_or l i d ≡ f i) → l ≡ table n f
  table_is n f d l e h =
      ext_get_or d l (table n f) (e ∙ sym (table_length n f)) (λ i k. h i (omega arith) ∙ sym (table_at n f i d (omega arith)))

  -- a buffer whose first q entries are filled, and one entry more
  pub fill_step : (q : ℕ) (f : ℕ → A) (held : List A) (v : A) → q < length held → v ≡ f q
      → set (table q f ++ drop q held) q v ≡ table (suc q) f ++ drop (suc q) held
  fill_step q f held v h e =
      ap (λ (l : List A). set (table q f ++ l) q v) (drop-cons held q v h)
      ∙ set_at (table q f) (get_or held q v) (drop (suc q) held) v q (table_length q f)
      ∙ ap (λ (x : A). table q f ++ (x ∷ drop (suc q) held)) e
      ∙ sym (append_assoc (table q f) (f q ∷ []) (drop (suc q) held))
      ∙ ap (λ (l : List A). l ++ drop (suc q) held) (sym (table_suc q f))
