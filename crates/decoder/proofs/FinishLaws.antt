-- The value of known bits in a code, and a table that is filled entry by entry or a row at a time.
use mathlib.Core.Path.{◌≡◌, refl, sym, ap, ◌∙◌}
use mathlib.Core.Bool.{Bool, true, false, cond}
use mathlib.Core.List.{List, [], ◌∷◌, ◌++◌, append-nil, append_assoc}
use Prim.Native.Nat.{ℕ, zero, suc, ◌+◌, ◌-◌, ◌/◌, ◌%◌, ◌≤◌, ◌<◌}
use native.Mathlib.Omega.{arith}
use borrow.Author.Tests.{eqb-true, eqb-false}
use lib.Dec.{eqb}
use lib.IntN.{pos}
use lib.ListN.{length, get_or, take, drop, replicate, replicate-append-replicate}
use lib.Seq.{get_or-drop, get_or-append-add, drop-length, drop-drop, take_at, drop_at}
use borrow.Rule.Slice.PartMut.{mid_of, post_of, put_mid, mid_len}
use Rattle.sizes.specs.Sizes.{limit}
use Rattle.sizes.specs.Tables.{table}
use Rattle.sizes.proofs.Tables.{table_length, table_suc}
use Rattle.coef.specs.Coef.{magnitude, negative, signed}
use Rattle.coef.proofs.Laws.{magnitude_signed}
use Rattle.nls.specs.Reading.{value_by, Between}
use Rattle.nls.proofs.HighBits.{neg_signed, signed_zero}
use Rattle.decoder.specs.Finishing.{uncoded}

-- a code undone: its sign, its known bits, and its value by a rule
module _ (rule : ℕ → ℕ → ℕ) (n k : ℕ) where
  abbrev s : Bool
  s = eqb (n % 2) 1

  size : magnitude (uncoded n) ≡ n / 2
  size = magnitude_signed s (n / 2)

  -- the value of a code has its sign, and the rule's magnitude
  value_is : signed (eqb (n % 2) 1) (cond (eqb (n / 2) 0) 0 (rule k (n / 2))) ≡ value_by rule k (uncoded n)
  unfolding value_by
  value_is = rw size (on (eqb (n / 2) 0) refl)
    where
      on : (t : Bool) → eqb (n / 2) 0 ≡ t → signed s (cond t 0 (rule k (n / 2))) ≡ cond t (pos 0) (signed (negative (uncoded n)) (rule k (n / 2)))
      on true e = signed_zero s
      on false e = ap (λ (b : Bool). signed b (rule k (n / 2))) (sym (neg_signed s (n / 2) (omega (arith, eqb-false (n / 2) 0 e))))

  pub undone : (below : Bool) (shown : ℕ) → eqb (n % 2) 1 ≡ below → shown ≡ cond (eqb (n / 2) 0) 0 (rule k (n / 2)) → signed below shown ≡ value_by rule k (uncoded n)
  undone below shown e f = (λ i. signed (sym e i) (f i)) ∙ value_is

  module _ (within : magnitude (value_by rule k (uncoded n)) ≤ limit) where
    -- which is within the limit, and so are the known bits
    pub shown_in : cond (eqb (n / 2) 0) 0 (rule k (n / 2)) ≤ limit
    shown_in = omega (arith, within, ap magnitude value_is, magnitude_signed s (cond (eqb (n / 2) 0) 0 (rule k (n / 2))))

    pub size_in : Between rule → n / 2 ≤ limit
    size_in fair = on (eqb (n / 2) 0) refl shown_in
      where
        on : (t : Bool) → eqb (n / 2) 0 ≡ t → cond t 0 (rule k (n / 2)) ≤ limit → n / 2 ≤ limit
        on true e h = omega (arith, eqb-true (n / 2) 0 e)
        on false e h = omega (arith, h, fair.low k (n / 2) (omega (arith, eqb-false (n / 2) 0 e)))

-- what is not done yet stands as it was
pub not_yet : {A : Type 0} (q : ℕ) (f : ℕ → A) (held : List A) (d : A) → get_or (table q f ++ drop q held) q d ≡ get_or held q d
not_yet q f held d =
    ap (λ (k : ℕ). get_or (table q f ++ drop q held) k d) {x = q} {y = length (table q f) + 0} (omega (arith, table_length q f))
    ∙ get_or-append-add (table q f) (drop q held) 0 d ∙ get_or-drop q held 0 d ∙ ap (λ (k : ℕ). get_or held k d) {x = q + 0} {y = q} (omega arith)

-- a row more, all of it v
row_more : {A : Type 0} (q n : ℕ) (f : ℕ → A) (v : A) → ((d : ℕ) → d < n → f (q + d) ≡ v) → table q f ++ replicate n v ≡ table (q + n) f
row_more {A} q zero f v h = append-nil (table q f) ∙ ap (λ (k : ℕ). table k f) {x = q} {y = q + zero} (omega arith)
row_more {A} q (suc n) f v h =
    ap (λ (k : ℕ). table q f ++ replicate k v) {x = suc n} {y = n + 1} (omega arith)
    ∙ ap (λ (l : List A). table q f ++ l) (sym (replicate-append-replicate n 1 v))
    ∙ sym (append_assoc (table q f) (replicate n v) (v ∷ []))
    ∙ ap (λ (l : List A). l ++ (v ∷ [])) (row_more q n f v (λ d k. h d (omega arith)))
    ∙ ap (λ (x : A). table (q + n) f ++ (x ∷ [])) (sym (h n (omega arith)))
    ∙ sym (table_suc (q + n) f)
    ∙ ap (λ (k : ℕ). table k f) {x = suc (q + n)} {y = q + suc n} (omega arith)

-- as a loop that fills a buffer puts it there, from q to e
pub fill_row : {A : Type 0} (q e : ℕ) (f : ℕ → A) (held now ys : List A) (v : A) → q ≤ e → e ≤ length now → now ≡ table q f ++ drop q held
    → ys ≡ replicate (length (mid_of q (e - q) now)) v → ((d : ℕ) → d < e - q → f (q + d) ≡ v) → put_mid q (e - q) now ys ≡ table e f ++ drop e held
fill_row {A} q e f held now ys v h g is fills same =
    let long : length (table q f) ≡ q = table_length q f in
    let first : take q now ≡ table q f = ap (λ (l : List A). take q l) is ∙ take_at (table q f) (drop q held) q long in
    let rest : post_of q (e - q) now ≡ drop e held =
    ap (λ (l : List A). drop (e - q) (drop q l)) is
    ∙ ap (λ (l : List A). drop (e - q) l) (drop_at (table q f) (drop q held) q long)
    ∙ drop-drop (e - q) q held ∙ ap (λ (k : ℕ). drop k held) {x = q + (e - q)} {y = e} (omega arith) in
    let part : ys ≡ replicate (e - q) v = fills ∙ ap (λ (k : ℕ). replicate k v) (mid_len q e now g) in
    (λ i. first i ++ (part i ++ rest i))
    ∙ sym (append_assoc (table q f) (replicate (e - q) v) (drop e held))
    ∙ ap (λ (l : List A). l ++ drop e held) (row_more q (e - q) f v same ∙ ap (λ (k : ℕ). table k f) {x = q + (e - q)} {y = e} (omega arith))

-- and where all is done nothing else is left
pub whole : {A : Type 0} (q : ℕ) (own held : List A) → length held ≡ q → own ++ drop q held ≡ own
whole {A} q own held e = ap (λ (k : ℕ). own ++ drop k held) (sym e) ∙ ap (λ (l : List A). own ++ l) (drop-length held) ∙ append-nil own
