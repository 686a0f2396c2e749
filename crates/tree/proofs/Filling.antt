-- A table that is filled from its end: what it holds on the way.
use mathlib.Core.Path.{◌≡◌, refl, sym, ap, ◌∙◌}
use mathlib.Core.List.{List, [], ◌∷◌, ◌++◌, map, append_assoc}
use Prim.Native.Nat.{ℕ, suc, ◌+◌, ◌*◌, ◌-◌, ◌≤◌, ◌<◌}
use native.Mathlib.Numerals.{add-one}
use native.Mathlib.Omega.{arith}
use lib.Bits.{bit_or}
use lib.ListN.{length, get_or, take, drop, set, length-append, length-drop, take-append-drop, get_or-append}
use lib.Seq.{length-take-le, take-suc, drop-cons, set_at, drop_at, get_or-append-add, get_or-drop, get_or-take, take-append-le, take-take, drop-append-le, drop-append-add, drop-drop, ext_get_or}
use Rattle.std.specs.List.{fold, slice_range}
use Rattle.sizes.specs.Tables.{table}
use Rattle.sizes.proofs.Tables.{table_length, table_at, table_front, table_is}
use Rattle.bits.specs.Bits.{or_all}
use Rattle.coef.proofs.Laws.{or_folded}
use Rattle.tree.specs.Tree.{fours}
use Rattle.tree.specs.Filling.{filled_from}

-- the OR of what g makes of the entries at the children of place i, as a fold over that part of the list
pub or_part : {X : Type 0} (g : X → ℕ) (d : X) (A : List X) (i : ℕ) → 4 * i + 3 < length A
    → fold (λ m x. bit_or m (g x)) 0 (slice_range A (4 * i) (4 * i + 4)) ≡ or_all (map (λ j. g (get_or A j d)) (fours i))
or_part g d A i h =
    let j = 4 * i in
    let n : j + 4 - j ≡ 4 = omega arith in
    let part : slice_range A j (j + 4) ≡ map (λ k. get_or A k d) (fours i) =
    rw (n, next j (j + 1) refl (omega arith), next (j + 1) (j + 2) (omega arith) (omega arith), next (j + 2) (j + 3) (omega arith) (omega arith), next (j + 3) (j + 4) (omega arith) (omega arith)) refl in
    rw part (or_folded g (map (λ k. get_or A k d) (fours i)) 0)
  where
    next : (j k : ℕ) → k ≡ j + 1 → j < length A → drop j A ≡ get_or A j d ∷ drop k A
    next j k e h = rw (e, add-one) (drop-cons A j d h)

module _ (own held : List ℕ) (room : length own ≤ length held) where
  full_length : length (own ++ drop (length own) held) ≡ length held
  full_length = simp (length-append, length-drop) (omega arith)

  front : (i : ℕ) → i ≤ length own → length (take i held) ≡ i
  front i h = length-take-le i held (omega arith)

  -- nothing yet
  filled_none : filled_from (length own) own held ≡ held
  filled_none =
      ap (λ (l : List ℕ). take (length own) held ++ l) (drop_at own (drop (length own) held) (length own) refl)
      ∙ take-append-drop (length own) held

  -- one entry more
  filled_step : (i v : ℕ) → i < length own → v ≡ get_or own i 0 → set (filled_from (suc i) own held) i v ≡ filled_from i own held
  filled_step i v h e =
      let full = own ++ drop (length own) held in
      let a : take (suc i) held ≡ take i held ++ (get_or held i 0 ∷ []) = take-suc held i 0 (omega arith) in
      let b : drop i full ≡ get_or full i 0 ∷ drop (suc i) full = drop-cons full i 0 (omega (arith, full_length)) in
      let d : v ≡ get_or full i 0 = e ∙ sym (get_or-append own (drop (length own) held) 0 i h) in
      rw (a, append_assoc, b, ← d) (set_at (take i held) (get_or held i 0) (drop (suc i) full) v i (front i (omega arith)))

  -- what is read of the part that is filled
  filled_at : (i j : ℕ) → i ≤ j → j < length own → get_or (filled_from i own held) j 0 ≡ get_or own j 0
  filled_at i j h k =
      let full = own ++ drop (length own) held in
      let e : j ≡ length (take i held) + (j - i) = omega (arith, front i (omega arith)) in
      let f : i + (j - i) ≡ j = omega arith in
      ap (λ (x : ℕ). get_or (filled_from i own held) x 0) e ∙ get_or-append-add (take i held) (drop i full) (j - i) 0
      ∙ get_or-drop i full (j - i) 0 ∙ ap (λ (x : ℕ). get_or full x 0) f ∙ get_or-append own (drop (length own) held) 0 j k

  -- a part that is filled further
  filled_again : (i j : ℕ) → j ≤ i → i ≤ length own → filled_from j own (filled_from i own held) ≡ filled_from j own held
  filled_again i j h k =
      let full = own ++ drop (length own) held in
      let e : take j (filled_from i own held) ≡ take j held =
      take-append-le j (take i held) (drop i full) (omega (arith, front i k)) ∙ take-take j i held h in
      let f : drop (length own) (filled_from i own held) ≡ drop (length own) held =
      let n : length own ≡ length (take i held) + (length own - i) = omega (arith, front i k) in
      let m : i + (length own - i) ≡ length own = omega arith in
      ap (λ (x : ℕ). drop x (filled_from i own held)) n ∙ drop-append-add (take i held) (drop i full) (length own - i)
      ∙ drop-drop (length own - i) i full ∙ ap (λ (x : ℕ). drop x full) m
      ∙ drop_at own (drop (length own) held) (length own) refl in
      rw (e, f)

-- the same of a table f 0, .. f (n - 1), and of the list l that a loop has
module _ (n : ℕ) (f : ℕ → ℕ) (held : List ℕ) (room : n ≤ length held) where
  fits : length (table n f) ≤ length held
  fits = omega (arith, table_length n f)

  pub begun : held ≡ filled_from n (table n f) held
  begun = sym (ap (λ (x : ℕ). filled_from x (table n f) held) (sym (table_length n f)) ∙ filled_none (table n f) held fits)

  pub more : (i v : ℕ) (l : List ℕ) → 0 < i → i ≤ n → l ≡ filled_from i (table n f) held → v ≡ f (i - 1)
      → set l (i - 1) v ≡ filled_from (i - 1) (table n f) held
  more i v l some most e g =
      let s : i ≡ suc (i - 1) = omega arith in
      ap (λ (x : List ℕ). set x (i - 1) v) (e ∙ ap (λ (x : ℕ). filled_from x (table n f) held) s)
      ∙ filled_step (table n f) held fits (i - 1) v (omega (arith, table_length n f)) (g ∙ sym (table_at n f (i - 1) 0 (omega arith)))

  pub read : (i j : ℕ) (l : List ℕ) → i ≤ j → j < n → l ≡ filled_from i (table n f) held → get_or l j 0 ≡ f j
  read i j l h k e =
      ap (λ (x : List ℕ). get_or x j 0) e ∙ filled_at (table n f) held fits i j h (omega (arith, table_length n f)) ∙ table_at n f j 0 k

  pub on : (i j : ℕ) → j ≤ i → i ≤ n → filled_from j (table n f) (filled_from i (table n f) held) ≡ filled_from j (table n f) held
  on i j h k = filled_again (table n f) held fits i j h (omega (arith, table_length n f))

-- from entry i on, a table is settled by its function there
table_drop : (n i : ℕ) (f g : ℕ → ℕ) → ((k : ℕ) → i ≤ k → k < n → f k ≡ g k) → drop i (table n f) ≡ drop i (table n g)
table_drop n i f g h =
    ext_get_or 0 (drop i (table n f)) (drop i (table n g))
    (omega (arith, length-drop i (table n f), length-drop i (table n g), table_length n f, table_length n g))
    (λ k l.
    let m : i + k < n = omega (arith, length-drop i (table n f), table_length n f) in
    get_or-drop i (table n f) k 0 ∙ table_at n f (i + k) 0 m ∙ h (i + k) (omega arith) m
    ∙ sym (get_or-drop i (table n g) k 0 ∙ table_at n g (i + k) 0 m))

pub filled_same : (n i : ℕ) (f g : ℕ → ℕ) (held : List ℕ) → i ≤ n → ((k : ℕ) → i ≤ k → k < n → f k ≡ g k)
    → filled_from i (table n f) held ≡ filled_from i (table n g) held
filled_same n i f g held l h =
    rw (
      table_length n f,
      table_length n g,
      drop-append-le i (table n f) (drop n held) (omega (arith, table_length n f)),
      drop-append-le i (table n g) (drop n held) (omega (arith, table_length n g)),
      table_drop n i f g h,
    )

-- what is left to the front is 0
pub filled_whole : (n i : ℕ) (f : ℕ → ℕ) (held : List ℕ) → n ≤ length held → i ≤ n → ((k : ℕ) → k < i → f k ≡ 0)
    → table i (λ k. 0) ++ drop i (filled_from i (table n f) held) ≡ filled_from 0 (table n f) held
filled_whole n i f held room l h =
    let full = table n f ++ drop (length (table n f)) held in
    let e : drop i (filled_from i (table n f) held) ≡ drop i full =
    drop_at (take i held) (drop i full) i (length-take-le i held (omega arith)) in
    let t : take i full ≡ table i (λ k. 0) =
    table_is i (λ k. 0) 0 (take i full)
    (length-take-le i full (omega (arith, table_length n f, length-append (table n f) (drop (length (table n f)) held))))
    (λ k m.
    get_or-take i full k 0 m ∙ table_front n f (drop (length (table n f)) held) k 0 (omega arith) ∙ h k m) in
    rw (e, ← t) (take-append-drop i full)
