-- A step keeps the lengths of its tables, whatever marks they hold.
use Prim.Native.Nat.{ℕ, zero, suc, ◌+◌, ◌*◌, ◌-◌, ◌/◌, ◌%◌}
use mathlib.Core.Path.{◌≡◌, refl, ◌∙◌}
use mathlib.Core.Bool.{Bool, true, false, ◌&&◌, ◌||◌}
use mathlib.Core.List.{List}
use lib.Dec.{ltb, leb, eqb}
use lib.IntN.{ℤ}
use lib.ListN.{length, get_or, set, length-set}
use Rattle.tree.specs.Tree.{desc, grand}
use Rattle.nls.specs.Scan.{Pass, pixels, sets, refining, State, look_at, look_pixels, look_sets, look_refining, moves_left}
use Rattle.nls.proofs.Kept.{AfterMove, settle_keeps}
use Rattle.nls.proofs.Machine.Push.{push_len}
use Rattle.nls.proofs.Machine.Cover.{length_split}
use Rattle.nls.proofs.Precision.Noted.{each_length}
use Rattle.marking.specs.Marking.{new_desc}
use Rattle.moves.specs.Moves.{told_sets, told_at, told, onward}
use Rattle.undo.specs.Back.{Prior, first, quiet, answered, is, block, many_descs, wipe_from, wiped, join_desc, join_grand, fresh, unasked, prior_pixels, prior_refining, prior_set, prior_block, prior_sets, prior_at, prior, back_from, all_moves, back}
use Rattle.steps.specs.Moved.{heard, unheard, noted}
use Rattle.steps.specs.declared.Asked.{Asked}
use Rattle.steps.specs.declared.Asked.TheVariants as asked

-- ---- values and precisions

pub heard_length : (what : Asked) (i b : ℕ) (a : Bool) (v : List ℤ) → length (heard what i b a v) ≡ length v
heard_length asked.Nothing i b a v = refl
heard_length asked.Sign i b a v = length-set v i _
heard_length asked.More i b a v = length-set v i _
heard_length asked.Bit i b a v = refl
heard_length asked.Desc i b a v = refl
heard_length asked.Grand i b a v = refl

pub unheard_length : (what : Asked) (i l : ℕ) (v : List ℤ) → length (unheard what i l v) ≡ length v
unheard_length asked.Nothing i l v = refl
unheard_length asked.Sign i l v = length-set v i _
unheard_length asked.More i l v = length-set v i _
unheard_length asked.Bit i l v = refl
unheard_length asked.Desc i l v = refl
unheard_length asked.Grand i l v = refl

pub noted_length : (N L : ℕ) (what : Asked) (i c : ℕ) (a : Bool) (k : List ℕ) → length (noted N L what i c a k) ≡ length k
noted_length N L asked.Nothing i c a k = refl
noted_length N L asked.Sign i c a k = length-set k i c
noted_length N L asked.More i c a k = length-set k i c
noted_length N L asked.Bit i c true k = refl
noted_length N L asked.Bit i c false k = length-set k i c
noted_length N L asked.Desc i c true k = refl
noted_length N L asked.Desc i c false k = each_length (desc N L (i / 4)) c k
noted_length N L asked.Grand i c true k = refl
noted_length N L asked.Grand i c false k = each_length (grand N L (i / 16)) c k

-- ---- marks, forward

module _ (I n : ℕ) where
  abbrev Long : State → Type 0
  Long s = length s.marks ≡ n

  long_pixels : (b i : ℕ) (m : List ℕ) (x y : Bool) → length m ≡ n → AfterMove I Long (look_pixels b i m x y)
  long_pixels b i m false y h = h
  long_pixels b i m true true h = tt
  long_pixels b i m true false h = h

  long_sets : (b i : ℕ) (m : List ℕ) (x d g c : Bool) → length m ≡ n → AfterMove I Long (look_sets b i m x d g c)
  long_sets b i m false d g c h = h
  long_sets b i m true true g c h = tt
  long_sets b i m true false true c h = tt
  long_sets b i m true false false true h = tt
  long_sets b i m true false false false h = h

  long_refining : (b i : ℕ) (m : List ℕ) (x s d : Bool) → length m ≡ n → AfterMove I Long (look_refining b i m x s d)
  long_refining b i m false s d h = h
  long_refining b i m true true d h = tt
  long_refining b i m true false true h = length-set m i 3 ∙ h
  long_refining b i m true false false h = h

  long_look : (l : ℕ) (p : Pass) (i : ℕ) (w : Bool) (m : List ℕ) → length m ≡ n → AfterMove I Long (look_at I l p i w m)
  long_look zero p i w m h = tt
  long_look (suc b) p i true m h = tt
  long_look (suc b) pixels i false m h = long_pixels b i m (ltb i I) (eqb (get_or m i 0) 1) h
  long_look (suc b) sets i false m h = long_sets b i m (ltb i I) (eqb (get_or m i 0) 5) (eqb (get_or m i 0) 6) (eqb (get_or m i 0) 4) h
  long_look (suc b) refining i false m h = long_refining b i m (ltb i I) (eqb (get_or m i 0) 3) (eqb (get_or m i 0) 2) h

  long_desc : (i : ℕ) (m : List ℕ) → length m ≡ n → length (new_desc I i m) ≡ n
  long_desc i m h = push_len I _ (4 * i) 7 (set m i 5) ∙ length-set m i 5 ∙ h

  long_told_sets : (l i : ℕ) (m : List ℕ) (a d g : Bool) → length m ≡ n → Long (told_sets I l i m a d g)
  long_told_sets l i m true true g h = length_split I i m (ltb (4 * i) I) ∙ h
  long_told_sets l i m false true g h = h
  long_told_sets l i m true false true h =
      long_desc (i + 12) (new_desc I (i + 8) (new_desc I (i + 4) (new_desc I i m)))
      (long_desc (i + 8) (new_desc I (i + 4) (new_desc I i m)) (long_desc (i + 4) (new_desc I i m) (long_desc i m h)))
  long_told_sets l i m false false true h = h
  long_told_sets l i m true false false h = h
  long_told_sets l i m false false false h = length-set m i 1 ∙ h

  long_told : (l : ℕ) (p : Pass) (i : ℕ) (w : Bool) (m : List ℕ) (a : Bool) → length m ≡ n → Long (told_at I l p i w m a)
  long_told l p i true m a h = length-set m i 2 ∙ h
  long_told l pixels i false m true h = h
  long_told l pixels i false m false h = h
  long_told l sets i false m a h = long_told_sets l i m a (eqb (get_or m i 0) 5) (eqb (get_or m i 0) 6) h
  long_told l refining i false m a h = h

  pub onward_length : (s : State) (a : Bool) → length s.marks ≡ n → length (onward I s a).marks ≡ n
  onward_length s a h =
      settle_keeps I Long (λ t k. long_look t.left t.pass t.place t.pending t.marks k) (told I s a)
      (long_told s.left s.pass s.place s.pending s.marks a h)

-- ---- marks, back

module _ (I n : ℕ) where
  long_wipe : (k j : ℕ) (m : List ℕ) → length m ≡ n → length (wipe_from I k j m) ≡ n
  unfolding wipe_from
  long_wipe zero j m h = h
  long_wipe (suc k) j m h = on (ltb j I) (long_wipe k (4 * j) (set m j 0) (length-set m j 0 ∙ h))
    where
      on : (x : Bool) → length (wipe_from I k (4 * j) (set m j 0)) ≡ n → length {A = ℕ} (elim x as (λ _. List ℕ) [ true ↦ wipe_from I k (4 * j) (set m j 0) | false ↦ m ]) ≡ n
      on true ih = ih
      on false ih = h

  long_wiped : (i : ℕ) (m : List ℕ) → length m ≡ n → length (wiped I i m) ≡ n
  long_wiped i m h = long_wipe I (4 * i) (set m i 0) (length-set m i 0 ∙ h)

  long_four : (i : ℕ) (m : List ℕ) → length m ≡ n → length (set (set (set (set m i 5) (i + 1) 0) (i + 2) 0) (i + 3) 0) ≡ n
  long_four i m h =
      length-set (set (set (set m i 5) (i + 1) 0) (i + 2) 0) (i + 3) 0 ∙ length-set (set (set m i 5) (i + 1) 0) (i + 2) 0 ∙ length-set (set m i 5) (i + 1) 0 ∙ length-set m i 5 ∙ h

  long_join : (i : ℕ) (m : List ℕ) (x : Bool) → length m ≡ n → length (join_desc I i m x) ≡ n
  long_join i m true h = length-set (set (set (set (set m i 5) (i + 1) 0) (i + 2) 0) (i + 3) 0) (4 * i) 7 ∙ long_four i m h
  long_join i m false h = long_four i m h

  long_grand : (i : ℕ) (m : List ℕ) → length m ≡ n → length (join_grand I i m) ≡ n
  long_grand i m h =
      push_len I I (4 * i) 8 (set (wiped I (i + 4) (wiped I (i + 8) (wiped I (i + 12) m))) i 6)
      ∙ length-set (wiped I (i + 4) (wiped I (i + 8) (wiped I (i + 12) m))) i 6
      ∙ long_wiped (i + 4) (wiped I (i + 8) (wiped I (i + 12) m)) (long_wiped (i + 8) (wiped I (i + 12) m) (long_wiped (i + 12) m h))

  module _ (D P : ℕ) (big : ℕ → ℕ → Bool) where
    abbrev Before : Prior → Type 0
    Before first = Unit {0}
    Before (quiet t) = length t.marks ≡ n
    Before (answered t) = length t.marks ≡ n

    long_unasked : (l : ℕ) (p : Pass) (i v : ℕ) (m : List ℕ) (x : Bool) → length m ≡ n → Before (unasked I D P big l p i v m x)
    long_unasked l p i v m true h = length-set m i v ∙ h
    long_unasked l p i v m false h = length-set m i v ∙ h

    long_prior_pixels : (l i : ℕ) (m : List ℕ) (x y z : Bool) → length m ≡ n → Before (prior_pixels I D P big l i m x y z)
    long_prior_pixels l i m true true z h = h
    long_prior_pixels l i m true false z h = tt
    long_prior_pixels l i m false y true h = long_unasked l pixels i 1 m (is m i 2) h
    long_prior_pixels l i m false y false h = h

    long_prior_refining : (l i : ℕ) (m : List ℕ) (x y z : Bool) → length m ≡ n → Before (prior_refining I D P big l i m x y z)
    long_prior_refining l i m true y z h = h
    long_prior_refining l i m false true true h = h
    long_prior_refining l i m false true false h = length-set m i 2 ∙ h
    long_prior_refining l i m false false z h = h

    long_prior_set : (l i : ℕ) (m : List ℕ) (x : Bool) → length m ≡ n → Before (prior_set I D P big l i m x)
    long_prior_set l i m true h = h
    long_prior_set l i m false h = h

    long_prior_block : (l q : ℕ) (m : List ℕ) (x y : Bool) → length m ≡ n → Before (prior_block I D P big l q m x y)
    long_prior_block l q m true true h = long_unasked l sets (q - 1) 4 m (is m (q - 1) 2) h
    long_prior_block l q m true false h = h
    long_prior_block l q m false y h = long_prior_set l (block m q) m (is m (block m q) 5 || is m (block m q) 6) h

    long_prior_sets : (l q : ℕ) (m : List ℕ) (x y z w : Bool) → length m ≡ n → Before (prior_sets I D P big l q m x y z w)
    long_prior_sets l q m false y z w h = long_unasked l sets (q - 1) 4 m (is m (q - 1) 2) h
    long_prior_sets l q m true true z w h = long_join q m (ltb (4 * q) I) h
    long_prior_sets l q m true false true w h = long_grand q m h
    long_prior_sets l q m true false false true h = h
    long_prior_sets l q m true false false false h =
        long_prior_block l q m (ltb 0 (get_or m (q - 4) 0) && ltb (get_or m (q - 4) 0) 4) (leb D (q - 4) && fresh I D P big m (q - 4)) h

    long_prior : (l : ℕ) (p : Pass) (q : ℕ) (w : Bool) (m : List ℕ) → length m ≡ n → Before (prior_at I D P big l p q w m)
    long_prior l p q true m h = h
    long_prior l pixels q false m h = long_prior_pixels l (block m q) m (eqb q 0) (ltb l P) (is m (block m q) 1 || is m (block m q) 2) h
    long_prior l sets q false m h = long_prior_sets l q m (eqb (q % 4) 0) (is m q 4) (many_descs D m q) (eqb q 0) h
    long_prior l refining q false m h = long_prior_refining l (block m q) m (eqb q 0) (is m (block m q) 3) (big l (block m q)) h

    long_from : (k : ℕ) (s : State) → length s.marks ≡ n → length (back_from I D P big k s).marks ≡ n
    unfolding back_from
    long_from zero s h = h
    long_from (suc k) s h = on (prior I D P big s) (long_prior s.left s.pass s.place s.pending s.marks h) (long_from k)
      where
        on : (x : Prior) → Before x → ((t : State) → length t.marks ≡ n → length (back_from I D P big k t).marks ≡ n)
            → length (elim x as (λ _. State) [ first ↦ s | quiet t ↦ back_from I D P big k t | answered t ↦ t ]).marks ≡ n
        on first f ih = h
        on (quiet t) f ih = ih t f
        on (answered t) f ih = f

    pub back_length : (s : State) → length s.marks ≡ n → length (back I D P big s).marks ≡ n
    unfolding back
    back_length s h = long_from (suc (all_moves I D P big - moves_left I s)) s h
