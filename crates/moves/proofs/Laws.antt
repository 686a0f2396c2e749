-- What other crates cite of the moves: where an answer leads; and in states after bits the answers of code are those of the scan.
use Prim.Native.Nat.{ℕ, zero, suc, ◌≤◌, ◌<◌}
use mathlib.Core.Path.{◌≡◌, refl, ap, subst}
use mathlib.Core.Bool.{Bool, true, false, false≢true}
use mathlib.Core.Option.{Option, none, some}
use mathlib.Core.List.{List}
use native.Mathlib.Omega.{arith}
use borrow.Author.Tests.{ltb-true, lt-ltb, eqb-true}
use lib.Dec.{ltb, eqb, lit<}
use lib.ListN.{get_or}
use Rattle.sizes.specs.Sizes.{most_n, all_of, coarsest_of, Sized}
use Rattle.sizes.proofs.Laws.{all_most, coarsest_least, both}
use Rattle.nls.specs.Scan.{Question, Pass, pixels, sets, refining, State, state_at, look_at, look_pixels, look_sets, look_refining, asked, tell_at, tell_sets, tell, settle, ask, next}
use Rattle.nls.specs.Stream.{begin, after}
use Rattle.nls.proofs.Kept.{Kept, kept_reach}
use Rattle.nls.proofs.Lists.{begin_kept}
use Rattle.nls.proofs.Known.{known_sound}
use Rattle.nls.proofs.Finished.{settle_ended}
use Rattle.nls.proofs.Machine.Run.{none_left, settle_settled}
use Rattle.nls.proofs.Waiting.{settle_waits}
use Rattle.marking.proofs.Laws.{grand_is, in_true}
use Rattle.moves.specs.Stands.{pass_of, pass_number, state_of, stand_of}
use Rattle.moves.specs.Moves.{told_sets, told_at, told, onward, stand_fits}

-- ---- a state is where the scan stands, with the marks

number_back : (p : Pass) → pass_of (pass_number p) ≡ p
unfolding pass_of
number_back pixels = refl
number_back sets = refl
number_back refining = refl

pub state_stand : (s : State) → state_of (stand_of s) s.marks ≡ s
state_stand s = let e = number_back s.pass in rw e

pub pass_small : (p : Pass) → pass_number p < 3
pass_small pixels = lit< tt
pass_small sets = lit< tt
pass_small refining = lit< tt

-- ---- answers

-- a GRAND whose place is no less than 4 is split as the scan splits it
module _ (D I : ℕ) (small : I ≤ all_of most_n) (four : 4 ≤ D) where
  told_sets_lem : (l i : ℕ) (m : List ℕ) (a d g : Bool) → eqb (get_or m i 0) 6 ≡ g → Kept D I m → told_sets I l i m a d g ≡ tell_sets I l i m a d g
  told_sets_lem l i m true true g e k = refl
  told_sets_lem l i m false true g e k = refl
  told_sets_lem l i m true false true e k = ap (λ (n : List ℕ). state_at l sets i n) (grand_is I i m small (omega (arith, four, k.grands i (eqb-true (get_or m i 0) 6 e))))
  told_sets_lem l i m false false true e k = refl
  told_sets_lem l i m true false false e k = refl
  told_sets_lem l i m false false false e k = refl

  told_at_lem : (l : ℕ) (p : Pass) (i : ℕ) (w : Bool) (m : List ℕ) (a : Bool) → Kept D I m → told_at I l p i w m a ≡ tell_at I l p i w m a
  told_at_lem l p i true m a k = refl
  told_at_lem l pixels i false m a k = refl
  told_at_lem l sets i false m a k = told_sets_lem l i m a (eqb (get_or m i 0) 5) (eqb (get_or m i 0) 6) refl k
  told_at_lem l refining i false m a k = refl

module _ (I : ℕ) where
  -- where something is asked, i is a place
  abbrev At : ℕ → Option Question → Type 0
  At i none = Unit {0}
  At i (some q) = i < I

  at_pixels : (b i : ℕ) (m : List ℕ) (x y : Bool) → ltb i I ≡ x → At i (asked I (look_pixels b i m x y))
  at_pixels b i m false y e = tt
  at_pixels b i m true true e = ltb-true i I e
  at_pixels b i m true false e = tt

  at_sets : (b i : ℕ) (m : List ℕ) (x d g c : Bool) → ltb i I ≡ x → At i (asked I (look_sets b i m x d g c))
  at_sets b i m false d g c e = tt
  at_sets b i m true true g c e = ltb-true i I e
  at_sets b i m true false true c e = ltb-true i I e
  at_sets b i m true false false true e = ltb-true i I e
  at_sets b i m true false false false e = tt

  at_refining : (b i : ℕ) (m : List ℕ) (x s n : Bool) → ltb i I ≡ x → At i (asked I (look_refining b i m x s n))
  at_refining b i m false s n e = tt
  at_refining b i m true true n e = ltb-true i I e
  at_refining b i m true false true e = tt
  at_refining b i m true false false e = tt

  at_look : (l : ℕ) (p : Pass) (i : ℕ) (w : Bool) (m : List ℕ) → (w ≡ true → 1 ≤ l → i < I) → At i (asked I (look_at I l p i w m))
  at_look zero p i w m h = tt
  at_look (suc b) p i true m h = h refl (omega arith)
  at_look (suc b) pixels i false m h = at_pixels b i m (ltb i I) (eqb (get_or m i 0) 1) refl
  at_look (suc b) sets i false m h = at_sets b i m (ltb i I) (eqb (get_or m i 0) 5) (eqb (get_or m i 0) 6) (eqb (get_or m i 0) 4) refl
  at_look (suc b) refining i false m h = at_refining b i m (ltb i I) (eqb (get_or m i 0) 3) (eqb (get_or m i 0) 2) refl

  asked_at : (s : State) (q : Question) → (s.pending ≡ true → 1 ≤ s.left → s.place < I) → ask I s ≡ some q → s.place < I
  unfolding ask
  asked_at s q h e = subst (λ (o : Option Question). At s.place o) e (at_look s.left s.pass s.place s.pending s.marks h)

-- ---- where an answer leads

module _ (I : ℕ) where
  -- an answer keeps the planes left, and a sign is pending only where its bit was read
  told_stays_sets : (l i : ℕ) (m : List ℕ) (a d g : Bool)
      → ((told_sets I l i m a d g).left ≡ l) × ((told_sets I l i m a d g).pending ≡ true → (told_sets I l i m a d g).place ≡ i)
  told_stays_sets l i m true true g = (refl, λ e. refl)
  told_stays_sets l i m false true g = (refl, λ e. absurd (false≢true e))
  told_stays_sets l i m true false true = (refl, λ e. refl)
  told_stays_sets l i m false false true = (refl, λ e. absurd (false≢true e))
  told_stays_sets l i m true false false = (refl, λ e. refl)
  told_stays_sets l i m false false false = (refl, λ e. absurd (false≢true e))

  pub told_stays : (l : ℕ) (p : Pass) (i : ℕ) (w : Bool) (m : List ℕ) (a : Bool)
      → ((told_at I l p i w m a).left ≡ l) × ((told_at I l p i w m a).pending ≡ true → (told_at I l p i w m a).place ≡ i)
  told_stays l p i true m a = (refl, λ e. absurd (false≢true e))
  told_stays l pixels i false m true = (refl, λ e. refl)
  told_stays l pixels i false m false = (refl, λ e. absurd (false≢true e))
  told_stays l sets i false m a = told_stays_sets l i m a (eqb (get_or m i 0) 5) (eqb (get_or m i 0) 6)
  told_stays l refining i false m a = (refl, λ e. absurd (false≢true e))

  pub onward_left : (s : State) (a : Bool) → (onward I s a).left ≤ s.left
  onward_left s a = settle_ended s.left I (told I s a) (omega (arith, (told_stays s.left s.pass s.place s.pending s.marks a).0))

  -- it leads to a place, or to where no plane is left
  pub onward_place : (s : State) (a : Bool) → s.place < I → 1 ≤ (onward I s a).left → (onward I s a).place < I
  onward_place s a h k = on (ask I (onward I s a)) refl
    where
      waits : (onward I s a).pending ≡ true → (onward I s a).place < I
      waits = settle_waits I (λ t. t.place < I) (told I s a) (λ e. omega (arith, h, (told_stays s.left s.pass s.place s.pending s.marks a).1 e))

      on : (o : Option Question) → ask I (onward I s a) ≡ o → (onward I s a).place < I
      on none e = absurd (omega (arith, k, none_left I (onward I s a) (settle_settled I (told I s a)) e))
      on (some q) e = asked_at I (onward I s a) q (λ w z. waits w) e

-- ---- after any bits

-- where something is asked, the scan stands at a place
pub asked_inside : (N L P : ℕ) (u : List Bool) (q : Question) → ask (all_of N) (after N L P u) ≡ some q → (after N L P u).place < all_of N
asked_inside N L P u q e = asked_at (all_of N) (after N L P u) q (known_sound N L P u).inside e

module _ (N L P : ℕ) (sized : Sized N L) (most : N ≤ most_n) (u : List Bool) where
  -- an answer in code is the scan's, also with the silent moves after it
  pub told_tell : (a : Bool) → told (all_of N) (after N L P u) a ≡ tell (all_of N) (after N L P u) a
  told_tell a =
      let s : State = after N L P u in
      told_at_lem (coarsest_of N L) (all_of N) (all_most N most) (coarsest_least N L sized) s.left s.pass s.place s.pending s.marks a
      (kept_reach (coarsest_of N L) (all_of N) u (begin N L P) (begin_kept N L sized P))

  pub told_next : (a : Bool) → onward (all_of N) (after N L P u) a ≡ next (all_of N) (after N L P u) a
  unfolding next
  told_next a = ap (λ (s : State). settle (all_of N) s) (told_tell a)

  -- and code does not turn it down
  pub fits_after : (q : Question) → ask (all_of N) (after N L P u) ≡ some q → stand_fits (all_of N) (stand_of (after N L P u)) ≡ true
  unfolding stand_fits
  fits_after q e =
      both (in_true (all_of N) (after N L P u).place (all_most N most) (asked_inside N L P u q e))
      (lt-ltb (pass_number (after N L P u).pass) 3 (pass_small (after N L P u).pass))
