-- What an answer notes: the planes of a coefficient by itself, and of a set's members.
use mathlib.Core.Path.{◌≡◌, refl, sym, ap, subst, ◌∙◌}
use mathlib.Core.Bool.{Bool, true, false, cond, ◌&&◌, ◌||◌}
use mathlib.Core.Option.{Option, none, some}
use mathlib.Core.List.{List, [], ◌∷◌}
use Prim.Native.Nat.{ℕ, ◌-◌, ◌≤◌, ◌<◌}
use native.Mathlib.Omega.{arith}
use lib.Dec.{eqb}
use lib.ListN.{length, get_or, set, length-set}
use borrow.Author.Tests.{eq-eqb, ne_eqb}
use Rattle.tree.specs.Tree.{desc, grand, any_in}
use Rattle.nls.specs.Scan.{Question, bit_of, sign_of, in_desc, in_grand, State, Pass, pixels, sets, refining}
use Rattle.nls.specs.Reading.{Known, set_each, learn, learn_at, completes}
use Rattle.nls.proofs.Known.{by_entry}

set_plane : (l : List ℕ) (j v i : ℕ) → i < length l → get_or (set l j v) i 0 ≡ cond (eqb j i) v (get_or l i 0)
set_plane l j v i h =
    by_entry l j v 0 i (λ e. omega (arith, e, h)) (λ n. n ≡ cond (eqb j i) v (get_or l i 0)) (λ e. rw (eq-eqb j i (sym e))) (λ n. rw (ne_eqb j i (λ e. n (sym e))))

-- a test bit: 0 is noted, 1 is not
test_0 : (x : Bool) (v w : ℕ) → cond x v w ≡ cond (x && true) v w
test_0 true v w = refl
test_0 false v w = refl

test_1 : (x : Bool) (v w : ℕ) → w ≡ cond (x && false) v w
test_1 true v w = refl
test_1 false v w = refl

-- entries of a table after those of a list of places were set
pub each_length : (l : List ℕ) (v : ℕ) (planes : List ℕ) → length (set_each l v planes) ≡ length planes
unfolding set_each
each_length [] v planes = refl
each_length (j ∷ l) v planes = each_length l v (set planes j v) ∙ length-set planes j v

pub each_plane : (l : List ℕ) (v : ℕ) (planes : List ℕ) (i : ℕ) → i < length planes → get_or (set_each l v planes) i 0 ≡ cond (any_in (λ j. eqb j i) l) v (get_or planes i 0)
unfolding set_each any_in
each_plane [] v planes i h = refl
each_plane (j ∷ l) v planes i h =
    each_plane l v (set planes j v) i (omega (arith, h, length-set planes j v))
    ∙ ap (λ (x : ℕ). cond (any_in (λ t. eqb t i) l) v x) (set_plane planes j v i h)
    ∙ on (eqb j i) (any_in (λ t. eqb t i) l)
  where
    on : (x y : Bool) → cond y v (cond x v (get_or planes i 0)) ≡ cond (x || y) v (get_or planes i 0)
    on true true = refl
    on true false = refl
    on false y = refl

pub each_in : (l : List ℕ) (v : ℕ) (planes : List ℕ) (i : ℕ) → i < length planes → any_in (λ j. eqb j i) l ≡ true → get_or (set_each l v planes) i 0 ≡ v
each_in l v planes i h e = each_plane l v planes i h ∙ ap (λ (x : Bool). cond x v (get_or planes i 0)) e

pub each_out : (l : List ℕ) (v : ℕ) (planes : List ℕ) (i : ℕ) → i < length planes → any_in (λ j. eqb j i) l ≡ false → get_or (set_each l v planes) i 0 ≡ get_or planes i 0
each_out l v planes i h e = each_plane l v planes i h ∙ ap (λ (x : Bool). cond x v (get_or planes i 0)) e

-- of two numbers one
pub either : (F : ℕ → Type 0) (x : Bool) (v w : ℕ) → F v → F w → F (cond x v w)
either F true v w a b = a
either F false v w a b = b

-- one answer: the plane that is noted of the coefficient at i
module _ (N L : ℕ) where
  pub learn_plane : (p : Pass) (b : ℕ) (q : Question) (a : Bool) (k : Known) (i : ℕ) → i < length k.planes
      → get_or (learn N L p b q a k).planes i 0 ≡ cond (completes N L p q a i) b (get_or k.planes i 0)
  learn_plane refining b (bit_of j c) a k i h = set_plane k.planes j b i h
  learn_plane pixels b (bit_of j c) false k i h = set_plane k.planes j b i h ∙ test_0 (eqb j i) b (get_or k.planes i 0)
  learn_plane pixels b (bit_of j c) true k i h = test_1 (eqb j i) b (get_or k.planes i 0)
  learn_plane sets b (bit_of j c) false k i h = set_plane k.planes j b i h ∙ test_0 (eqb j i) b (get_or k.planes i 0)
  learn_plane sets b (bit_of j c) true k i h = test_1 (eqb j i) b (get_or k.planes i 0)
  learn_plane refining b (sign_of j) a k i h = set_plane k.planes j b i h
  learn_plane pixels b (sign_of j) a k i h = set_plane k.planes j b i h
  learn_plane sets b (sign_of j) a k i h = set_plane k.planes j b i h
  learn_plane refining b (in_desc g c) false k i h = each_plane (desc N L g) b k.planes i h ∙ test_0 (any_in (λ j. eqb j i) (desc N L g)) b (get_or k.planes i 0)
  learn_plane refining b (in_desc g c) true k i h = test_1 (any_in (λ j. eqb j i) (desc N L g)) b (get_or k.planes i 0)
  learn_plane pixels b (in_desc g c) false k i h = each_plane (desc N L g) b k.planes i h ∙ test_0 (any_in (λ j. eqb j i) (desc N L g)) b (get_or k.planes i 0)
  learn_plane pixels b (in_desc g c) true k i h = test_1 (any_in (λ j. eqb j i) (desc N L g)) b (get_or k.planes i 0)
  learn_plane sets b (in_desc g c) false k i h = each_plane (desc N L g) b k.planes i h ∙ test_0 (any_in (λ j. eqb j i) (desc N L g)) b (get_or k.planes i 0)
  learn_plane sets b (in_desc g c) true k i h = test_1 (any_in (λ j. eqb j i) (desc N L g)) b (get_or k.planes i 0)
  learn_plane refining b (in_grand g c) false k i h = each_plane (grand N L g) b k.planes i h ∙ test_0 (any_in (λ j. eqb j i) (grand N L g)) b (get_or k.planes i 0)
  learn_plane refining b (in_grand g c) true k i h = test_1 (any_in (λ j. eqb j i) (grand N L g)) b (get_or k.planes i 0)
  learn_plane pixels b (in_grand g c) false k i h = each_plane (grand N L g) b k.planes i h ∙ test_0 (any_in (λ j. eqb j i) (grand N L g)) b (get_or k.planes i 0)
  learn_plane pixels b (in_grand g c) true k i h = test_1 (any_in (λ j. eqb j i) (grand N L g)) b (get_or k.planes i 0)
  learn_plane sets b (in_grand g c) false k i h = each_plane (grand N L g) b k.planes i h ∙ test_0 (any_in (λ j. eqb j i) (grand N L g)) b (get_or k.planes i 0)
  learn_plane sets b (in_grand g c) true k i h = test_1 (any_in (λ j. eqb j i) (grand N L g)) b (get_or k.planes i 0)

  pub learn_long : (p : Pass) (b : ℕ) (q : Question) (a : Bool) (k : Known) → length (learn N L p b q a k).planes ≡ length k.planes
  learn_long refining b (bit_of j c) a k = length-set k.planes j b
  learn_long pixels b (bit_of j c) false k = length-set k.planes j b
  learn_long pixels b (bit_of j c) true k = refl
  learn_long sets b (bit_of j c) false k = length-set k.planes j b
  learn_long sets b (bit_of j c) true k = refl
  learn_long refining b (sign_of j) a k = length-set k.planes j b
  learn_long pixels b (sign_of j) a k = length-set k.planes j b
  learn_long sets b (sign_of j) a k = length-set k.planes j b
  learn_long refining b (in_desc g c) false k = each_length (desc N L g) b k.planes
  learn_long refining b (in_desc g c) true k = refl
  learn_long pixels b (in_desc g c) false k = each_length (desc N L g) b k.planes
  learn_long pixels b (in_desc g c) true k = refl
  learn_long sets b (in_desc g c) false k = each_length (desc N L g) b k.planes
  learn_long sets b (in_desc g c) true k = refl
  learn_long refining b (in_grand g c) false k = each_length (grand N L g) b k.planes
  learn_long refining b (in_grand g c) true k = refl
  learn_long pixels b (in_grand g c) false k = each_length (grand N L g) b k.planes
  learn_long pixels b (in_grand g c) true k = refl
  learn_long sets b (in_grand g c) false k = each_length (grand N L g) b k.planes
  learn_long sets b (in_grand g c) true k = refl

  -- the same where nothing may be asked
  abbrev pub completes_at : Option Question → State → Bool → ℕ → Bool
  completes_at none s a i = false
  completes_at (some q) s a i = completes N L s.pass q a i

  pub step_plane : (o : Option Question) (s : State) (a : Bool) (k : Known) (i : ℕ) → i < length k.planes
      → get_or (learn_at N L o s a k).planes i 0 ≡ cond (completes_at o s a i) (s.left - 1) (get_or k.planes i 0)
  step_plane none s a k i h = refl
  step_plane (some q) s a k i h = learn_plane s.pass (s.left - 1) q a k i h

  pub step_long : (o : Option Question) (s : State) (a : Bool) (k : Known) → length (learn_at N L o s a k).planes ≡ length k.planes
  step_long none s a k = refl
  step_long (some q) s a k = learn_long s.pass (s.left - 1) q a k

  -- what is noted only sinks
  pub down : (p : Pass) (b : ℕ) (q : Question) (a : Bool) (k : Known) (i e : ℕ) → i < length k.planes → b ≤ get_or k.planes i 0 → get_or k.planes i 0 ≤ e
      → get_or (learn N L p b q a k).planes i 0 ≤ e
  down p b q a k i e h lo up = subst (λ (n : ℕ). n ≤ e) (sym (learn_plane p b q a k i h)) (either (λ n. n ≤ e) (completes N L p q a i) b (get_or k.planes i 0) (omega arith) up)
