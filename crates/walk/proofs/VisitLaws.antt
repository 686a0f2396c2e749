-- Each way through a visit, as an equation.
use Prim.Native.Nat.{ℕ, ◌+◌, ◌/◌, ◌≤◌, ◌<◌}
use mathlib.Core.Path.{◌≡◌}
use mathlib.Core.Bool.{Bool, true, false}
use mathlib.Core.List.{List}
use borrow.Author.Tests.{lt-ltb, le-ltb, eq-eqb, ne_eqb}
use lib.ListN.{set, get_or}
use Rattle.nls.specs.Scan.{Question, bit_of, sign_of, in_desc, in_grand, Pass, pixels, sets, refining}
use Rattle.walk.specs.Scans.{halt, refuse, move}
use Rattle.marking.specs.Marking.{skip_of, set_skip_of, desc_split_marks, grand_split_marks}
use Rattle.walk.specs.Visits.{Source, got, Sv, sv, one_seen, test_seen, pixels_seen, sets_seen, refining_seen, visit_seen}

module _ {O : Type 0} (K : Source O) (p : Pass) (b i : ℕ) (bar : Bool) (m : List ℕ) (o : O) where
  pub one_none : K.budget ≤ K.used o → one_seen K p b i bar m o ≡ halt (sv m o)
  unfolding one_seen
  one_none h = rw (le-ltb (K.used o) K.budget h)

  pub one_zero : K.used o < K.budget → K.next (bit_of i b) o ≡ false → bar ≡ false → one_seen K p b i bar m o ≡ move (i + 1) (sv (set m i 1) (got K p b (bit_of i b) o))
  unfolding one_seen
  one_zero h e z = rw (lt-ltb (K.used o) K.budget h, e, z)

  pub one_bad : K.used o < K.budget → K.next (bit_of i b) o ≡ false → bar ≡ true → one_seen K p b i bar m o ≡ refuse (sv m o)
  unfolding one_seen
  one_bad h e z = rw (lt-ltb (K.used o) K.budget h, e, z)

  pub one_cut : K.used o < K.budget → K.next (bit_of i b) o ≡ true → K.budget ≤ K.used (got K p b (bit_of i b) o) → one_seen K p b i bar m o ≡ halt (sv m (got K p b (bit_of i b) o))
  unfolding one_seen
  one_cut h e z = rw (lt-ltb (K.used o) K.budget h, le-ltb (K.used (got K p b (bit_of i b) o)) K.budget z, e)

  pub one_one : K.used o < K.budget → K.next (bit_of i b) o ≡ true → K.used (got K p b (bit_of i b) o) < K.budget
      → one_seen K p b i bar m o ≡ move (i + 1) (sv (set m i 2) (got K p b (sign_of i) (got K p b (bit_of i b) o)))
  unfolding one_seen
  one_one h e z = rw (lt-ltb (K.used o) K.budget h, lt-ltb (K.used (got K p b (bit_of i b) o)) K.budget z, e)

module _ {O : Type 0} (K : Source O) (b i : ℕ) (q : Question) (far : ℕ) (bar : Bool) (new m : List ℕ) (o : O) where
  pub test_none : K.budget ≤ K.used o → test_seen K b i q far bar new m o ≡ halt (sv m o)
  unfolding test_seen
  test_none h = rw (le-ltb (K.used o) K.budget h)

  pub test_zero : K.used o < K.budget → K.next q o ≡ false → bar ≡ false → test_seen K b i q far bar new m o ≡ move (i + far) (sv m (got K sets b q o))
  unfolding test_seen
  test_zero h e z = rw (lt-ltb (K.used o) K.budget h, e, z)

  pub test_bad : K.used o < K.budget → K.next q o ≡ false → bar ≡ true → test_seen K b i q far bar new m o ≡ refuse (sv m o)
  unfolding test_seen
  test_bad h e z = rw (lt-ltb (K.used o) K.budget h, e, z)

  pub test_one : K.used o < K.budget → K.next q o ≡ true → test_seen K b i q far bar new m o ≡ move i (sv new (got K sets b q o))
  unfolding test_seen
  test_one h e = rw (lt-ltb (K.used o) K.budget h, e)

module _ {O : Type 0} (K : Source O) (b i v : ℕ) (m : List ℕ) (o : O) where
  pub pixels_own : v ≡ 1 → pixels_seen K b i v m o ≡ one_seen K pixels b i false m o
  unfolding pixels_seen
  pixels_own h = rw (eq-eqb v 1 h)

  pub pixels_skip : (v ≡ 1 → ⊥) → pixels_seen K b i v m o ≡ move (i + skip_of v) (sv m o)
  unfolding pixels_seen
  pixels_skip h = rw (ne_eqb v 1 h)

  pub refining_none : v ≡ 3 → K.budget ≤ K.used o → refining_seen K b i v m o ≡ halt (sv m o)
  unfolding refining_seen
  refining_none e h = rw (eq-eqb v 3 e, le-ltb (K.used o) K.budget h)

  pub refining_own : v ≡ 3 → K.used o < K.budget → refining_seen K b i v m o ≡ move (i + 1) (sv m (got K refining b (bit_of i b) o))
  unfolding refining_seen
  refining_own e h = rw (eq-eqb v 3 e, lt-ltb (K.used o) K.budget h)

  pub refining_new : (v ≡ 3 → ⊥) → v ≡ 2 → refining_seen K b i v m o ≡ move (i + 1) (sv (set m i 3) o)
  unfolding refining_seen
  refining_new e h = rw (ne_eqb v 3 e, eq-eqb v 2 h)

  pub refining_skip : (v ≡ 3 → ⊥) → (v ≡ 2 → ⊥) → refining_seen K b i v m o ≡ move (i + skip_of v) (sv m o)
  unfolding refining_seen
  refining_skip e h = rw (ne_eqb v 3 e, ne_eqb v 2 h)

module _ {O : Type 0} (K : Source O) (I b i v : ℕ) (m : List ℕ) (o : O) where
  pub sets_one : v ≡ 4 → sets_seen K I b i v m o ≡ one_seen K sets b i (K.bars b (bit_of i b) i m o) m o
  unfolding sets_seen
  sets_one e = rw (eq-eqb v 4 e)

  pub sets_desc : (v ≡ 4 → ⊥) → v ≡ 5 → sets_seen K I b i v m o ≡ test_seen K b i (in_desc (i / 4) b) 4 (K.bars b (in_desc (i / 4) b) i m o) (desc_split_marks I i m) m o
  unfolding sets_seen
  sets_desc d e = rw (ne_eqb v 4 d, eq-eqb v 5 e)

  pub sets_grand : (v ≡ 4 → ⊥) → (v ≡ 5 → ⊥) → v ≡ 6
      → sets_seen K I b i v m o ≡ test_seen K b i (in_grand (i / 16) b) 16 (K.bars b (in_grand (i / 16) b) i m o) (grand_split_marks I i m) m o
  unfolding sets_seen
  sets_grand d e f = rw (ne_eqb v 4 d, ne_eqb v 5 e, eq-eqb v 6 f)

  pub sets_skip : (v ≡ 4 → ⊥) → (v ≡ 5 → ⊥) → (v ≡ 6 → ⊥) → sets_seen K I b i v m o ≡ move (i + set_skip_of v) (sv m o)
  unfolding sets_seen
  sets_skip d e f = rw (ne_eqb v 4 d, ne_eqb v 5 e, ne_eqb v 6 f)

module _ {O : Type 0} (K : Source O) (I b pass i : ℕ) (t : Sv O) where
  pub visit_pixels : pass ≡ 0 → visit_seen K I b pass i t ≡ pixels_seen K b i (get_or t.marks i 0) t.marks t.rest
  unfolding visit_seen
  visit_pixels e = rw (eq-eqb pass 0 e)

  pub visit_sets : (pass ≡ 0 → ⊥) → pass ≡ 1 → visit_seen K I b pass i t ≡ sets_seen K I b i (get_or t.marks i 0) t.marks t.rest
  unfolding visit_seen
  visit_sets d e = rw (ne_eqb pass 0 d, eq-eqb pass 1 e)

  pub visit_refining : (pass ≡ 0 → ⊥) → (pass ≡ 1 → ⊥) → visit_seen K I b pass i t ≡ refining_seen K b i (get_or t.marks i 0) t.marks t.rest
  unfolding visit_seen
  visit_refining d e = rw (ne_eqb pass 0 d, ne_eqb pass 1 e)
