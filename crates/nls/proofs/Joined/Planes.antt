-- The bits that a run takes in one plane.
use Prim.Native.Nat.{ℕ, zero, suc, ◌^◌, ◌≤◌, ◌<◌}
use mathlib.Core.Path.{◌≡◌, refl, ap, subst, ◌∙◌}
use mathlib.Core.Bool.{Bool, true, false, cond}
use mathlib.Core.List.{List, [], ◌∷◌, ◌++◌, append-nil}
use native.Mathlib.Omega.{arith}
use borrow.Author.Tests.{eq-eqb, ne_eqb, eqb-true, eqb-false}
use lib.Dec.{eqb}
use Rattle.nls.specs.Stream.{during}
use Rattle.nls.specs.Scan.{State, pixels, state_at, settle, next, reach}
use Rattle.nls.proofs.Arrays.{Arr, bits_of_arr}
use Rattle.nls.proofs.Counting.Tree.{Size, I}
use Rattle.nls.proofs.Counting.Parts.{plane, body}
use Rattle.nls.proofs.Joined.Leads.{In, Leads}
use Rattle.nls.proofs.Joined.Machine.{Held, machine_plane}

module _ (N b : ℕ) where
  pub during_append : (s : State) (u v : List Bool) → during N b s (u ++ v) ≡ during N b s u ++ during N b (reach (4 ^ N) s u) v
  unfolding during reach
  during_append s [] v = refl
  during_append s (a ∷ u) v = go (eqb s.left (suc b)) (during_append (next (4 ^ N) s a) u v)
    where
      go : (t : Bool) → during N b (next (4 ^ N) s a) (u ++ v) ≡ during N b (next (4 ^ N) s a) u ++ during N b (reach (4 ^ N) (next (4 ^ N) s a) u) v
          → cond t (a ∷ during N b (next (4 ^ N) s a) (u ++ v)) (during N b (next (4 ^ N) s a) (u ++ v))
          ≡ cond t (a ∷ during N b (next (4 ^ N) s a) u) (during N b (next (4 ^ N) s a) u) ++ during N b (reach (4 ^ N) (next (4 ^ N) s a) u) v
      go true e = ap {B = List Bool} (λ r. a ∷ r) e
      go false e = e

  during_in : (s : State) (u : List Bool) → In N (suc b) s u → during N b s u ≡ u
  unfolding during
  during_in s [] h = refl
  during_in s (a ∷ u) h = go (eqb s.left (suc b)) (eq-eqb s.left (suc b) h.0) (during_in (next (4 ^ N) s a) u h.1)
    where
      go : (t : Bool) → t ≡ true → during N b (next (4 ^ N) s a) u ≡ u
          → cond t (a ∷ during N b (next (4 ^ N) s a) u) (during N b (next (4 ^ N) s a) u) ≡ a ∷ u
      go t z e = rw z (ap {B = List Bool} (λ r. a ∷ r) e)

  during_out : (c : ℕ) (s : State) (u : List Bool) → (c ≡ b → ⊥) → In N (suc c) s u → during N b s u ≡ []
  unfolding during
  during_out c s [] n h = refl
  during_out c s (a ∷ u) n h =
      go (eqb s.left (suc b)) (ne_eqb s.left (suc b) (λ e. n (omega (arith, e, h.0)))) (during_out c (next (4 ^ N) s a) u n h.1)
    where
      go : (t : Bool) → t ≡ false → during N b (next (4 ^ N) s a) u ≡ []
          → cond t (a ∷ during N b (next (4 ^ N) s a) u) (during N b (next (4 ^ N) s a) u) ≡ []
      go t z e = rw z e

module _ (z : Size) (full : I z ≡ 4 ^ z.deep) (A : Arr) where
  abbrev N : ℕ
  N = z.deep

  abbrev from : ℕ → List ℕ → State
  from n l = settle (4 ^ z.deep) (state_at n pixels 0 l)

  -- over the first plane
  first : (b c : ℕ) (l m : List ℕ) (o u : List Bool) → Leads N (bits_of_arr A) (suc c) (state_at (suc c) pixels 0 l) o (state_at c pixels 0 m)
      → during N b (from (suc c) l) (o ++ u) ≡ during N b (from (suc c) l) o ++ during N b (from c m) u
  first b c l m o u x =
      during_append N b (from (suc c) l) o u ∙ ap (λ (r : State). during N b (from (suc c) l) o ++ during N b r u) x.runs.ends

  pub during_none : (n b : ℕ) (l : List ℕ) → n ≤ b → Held z A.mag n l → during N b (from n l) (body z A.mag A.neg n) ≡ []
  unfolding body
  during_none zero b l h w = unfold during in refl
  during_none (suc c) b l h w =
      let p = machine_plane z full A c l w in
      let one : during N b (from (suc c) l) (plane z A.mag A.neg c) ≡ [] = during_out N b c (from (suc c) l) (plane z A.mag A.neg c) (λ e. omega (arith, e, h)) p.1.stays in
      first b c l p.0 (plane z A.mag A.neg c) (body z A.mag A.neg c) p.1
      ∙ ap (λ (r : List Bool). r ++ during N b (from c p.0) (body z A.mag A.neg c)) one
      ∙ during_none c b p.0 (omega arith) p.2

  -- what the machine writes in plane b is plane b of the magnitudes
  pub during_plane : (n b : ℕ) (l : List ℕ) → b < n → Held z A.mag n l → during N b (from n l) (body z A.mag A.neg n) ≡ plane z A.mag A.neg b
  unfolding body
  during_plane zero b l h w = absurd (omega arith)
  during_plane (suc c) b l h w = go (machine_plane z full A c l w) (eqb c b) refl (λ m v u. during_plane c b m u v)
    where
      go : ((m : List ℕ) × Leads N (bits_of_arr A) (suc c) (state_at (suc c) pixels 0 l) (plane z A.mag A.neg c) (state_at c pixels 0 m) × Held z A.mag c m)
          → (t : Bool) → eqb c b ≡ t
          → ((m : List ℕ) → Held z A.mag c m → b < c → during N b (from c m) (body z A.mag A.neg c) ≡ plane z A.mag A.neg b)
          → during N b (from (suc c) l) (plane z A.mag A.neg c ++ body z A.mag A.neg c) ≡ plane z A.mag A.neg b
      go p true e ih =
          let s : c ≡ b = eqb-true c b e in
          let one : during N c (from (suc c) l) (plane z A.mag A.neg c) ≡ plane z A.mag A.neg c =
          during_in N c (from (suc c) l) (plane z A.mag A.neg c) p.1.stays in
          let two : during N c (from c p.0) (body z A.mag A.neg c) ≡ [] = during_none c c p.0 (omega arith) p.2 in
          subst (λ (k : ℕ). during N k (from (suc c) l) (plane z A.mag A.neg c ++ body z A.mag A.neg c) ≡ plane z A.mag A.neg k) s
          (first c c l p.0 (plane z A.mag A.neg c) (body z A.mag A.neg c) p.1
          ∙ ap (λ (r : List Bool). r ++ during N c (from c p.0) (body z A.mag A.neg c)) one
          ∙ ap (λ (r : List Bool). plane z A.mag A.neg c ++ r) two
          ∙ append-nil (plane z A.mag A.neg c))
      go p false e ih =
          let ne : c ≡ b → ⊥ = eqb-false c b e in
          let one : during N b (from (suc c) l) (plane z A.mag A.neg c) ≡ [] =
          during_out N b c (from (suc c) l) (plane z A.mag A.neg c) ne p.1.stays in
          first b c l p.0 (plane z A.mag A.neg c) (body z A.mag A.neg c) p.1
          ∙ ap (λ (r : List Bool). r ++ during N b (from c p.0) (body z A.mag A.neg c)) one
          ∙ ih p.0 p.2 (omega (arith, ne, h))
